use Rattle.std.proofs.Common.{sym, ap, ◌∙◌, refl}
use Rattle.std.specs.Option.{option_copied_mut}
use Rattle.rooms.specs.Rooms.{seen}
use Rattle.rooms.proofs.Members.{key_at, found, no_member, put_keyed, put_moves, was_there, roomier_on}
use Rattle.rooms.proofs.rooms.Rooms.reserve_one.Goals as goal
use Rattle.rooms.proofs.rooms.Rooms.reserve_one.Goals.{in-Some-get_mut, in-None}

pub invariant_of-self : goal.invariant_of-self
invariant_of-self c =
    elim c.match-get_mut.branch [
      | in-Some-get_mut w ↦ rw w.self-inside-is (put_keyed c.self.inside.keys.items c.self.inside.members c.args.client c.in-Some.key _ _ c.self.invariant (ap (λ l. key_at l c.args.client) (sym c.deref.ensures.value) ∙ sym c.in-Some.ensures) (found _ _ _ c.get_mut.ensures.value w.in-Some-get_mut.is) refl)
      | in-None w ↦ rw w.self-inside-is c.self.invariant
    ]

pub returns-clause-same : goal.returns-clause-same
returns-clause-same c =
    elim c.match-get_mut.branch [
      | in-Some-get_mut w ↦ rw (w.self-inside-is, ← c.self.view_is) (roomier_on c.args.client _ _ (seen w.in-Some-get_mut.member.now) (seen (record w.in-Some-get_mut.member.now { outbox = w.reserve_many.new.self })) (was_there c.self.inside.keys.items c.self.inside.members c.args.client c.in-Some.key w.in-Some-get_mut.member.now (record w.in-Some-get_mut.member.now { outbox = w.reserve_many.new.self }) c.self.invariant (ap (λ l. key_at l c.args.client) (sym c.deref.ensures.value) ∙ sym c.in-Some.ensures) (found _ _ _ c.get_mut.ensures.value w.in-Some-get_mut.is) refl) (put_moves c.self.inside.keys.items c.self.inside.members c.args.client c.in-Some.key w.in-Some-get_mut.member.now (record w.in-Some-get_mut.member.now { outbox = w.reserve_many.new.self }) c.self.invariant (ap (λ l. key_at l c.args.client) (sym c.deref.ensures.value) ∙ sym c.in-Some.ensures) (found _ _ _ c.get_mut.ensures.value w.in-Some-get_mut.is) refl) (record { doc_is = refl; source_is = refl; outbox_is = w.reserve_many.ensures.items; spare_is = w.reserve_many.ensures.kept }))
      | in-None w ↦ no_member c.self.inside.keys.items c.self.inside.members c.args.client c.in-Some.key c.self.invariant (ap (λ l. key_at l c.args.client) (sym c.deref.ensures.value) ∙ sym c.in-Some.ensures) (sym c.get_mut.ensures.value ∙ ap option_copied_mut w.in-None.is)
    ]
