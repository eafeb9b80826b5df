use Rattle.std.proofs.Common.{sym, ap, ◌∙◌}
use Rattle.rooms.proofs.Members.{key_at, found, none_found, no_member, put_keyed, put_moves, was_there, renewed_on}
use Rattle.rooms.proofs.rooms.Rooms.renew.Goals as goal
use Rattle.rooms.proofs.rooms.Rooms.renew.Goals.{in-Some-get_mut, in_default-get_mut}

pub invariant_of-self : goal.invariant_of-self
invariant_of-self c =
    elim c.match-get_mut.branch [
      | in-Some-get_mut w ↦ rw w.self-inside-is (put_keyed c.self.inside.keys.items c.self.inside.members c.args.client c.in-Some.key _ _ c.self.invariant (ap (λ l. key_at l c.args.client) (sym c.deref.ensures.value) ∙ sym c.in-Some.ensures) (found _ _ _ c.get_mut.ensures.value w.in-Some-get_mut.is) w.renew.ensures.client)
      | in_default-get_mut w ↦ rw w.self-inside-is c.self.invariant
    ]

pub returns : goal.returns
returns c =
    elim c.match-get_mut.branch [
      | in-Some-get_mut w ↦ rw (w.self-inside-is, ← c.self.view_is) (renewed_on c.args.client c.args.source w.in-Some-get_mut.member.now w.renew.new.self _ _ (was_there c.self.inside.keys.items c.self.inside.members c.args.client c.in-Some.key w.in-Some-get_mut.member.now w.renew.new.self c.self.invariant (ap (λ l. key_at l c.args.client) (sym c.deref.ensures.value) ∙ sym c.in-Some.ensures) (found _ _ _ c.get_mut.ensures.value w.in-Some-get_mut.is) w.renew.ensures.client) w.renew.ensures.renewed (put_moves c.self.inside.keys.items c.self.inside.members c.args.client c.in-Some.key _ _ c.self.invariant (ap (λ l. key_at l c.args.client) (sym c.deref.ensures.value) ∙ sym c.in-Some.ensures) (found _ _ _ c.get_mut.ensures.value w.in-Some-get_mut.is) w.renew.ensures.client))
      | in_default-get_mut w ↦ no_member c.self.inside.keys.items c.self.inside.members c.args.client c.in-Some.key c.self.invariant (ap (λ l. key_at l c.args.client) (sym c.deref.ensures.value) ∙ sym c.in-Some.ensures) (none_found _ _ c.get_mut.ensures.value w.in_default-get_mut.not-Some)
    ]
