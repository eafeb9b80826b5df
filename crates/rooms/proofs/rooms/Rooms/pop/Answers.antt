use Rattle.std.proofs.Common.{Some, sym, ap, ◌∙◌, refl}
use Rattle.rooms.specs.Rooms.{seen}
use Rattle.rooms.proofs.Members.{key_at, put_keyed, put_moves, was_there, told_on}
use Rattle.rooms.proofs.rooms.Rooms.pop.Goals as goal

pub invariant_of-self-2 : goal.invariant_of-self-2
invariant_of-self-2 c = put_keyed c.self.inside.keys.items c.self.inside.members c.args.client c.in_ok-key.key c.in_ok-get_mut.field-0.now _ c.self.invariant (ap (λ l. key_at l c.args.client) (sym c.deref.ensures.value) ∙ sym c.in_ok-key.ensures) (sym c.in_ok-get_mut.ensures.value) refl

pub returns-clause-rest : goal.returns-clause-rest
returns-clause-rest c =
    let here = ap (λ l. key_at l c.args.client) (sym c.deref.ensures.value) ∙ sym c.in_ok-key.ensures in
    rw (← c.self.view_is) (
      Some (seen (record c.in_ok-get_mut.field-0.now { outbox = c.pop.new.self })),
      told_on c.args.client _ c.in_ok-get_mut.field-0.now (record c.in_ok-get_mut.field-0.now { outbox = c.pop.new.self }) c.pop.result (was_there c.self.inside.keys.items c.self.inside.members c.args.client c.in_ok-key.key c.in_ok-get_mut.field-0.now (record c.in_ok-get_mut.field-0.now { outbox = c.pop.new.self }) c.self.invariant here (sym c.in_ok-get_mut.ensures.value) refl) refl refl c.pop.ensures.items c.pop.ensures.empty.0 c.pop.ensures.spare,
      put_moves c.self.inside.keys.items c.self.inside.members c.args.client c.in_ok-key.key c.in_ok-get_mut.field-0.now (record c.in_ok-get_mut.field-0.now { outbox = c.pop.new.self }) c.self.invariant here (sym c.in_ok-get_mut.ensures.value) refl,
    )
