use Rattle.std.proofs.Common.{sym, ap, ◌∙◌}
use Rattle.rooms.proofs.Members.{key_at, vacated_keyed, vacated_moves}
use Rattle.rooms.proofs.rooms.vacate.Goals as goal

pub returns-in-Some-clause-keyed : goal.returns-in-Some-clause-keyed
returns-in-Some-clause-keyed c = vacated_keyed c.args.keys.now.items c.args.members.now c.args.client c.in-Some.key c.try_remove.new.self c.requires (ap (λ l. key_at l c.args.client) (sym c.deref.ensures.value) ∙ sym c.in-Some.ensures) c.try_remove.ensures.updates

pub returns-in-Some-clause-moves : goal.returns-in-Some-clause-moves
returns-in-Some-clause-moves c = vacated_moves c.args.keys.now.items c.args.members.now c.args.client c.in-Some.key c.try_remove.new.self c.requires (ap (λ l. key_at l c.args.client) (sym c.deref.ensures.value) ∙ sym c.in-Some.ensures) c.try_remove.ensures.updates
