use Rattle.std.proofs.Common.{arith, ◌≡◌}
use Rattle.std.proofs.lemmas.Grind.{common_steps}
use Rattle.ot_op.specs.Compose.{composed}
use Rattle.ot_op.proofs.Merging.{does_in_turn}
use Rattle.ot_op.proofs.compose_ops.compose.Goals as goal

pub returns-clause-value : goal.returns-clause-value
returns-clause-value c = grind (arith, common_steps)

pub returns-clause-does : goal.returns-clause-does
returns-clause-does c =
    let value : c.loop-comp.made ≡ composed c.args.first.now c.args.second.now = returns-clause-value c in
    let solid = rw c.comps-comp-items.ensures.value at c.comps-comp-items.ensures.solid in
    λ text. rw value (does_in_turn c.args.first.now c.args.second.now solid text)
