use Rattle.std.proofs.Common.{◌≡◌, drop}
use Rattle.ot_op.specs.Compose.{composed}
use Rattle.ot_op.proofs.compose_ops.compose.Given as goal

-- what is left, appended to what is made, makes the whole
abbrev pub invariant-loop-comp : goal.invariant-loop-comp
invariant-loop-comp l = composed l.made (drop l.comp-index l.comp-items) ≡ composed l.initial.made l.comp-items
