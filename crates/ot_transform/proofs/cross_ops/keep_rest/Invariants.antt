use Rattle.std.proofs.Common.{◌≡◌, drop}
use Rattle.ot_op.specs.Compose.{composed}
use Rattle.ot_transform.proofs.cross_ops.keep_rest.Given as goal

-- what is left, appended to what is made, makes the whole
abbrev pub invariant-loop-comp : goal.invariant-loop-comp
invariant-loop-comp l = composed l.next (drop l.comp-index l.rest) ≡ composed l.initial.next l.rest
