use Rattle.std.proofs.Common.{◌≡◌}
use Rattle.ot_op.specs.Compose.{composed}
use Rattle.ot_transform.proofs.moved.append_all.Given as goal

-- what is left, appended to what is made, makes the whole
abbrev pub invariant-loop-comp : goal.invariant-loop-comp
invariant-loop-comp l = composed l.op l.comp-iterator ≡ composed l.initial.op l.fn.comps.items
