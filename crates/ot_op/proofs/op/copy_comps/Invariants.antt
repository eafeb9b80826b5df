use Rattle.std.proofs.Common.{◌≡◌, take}
use Rattle.ot_op.proofs.op.copy_comps.Given as goal

abbrev pub invariant-loop-comp : goal.invariant-loop-comp
invariant-loop-comp l = l.made.items ≡ take l.comp-index l.comps
