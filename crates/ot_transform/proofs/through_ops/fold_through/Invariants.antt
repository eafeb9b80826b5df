use Rattle.std.proofs.Common.{◌≡◌, drop}
use Rattle.ot_transform.specs.Crossing.{through}
use Rattle.ot_transform.specs.Room.{FitsAll}
use Rattle.ot_transform.proofs.through_ops.fold_through.Given as goal

-- what is left of the way is left of the whole
abbrev pub invariant-loop-other : goal.invariant-loop-other
invariant-loop-other l = record {
  fits : FitsAll l.current (drop l.other-index l.past);
  same : through l.current (drop l.other-index l.past) ≡ through l.fn.op l.past;
}
