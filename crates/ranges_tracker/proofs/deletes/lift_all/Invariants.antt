use Rattle.std.proofs.Common.{◌≡◌, ◌++◌, take, drop, map}
use Rattle.ranges_tracker.specs.Cells.{raised}
use Rattle.ranges_tracker.specs.Tracked.{placed}
use Rattle.ranges_tracker.proofs.deletes.lift_all.Given as goal

abbrev pub invariant-loop-d : goal.invariant-loop-d
invariant-loop-d l = l.deletes ≡ map (placed (raised l.at l.len)) (take l.d-index l.initial.deletes) ++ drop l.d-index l.initial.deletes
