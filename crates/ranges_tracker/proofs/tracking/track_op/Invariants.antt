use Rattle.std.proofs.Common.{◌≡◌, drop}
use Rattle.ranges_tracker.specs.Ranged.{ranges_all, RoomyAll}
use Rattle.ranges_tracker.proofs.tracking.track_op.Given as goal

abbrev pub invariant-loop-comp : goal.invariant-loop-comp
invariant-loop-comp l = record { rest : ranges_all l.made (drop l.comp-index l.op) l.stamp l.marks ≡ ranges_all l.ranges l.op l.stamp 0; room : RoomyAll l.made (drop l.comp-index l.op) l.stamp l.marks }
