use Rattle.std.proofs.Common.{◌≡◌}
use Rattle.ranges_tracker.specs.Trackable.{AreRangesAt}
use Rattle.ranges_tracker_tests.proofs.tests.track_all.Given as goal

abbrev pub invariant-loop-row : goal.invariant-loop-row
invariant-loop-row l = record { counted : l.version ≡ l.row-index; of : AreRangesAt l.ranges l.text l.version }
