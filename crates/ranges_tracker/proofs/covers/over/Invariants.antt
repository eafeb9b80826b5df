use Rattle.std.proofs.Common.{◌≡◌, drop}
use Rattle.ranges_tracker.specs.Tracked.{mark_over}
use Rattle.ranges_tracker.proofs.covers.over.Given as goal

abbrev pub invariant-loop-c : goal.invariant-loop-c
invariant-loop-c l = mark_over l.i l.inserts ≡ mark_over l.i (drop l.c-index l.inserts)
