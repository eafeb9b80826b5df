use Rattle.std.proofs.Common.{◌≡◌, drop}
use Rattle.ranges_tracker.specs.Tracked.{pushed_all, heads}
use Rattle.ranges_tracker.proofs.runs.push_heads.Given as goal

abbrev pub invariant-loop-c : goal.invariant-loop-c
invariant-loop-c l = pushed_all l.made.items (heads l.at (drop l.c-index l.inserts)) ≡ pushed_all l.initial.made.items (heads l.at l.inserts)
