use Rattle.std.proofs.Common.{◌≡◌, ◌++◌, drop}
use Rattle.ranges_tracker.specs.Commented.{comment_set}
use Rattle.std.specs.Prelude.{if◌then◌else◌}
use Rattle.ranges_tracker.proofs.comments.comments_set.Given as goal

abbrev pub invariant-loop-c : goal.invariant-loop-c
invariant-loop-c l = l.made.items ++ (if l.set then drop l.c-index l.comments else comment_set l.thread l.at l.part (drop l.c-index l.comments)) ≡ comment_set l.thread l.at l.part l.comments
