use Rattle.std.proofs.Common.{◌≡◌, ◌++◌, drop, map}
use Rattle.ranges_tracker.specs.Commented.{comment_without}
use Rattle.ranges_tracker.proofs.comments.comments_delete.Given as goal

abbrev pub invariant-loop-c : goal.invariant-loop-c
invariant-loop-c l = l.made.items ++ map (comment_without l.at l.len) (drop l.c-index l.comments) ≡ map (comment_without l.at l.len) l.comments
