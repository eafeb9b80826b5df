use Rattle.std.proofs.Common.{◌≡◌, take}
use Rattle.ranges_tracker.proofs.comment.copy_comments.Given as goal

abbrev pub invariant-loop-c : goal.invariant-loop-c
invariant-loop-c l = l.made.items ≡ take l.c-index l.comments
