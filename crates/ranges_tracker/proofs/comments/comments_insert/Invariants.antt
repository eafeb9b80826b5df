use Rattle.std.proofs.Common.{◌≡◌, ◌++◌, drop, map}
use Rattle.ranges_tracker.specs.Commented.{comment_past}
use Rattle.ot_op.specs.declared.comp.Comp.TheVariants.{Ins}
use Rattle.ranges_tracker.proofs.comments.comments_insert.Given as goal

abbrev pub invariant-loop-c : goal.invariant-loop-c
invariant-loop-c l = l.made.items ++ map (comment_past (Ins l.at l.part)) (drop l.c-index l.comments) ≡ map (comment_past (Ins l.at l.part)) l.comments
