use Rattle.std.proofs.Common.{List, sym, subst, refl}
use Rattle.ranges_tracker.specs.declared.change.Change.{Change}
use Rattle.ranges_tracker.specs.declared.comment.Comment.{Comment}
use Rattle.ranges_tracker.specs.Trackable.{AreRangesAt}
use Rattle.ranges_tracker.proofs.Versions.{plain_at}
use Rattle.ranges_tracker_tests.proofs.tests.track_all.Goals as goal

pub loop-row-init : goal.loop-row-init
loop-row-init c = record { counted = refl; of = subst (λ (r : List Change × List Comment). AreRangesAt r c.args.text.now 0) (sym c.none-ranges.ensures) (plain_at c.args.text.now 0) }
