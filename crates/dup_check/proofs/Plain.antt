-- A text without tracked changes and comments.
use Rattle.std.proofs.Common.{◌≡◌, List, [], sym, subst}
use Rattle.ranges_tracker.specs.declared.change.Change.{Change}
use Rattle.ranges_tracker.specs.declared.comment.Comment.{Comment}
use Rattle.ranges_tracker.specs.Trackable.{AreRangesAt}
use Rattle.ranges_tracker.proofs.Versions.{plain_at}
use Rattle.dup_check.specs.declared.snapshot.Snapshot.{Snapshot}
use Rattle.dup_check.specs.Snapshot.{Agrees}

-- no ranges agree with any text
pub plain_agrees : (look : Snapshot) → look.ranges ≡ ([], []) → Agrees look
plain_agrees look none = subst (λ (r : List Change × List Comment). AreRangesAt r look.text look.version) (sym none) (plain_at look.text look.version)
