use Rattle.std.proofs.Common.{◌≡◌, ◌∙◌, ◌++◌, ◌∷◌, [], List, ℕ, ap₂}
use Rattle.ranges_tracker.specs.declared.change.Change.{Change}
use Rattle.ranges_tracker.specs.declared.change.ChangeKind.TheVariants.{Inserted}
use Rattle.ranges_tracker.specs.declared.comment.Comment.{Comment}
use Rattle.ranges_tracker_tests.proofs.Small.{marked_kept, marked_changes, marked_comments}
use Rattle.ranges_tracker_tests.proofs.tests.keep_marked.Goals as goal

pub make-requires-clause-kept : goal.make-requires-clause-kept
make-requires-clause-kept c =
    let changes : c.push.new.self.items ≡ marked_changes c.args.user =
    c.in_ok-push.ensures.items ∙ ap₂ (λ (xs : List Change) (t : List ℕ). xs ++ record { version = 2; k = 0; at = 2; kind = Inserted; text = t; user = c.args.user; ms = 5 } ∷ []) c.new-changes.ensures.items c.in_ok-from_slice.ensures in
    let comments : c.push-2.new.self.items ≡ marked_comments =
    c.in_ok-push-2.ensures.items ∙ ap₂ (λ (xs : List Comment) (t : List ℕ). xs ++ record { thread = 7; at = 0; text = t } ∷ []) c.new-comments.ensures.items c.in_ok-from_slice-2.ensures in
    marked_kept _ _ c.args.user (c.of-ranges.ensures ∙ ap₂ (λ (x : List Change) (y : List Comment). (x, y)) changes comments) (c.as_slice.ensures.value ∙ c.in_ok-text.ensures)
