use Rattle.std.proofs.Common.{◌≡◌, ◌∙◌, List, ℕ, ap, sym, subst}
use Rattle.std.proofs.lemmas.List.Splits.{join_with_byte-slice_split}
use Rattle.ot_parts.specs.Lines.{joined_lines}
use Rattle.ranges_tracker.specs.declared.change.Change.{Change}
use Rattle.ranges_tracker.specs.declared.comment.Comment.{Comment}
use Rattle.ranges_tracker.specs.Kept.{IsKept}
use Rattle.ranges_tracker.proofs.kept.KeptDoc.make.Goals as goal

pub invariant_of-result : goal.invariant_of-result
invariant_of-result c =
    let text : joined_lines c.in_ok-lines.lines ≡ c.args.text.now = ap joined_lines c.in_ok-lines.ensures ∙ join_with_byte-slice_split 10 c.args.text.now in
    subst (λ (t : List ℕ). IsKept t c.args.version c.in_ok-ranges.ranges) (sym text) (subst (λ (r : List Change × List Comment). IsKept c.args.text.now c.args.version r) (sym c.in_ok-ranges.ensures) c.requires.kept)
