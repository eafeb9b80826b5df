-- Ranges agree with a text by flat rows where they do by rows in coordinates.
use Rattle.std.proofs.Common.{◌≡◌, ◌↔◌, ℕ, List, ap, sym, ◌∙◌}
use Rattle.ranges_tracker.specs.declared.stamp.Stamp.{Stamp}
use Rattle.ranges_tracker.specs.Cells.{Row, text_of}
use Rattle.ranges_tracker.specs.declared.change.Change.{Change}
use Rattle.ranges_tracker.specs.declared.comment.Comment.{Comment}
use Rattle.ranges_tracker.specs.Shown.{shown}
use Rattle.ranges_tracker.specs.WellFormed.{IsWellFormed, IsBefore}
use Rattle.ranges_tracker.specs.Agree.{Agree}
use Rattle.flat_cells.specs.Row.{FlatRow, row_of}
use Rattle.flat_cells.specs.Form.{AreOlder, IsWellFormedFlat}
use Rattle.flat_cells.specs.Laws.{AgreeFlat}
use Rattle.flat_cells.proofs.Showing.{shown_agree}
use Rattle.flat_cells.proofs.Forms.{form_agrees, older_agrees, older_counts}
use Rattle.flat_cells.proofs.LaidForm.{laid_row, laid_counts, laid_form}

to_coordinates : (ranges : List Change × List Comment) (text : List ℕ) → AgreeFlat ranges text → Agree ranges text
to_coordinates ranges text h = record { row = row_of h.row; well_formed = form_agrees h.row h.well_formed; text_is = h.text_is; is = sym (shown_agree h.row h.well_formed) ∙ h.is }

to_flat : (ranges : List Change × List Comment) (text : List ℕ) → Agree ranges text → AgreeFlat ranges text
to_flat ranges text h =
    let flat = laid_row h.row in
    let form : IsWellFormedFlat flat = laid_form h.row h.well_formed in
    let counts : row_of flat ≡ h.row = laid_counts h.row h.well_formed in
    record { row = flat; well_formed = form; text_is = ap (λ (r : Row). text_of r.lives) counts ∙ h.text_is; is = shown_agree flat form ∙ ap shown counts ∙ h.is }

pub agreement : (ranges : List Change × List Comment) (text : List ℕ) → AgreeFlat ranges text ↔ Agree ranges text
agreement ranges text = (to_coordinates ranges text, to_flat ranges text)

pub each_laid : (row : Row) → IsWellFormed row → (flat : FlatRow) × IsWellFormedFlat flat × (row_of flat ≡ row)
each_laid row h = (laid_row row, laid_form row h, laid_counts row h)

pub older_both : (row : FlatRow) (stamp : Stamp) (k : ℕ) → AreOlder row.cells stamp k ↔ IsBefore (row_of row) stamp k
older_both row stamp k = (older_agrees row stamp k, λ b. older_counts 0 row.cells stamp k b.0 b.1)
