-- A step of a flat row is the step of its coordinates, and both show the same.
use Rattle.std.proofs.Common.{◌≡◌, ℕ, ◌+◌, ◌≤◌, Bool, true, List, refl, ap, length, arith, Some}
use Rattle.std.specs.Prelude.{nat_le, if◌then◌else◌}
use Rattle.std.proofs.lemmas.Bool.{leb-true}
use Rattle.std.proofs.lemmas.List.{length-map}
use Rattle.ot_units.specs.Text.{put_at, cut_at}
use Rattle.ot_op.specs.Apply.{applied, stands}
use Rattle.ot_op.specs.declared.comp.Comp.{Comp}
use Rattle.ot_op.specs.declared.comp.Comp.TheVariants.{Ins, Del, Com}
use Rattle.ranges_tracker.specs.declared.stamp.Stamp.{Stamp}
use Rattle.ranges_tracker.specs.Cells.{Live as LiveUnit, text_of, step}
use Rattle.flat_cells.specs.Row.{FlatRow, lives_of, row_of}
use Rattle.flat_cells.specs.Step.{flat_step}
use Rattle.flat_cells.specs.Form.{IsWellFormedFlat}
use Rattle.ranges_tracker.proofs.Stepping.{if_some, Stands, stands_of}
use Rattle.flat_cells.proofs.Inserting.{insert_agrees}
use Rattle.flat_cells.proofs.Deleting.{delete_fresh, delete_agrees}
use Rattle.flat_cells.proofs.Commenting.{comment_agrees}

pub stands_within : (row : FlatRow) (at : ℕ) (part : List ℕ) → stands (text_of (lives_of row.cells)) at part ≡ true → at + length part ≤ length (lives_of row.cells)
stands_within row at part e =
    let s : Stands (text_of (lives_of row.cells)) at part = stands_of (text_of (lives_of row.cells)) at part e in
    omega (arith, s.room, length-map (lives_of row.cells) (λ (l : LiveUnit). l.unit))

pub step_agrees : (row : FlatRow) (comp : Comp) (stamp : Stamp) (k : ℕ) (next : List ℕ) → IsWellFormedFlat row → applied (text_of (lives_of row.cells)) comp ≡ Some next →
    (row_of (flat_step row comp stamp k).row ≡ (step (row_of row) comp stamp k).row) × ((flat_step row comp stamp k).marks ≡ (step (row_of row) comp stamp k).marks)
step_agrees row (Ins at part) stamp k next h e =
    let a = if_some (nat_le at (length (text_of (lives_of row.cells)))) (put_at (text_of (lives_of row.cells)) at part) next e in
    (insert_agrees row at part stamp k h (omega (arith, leb-true at (length (text_of (lives_of row.cells))) a.0, length-map (lives_of row.cells) (λ (l : LiveUnit). l.unit))), refl)
step_agrees row (Del at part) stamp k next h e =
    let a = if_some (stands (text_of (lives_of row.cells)) at part) (cut_at (text_of (lives_of row.cells)) at (length part)) next e in
    (delete_agrees row at (length part) stamp k h (stands_within row at part a.0), ap (λ (b : Bool). if b then k + 1 else k) (delete_fresh row at (length part) stamp))
step_agrees row (Com at part t) stamp k next h e =
    let a = if_some (stands (text_of (lives_of row.cells)) at part) (text_of (lives_of row.cells)) next e in
    (comment_agrees row at (length part) t h (stands_within row at part a.0), refl)
