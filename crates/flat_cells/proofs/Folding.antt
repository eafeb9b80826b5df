-- The steps of an operation on a flat row.
use Rattle.std.proofs.Common.{◌≡◌, ℕ, ◌<◌, List, [], ◌∷◌, refl, ap, ap₂, ◌∙◌, arith, Some, ⊎_elim, inl}
use Rattle.ot_op.specs.Apply.{applied, applied_all}
use Rattle.ot_op.specs.declared.comp.Comp.{Comp}
use Rattle.ranges_tracker.specs.declared.stamp.Stamp.{Stamp}
use Rattle.ranges_tracker.specs.Cells.{Row, text_of, steps}
use Rattle.flat_cells.specs.Row.{Cell, FlatRow, lives_of, row_of}
use Rattle.flat_cells.specs.Step.{flat_step}
use Rattle.flat_cells.specs.Form.{IsWellFormedFlat, AreOlder}
use Rattle.flat_cells.specs.Laws.{OpAgrees}
use Rattle.ranges_tracker.proofs.Folding.{text_step}
use Rattle.flat_cells.proofs.Stepping.{step_agrees}
use Rattle.flat_cells.proofs.Keeping.{Kept, keep_step}
use Rattle.std.proofs.lemmas.Option.{same_Some}
use Rattle.ot_op.proofs.Applying.{First, first_of_all}

-- the live cells after a step are the text after the component
pub flat_text : (row : FlatRow) (comp : Comp) (stamp : Stamp) (k : ℕ) (next : List ℕ) → IsWellFormedFlat row → applied (text_of (lives_of row.cells)) comp ≡ Some next → text_of (lives_of (flat_step row comp stamp k).row.cells) ≡ next
flat_text row comp stamp k next h e = ap (λ (r : Row). text_of r.lives) (step_agrees row comp stamp k next h e).0 ∙ text_step (row_of row) comp stamp k next e

pub flat_keeps : (row : FlatRow) (comp : Comp) (stamp : Stamp) (k : ℕ) (next : List ℕ) → IsWellFormedFlat row → AreOlder row.cells stamp k → applied (text_of (lives_of row.cells)) comp ≡ Some next →
    IsWellFormedFlat (flat_step row comp stamp k).row × AreOlder (flat_step row comp stamp k).row.cells stamp (flat_step row comp stamp k).marks × (text_of (lives_of (flat_step row comp stamp k).row.cells) ≡ next)
flat_keeps row comp stamp k next h older e =
    let kept : Kept (flat_step row comp stamp k).row stamp (flat_step row comp stamp k).marks = keep_step row comp stamp k next h older e in
    (kept.form, kept.older, flat_text row comp stamp k next h e)

pub later_new : (cells : List Cell) (stamp later : Stamp) (k : ℕ) → stamp.version < later.version → AreOlder cells stamp k → AreOlder cells later 0
later_new cells stamp later k lt older m e = inl (⊎_elim {C = m.version < later.version} (λ a. omega (arith, a, lt)) (λ a. omega (arith, a.0, lt)) (older m e))

pub flat_op : (op : List Comp) (row : FlatRow) (stamp : Stamp) (k : ℕ) (next : List ℕ) → IsWellFormedFlat row → AreOlder row.cells stamp k → applied_all (text_of (lives_of row.cells)) op ≡ Some next → OpAgrees row op stamp k next
flat_op [] row stamp k next h older e = record { form = h; older = older; text = same_Some (text_of (lives_of row.cells)) next e; coordinates = refl; marks = refl }
flat_op (c ∷ cs) row stamp k next h older e =
    let f : First (text_of (lives_of row.cells)) c cs next = first_of_all (text_of (lives_of row.cells)) c cs next e in
    let after = flat_step row c stamp k in
    let kept : Kept after.row stamp after.marks = keep_step row c stamp k f.mid h older f.here in
    let same = step_agrees row c stamp k f.mid h f.here in
    let rest : OpAgrees after.row cs stamp after.marks next = flat_op cs after.row stamp after.marks next kept.form kept.older (ap (λ (t : List ℕ). applied_all t cs) (flat_text row c stamp k f.mid h f.here) ∙ f.rest) in
    record {
      form = rest.form;
      older = rest.older;
      text = rest.text;
      coordinates = rest.coordinates ∙ ap₂ (λ (r : Row) (n : ℕ). (steps r cs stamp n).row) same.0 same.1;
      marks = rest.marks ∙ ap₂ (λ (r : Row) (n : ℕ). (steps r cs stamp n).marks) same.0 same.1;
    }
