-- The cells of a document, operation by operation.
use Rattle.std.proofs.Common.{◌≡◌, ℕ, ◌+◌, ◌-◌, ◌≤◌, List, [], ◌∷◌, ◌++◌, length, refl, sym, ap, ◌∙◌, subst, arith, append-nil, append_assoc, length-append, take, drop}
use Rattle.std.specs.Prelude.{Some, None}
use Rattle.ot_op.specs.Apply.{applied_all}
use Rattle.ranges_tracker.specs.declared.stamp.Stamp.{Stamp}
use Rattle.ranges_tracker.specs.Cells.{Row, text_of, plain_row, steps}
use Rattle.ranges_tracker.specs.WellFormed.{IsWellFormed, IsBefore}
use Rattle.ranges_tracker.proofs.WellKept.{well_steady}
use Rattle.ranges_tracker.proofs.Versions.{Stepped, keep_steps, before_next, plain_lives, plain_text, plain_well}
use Rattle.journal_entries.specs.declared.act.Entry.{Entry}
use Rattle.journal_rules.specs.Documents.{IsMade, Item, applied_list, base, first, version, replayed}
use Rattle.journal_rules.specs.Tracking.{stamp_of, tracked, cells_at}
use Rattle.journal_rules.specs.Legal.{IsLegal}
use Rattle.journal_laws.specs.CellsLaw.{AreCellsOfText}
use Rattle.journal_rules.proofs.Lists.{Each, each_left, cut_at_length, some_same}
use Rattle.journal_rules.proofs.Replaying.{ops, replays_on}
use Rattle.journal_laws.proofs.Alive.{IsItem}
use Rattle.journal_laws.proofs.Everything.{world}
use Rattle.journal_laws.proofs.Laws.{text_there}

-- the cells behind some items
record Tracked (d : ℕ) (j : List Entry) (seen : List Item) (row : Row) : Type 0 where
  here_is : replayed (first d j) (ops seen) ≡ Some (text_of row.lives)
  well : IsWellFormed row
  before : (stamp : Stamp) → stamp.version ≡ base d j + length seen → IsBefore row stamp 0

module _ (d : ℕ) (j : List Entry) where
  one_on : (before : List Item) (x : Item) (row : Row) → Tracked d j before row → IsItem d j before x → Tracked d j (before ++ x ∷ []) (steps row x.op (stamp_of x) 0).row
  one_on before x row t it =
      let same : it.here ≡ text_of row.lives = some_same it.here (text_of row.lives) (sym it.here_is ∙ t.here_is) in
      let applies : applied_all (text_of row.lives) x.op ≡ Some it.to = ap (λ (h : List ℕ). applied_all h x.op) (sym same) ∙ it.to_is in
      let s : Stepped row x.op (stamp_of x) 0 it.to = keep_steps x.op row (stamp_of x) 0 it.to t.well (t.before (stamp_of x) it.v_is) applies in
      let longer = length-append before (x ∷ []) in
      let v = it.v_is in
      record {
        here_is = replays_on (first d j) it.here it.to before x it.here_is it.to_is ∙ ap (λ (l : List ℕ). Some l) (sym s.text_is);
        well = s.well;
        before = λ stamp is. before_next (steps row x.op (stamp_of x) 0).row (stamp_of x) stamp (steps row x.op (stamp_of x) 0).marks (omega (arith, v, is, longer)) s.before;
      }

  all_on : (before xs : List Item) (row : Row) → Tracked d j before row → Each (IsItem d j) before xs → Tracked d j (before ++ xs) (tracked row xs)
  all_on before [] row t e = subst (λ (l : List Item). Tracked d j l row) (sym (append-nil before)) t
  all_on before (x ∷ xs) row t e =
      let next : Row = (steps row x.op (stamp_of x) 0).row in
      subst (λ (l : List Item). Tracked d j l (tracked next xs)) (append_assoc before (x ∷ []) xs) (all_on (before ++ x ∷ []) xs next (one_on before x row t e.0) e.1)

  plain_tracked : Tracked d j [] (plain_row (first d j))
  plain_tracked = record { here_is = ap (λ (t : List ℕ). Some t) (sym (plain_text (first d j))); well = plain_well (first d j); before = λ stamp is. (plain_lives stamp.version 0 (first d j), tt) }

pub cells_of_text : (j : List Entry) → IsLegal j → (d n : ℕ) → IsMade d j → base d j ≤ n → n ≤ version d j → AreCellsOfText d n j
cells_of_text j legal d n made low high =
    let cut = cut_at_length (n - base d j) (applied_list d j) (omega (arith, low, high)) in
    let seen : List Item = take (n - base d j) (applied_list d j) in
    let ahead : List Item = drop (n - base d j) (applied_list d j) in
    let long = cut.1 in
    let at : n ≡ base d j + length seen = omega (arith, long, low) in
    let each : Each (IsItem d j) [] seen = each_left (IsItem d j) [] seen ahead (subst (λ (l : List Item). Each (IsItem d j) [] l) cut.0 ((world j legal).items d made)) in
    let t : Tracked d j seen (cells_at d n j) = all_on d j [] seen (plain_row (first d j)) (plain_tracked d j) each in
    record { text_is = text_there d n j seen ahead cut.0 at ∙ t.here_is; well_formed = t.well; steady = λ stamp is. well_steady (cells_at d n j) stamp 0 t.well (t.before stamp (is ∙ at)) }
