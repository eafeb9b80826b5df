-- The flat row of a plain text.
use Rattle.std.proofs.Common.{◌≡◌, ℕ, zero, suc, ◌+◌, Bool, true, false, List, [], ◌∷◌, refl, ap, ap₂, sym, ◌∙◌, Some, None}
use Rattle.std.specs.Prelude.{◌||◌}
use Rattle.std.specs.List.{list_any}
use Rattle.std.proofs.lemmas.List.Elements.{All-nil}
use Rattle.ranges_tracker.specs.declared.mark.Mark.{Mark}
use Rattle.ranges_tracker.specs.declared.stamp.Stamp.{Stamp}
use Rattle.ranges_tracker.specs.Cells.{Live as LiveUnit, plain_row, mark_at}
use Rattle.flat_cells.specs.Row.{Cell, Live, lives_of, gone_from, before, from_gap, gaps, grouped, plain_flat, row_of}
use Rattle.flat_cells.specs.Form.{IsThread, IsWellFormedFlat, is_edge, is_of, is_gone_of, AreNeighbours, AreOlder}
use Rattle.flat_cells.proofs.Inserting.{same_rows}

abbrev plain_cells : List ℕ → List Cell
plain_cells text = (plain_flat text).cells

no_cell : (test : Cell → Bool) → ((u : ℕ) → test (Live u None) ≡ false) → (text : List ℕ) → list_any test (plain_cells text) ≡ false
no_cell test h [] = refl
no_cell test h (u ∷ us) = ap₂ (λ (x y : Bool). x || y) (h u) (no_cell test h us)

no_gap : (p : ℕ) (text : List ℕ) → gaps 0 (from_gap p (plain_cells text)) ≡ []
no_gap zero [] = refl
no_gap (suc p) [] = refl
no_gap zero (u ∷ us) = refl
no_gap (suc p) (u ∷ us) = no_gap p us

no_mark : (i : ℕ) (text : List ℕ) → mark_at (lives_of (plain_cells text)) i ≡ None
no_mark zero [] = refl
no_mark (suc i) [] = refl
no_mark zero (u ∷ us) = refl
no_mark (suc i) (u ∷ us) = no_mark i us

no_neighbours : (text : List ℕ) → AreNeighbours (plain_cells text)
no_neighbours [] = tt
no_neighbours (u ∷ us) = no_neighbours us

clash : {P : Type 0} (b : Bool) → b ≡ false → b ≡ true → P
clash true e f = cc
clash false e f = cc

pub plain_form : (text : List ℕ) → IsWellFormedFlat (plain_flat text)
plain_form text = record {
  threads = All-nil (IsThread (plain_cells text));
  once = tt;
  no_other = λ t e. clash (list_any (is_edge t) (plain_cells text)) (no_cell (is_edge t) (λ u. refl) text) e;
  groups = λ p. ap (grouped (before p (plain_cells text))) (no_gap p text) ∙ sym (no_gap p text);
  ids = λ m n e f v k. clash (list_any (is_of m) (plain_cells text)) (no_cell (is_of m) (λ u. refl) text) e;
  runs = λ m i j k a b e f. clash_mark m i text e;
  apart = λ m e. clash (list_any (is_gone_of m) (plain_cells text)) (no_cell (is_gone_of m) (λ u. refl) text) e;
  neighbours = no_neighbours text;
}
  where
    clash_mark : {P : Type 0} (m : Mark) (i : ℕ) (text : List ℕ) → mark_at (lives_of (plain_cells text)) i ≡ Some m → P
    clash_mark m i text e = absurd (none_some m (sym (no_mark i text) ∙ e))
      where
        none_some : (m : Mark) → None ≡ Some m → ⊥
        none_some m e = cc

plain_lives : (text : List ℕ) → lives_of (plain_cells text) ≡ (plain_row text).lives
plain_lives [] = refl
plain_lives (u ∷ us) = ap (λ (x : List LiveUnit). record { unit = u; mark = None } ∷ x) (plain_lives us)

plain_gone : (at : ℕ) (text : List ℕ) → gone_from at (plain_cells text) ≡ []
plain_gone at [] = refl
plain_gone at (u ∷ us) = plain_gone (at + 1) us

pub plain_agrees : (text : List ℕ) → row_of (plain_flat text) ≡ plain_row text
plain_agrees text = same_rows (lives_of (plain_cells text)) (plain_row text).lives (gone_from 0 (plain_cells text)) [] [] [] (plain_lives text) (plain_gone 0 text) refl

pub plain_older : (text : List ℕ) (stamp : Stamp) → AreOlder (plain_cells text) stamp 0
plain_older text stamp m e = clash (list_any (is_of m) (plain_cells text)) (no_cell (is_of m) (λ u. refl) text) e
