-- A text that is read as a report is what is written of it.
use Rattle.std.proofs.Common.{◌≡◌, ℕ, suc, ◌+◌, ◌-◌, ◌==◌, List, [], ◌∷◌, ◌++◌, Bool, true, false, Option, Some, None, Result, Ok, Err, length, map, refl, sym, ap, ap₂, ◌∙◌, arith}
use Rattle.std.specs.List.{flat_map, slice_get}
use Rattle.std.specs.Prelude.{if◌then◌else◌}
use Rattle.std.specs.Str.{bytes_eq}
use Rattle.std.proofs.lemmas.Bool.{eqb-true}
use Rattle.std.proofs.lemmas.Slice.Eq.{bytes_eq-Decides}
use Rattle.json_lines.specs.Lines.{lines_of, onto_first, value_of}
use Rattle.report_reader.specs.declared.fault.ReportFault.{ReportFault}
use Rattle.report_reader.specs.declared.fault.ReportFault.TheVariants.{Line}
use Rattle.report_reader.specs.declared.piece.Piece.{Piece}
use Rattle.report_reader.specs.Fields.{and_then}
use Rattle.report_reader.specs.Laws.{piece_line, with_pieces}
use Rattle.report_reader.specs.Pieces.{if_written, piece_of, shown_by}
use Rattle.report_reader.specs.Reports.{Told, if_whole, is_feed_or_none, is_whole, nothing, or_line, report_of, then_lines, with_lines, with_piece}
use Rattle.report_reader.proofs.Whole.{piece_text}

-- ---- lines and their feeds

abbrev fed : List ℕ → List ℕ
fed line = line ++ 10 ∷ []

whole_one : (x : ℕ) → is_whole (x ∷ []) ≡ (x == 10)
whole_one x =
    let at : length (x ∷ []) - 1 ≡ 0 = omega arith in
    ap (λ i. is_feed_or_none (slice_get (x ∷ []) i)) at

whole_next : (x y : ℕ) (ys : List ℕ) → is_whole (x ∷ y ∷ ys) ≡ is_whole (y ∷ ys)
whole_next x y ys =
    let at : length (x ∷ y ∷ ys) - 1 ≡ suc (length ys) = omega arith in
    let there : length (y ∷ ys) - 1 ≡ length ys = omega arith in
    ap (λ i. is_feed_or_none (slice_get (x ∷ y ∷ ys) i)) at ∙ sym (ap (λ i. is_feed_or_none (slice_get (y ∷ ys) i)) there)

last_line : (x : ℕ) (b : Bool) → (x == 10) ≡ b → b ≡ true → flat_map fed (if b then [] ∷ [] else onto_first x []) ≡ x ∷ []
last_line x true is h = ap (λ y. y ∷ []) (sym (eqb-true x 10 is))
last_line x false is h = absurd cc

onto_more : (x y : ℕ) (ys : List ℕ) (lines : List (List ℕ)) → flat_map fed lines ≡ y ∷ ys → flat_map fed (onto_first x lines) ≡ x ∷ y ∷ ys
onto_more x y ys [] e = absurd cc
onto_more x y ys (l ∷ ls) e = ap (λ zs. x ∷ zs) e

one_more : (x y : ℕ) (ys : List ℕ) (lines : List (List ℕ)) (b : Bool) → (x == 10) ≡ b → flat_map fed lines ≡ y ∷ ys → flat_map fed (if b then [] ∷ lines else onto_first x lines) ≡ x ∷ y ∷ ys
one_more x y ys lines true is e = ap₂ (λ z zs. z ∷ zs) (sym (eqb-true x 10 is)) e
one_more x y ys lines false is e = onto_more x y ys lines e

rejoined : (bytes : List ℕ) → is_whole bytes ≡ true → flat_map fed (lines_of bytes) ≡ bytes
rejoined [] h = refl
rejoined (x ∷ []) h = last_line x (x == 10) refl (sym (whole_one x) ∙ h)
rejoined (x ∷ y ∷ ys) h = one_more x y ys (lines_of (y ∷ ys)) (x == 10) refl (rejoined (y ∷ ys) (sym (whole_next x y ys) ∙ h))

-- ---- a line

tested : (line text : List ℕ) (p q : Piece) (b : Bool) → bytes_eq line text ≡ b → (if b then Some q else None) ≡ Some p → (line ≡ text) × (q ≡ p)
tested line text p q true is e = ((bytes_eq-Decides line text).0 is, cc)
tested line text p q false is e = absurd cc

line_written : (line : List ℕ) (p : Piece) (o : Option Piece) → and_then o (if_written line) ≡ Some p → line ≡ piece_text p
line_written line p None e = absurd cc
line_written line p (Some q) e = let t = tested line (piece_text q) p q (bytes_eq line (piece_text q)) refl e in t.0 ∙ ap piece_text t.1

-- ---- all lines

abbrev AreWritten : List (List ℕ) → Told → Told → Type 0
AreWritten lines s t = (ps : List Piece) × (lines ≡ map piece_text ps) × (with_pieces ps s ≡ Some t)

module _ (line : List ℕ) (lines : List (List ℕ)) (n : ℕ) (s t : Told) (rest : (more : Told) → with_lines (n + 1) lines more ≡ Ok t → AreWritten lines more t) where
  by_told : (p : Piece) → line ≡ piece_text p → (o : Option Told) → with_piece s p ≡ o → then_lines (with_lines (n + 1) lines) (or_line n o) ≡ Ok t → AreWritten (line ∷ lines) s t
  by_told p text None is e = absurd cc
  by_told p text (Some more) is e =
      let after = rest more e in
      (p ∷ after.0, ap₂ (λ l ls. l ∷ ls) text after.1, ap (λ o. and_then o (with_pieces after.0)) is ∙ after.2)

  by_piece : (o : Option Piece) → piece_of line ≡ o → then_lines (with_lines (n + 1) lines) (or_line n (and_then o (with_piece s))) ≡ Ok t → AreWritten (line ∷ lines) s t
  by_piece None is e = absurd cc
  by_piece (Some p) is e = by_told p (line_written line p (and_then (value_of line) shown_by) is) (with_piece s p) refl e

lines_written : (lines : List (List ℕ)) (n : ℕ) (s t : Told) → with_lines n lines s ≡ Ok t → AreWritten lines s t
lines_written [] n s t e = ([], refl, ap Some same)
  where
    same : s ≡ t
    same = cc
lines_written (line ∷ lines) n s t e = by_piece line lines n s t (λ more h. lines_written lines (n + 1) more t h) (piece_of line) refl e

all_fed : (ps : List Piece) → flat_map fed (map piece_text ps) ≡ flat_map piece_line ps
all_fed [] = refl
all_fed (p ∷ ps) = ap (λ rest. piece_line p ++ rest) (all_fed ps)

-- ---- the report

whole_case : (b : Bool) (s t : Told) (fault : ReportFault) → (if b then Ok s else Err fault) ≡ Ok t → (b ≡ true) × (s ≡ t)
whole_case true s t fault e = (refl, cc)
whole_case false s t fault e = absurd cc

read_whole : (bytes : List ℕ) (t : Told) (r : Result Told ReportFault) → then_lines (if_whole bytes) r ≡ Ok t → (is_whole bytes ≡ true) × (r ≡ Ok t)
read_whole bytes t (Err fault) e = absurd cc
read_whole bytes t (Ok s) e = let w = whole_case (is_whole bytes) s t (Line (length (lines_of bytes))) e in (w.0, ap (λ u. Ok u) w.1)

pub reports_written : (bytes : List ℕ) (t : Told) → report_of bytes ≡ Ok t → (ps : List Piece) × (bytes ≡ flat_map piece_line ps) × (with_pieces ps nothing ≡ Some t)
reports_written bytes t e =
    let w = read_whole bytes t (with_lines 1 (lines_of bytes) nothing) e in
    let r = lines_written (lines_of bytes) 1 nothing t w.1 in
    (r.0, sym (rejoined bytes w.0) ∙ ap (flat_map fed) r.1 ∙ all_fed r.0, r.2)
