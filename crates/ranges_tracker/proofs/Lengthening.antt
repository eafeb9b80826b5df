-- The last line grows.
use Rattle.std.proofs.Common.{◌≡◌, ℕ, zero, suc, ◌+◌, ◌-◌, ◌<◌, List, [], ◌∷◌, ◌++◌, refl, ap, ap₂, sym, ◌∙◌, length, get_or, arith, length-append}
use Rattle.std.specs.Prelude.{slice_set, ◌≢◌}
use Rattle.std.specs.List.{All}
use Rattle.std.proofs.lemmas.List.Elements.{All-nil, All-cons, All-head, All-tail, All-append}
use Rattle.ot_parts.specs.Lines.{IsLine}
use Rattle.ranges_tracker.specs.Kept.{AreLines, lengthened}

pub last_lengthened : (lines : List (List ℕ)) (part : List ℕ) (n : ℕ) (line longer : List ℕ) → length lines ≡ n + 1 → line ≡ get_or lines n line → longer ≡ line ++ part → slice_set lines n longer ≡ lengthened lines part
last_lengthened [] part n line longer e is l = absurd (omega arith)
last_lengthened (x ∷ []) part zero line longer e is l = ap (λ (y : List ℕ). y ∷ []) (l ∙ ap (λ (y : List ℕ). y ++ part) is)
last_lengthened (x ∷ []) part (suc n) line longer e is l = absurd (omega arith)
last_lengthened (x ∷ y ∷ ys) part zero line longer e is l = absurd (omega arith)
last_lengthened (x ∷ y ∷ ys) part (suc n) line longer e is l = ap (λ (rest : List (List ℕ)). x ∷ rest) (last_lengthened (y ∷ ys) part n line longer (omega arith) is l)

lengthened_each : (lines : List (List ℕ)) (part : List ℕ) → All IsLine lines → IsLine part → All IsLine (lengthened lines part)
lengthened_each [] part h p = All-nil IsLine
lengthened_each (x ∷ []) part h p = All-cons IsLine (x ++ part) [] (All-append (λ unit. unit ≢ 10) x part (All-head IsLine x [] h) p) (All-nil IsLine)
lengthened_each (x ∷ y ∷ ys) part h p = All-cons IsLine x (lengthened (y ∷ ys) part) (All-head IsLine x (y ∷ ys) h) (lengthened_each (y ∷ ys) part (All-tail IsLine x (y ∷ ys) h) p)

lengthened_length : (lines : List (List ℕ)) (part : List ℕ) → length (lengthened lines part) ≡ length lines
lengthened_length [] part = refl
lengthened_length (x ∷ []) part = refl
lengthened_length (x ∷ y ∷ ys) part = let h = lengthened_length (y ∷ ys) part in omega arith

pub lengthened_lines : (lines : List (List ℕ)) (part : List ℕ) → AreLines lines → IsLine part → AreLines (lengthened lines part)
lengthened_lines lines part h p = record { each = lengthened_each lines part h.each p; some = let l = lengthened_length lines part in let s = h.some in omega (arith, l, s) }

pub more_lines : (lines : List (List ℕ)) → AreLines lines → AreLines (lines ++ [] ∷ [])
more_lines lines h = record { each = All-append IsLine lines ([] ∷ []) h.each (All-cons IsLine [] [] (All-nil (λ unit. unit ≢ 10)) (All-nil IsLine)); some = let l = length-append lines ([] ∷ []) in omega (arith, l) }
