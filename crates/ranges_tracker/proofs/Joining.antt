-- The lines of a text, made and joined.
use Rattle.std.proofs.Common.{◌≡◌, ℕ, ◌<◌, Bool, true, false, List, [], ◌∷◌, ◌++◌, ap, sym, ◌∙◌, length, arith, append-nil, drop, get_or}
use Rattle.std.specs.Prelude.{◌==◌, cond}
use Rattle.std.specs.List.{All, onto_first, flat_map}
use Rattle.std.proofs.lemmas.List.Elements.{All-nil, All-cons, All-head, All-tail}
use Rattle.ot_parts.specs.Lines.{lines_of, joined_lines}

-- what holds of a text's units holds of its lines'
onto_first_keeps : (P : ℕ → Type 0) (x : ℕ) (parts : List (List ℕ)) → P x → All (All P) parts → All (All P) (onto_first x parts)
onto_first_keeps P x [] here rest = All-cons (All P) (x ∷ []) [] (All-cons P x [] here (All-nil P)) (All-nil (All P))
onto_first_keeps P x (part ∷ parts) here rest = All-cons (All P) (x ∷ part) parts (All-cons P x part here (All-head (All P) part parts rest)) (All-tail (All P) part parts rest)

split_keeps : (P : ℕ → Type 0) (b : Bool) (x : ℕ) (parts : List (List ℕ)) → P x → All (All P) parts → All (All P) (cond b ([] ∷ parts) (onto_first x parts))
split_keeps P true x parts here rest = All-cons (All P) [] parts (All-nil P) rest
split_keeps P false x parts here rest = onto_first_keeps P x parts here rest

pub lines_keep : (P : ℕ → Type 0) (text : List ℕ) → All P text → All (All P) (lines_of text)
lines_keep P [] h = All-cons (All P) [] [] (All-nil P) (All-nil (All P))
lines_keep P (x ∷ xs) h = split_keeps P (x == 10) x (lines_of xs) (All-head P x xs h) (lines_keep P xs (All-tail P x xs h))

-- lines behind a first one
abbrev pub fed : List (List ℕ) → List ℕ
fed lines = flat_map (λ line. 10 ∷ line) lines

pub joined_fed : (line : List ℕ) (lines : List (List ℕ)) → joined_lines (line ∷ lines) ≡ line ++ fed lines
joined_fed line [] = sym (append-nil line)
joined_fed line (next ∷ lines) = ap (λ (x : List ℕ). line ++ (10 ∷ x)) (joined_fed next lines)

pub first_joined : (lines : List (List ℕ)) (line : List ℕ) → 0 < length lines → line ≡ get_or lines 0 line → line ++ fed (drop 1 lines) ≡ joined_lines lines
first_joined [] line some is = absurd (omega arith)
first_joined (x ∷ xs) line some is = ap (λ (y : List ℕ). y ++ fed xs) is ∙ sym (joined_fed x xs)
