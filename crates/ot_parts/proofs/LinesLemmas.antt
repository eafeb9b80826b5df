-- The parts of a list between the elements that pass a test.
use Rattle.std.proofs.Common.{◌≡◌, ℕ, ◌+◌, ◌<◌, ◌≤◌, Bool, true, false, not, slice_index_or, cond, Some, None, List, [], ◌∷◌, length, take, drop, refl, arith}
use Rattle.std.proofs.lemmas.List.Elements.{All-nil, All-cons, All-head, All-tail}
use Rattle.std.proofs.lemmas.List.Splits.{slice_split_first, slice_split_none}
use Rattle.std.proofs.lemmas.List.Sums.{prefix_len_passes}
use Rattle.std.specs.List.{All, slice_split, onto_first, position, position_or_len}
use Rattle.std.proofs.lemmas.Bool.{not-true}

-- a part that an element goes in front of
All-onto_first : {X : Type 0} (P : X → Type 0) (x : X) (parts : List (List X)) → P x → All (All P) parts → All (All P) (onto_first x parts)
All-onto_first P x [] here rest = All-cons (All P) (x ∷ []) [] (All-cons P x [] here (All-nil P)) (All-nil (All P))
All-onto_first P x (part ∷ parts) here rest =
    All-cons (All P) (x ∷ part) parts (All-cons P x part here (All-head (All P) part parts rest)) (All-tail (All P) part parts rest)

All-split_at : {X : Type 0} (p : X → Bool) (x : X) (parts : List (List X)) (b : Bool) → p x ≡ b → All (All (λ y. p y ≡ false)) parts → All (All (λ y. p y ≡ false)) (cond b ([] ∷ parts) (onto_first x parts))
All-split_at p x parts true here rest = All-cons (All (λ y. p y ≡ false)) [] parts (All-nil (λ y. p y ≡ false)) rest
All-split_at p x parts false here rest = All-onto_first (λ y. p y ≡ false) x parts here rest

-- no element that passes stands in a part
pub All-slice_split : {X : Type 0} (p : X → Bool) (xs : List X) → All (All (λ x. p x ≡ false)) (slice_split p xs)
All-slice_split p [] = All-cons (All (λ x. p x ≡ false)) [] [] (All-nil (λ x. p x ≡ false)) (All-nil (All (λ x. p x ≡ false)))
All-slice_split p (x ∷ xs) = All-split_at p x (slice_split p xs) (p x) refl (All-slice_split p xs)

-- where no element passes, the list is its only part
pub slice_split-position_none : (p : ℕ → Bool) (xs : List ℕ) → position p xs ≡ None → slice_split p xs ≡ xs ∷ []
slice_split-position_none p xs none =
    let reached : length xs ≤ position_or_len p xs = grind arith in
    slice_split_none p xs (λ k d within. let passed : not (p (slice_index_or xs k d)) ≡ true = prefix_len_passes (λ x. not (p x)) xs k d (omega (arith, within, reached)) in not-true _ passed)

-- the first part ends where the first element passes
pub slice_split-position_some : (p : ℕ → Bool) (xs : List ℕ) (at : ℕ) → position p xs ≡ Some at → slice_split p xs ≡ take at xs ∷ slice_split p (drop (at + 1) xs)
slice_split-position_some p xs at some =
    let inside : position_or_len p xs < length xs = grind arith in
    let place : position_or_len p xs ≡ at = grind arith in
    let first : slice_split p xs ≡ take (position_or_len p xs) xs ∷ slice_split p (drop (position_or_len p xs + 1) xs) = slice_split_first {X = ℕ} p xs 0 inside in
    rw place at first
