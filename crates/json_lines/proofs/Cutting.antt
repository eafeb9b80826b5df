-- The first line of a text, and the rest.
use Rattle.std.proofs.Common.{◌≡◌, ◌++◌, ℕ, suc, ◌+◌, ◌-◌, ◌<◌, ◌≤◌, ◌==◌, nat_lt, List, [], ◌∷◌, length, take, drop, Bool, true, false, cond, not, Some, None, position, refl, ap, arith, add-one}
use Rattle.std.specs.List.{position_or_len}
use Rattle.std.proofs.lemmas.List.{take_rest}
use Rattle.std.proofs.lemmas.Bool.{and_parts, ltb-false}
use Rattle.std.proofs.lemmas.Bool.Decides.{nat_tests}
use Rattle.json_lines.specs.Clean.{is_clean}
use Rattle.json_lines.specs.Lines.{lines_of, onto_first}

abbrev pub is_feed : ℕ → Bool
is_feed x = x == 10

first_step : (b : Bool) (x n m : ℕ) (xs : List ℕ) → m ≡ suc n → cond (not b) m 0 < length (x ∷ xs)
    → (n < length xs → lines_of xs ≡ take n xs ∷ lines_of (drop (suc n) xs))
    → cond b ([] ∷ lines_of xs) (onto_first x (lines_of xs)) ≡ take (cond (not b) m 0) (x ∷ xs) ∷ lines_of (drop (cond (not b) m 0) xs)
first_step true x n m xs e h later = refl
first_step false x n m xs e h later = rw e (ap (onto_first x) (later (omega (arith, e))))

lines_first : (xs : List ℕ) → position_or_len is_feed xs < length xs → lines_of xs ≡ take (position_or_len is_feed xs) xs ∷ lines_of (drop (suc (position_or_len is_feed xs)) xs)
lines_first [] h = absurd (omega arith)
lines_first (x ∷ xs) h = first_step (x == 10) x (position_or_len is_feed xs) _ xs (omega arith) h (lines_first xs)

last_step : (b : Bool) (x y n m : ℕ) (xs : List ℕ) → m ≡ suc n → length (y ∷ xs) ≤ cond (not b) m 0
    → (length xs ≤ n → onto_first y (lines_of xs) ≡ (y ∷ xs) ∷ [])
    → onto_first x (cond b ([] ∷ lines_of xs) (onto_first y (lines_of xs))) ≡ (x ∷ y ∷ xs) ∷ []
last_step true x y n m xs e h later = absurd (omega arith)
last_step false x y n m xs e h later = ap (onto_first x) (later (omega (arith, e)))

onto_rest : (xs : List ℕ) → length xs ≤ position_or_len is_feed xs → (x : ℕ) → onto_first x (lines_of xs) ≡ (x ∷ xs) ∷ []
onto_rest [] h x = refl
onto_rest (y ∷ ys) h x = last_step (y == 10) x y (position_or_len is_feed ys) _ ys (omega arith) h (λ short. onto_rest ys short y)

only_step : (b : Bool) (y n m : ℕ) (xs : List ℕ) → m ≡ suc n → length (y ∷ xs) ≤ cond (not b) m 0
    → (length xs ≤ n → onto_first y (lines_of xs) ≡ (y ∷ xs) ∷ [])
    → cond b ([] ∷ lines_of xs) (onto_first y (lines_of xs)) ≡ (y ∷ xs) ∷ []
only_step true y n m xs e h later = absurd (omega arith)
only_step false y n m xs e h later = later (omega (arith, e))

lines_only : (xs : List ℕ) → 0 < length xs → length xs ≤ position_or_len is_feed xs → lines_of xs ≡ xs ∷ []
lines_only [] some h = absurd (omega arith)
lines_only (y ∷ ys) some h = only_step (y == 10) y (position_or_len is_feed ys) _ ys (omega arith) h (λ short. onto_rest ys short y)

picked : (b : Bool) (p i : ℕ) → Some i ≡ cond b (Some p) None → (b ≡ true) × (i ≡ p)
picked true p i e = (refl, cc)
picked false p i e = absurd cc

none_picked : (b : Bool) (p : ℕ) → None ≡ cond b (Some p) None → b ≡ false
none_picked true p e = absurd cc
none_picked false p e = refl

is_below : (p n : ℕ) → nat_lt p n ≡ true → p < n
is_below p n h = grind (arith, nat_tests)

pub line_at : (xs : List ℕ) (i : ℕ) → Some i ≡ position is_feed xs → lines_of xs ≡ take i xs ∷ lines_of (take (length xs - (i + 1)) (drop (i + 1) xs))
line_at xs i e =
    let p = picked (nat_lt (position_or_len is_feed xs) (length xs)) _ i e in
    rw (take_rest, add-one, p.1) (lines_first xs (is_below _ _ p.0))

pub line_alone : (xs : List ℕ) → 0 < length xs → None ≡ position is_feed xs → lines_of xs ≡ xs ∷ lines_of (take (length xs - length xs) (drop (length xs) xs))
line_alone xs some e =
    let p = none_picked (nat_lt (position_or_len is_feed xs) (length xs)) _ e in
    let none : take (length xs - length xs) (drop (length xs) xs) ≡ [] = grind arith in
    rw none (lines_only xs some (ltb-false _ _ p))

cut_step : (b : Bool) (x : ℕ) (line : List ℕ) (rest cut : List (List ℕ)) → not b ≡ true → cut ≡ line ∷ rest → cond b ([] ∷ cut) (onto_first x cut) ≡ (x ∷ line) ∷ rest
cut_step true x line rest cut h e = absurd cc
cut_step false x line rest cut h e = ap (onto_first x) e

-- a text with no line feed is the first line before one
pub cut_back : (line rest : List ℕ) → is_clean line ≡ true → lines_of (line ++ 10 ∷ rest) ≡ line ∷ lines_of rest
cut_back [] rest h = refl
cut_back (x ∷ line) rest h =
    let parts = and_parts (not (x == 10)) _ h in
    cut_step (x == 10) x line (lines_of rest) _ parts.0 (cut_back line rest parts.1)
