-- Lists: what stands where, and the first place that passes.
use Rattle.std.proofs.Common.{◌≡◌, ◌≢◌, ◌⊎◌, inl, inr, ℕ, zero, suc, ◌+◌, ◌≤◌, ◌<◌, List, [], ◌∷◌, length, Bool, true, false, not, cond, ◌||◌, get_or, refl, sym, ap, ◌∙◌, subst, arith, slice_set}
use Rattle.std.specs.Prelude.{slice_get, position, nat_lt, None, Some, unwrap_or, if◌then◌else◌}
use Rattle.std.specs.List.{list_any, position_or_len}
use Rattle.std.proofs.lemmas.Bool.{cases_lt, lt-ltb, ltb-true}
use Rattle.std.proofs.lemmas.List.Sums.{passes_at_first}
use Rattle.std.proofs.lemmas.Option.{slice_get-get_or}

-- a place that is told where it is within
found_if : (b : Bool) (n i : ℕ) → (if b then Some n else None) ≡ Some i → (b ≡ true) × (n ≡ i)
found_if true n i is = (refl, ap (λ o. unwrap_or o n) is)
found_if false n i is = absurd (cc)

high : (n k : ℕ) → (if nat_lt n k then Some n else None) ≡ None → k ≤ n
high n k none = go (cases_lt n k)
  where
    go : (n < k) ⊎ (k ≤ n) → k ≤ n
    go (inl lt) = let found : Some n ≡ None = ap (λ b. if b then Some n else None) (sym (lt-ltb n k lt)) ∙ none in absurd (cc)
    go (inr le) = le

module _ {A : Type 0} where
  -- a write leaves the other places
  pub set_elsewhere : (xs : List A) (i d : ℕ) (w x : A) → d ≢ i → slice_get (slice_set xs i w) d ≡ Some x → slice_get xs d ≡ Some x
  set_elsewhere [] i d w x apart at = at
  set_elsewhere (y ∷ ys) zero zero w x apart at = absurd (apart refl)
  set_elsewhere (y ∷ ys) zero (suc d) w x apart at = at
  set_elsewhere (y ∷ ys) (suc i) zero w x apart at = at
  set_elsewhere (y ∷ ys) (suc i) (suc d) w x apart at = set_elsewhere ys i d w x (λ is. apart (ap suc is)) at

  -- and stands at its own
  pub set_here : (xs : List A) (i : ℕ) (w x : A) → slice_get (slice_set xs i w) i ≡ Some x → x ≡ w
  set_here [] i w x at = absurd (cc)
  set_here (y ∷ ys) zero w x at = sym (ap (λ o. unwrap_or o x) at)
  set_here (y ∷ ys) (suc i) w x at = set_here ys i w x at

  pub set_get : (xs : List A) (i : ℕ) (was now : A) → slice_get xs i ≡ Some was → slice_get (slice_set xs i now) i ≡ Some now
  set_get [] i was now at = absurd (cc)
  set_get (y ∷ ys) zero was now at = refl
  set_get (y ∷ ys) (suc i) was now at = set_get ys i was now at

  pub same_item : (x y : A) → Some x ≡ Some y → x ≡ y
  same_item x y is = ap (λ o. unwrap_or o x) is

  pub at_within : (xs : List A) (i : ℕ) → i < length xs → (x : A) × (slice_get xs i ≡ Some x)
  at_within [] i lt = absurd (omega (arith, lt))
  at_within (x ∷ xs) zero lt = (x, refl)
  at_within (x ∷ xs) (suc i) lt = at_within xs i (omega (arith, lt))

  -- ---- the first place that passes
  pub first_passes : (f : A → Bool) (xs : List A) (i : ℕ) → position f xs ≡ Some i → (x : A) × (slice_get xs i ≡ Some x) × (f x ≡ true)
  first_passes f [] i is = absurd (cc)
  first_passes f (d ∷ ds) i is =
      let n = position_or_len f (d ∷ ds) in
      let found = found_if (nat_lt n (length (d ∷ ds))) n i is in
      let low : n < length (d ∷ ds) = ltb-true n (length (d ∷ ds)) found.0 in
      subst (λ k. (x : A) × (slice_get (d ∷ ds) k ≡ Some x) × (f x ≡ true)) found.1 (get_or (d ∷ ds) n d, slice_get-get_or (d ∷ ds) n d low, passes_at_first f (d ∷ ds) d low)

  -- where there is none, no item passes
  not_any : (p : A → Bool) (xs : List A) → length xs ≤ position_or_len p xs → list_any p xs ≡ false
  not_any p [] le = refl
  not_any p (x ∷ xs) le = by (λ rest. not_any p xs rest) (p x) refl le
    where
      by : (length xs ≤ position_or_len p xs → list_any p xs ≡ false) → (b : Bool) → p x ≡ b → length (x ∷ xs) ≤ cond (not b) (1 + position_or_len p xs) 0 → (b || list_any p xs) ≡ false
      by all true is le = absurd (omega (arith, le))
      by all false is le = all (omega (arith, le))

  pub none_passes : (f : A → Bool) (xs : List A) → position f xs ≡ None → list_any f xs ≡ false
  none_passes f xs none = not_any f xs (high (position_or_len f xs) (length xs) none)
