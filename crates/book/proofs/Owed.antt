-- What is owed for the documents, after one of them was changed.
use Rattle.std.proofs.Common.{◌≡◌, ◌≢◌, ◌⊎◌, inl, inr, ℕ, zero, suc, ◌+◌, ◌≤◌, ◌<◌, List, [], ◌∷◌, ◌++◌, Bool, true, false, true≢false, ◌||◌, refl, sym, ap, ◌∙◌, arith, slice_set, eqb, eq-eqb, ne_eqb}
use Rattle.std.specs.Prelude.{slice_get, Some, if◌then◌else◌, unwrap_or}
use Rattle.std.proofs.lemmas.Bool.{cases_lt, eqb-true}
use Rattle.std.proofs.lemmas.List.Folds.{list_any-append}
use Rattle.journal_laws.proofs.Joins.{is_in-append}
use Rattle.journal_rules.specs.Documents.{is_in}
use Rattle.book.specs.declared.document.Document.{Document}
use Rattle.book.specs.Standing.{owed_by, owed_for}
use Rattle.book.specs.Shown.{unclosed}

pub owed_set : (xs : List Document) (i : ℕ) (was now : Document) → slice_get xs i ≡ Some was → owed_for (slice_set xs i now) + owed_by was ≡ owed_for xs + owed_by now
owed_set [] i was now at = absurd (cc)
owed_set (x ∷ xs) zero was now at = let same : owed_by x ≡ owed_by was = ap (λ o. owed_by (unwrap_or o x)) at in omega (arith, same)
owed_set (x ∷ xs) (suc i) was now at = let r = owed_set xs i was now at in omega (arith, r)

pub owed_push : (xs : List Document) (x : Document) → owed_for (xs ++ x ∷ []) ≡ owed_for xs + owed_by x
owed_push [] x = omega arith
owed_push (y ∷ ys) x = let r = owed_push ys x in omega (arith, r)

-- what is owed for one document is no more than for all
pub owed_least : (xs : List Document) (i : ℕ) (x : Document) → slice_get xs i ≡ Some x → owed_by x ≤ owed_for xs
owed_least [] i x at = absurd (cc)
owed_least (y ∷ ys) zero x at = let same : owed_by y ≡ owed_by x = ap (λ o. owed_by (unwrap_or o y)) at in omega (arith, same)
owed_least (y ∷ ys) (suc i) x at = let r = owed_least ys i x at in omega (arith, r)

-- ---- the drivers that haven't closed
or_false : (b : Bool) → (b || (false || false)) ≡ b
or_false true = refl
or_false false = refl

or_true : (b : Bool) → (b || (true || false)) ≡ true
or_true true = refl
or_true false = refl

pub in_others : (x d : ℕ) (xs : List ℕ) → d ≢ x → is_in x (xs ++ d ∷ []) ≡ is_in x xs
in_others x d xs apart = is_in-append x xs (d ∷ []) ∙ ap (λ b. is_in x xs || (b || false)) (ne_eqb d x apart) ∙ or_false (is_in x xs)

pub in_here : (x : ℕ) (xs : List ℕ) → is_in x (xs ++ x ∷ []) ≡ true
in_here x xs = is_in-append x xs (x ∷ []) ∙ ap (λ b. is_in x xs || (b || false)) (eq-eqb x x refl) ∙ or_true (is_in x xs)

closing_others : (n d : ℕ) (cs : List ℕ) → n ≤ d → unclosed n (cs ++ d ∷ []) ≡ unclosed n cs
closing_others zero d cs le = refl
closing_others (suc n) d cs le =
    let r = closing_others n d cs (omega (arith, le)) in
    let b : is_in n (cs ++ d ∷ []) ≡ is_in n cs = in_others n d cs (λ is. let z = is in absurd (omega (arith, z, le))) in
    ap (λ c. (if c then 0 else 1) + unclosed n (cs ++ d ∷ [])) b ∙ ap (λ k. (if is_in n cs then 0 else 1) + k) r

below_or : (n d : ℕ) → d < suc n → d ≢ n → d < n
below_or n d lt apart = go (cases_lt d n)
  where
    go : (d < n) ⊎ (n ≤ d) → d < n
    go (inl l) = l
    go (inr g) = absurd (apart (omega (arith, lt, g)))

-- one that closes is one fewer
pub closing : (n d : ℕ) (cs : List ℕ) → d < n → is_in d cs ≡ false → unclosed n (cs ++ d ∷ []) + 1 ≡ unclosed n cs
closing zero d cs lt not_yet = absurd (omega (arith, lt))
closing (suc n) d cs lt not_yet = by (λ below. closing n d cs below not_yet) (eqb n d) refl
  where
    by : (d < n → unclosed n (cs ++ d ∷ []) + 1 ≡ unclosed n cs) → (b : Bool) → eqb n d ≡ b → unclosed (suc n) (cs ++ d ∷ []) + 1 ≡ unclosed (suc n) cs
    by again true same =
        let is : n ≡ d = eqb-true n d same in
        let here : is_in n (cs ++ d ∷ []) ≡ true = ap (λ k. is_in n (cs ++ k ∷ [])) (sym is) ∙ in_here n cs in
        let was : is_in n cs ≡ false = ap (λ k. is_in k cs) is ∙ not_yet in
        let r = closing_others n d cs (omega (arith, is)) in
        let a : unclosed (suc n) (cs ++ d ∷ []) ≡ 0 + unclosed n (cs ++ d ∷ []) = ap (λ c. (if c then 0 else 1) + unclosed n (cs ++ d ∷ [])) here in
        let b : unclosed (suc n) cs ≡ 1 + unclosed n cs = ap (λ c. (if c then 0 else 1) + unclosed n cs) was in
        omega (arith, r, a, b)
    by again false other =
        let apart : d ≢ n = λ is. true≢false (sym (eq-eqb n d (sym is)) ∙ other) in
        let below : d < n = below_or n d lt apart in
        let r = again below in
        let a : unclosed (suc n) (cs ++ d ∷ []) ≡ (if is_in n cs then 0 else 1) + unclosed n (cs ++ d ∷ []) = ap (λ c. (if c then 0 else 1) + unclosed n (cs ++ d ∷ [])) (in_others n d cs apart) in
        omega (arith, r, a)

-- who hasn't closed is counted
pub open_counts : (n d : ℕ) (cs : List ℕ) → d < n → is_in d cs ≡ false → 1 ≤ unclosed n cs
open_counts n d cs lt not_yet = let c = closing n d cs lt not_yet in omega (arith, c)

-- where none has closed
pub none_closed : (n : ℕ) → unclosed n [] ≡ n
none_closed zero = refl
none_closed (suc n) = let r = none_closed n in omega (arith, r)
