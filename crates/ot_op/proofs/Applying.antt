-- Applying a list of components, step by step.
use Rattle.std.proofs.Common.{◌≡◌, ℕ, ◌+◌, ◌<◌, List, [], ◌∷◌, ◌++◌, refl, ap, sym, ◌∙◌, take, drop, length, get_or, Some, None, Option, drop-cons, take-append-drop}
use Rattle.std.specs.Option.{option_and_then}
use Rattle.std.proofs.lemmas.List.{take_more}
use Rattle.ot_op.specs.declared.comp.Comp.{Comp}
use Rattle.ot_op.specs.Apply.{applied, applied_all, IsFailing}

pub applied_all-append : (text : List ℕ) (xs ys : List Comp) → applied_all text (xs ++ ys) ≡ option_and_then (λ next. applied_all next ys) (applied_all text xs)
applied_all-append text [] ys = refl
applied_all-append text (x ∷ xs) ys =
    elim (applied text x) as (λ o. option_and_then (λ next. applied_all next (xs ++ ys)) o ≡ option_and_then (λ next. applied_all next ys) (option_and_then (λ next. applied_all next xs) o))
    [ None ↦ refl | Some next ↦ applied_all-append next xs ys ]

-- one component more
pub applied_all-one : (text : List ℕ) (c : Comp) → applied_all text (c ∷ []) ≡ applied text c
applied_all-one text c = go (applied text c)
  where
    go : (o : Option (List ℕ)) → option_and_then (λ next. Some next) o ≡ o
    go None = refl
    go (Some next) = refl

pub applied_all-more : (text mid next : List ℕ) (cs : List Comp) (k : ℕ) (c : Comp) → k < length cs → c ≡ get_or cs k c → applied_all text (take k cs) ≡ Some mid → applied mid c ≡ Some next → applied_all text (take (k + 1) cs) ≡ Some next
applied_all-more text mid next cs k c lt is before here =
    let cut : take (k + 1) cs ≡ take k cs ++ c ∷ [] = take_more cs k c lt ∙ ap (λ x. take k cs ++ x ∷ []) (sym is) in
    rw (cut, applied_all-append, before, applied_all-one) here

pub failing_at : (text left : List ℕ) (cs : List Comp) (k : ℕ) (c : Comp) → k < length cs → c ≡ get_or cs k c → applied_all text (take k cs) ≡ Some left → applied left c ≡ None → IsFailing text cs left k
failing_at text left cs k c lt is before here =
    let one : take 1 (drop k cs) ≡ c ∷ [] = rw (drop-cons cs k c lt) (ap (λ x. x ∷ []) (sym is)) in
    (lt, before, rw (one, applied_all-one) here)

-- where the first component of the rest doesn't apply, the whole doesn't
pub failing_none : (text left : List ℕ) (op : List Comp) (k : ℕ) → IsFailing text op left k → applied_all text op ≡ None
failing_none text left op k fails =
    let cut : op ≡ take k op ++ (take 1 (drop k op) ++ drop 1 (drop k op)) = sym (take-append-drop k op) ∙ ap (λ l. take k op ++ l) (sym (take-append-drop 1 (drop k op))) in
    let rest : applied_all left (take 1 (drop k op) ++ drop 1 (drop k op)) ≡ None =
    applied_all-append left (take 1 (drop k op)) (drop 1 (drop k op)) ∙ ap (λ o. option_and_then (λ next. applied_all next (drop 1 (drop k op))) o) fails.2 in
    ap (applied_all text) cut ∙ applied_all-append text (take k op) (take 1 (drop k op) ++ drop 1 (drop k op))
    ∙ ap (λ o. option_and_then (λ next. applied_all next (take 1 (drop k op) ++ drop 1 (drop k op))) o) fails.1 ∙ rest

-- the first component applies, and the others to what it makes
pub record First (text : List ℕ) (c : Comp) (cs : List Comp) (next : List ℕ) : Type 0 where
  pub mid : List ℕ
  pub here : applied text c ≡ Some mid
  pub rest : applied_all mid cs ≡ Some next

pub first_of_all : (text : List ℕ) (c : Comp) (cs : List Comp) (next : List ℕ) → applied_all text (c ∷ cs) ≡ Some next → First text c cs next
first_of_all text c cs next e = go (applied text c) refl e
  where
    go : (o : Option (List ℕ)) → applied text c ≡ o → option_and_then (λ x. applied_all x cs) o ≡ Some next → First text c cs next
    go None is h = cc
    go (Some mid) is h = record { mid = mid; here = is; rest = h }
