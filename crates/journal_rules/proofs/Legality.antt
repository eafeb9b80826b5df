-- A legal journal, entry by entry.
use Rattle.std.proofs.Common.{◌≡◌, ◌⊎◌, inl, inr, ◌∙◌, ℕ, zero, suc, List, [], ◌∷◌, ◌++◌, length, refl, sym, ap, subst, arith, append-nil, append_assoc, take}
use Rattle.std.specs.Prelude.{slice_get, Some, unwrap_or}
use Rattle.std.proofs.lemmas.List.{take-append-le}
use Rattle.std.proofs.lemmas.Option.{slice_get_within}
use Rattle.journal_entries.specs.declared.act.Entry.{Entry}
use Rattle.journal_rules.specs.Legal.{IsAllowed, IsLegal}

pub front : {A : Type 0} (h more : List A) (i : ℕ) (e : A) → slice_get h i ≡ Some e → slice_get (h ++ more) i ≡ Some e
front [] more i e at = absurd (cc)
front (x ∷ xs) more zero e at = at
front (x ∷ xs) more (suc i) e at = front xs more i e at

pub legal_front : (h more : List Entry) → IsLegal (h ++ more) → IsLegal h
legal_front h more legal i e at =
    let l = slice_get_within h i e at in
    subst (λ (b : List Entry). IsAllowed b e.seat e.act) (take-append-le i h more (omega (arith, l))) (legal i e (front h more i e at))

pub take_whole : (j k : List Entry) → take (length j) (j ++ k) ≡ j
take_whole [] k = refl
take_whole (x ∷ xs) k = ap (λ l. x ∷ l) (take_whole xs k)

pub seam : {A : Type 0} (h : List A) (e : A) (es : List A) → slice_get (h ++ e ∷ es) (length h) ≡ Some e
seam [] e es = refl
seam (x ∷ xs) e es = seam xs e es

pub allowed_next : (h : List Entry) (e : Entry) (es : List Entry) → IsLegal (h ++ e ∷ es) → IsAllowed h e.seat e.act
allowed_next h e es legal = subst (λ (b : List Entry). IsAllowed b e.seat e.act) (take_whole h (e ∷ es)) (legal (length h) e (seam h e es))

-- induction by the last entry, from a prefix on
abbrev pub Keeps : (List Entry → Type 0) → Type 0
Keeps P = (h : List Entry) (e : Entry) → IsLegal h → IsAllowed h e.seat e.act → P h → P (h ++ e ∷ [])

pub goes_on : (P : List Entry → Type 0) → Keeps P → (es h : List Entry) → IsLegal (h ++ es) → P h → P (h ++ es)
goes_on P step [] h legal p = subst P (sym (append-nil h)) p
goes_on P step (e ∷ es) h legal p =
    let again : (h ++ e ∷ []) ++ es ≡ h ++ e ∷ es = append_assoc h (e ∷ []) es in
    subst P again (goes_on P step es (h ++ e ∷ []) (subst IsLegal (sym again) legal) (step h e (legal_front h (e ∷ es) legal) (allowed_next h e es legal) p))

pub by_last : (P : List Entry → Type 0) → P [] → Keeps P → (j : List Entry) → IsLegal j → P j
by_last P start step j legal = goes_on P step j [] legal start

-- what stands at a place of a list with one more: what stood there, or the one more
pub last_or : {A : Type 0} (h : List A) (e : A) (i : ℕ) (x : A) → slice_get (h ++ e ∷ []) i ≡ Some x → (slice_get h i ≡ Some x) ⊎ ((i ≡ length h) × (x ≡ e))
last_or [] e zero x at = inr (refl, sym (ap (λ o. unwrap_or o x) at))
last_or [] e (suc i) x at = absurd (cc)
last_or (y ∷ ys) e zero x at = inl at
last_or (y ∷ ys) e (suc i) x at = elim (last_or ys e i x at) as (λ _. (slice_get (y ∷ ys) (suc i) ≡ Some x) ⊎ ((suc i ≡ length (y ∷ ys)) × (x ≡ e))) [ inl h ↦ inl h | inr h ↦ inr (let k = h.0 in (omega (arith, k), h.1)) ]

-- a legal journal stays legal behind an entry that it allows
pub legal_push : (j : List Entry) (e : Entry) → IsLegal j → IsAllowed j e.seat e.act → IsLegal (j ++ e ∷ [])
legal_push j e legal may i x at = by (last_or j e i x at)
  where
    by : (slice_get j i ≡ Some x) ⊎ ((i ≡ length j) × (x ≡ e)) → IsAllowed (take i (j ++ e ∷ [])) x.seat x.act
    by (inl h) = let l = slice_get_within j i x h in subst (λ (b : List Entry). IsAllowed b x.seat x.act) (sym (take-append-le i j (e ∷ []) (omega (arith, l)))) (legal i x h)
    by (inr h) =
        let here : take i (j ++ e ∷ []) ≡ j = ap (λ k. take k (j ++ e ∷ [])) h.0 ∙ take_whole j (e ∷ []) in
        subst (λ (b : List Entry). IsAllowed b x.seat x.act) (sym here) (subst (λ (y : Entry). IsAllowed j y.seat y.act) (sym h.1) may)
