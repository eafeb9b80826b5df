-- A journal that is legal but for clients and texts, entry by entry.
use Rattle.std.proofs.Common.{◌≡◌, ◌⊎◌, inl, inr, ◌∙◌, List, [], ◌∷◌, ◌++◌, length, sym, ap, subst, arith, append-nil, append_assoc, take}
use Rattle.std.specs.Prelude.{slice_get, Some}
use Rattle.std.proofs.lemmas.List.{take-append-le}
use Rattle.std.proofs.lemmas.Option.{slice_get_within}
use Rattle.journal_entries.specs.declared.act.Entry.{Entry}
use Rattle.loading_rules.specs.LegalBut.{IsLegalBut, IsAllowedBut}
use Rattle.journal_rules.proofs.Legality.{front, seam, take_whole, last_or}

pub legal_front : (h more : List Entry) → IsLegalBut (h ++ more) → IsLegalBut h
legal_front h more legal i e at =
    let l = slice_get_within h i e at in
    subst (λ (b : List Entry). IsAllowedBut b e.seat e.act) (take-append-le i h more (omega (arith, l))) (legal i e (front h more i e at))

pub allowed_next : (h : List Entry) (e : Entry) (es : List Entry) → IsLegalBut (h ++ e ∷ es) → IsAllowedBut h e.seat e.act
allowed_next h e es legal = subst (λ (b : List Entry). IsAllowedBut b e.seat e.act) (take_whole h (e ∷ es)) (legal (length h) e (seam h e es))

-- induction by the last entry, from a prefix on
abbrev pub Keeps : (List Entry → Type 0) → Type 0
Keeps P = (h : List Entry) (e : Entry) → IsLegalBut h → IsAllowedBut h e.seat e.act → P h → P (h ++ e ∷ [])

pub goes_on : (P : List Entry → Type 0) → Keeps P → (es h : List Entry) → IsLegalBut (h ++ es) → P h → P (h ++ es)
goes_on P step [] h legal p = subst P (sym (append-nil h)) p
goes_on P step (e ∷ es) h legal p =
    let again : (h ++ e ∷ []) ++ es ≡ h ++ e ∷ es = append_assoc h (e ∷ []) es in
    subst P again (goes_on P step es (h ++ e ∷ []) (subst IsLegalBut (sym again) legal) (step h e (legal_front h (e ∷ es) legal) (allowed_next h e es legal) p))

pub by_last : (P : List Entry → Type 0) → P [] → Keeps P → (j : List Entry) → IsLegalBut j → P j
by_last P start step j legal = goes_on P step j [] legal start

-- a legal journal stays legal behind an entry that it allows
pub legal_push : (j : List Entry) (e : Entry) → IsLegalBut j → IsAllowedBut j e.seat e.act → IsLegalBut (j ++ e ∷ [])
legal_push j e legal may i x at = by (last_or j e i x at)
  where
    by : (slice_get j i ≡ Some x) ⊎ ((i ≡ length j) × (x ≡ e)) → IsAllowedBut (take i (j ++ e ∷ [])) x.seat x.act
    by (inl h) = let l = slice_get_within j i x h in subst (λ (b : List Entry). IsAllowedBut b x.seat x.act) (sym (take-append-le i j (e ∷ []) (omega (arith, l)))) (legal i x h)
    by (inr h) =
        let here : take i (j ++ e ∷ []) ≡ j = ap (λ k. take k (j ++ e ∷ [])) h.0 ∙ take_whole j (e ∷ []) in
        subst (λ (b : List Entry). IsAllowedBut b x.seat x.act) (sym here) (subst (λ (y : Entry). IsAllowedBut j y.seat y.act) (sym h.1) may)
