-- Each acquiring is known by its token, and which tokens were used.
use Rattle.std.proofs.Common.{◌≡◌, ◌⊎◌, inl, inr, ℕ, suc, ◌≤◌, ◌<◌, List, [], ◌∷◌, ◌++◌, length, false, sym, ap, ◌∙◌, subst, arith, append-nil, append_assoc, All}
use Rattle.std.specs.Prelude.{slice_get, Some, None}
use Rattle.std.proofs.lemmas.List.Elements.{All-append}
use Rattle.journal_entries.specs.declared.act.Act.{Act}
use Rattle.journal_entries.specs.declared.act.Act.TheVariants.{Committed}
use Rattle.journal_entries.specs.declared.act.Entry.{Entry}
use Rattle.journal_rules.specs.Documents.{is_in}
use Rattle.journal_rules.specs.Locks.{Acquiring, acquiring_of, acquirings, last_acquiring, token_in, next_token, used_by, used}
use Rattle.journal_rules.proofs.Pushing.{acquirings-push, last_acquiring-push, last_acquiring-none, used-push, used-none}
use Rattle.journal_rules.proofs.Lists.{some_same}
use Rattle.journal_rules.proofs.Fencing.{acquirings_more}
use Rattle.loading_rules.proofs.Fencing.{token_bound}
use Rattle.journal_rules.proofs.Waits.{all_map, all_none, all_one}
use Rattle.loading_rules.proofs.Tokens.{IsFresh, last_or_new, not_in}
use Rattle.loading_rules.specs.LegalBut.{IsLegalBut, IsAllowedBut}
use Rattle.journal_rules.proofs.Legality.{front, seam}
use Rattle.loading_rules.proofs.Legality.{Keeps, by_last}

-- the acquiring of a token stands at its number
pub record IsKnown (a : Acquiring) (j : List Entry) : Type 0 where
  pub n : ℕ
  pub token_is : a.token ≡ suc n
  pub at : slice_get (acquirings j) n ≡ Some a

pub known_on : (a : Acquiring) (j : List Entry) (e : Entry) → IsKnown a j → IsKnown a (j ++ e ∷ [])
known_on a j e is = record {
  n = is.n;
  token_is = is.token_is;
  at = ap (λ l. slice_get l is.n) (acquirings-push j e) ∙ front (acquirings j) (acquiring_of e.seat e.act) is.n a is.at;
}

pub known_more : (a : Acquiring) (more j : List Entry) → IsKnown a j → IsKnown a (j ++ more)
known_more a [] j is = subst (λ (k : List Entry). IsKnown a k) (sym (append-nil j)) is
known_more a (e ∷ es) j is = subst (λ (k : List Entry). IsKnown a k) (append_assoc j (e ∷ []) es) (known_more a es (j ++ e ∷ []) (known_on a j e is))

-- so two of one token are the same
pub known_same : (a b : Acquiring) (j : List Entry) → IsKnown a j → IsKnown b j → a.token ≡ b.token → a ≡ b
known_same a b j x y same =
    let s = x.token_is in
    let t = y.token_is in
    let n : x.n ≡ y.n = omega (arith, s, t, same) in
    some_same a b (sym x.at ∙ ap (λ k. slice_get (acquirings j) k) n ∙ y.at)

-- the last acquiring of a document is known
pub last_known : (d : ℕ) (j : List Entry) → IsLegalBut j → (a : Acquiring) → last_acquiring d j ≡ Some a → IsKnown a j
last_known d = by_last (λ j. (a : Acquiring) → last_acquiring d j ≡ Some a → IsKnown a j) none more
  where
    none : (a : Acquiring) → last_acquiring d [] ≡ Some a → IsKnown a []
    none a is = let f : None ≡ Some a = sym (last_acquiring-none d) ∙ is in absurd (cc)

    by : (h : List Entry) (e : Entry) → IsAllowedBut h e.seat e.act → ((a : Acquiring) → last_acquiring d h ≡ Some a → IsKnown a h) → (a : Acquiring)
        → (last_acquiring d h ≡ Some a) ⊎ IsFresh d h e.seat e.act a → IsKnown a (h ++ e ∷ [])
    by h e may was a (inl x) = known_on a h e (was a x)
    by h e may was a (inr x) =
        let g = (subst (λ (b : Act). IsAllowedBut h e.seat b) x.act_is may).token_is in
        let t = x.token_is in
        let one : acquiring_of e.seat e.act ≡ a ∷ [] = ap (acquiring_of e.seat) x.act_is ∙ ap (λ b. b ∷ []) (sym x.acquiring_is) in
        record {
          n = length (acquirings h);
          token_is = omega (arith, g, t);
          at = ap (λ l. slice_get l (length (acquirings h))) (acquirings-push h e ∙ ap (λ l. acquirings h ++ l) one) ∙ seam (acquirings h) a [];
        }

    more : Keeps (λ j. (a : Acquiring) → last_acquiring d j ≡ Some a → IsKnown a j)
    more h e legal may was a is = by h e may was a (last_or_new d h e.seat e.act a (sym (last_acquiring-push d h e) ∙ is))

-- ---- the tokens under which an update was committed
pub used_low : (j : List Entry) → IsLegalBut j → All (λ t. t ≤ length (acquirings j)) (used j)
used_low = by_last (λ j. All (λ t. t ≤ length (acquirings j)) (used j)) none more
  where
    none : All (λ t. t ≤ length (acquirings [])) (used [])
    none = subst (λ (l : List ℕ). All (λ t. t ≤ length (acquirings [])) l) (sym used-none) (all_none (λ t. t ≤ length (acquirings [])))

    one : (h : List Entry) (seat : ℕ) (a : Act) → IsLegalBut h → IsAllowedBut h seat a → All (λ t. t ≤ length (acquirings h)) (used_by a)
    one h seat (Committed doc token ticket outcome) legal may = all_one (λ t. t ≤ length (acquirings h)) token
        (let b = token_bound doc h legal in let l = ap token_in may.holds.held.last in let t = may.holds.token_is in omega (arith, b, l, t))
    one h seat _ legal may = all_none (λ t. t ≤ length (acquirings h))

    more : Keeps (λ j. All (λ t. t ≤ length (acquirings j)) (used j))
    more h e legal may all =
        let P : ℕ → Type 0 = λ t. t ≤ length (acquirings (h ++ e ∷ [])) in
        let on : (t : ℕ) → t ≤ length (acquirings h) → P t = λ t le. let a = acquirings_more h e in omega (arith, a, le) in
        subst (λ (l : List ℕ). All P l) (sym (used-push h e))
        (All-append P (used h) (used_by e.act) (all_map (λ t. t ≤ length (acquirings h)) P (used h) on all) (all_map (λ t. t ≤ length (acquirings h)) P (used_by e.act) on (one h e.seat e.act legal may)))

pub next_unused : (j : List Entry) → IsLegalBut j → is_in (next_token j) (used j) ≡ false
next_unused j legal = not_in (next_token j) (used j) (all_map (λ t. t ≤ length (acquirings j)) (λ t. t < next_token j) (used j) (λ t le. omega (arith, le)) (used_low j legal))
