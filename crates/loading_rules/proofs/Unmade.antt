-- A document that wasn't made has nothing; and how high a version may be.
use Rattle.std.proofs.Common.{◌≡◌, ℕ, zero, suc, ◌+◌, ◌≤◌, List, [], ◌∷◌, ◌++◌, length, Bool, true, false, not, refl, sym, ap, ⊎_elim, ◌∙◌, subst, arith, All, eqb, append-nil, length-append}
use Rattle.std.specs.Prelude.{slice_get, Option, Some, None, filter, if◌then◌else◌}
use Rattle.std.proofs.lemmas.Bool.{eqb-true}
use Rattle.std.proofs.lemmas.List.Elements.{All-append}
use Rattle.journal_entries.specs.declared.update.Update.{Update}
use Rattle.journal_entries.specs.declared.act.Act.{Act}
use Rattle.journal_entries.specs.declared.act.Act.TheVariants.{Made, Committed}
use Rattle.journal_entries.specs.declared.act.Entry.{Entry}
use Rattle.journal_rules.specs.Documents.{IsMade, Making, making_of, makings, item_of, items_by, applied_list, sent, committed, is_in, waiting, update_at, base, base_in, version}
use Rattle.journal_rules.specs.Legal.{highest_base}
use Rattle.journal_rules.proofs.Pushing.{makings-push, makings-none, applied_list-push, applied_list-none}
use Rattle.journal_rules.proofs.Waits.{all_none, all_one, update_within, SentAt, sent_facts}
use Rattle.journal_rules.proofs.Fencing.{made_stays}
use Rattle.journal_laws.proofs.Updates.{update_new}
use Rattle.journal_laws.proofs.World.{sent_is}
use Rattle.journal_laws.proofs.Unmade.{applied_short}
use Rattle.loading_rules.specs.LegalBut.{IsLegalBut, IsAllowedBut, IsSendingBut}
use Rattle.loading_rules.proofs.Legality.{Keeps, by_last}
use Rattle.loading_rules.proofs.Fencing.{acquired_made}
use Rattle.loading_rules.proofs.Joinings.{joining_made}

-- what was sent, was sent to a document that was made
pub update_made : (j : List Entry) → IsLegalBut j → (t : ℕ) (u : Update) → update_at j t ≡ Some u → IsMade u.doc j
update_made = by_last (λ j. (t : ℕ) (u : Update) → update_at j t ≡ Some u → IsMade u.doc j) none more
  where
    none : (t : ℕ) (u : Update) → update_at [] t ≡ Some u → IsMade u.doc []
    none t u is = let l = update_within [] t u is in absurd (omega (arith, l))

    by : (h : List Entry) (u : Update) → IsLegalBut h → (o : Option ℕ) → IsSendingBut h u o → IsMade u.doc h
    by h u legal None row = row.made
    by h u legal (Some c) row = subst (λ d. IsMade d h) row.placed.doc_is (joining_made c h legal row.placed.joining row.placed.last)

    more : Keeps (λ j. (t : ℕ) (u : Update) → update_at j t ≡ Some u → IsMade u.doc j)
    more h e legal may before t u is = made_stays u.doc h e (⊎_elim {C = IsMade u.doc h}
        (λ old. before t u old)
        (λ new. by h u legal u.client (subst (λ a. IsAllowedBut h e.seat a) (sent_is e.act u new.1) may))
        (update_new h e t u is))

-- nothing was sent to a document that wasn't made
pub unmade_sent : (d : ℕ) (j : List Entry) → IsLegalBut j → length (makings j) ≤ d → sent d j ≡ []
unmade_sent d j legal high = by (sent d j) (sent_facts d j)
  where
    by : (ts : List ℕ) → All (SentAt d j) ts → ts ≡ []
    by [] all = refl
    by (t ∷ ts) all =
        let s : SentAt d j t = all 0 t (omega arith) in
        let made = update_made j legal t s.0 s.1 in
        let doc = s.2 in absurd (omega (arith, made, doc, high))

-- so nothing waits for it
pub unmade_waits : (d : ℕ) (j : List Entry) → IsLegalBut j → length (makings j) ≤ d → waiting d j ≡ []
unmade_waits d j legal high = ap (λ l. filter (λ ticket. not (is_in ticket (committed j))) l) (unmade_sent d j legal high)

-- and nothing was applied to it
pub unmade_applied : (d : ℕ) (j : List Entry) → IsLegalBut j → length (makings j) ≤ d → applied_list d j ≡ []
unmade_applied d = by_last (λ j. length (makings j) ≤ d → applied_list d j ≡ []) (λ high. applied_list-none d) more
  where
    one : (h : List Entry) (seat : ℕ) (a : Act) → IsLegalBut h → IsAllowedBut h seat a → length (makings h) ≤ d → items_by d h a ≡ []
    one h seat (Committed doc token ticket outcome) legal may high = go (eqb doc d) refl
      where
        go : (b : Bool) → eqb doc d ≡ b → (if b then item_of ticket (update_at h ticket) outcome else []) ≡ []
        go false apart = refl
        go true same =
            let made = acquired_made doc h legal may.holds.acquiring may.holds.held.last in
            let is = eqb-true doc d same in
            absurd (omega (arith, made, is, high))
    one h seat _ legal may high = refl

    more : Keeps (λ j. length (makings j) ≤ d → applied_list d j ≡ [])
    more h e legal may was high =
        let long = ap length (makings-push h e) ∙ length-append (makings h) (making_of e.act) in
        let low : length (makings h) ≤ d = omega (arith, long, high) in
        applied_list-push d h e ∙ ap (λ l. applied_list d h ++ l) (one h e.seat e.act legal may low) ∙ append-nil (applied_list d h) ∙ was low

-- the first version of a document is within its limit
pub bases_low : (j : List Entry) → IsLegalBut j → All (λ (m : Making). m.base ≤ highest_base) (makings j)
bases_low = by_last (λ j. All (λ (m : Making). m.base ≤ highest_base) (makings j)) none more
  where
    none : All (λ (m : Making). m.base ≤ highest_base) (makings [])
    none = subst (λ (l : List Making). All (λ (m : Making). m.base ≤ highest_base) l) (sym makings-none) (all_none (λ (m : Making). m.base ≤ highest_base))

    one : (h : List Entry) (seat : ℕ) (a : Act) → IsAllowedBut h seat a → All (λ (m : Making). m.base ≤ highest_base) (making_of a)
    one h seat (Made doc name project first base) may = all_one (λ (m : Making). m.base ≤ highest_base) _ may.low
    one h seat _ may = all_none (λ (m : Making). m.base ≤ highest_base)

    more : Keeps (λ j. All (λ (m : Making). m.base ≤ highest_base) (makings j))
    more h e legal may all = subst (λ (l : List Making). All (λ (m : Making). m.base ≤ highest_base) l) (sym (makings-push h e)) (All-append (λ (m : Making). m.base ≤ highest_base) (makings h) (making_of e.act) all (one h e.seat e.act may))

base_of : (ms : List Making) (d : ℕ) → All (λ (m : Making). m.base ≤ highest_base) ms → base_in (slice_get ms d) ≤ highest_base
base_of [] d all = omega arith
base_of (m ∷ ms) zero all = all 0 m (omega arith)
base_of (m ∷ ms) (suc d) all = base_of ms d (λ k x h. all (suc k) x (omega arith))

-- a version is the first one and at most one more for each entry
pub version_low : (d : ℕ) (j : List Entry) → IsLegalBut j → version d j ≤ highest_base + length j
version_low d j legal = let b = base_of (makings j) d (bases_low j legal) in let n = applied_short d j in omega (arith, b, n)
