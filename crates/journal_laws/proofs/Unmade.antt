-- A document that wasn't made has nothing; and how high a version may be.
use Rattle.std.proofs.Common.{◌≡◌, ℕ, zero, suc, ◌+◌, ◌≤◌, List, [], ◌∷◌, ◌++◌, length, Bool, true, false, not, refl, sym, ap, ⊎_elim, ◌∙◌, subst, arith, All, eqb, length-append}
use Rattle.std.specs.Prelude.{slice_get, Option, Some, None, filter, if◌then◌else◌}
use Rattle.std.proofs.lemmas.List.Elements.{All-append}
use Rattle.journal_entries.specs.declared.update.Update.{Update}
use Rattle.journal_entries.specs.declared.update.Outcome.{Outcome}
use Rattle.journal_entries.specs.declared.update.Outcome.TheVariants.{Applied, Dup, Refused}
use Rattle.journal_entries.specs.declared.act.Act.{Act}
use Rattle.journal_entries.specs.declared.act.Act.TheVariants.{Made, Committed}
use Rattle.journal_entries.specs.declared.act.Entry.{Entry}
use Rattle.journal_rules.specs.Documents.{IsMade, Making, making_of, makings, Item, item_of, items_by, applied_list, sent, committed, is_in, waiting, update_at, base, base_in, version}
use Rattle.journal_rules.specs.Legal.{IsAllowed, IsLegal, IsSending, IsRawUpdate, highest_base}
use Rattle.journal_rules.proofs.Pushing.{makings-push, makings-none, applied_list-push, applied_list-none}
use Rattle.journal_rules.proofs.Legality.{Keeps, by_last}
use Rattle.journal_rules.proofs.Waits.{all_none, all_one, by_end, update_within, SentAt, sent_facts}
use Rattle.journal_rules.proofs.Fencing.{made_stays}
use Rattle.journal_laws.proofs.Updates.{update_new}
use Rattle.journal_laws.proofs.World.{sent_is}
use Rattle.journal_laws.proofs.Everything.{world}

-- what was sent, was sent to a document that was made
raw_made : (j : List Entry) → IsLegal j → (t : ℕ) (u : Update) → update_at j t ≡ Some u → u.client ≡ None → IsMade u.doc j
raw_made = by_last (λ j. (t : ℕ) (u : Update) → update_at j t ≡ Some u → u.client ≡ None → IsMade u.doc j) none more
  where
    none : (t : ℕ) (u : Update) → update_at [] t ≡ Some u → u.client ≡ None → IsMade u.doc []
    none t u is raw = let l = update_within [] t u is in absurd (omega (arith, l))

    more : Keeps (λ j. (t : ℕ) (u : Update) → update_at j t ≡ Some u → u.client ≡ None → IsMade u.doc j)
    more h e legal may before t u is raw = made_stays u.doc h e (⊎_elim {C = IsMade u.doc h}
        (λ old. before t u old raw)
        (λ new.
        let row : IsSending h u u.client = subst (λ a. IsAllowed h e.seat a) (sent_is e.act u new.1) may in
        let without : IsRawUpdate h u = subst (IsSending h u) raw row in
        without.made)
        (update_new h e t u is))

pub update_made : (j : List Entry) → IsLegal j → (t : ℕ) (u : Update) → update_at j t ≡ Some u → IsMade u.doc j
update_made j legal t u is = by u.client refl
  where
    by : (o : Option ℕ) → u.client ≡ o → IsMade u.doc j
    by None raw = raw_made j legal t u is raw
    by (Some c) own = ((world j legal).counted c t u is own).1

-- nothing was sent to a document that wasn't made
pub unmade_sent : (d : ℕ) (j : List Entry) → IsLegal j → length (makings j) ≤ d → sent d j ≡ []
unmade_sent d j legal high = by (sent d j) (sent_facts d j)
  where
    by : (ts : List ℕ) → All (SentAt d j) ts → ts ≡ []
    by [] all = refl
    by (t ∷ ts) all =
        let s : SentAt d j t = all 0 t (omega arith) in
        let made = update_made j legal t s.0 s.1 in
        let doc = s.2 in absurd (omega (arith, made, doc, high))

-- so nothing waits for it
pub unmade_waits : (d : ℕ) (j : List Entry) → IsLegal j → length (makings j) ≤ d → waiting d j ≡ []
unmade_waits d j legal high = ap (λ l. filter (λ ticket. not (is_in ticket (committed j))) l) (unmade_sent d j legal high)

-- and nothing was applied to it
pub unmade_applied : (d : ℕ) (j : List Entry) → IsLegal j → length (makings j) ≤ d → applied_list d j ≡ []
unmade_applied d j legal high = (world j legal).unmade d high

-- an entry applies at most one operation
pub applied_short : (d : ℕ) (j : List Entry) → length (applied_list d j) ≤ length j
applied_short d = by_end (λ j. length (applied_list d j) ≤ length j) none more
  where
    none : length (applied_list d []) ≤ 0
    none = let l = ap length (applied_list-none d) in omega (arith, l)

    one_item : (ticket : ℕ) (o : Option Update) (outcome : Outcome) → length (item_of ticket o outcome) ≤ 1
    one_item ticket (Some u) (Applied v op) = omega arith
    one_item ticket (Some u) (Refused cause) = omega arith
    one_item ticket (Some u) (Dup v) = omega arith
    one_item ticket None outcome = omega arith

    choice : (b : Bool) (l : List Item) → length l ≤ 1 → length (if b then l else []) ≤ 1
    choice true l le = le
    choice false l le = omega arith

    one : (h : List Entry) (a : Act) → length (items_by d h a) ≤ 1
    one h (Committed doc token ticket outcome) = choice (eqb doc d) (item_of ticket (update_at h ticket) outcome) (one_item ticket (update_at h ticket) outcome)
    one h _ = omega arith

    more : (h : List Entry) (e : Entry) → length (applied_list d h) ≤ length h → length (applied_list d (h ++ e ∷ [])) ≤ length (h ++ e ∷ [])
    more h e le =
        let l = ap length (applied_list-push d h e) ∙ length-append (applied_list d h) (items_by d h e.act) in
        let k = one h e.act in
        let n = length-append h (e ∷ []) in
        omega (arith, l, k, n, le)

-- the first version of a document is within its limit
pub bases_low : (j : List Entry) → IsLegal j → All (λ (m : Making). m.base ≤ highest_base) (makings j)
bases_low = by_last (λ j. All (λ (m : Making). m.base ≤ highest_base) (makings j)) none more
  where
    none : All (λ (m : Making). m.base ≤ highest_base) (makings [])
    none = subst (λ (l : List Making). All (λ (m : Making). m.base ≤ highest_base) l) (sym makings-none) (all_none (λ (m : Making). m.base ≤ highest_base))

    one : (h : List Entry) (seat : ℕ) (a : Act) → IsAllowed h seat a → All (λ (m : Making). m.base ≤ highest_base) (making_of a)
    one h seat (Made doc name project first base) may = all_one (λ (m : Making). m.base ≤ highest_base) _ may.low
    one h seat _ may = all_none (λ (m : Making). m.base ≤ highest_base)

    more : Keeps (λ j. All (λ (m : Making). m.base ≤ highest_base) (makings j))
    more h e legal may all = subst (λ (l : List Making). All (λ (m : Making). m.base ≤ highest_base) l) (sym (makings-push h e)) (All-append (λ (m : Making). m.base ≤ highest_base) (makings h) (making_of e.act) all (one h e.seat e.act may))

base_of : (ms : List Making) (d : ℕ) → All (λ (m : Making). m.base ≤ highest_base) ms → base_in (slice_get ms d) ≤ highest_base
base_of [] d all = omega arith
base_of (m ∷ ms) zero all = all 0 m (omega arith)
base_of (m ∷ ms) (suc d) all = base_of ms d (λ k x h. all (suc k) x (omega arith))

-- a version is the first one and at most one more for each entry
pub version_low : (d : ℕ) (j : List Entry) → IsLegal j → version d j ≤ highest_base + length j
version_low d j legal = let b = base_of (makings j) d (bases_low j legal) in let n = applied_short d j in omega (arith, b, n)
