-- What became of each update: it has one outcome, and an item for it where it was applied.
use Rattle.std.proofs.Common.{◌≡◌, ◌⊎◌, ℕ, suc, ◌<◌, List, [], ◌∷◌, ◌++◌, length, Bool, true, false, true≢false, not, ◌||◌, refl, sym, ap, ap₂, ◌∙◌, subst, inl, inr, ⊎_elim, arith, eqb, eq-eqb, ne_eqb, append-nil, All}
use Rattle.std.specs.Prelude.{Option, Some, None, if◌then◌else◌, filter}
use Rattle.std.proofs.lemmas.Bool.{eqb-true, not-true, or_right, or_left}
use Rattle.std.proofs.lemmas.List.Folds.{list_any-append}
use native.Mathlib.Decide.{ℕ_discrete}
use Rattle.journal_entries.specs.declared.update.Update.{Update}
use Rattle.journal_entries.specs.declared.update.Cause.{Cause}
use Rattle.journal_entries.specs.declared.update.Outcome.{Outcome}
use Rattle.journal_entries.specs.declared.update.Outcome.TheVariants.{Applied, Dup, Refused}
use Rattle.journal_entries.specs.declared.act.Act.{Act}
use Rattle.journal_entries.specs.declared.act.Act.TheVariants.{Committed}
use Rattle.journal_entries.specs.declared.act.Entry.{Entry}
use Rattle.journal_rules.specs.Documents.{Item, item_of, items_by, applied_list, update_of, update_at, ticket_of, committed, sends, sent, waiting, is_in, IsMade}
use Rattle.journal_rules.specs.Legal.{IsAllowed, IsLegal, IsSending}
use Rattle.journal_laws.specs.Once.{IsCopy}
use Rattle.journal_rules.proofs.Pushing.{gathered-push, applied_list-push, applied_list-none, committed-push, committed-none, sent-push}
use Rattle.journal_rules.proofs.Legality.{by_last}
use Rattle.journal_rules.proofs.Waits.{by_end, waits_sent, committed_below, one_if}
use Rattle.journal_rules.proofs.Fencing.{made_stays}
use Rattle.journal_rules.proofs.Lists.{AllIn, AnyIn, all_in-append, all_in_map, any_in_left, any_in_last, some_same}
use Rattle.journal_laws.proofs.Updates.{update_new, Sends, Fresh, Again}
use Rattle.journal_rules.specs.Locks.{clock}
use Rattle.journal_rules.specs.Client.{Client, client}
use Rattle.journal_laws.proofs.World.{sent_is, sent_by_client, well}
use Rattle.journal_laws.proofs.Everything.{world}
use Rattle.journal_laws.proofs.ClientsOn.{if_true, if_false}
use Rattle.journal_laws.proofs.Duplicates.{names_item}
use Rattle.ending_rules.specs.Outcomes.{outcome_of, outcomes}
use Rattle.ending_rules.specs.Rounds.{has_any}
use Rattle.journal_laws.proofs.Joins.{is_in-append}
use Rattle.journal_laws.proofs.Unmade.{update_made}

pub outcomes-push : (t : ℕ) (j : List Entry) (e : Entry) → outcomes t (j ++ e ∷ []) ≡ outcomes t j ++ outcome_of t e.act
unfolding outcomes
outcomes-push t j e = gathered-push (λ before e. outcome_of t e.act) j e

pub outcomes-none : (t : ℕ) → outcomes t [] ≡ []
unfolding outcomes
outcomes-none t = refl

has_any-append : {A : Type 0} (xs ys : List A) → has_any (xs ++ ys) ≡ (has_any xs || has_any ys)
has_any-append [] ys = refl
has_any-append (x ∷ xs) ys = refl

pub has_none : {A : Type 0} (xs : List A) → has_any xs ≡ false → xs ≡ []
has_none [] e = refl
has_none (x ∷ xs) e = absurd (true≢false e)

-- a ticket was committed where it has an outcome
pub committed_has : (t : ℕ) (j : List Entry) → is_in t (committed j) ≡ has_any (outcomes t j)
committed_has t = by_end (λ j. is_in t (committed j) ≡ has_any (outcomes t j)) none more
  where
    none : is_in t (committed []) ≡ has_any (outcomes t [])
    none = ap (is_in t) committed-none ∙ sym (ap has_any (outcomes-none t))

    one : (a : Act) → is_in t (ticket_of a) ≡ has_any (outcome_of t a)
    one (Committed doc token ticket outcome) = go (eqb ticket t)
      where
        go : (b : Bool) → (b || false) ≡ has_any (if b then outcome ∷ [] else [])
        go true = refl
        go false = refl
    one _ = refl

    more : (h : List Entry) (e : Entry) → is_in t (committed h) ≡ has_any (outcomes t h) → is_in t (committed (h ++ e ∷ [])) ≡ has_any (outcomes t (h ++ e ∷ []))
    more h e p =
        ap (is_in t) (committed-push h e) ∙ is_in-append t (committed h) (ticket_of e.act) ∙ ap₂ (λ a b. a || b) p (one e.act)
        ∙ sym (has_any-append (outcomes t h) (outcome_of t e.act)) ∙ sym (ap has_any (outcomes-push t h e))

filter_holds : (p : ℕ → Bool) (t : ℕ) (xs rest : List ℕ) → filter p xs ≡ t ∷ rest → p t ≡ true
filter_holds p t [] rest e = absurd (cc)
filter_holds p t (x ∷ xs) rest e = go (p x) refl (λ f. filter_holds p t xs rest f) e
  where
    go : (b : Bool) → p x ≡ b → (filter p xs ≡ t ∷ rest → p t ≡ true) → (if b then x ∷ filter p xs else filter p xs) ≡ t ∷ rest → p t ≡ true
    go true is later f = let same : x ≡ t = cc in ap p (sym same) ∙ is
    go false is later f = later f

filter_empty : (p : ℕ → Bool) (t : ℕ) (xs : List ℕ) → filter p xs ≡ [] → is_in t xs ≡ true → p t ≡ false
filter_empty p t [] e inside = absurd (true≢false (sym inside))
filter_empty p t (x ∷ xs) e inside = go (p x) refl (λ f i. filter_empty p t xs f i) e
  where
    rest : p x ≡ false → (is_in t xs ≡ true → p t ≡ false) → (b : Bool) → eqb x t ≡ b → p t ≡ false
    rest is later true same = ap p (sym (eqb-true x t same)) ∙ is
    rest is later false apart = later (sym (ap (λ b. b || is_in t xs) apart) ∙ inside)

    go : (b : Bool) → p x ≡ b → (filter p xs ≡ [] → is_in t xs ≡ true → p t ≡ false) → (if b then x ∷ filter p xs else filter p xs) ≡ [] → p t ≡ false
    go true is later f = absurd (cc)
    go false is later f = rest is (λ i. later f i) (eqb x t) refl

not_false : (b : Bool) → not b ≡ false → b ≡ true
not_false true e = refl
not_false false e = absurd (true≢false e)

-- what waits has no outcome
pub waits_open : (d t : ℕ) (j : List Entry) (rest : List ℕ) → waiting d j ≡ t ∷ rest → outcomes t j ≡ []
waits_open d t j rest first =
    let unclosed : is_in t (committed j) ≡ false = not-true (is_in t (committed j)) (filter_holds (λ x. not (is_in x (committed j))) t (sent d j) rest first) in
    has_none (outcomes t j) (sym (committed_has t j) ∙ unclosed)

-- an entry behind an outcome gives no other
pub nothing_new : (t : ℕ) (j : List Entry) (seat : ℕ) (a : Act) (o : Outcome) (more : List Outcome) → IsAllowed j seat a → outcomes t j ≡ o ∷ more → outcome_of t a ≡ []
nothing_new t j seat (Committed doc token ticket outcome) o more may is = go (ℕ_discrete ticket t)
  where
    go : Dec (ticket ≡ t) → outcome_of t (Committed doc token ticket outcome) ≡ []
    go (yes same) = let empty : [] ≡ o ∷ more = sym (waits_open doc t j may.rest (may.first ∙ ap (λ x. x ∷ may.rest) same)) ∙ is in absurd (cc)
    go (no apart) = if_false (eqb ticket t) (outcome ∷ []) [] (ne_eqb ticket t apart)
nothing_new t j seat _ o more may is = refl

pub answer_stays : (t : ℕ) (j : List Entry) (e : Entry) (o : Outcome) (more : List Outcome) → IsAllowed j e.seat e.act → outcomes t j ≡ o ∷ more → outcomes t (j ++ e ∷ []) ≡ o ∷ more
answer_stays t j e o more may is = outcomes-push t j e ∙ ap (λ l. outcomes t j ++ l) (nothing_new t j e.seat e.act o more may is) ∙ append-nil (outcomes t j) ∙ is

-- each ticket has at most one outcome
abbrev pub IsAnswered : ℕ → List Entry → Type 0
IsAnswered t j = (o : Outcome) × (outcomes t j ≡ o ∷ [])

one_at_most : (t : ℕ) (a : Act) → (outcome_of t a ≡ []) ⊎ ((o : Outcome) × (outcome_of t a ≡ o ∷ []))
one_at_most t (Committed doc token ticket outcome) = go (eqb ticket t)
  where
    go : (b : Bool) → ((if b then outcome ∷ [] else []) ≡ []) ⊎ ((o : Outcome) × ((if b then outcome ∷ [] else []) ≡ o ∷ []))
    go true = inr (outcome, refl)
    go false = inl refl
one_at_most t _ = inl refl

pub answered_once : (t : ℕ) (j : List Entry) → IsLegal j → (outcomes t j ≡ []) ⊎ IsAnswered t j
answered_once t = by_last (λ j. (outcomes t j ≡ []) ⊎ IsAnswered t j) (inl (outcomes-none t)) (λ h e legal may p. ⊎_elim {C = (outcomes t (h ++ e ∷ []) ≡ []) ⊎ IsAnswered t (h ++ e ∷ [])}
    (λ none. ⊎_elim {C = (outcomes t (h ++ e ∷ []) ≡ []) ⊎ IsAnswered t (h ++ e ∷ [])}
    (λ nothing. inl (outcomes-push t h e ∙ ap₂ (λ x y. x ++ y) none nothing))
    (λ one. inr (one.0, outcomes-push t h e ∙ ap₂ (λ x y. x ++ y) none one.1))
    (one_at_most t e.act))
    (λ one. inr (one.0, answer_stays t h e one.0 [] may one.1))
    p)

-- an act that gives an outcome commits the ticket
pub record Commits (t : ℕ) (o : Outcome) (a : Act) : Type 0 where
  pub doc : ℕ
  pub token : ℕ
  pub is : a ≡ Committed doc token t o

pub gives_commits : (t : ℕ) (o : Outcome) (a : Act) → outcome_of t a ≡ o ∷ [] → Commits t o a
gives_commits t o (Committed doc token ticket outcome) e = go (ℕ_discrete ticket t)
  where
    go : Dec (ticket ≡ t) → Commits t o (Committed doc token ticket outcome)
    go (yes same) =
        let one : outcome ∷ [] ≡ o ∷ [] = sym (if_true (eqb ticket t) (outcome ∷ []) [] (eq-eqb ticket t same)) ∙ e in
        let out : outcome ≡ o = cc in
        record { doc = doc; token = token; is = ap₂ (λ n x. Committed doc token n x) same out }
    go (no apart) = let none : [] ≡ o ∷ [] = sym (if_false (eqb ticket t) (outcome ∷ []) [] (ne_eqb ticket t apart)) ∙ e in absurd (cc)
gives_commits t o _ e = absurd (cc)

-- no outcome stands for a ticket that is still to come
below_not : (t : ℕ) (xs : List ℕ) → All (λ x. x < t) xs → is_in t xs ≡ false
below_not t [] all = refl
below_not t (x ∷ xs) all =
    let apart : eqb x t ≡ false = ne_eqb x t (λ same. let l = all 0 x (omega arith) in omega (arith, l, same)) in
    ap (λ b. b || is_in t xs) apart ∙ below_not t xs (λ k d h. all (suc k) d (omega arith))

pub new_open : (h : List Entry) (e : Entry) (u : Update) → IsLegal h → update_of e.act ≡ Some u → outcomes (length h) (h ++ e ∷ []) ≡ []
new_open h e u legal is =
    let old : outcomes (length h) h ≡ [] = has_none (outcomes (length h) h) (sym (committed_has (length h) h) ∙ below_not (length h) (committed h) (committed_below h legal)) in
    outcomes-push (length h) h e ∙ ap₂ (λ x y. x ++ y) old (ap (outcome_of (length h)) (sent_is e.act u is))

-- ---- what waits, and what was sent
pub sent_has : (j : List Entry) (t : ℕ) (u : Update) → update_at j t ≡ Some u → is_in t (sent u.doc j) ≡ true
sent_has = by_end (λ j. (t : ℕ) (u : Update) → update_at j t ≡ Some u → is_in t (sent u.doc j) ≡ true) none more
  where
    none : (t : ℕ) (u : Update) → update_at [] t ≡ Some u → is_in t (sent u.doc []) ≡ true
    none t u e = let f : None ≡ Some u = e in absurd (cc)

    more : (h : List Entry) (e : Entry) → ((t : ℕ) (u : Update) → update_at h t ≡ Some u → is_in t (sent u.doc h) ≡ true) → (t : ℕ) (u : Update) → update_at (h ++ e ∷ []) t ≡ Some u → is_in t (sent u.doc (h ++ e ∷ [])) ≡ true
    more h e p t u known =
        let cut : is_in t (sent u.doc (h ++ e ∷ [])) ≡ (is_in t (sent u.doc h) || is_in t (one_if (sends u.doc e.act) (length h))) = ap (is_in t) (sent-push u.doc h e) ∙ is_in-append t (sent u.doc h) (one_if (sends u.doc e.act) (length h)) in
        cut ∙ ⊎_elim {C = (is_in t (sent u.doc h) || is_in t (one_if (sends u.doc e.act) (length h))) ≡ true}
        (λ old. or_left (is_in t (sent u.doc h)) (is_in t (one_if (sends u.doc e.act) (length h))) (p t u old))
        (λ new. or_right (is_in t (sent u.doc h)) (is_in t (one_if (sends u.doc e.act) (length h)))
        (let yes_it : sends u.doc e.act ≡ true = ap (sends u.doc) (sent_is e.act u new.1) ∙ eq-eqb u.doc u.doc refl in
        ap (λ b. is_in t (one_if b (length h))) yes_it ∙ or_left (eqb (length h) t) false (eq-eqb (length h) t (sym new.0))))
        (update_new h e t u known)

-- where nothing waits for its document, an update has its outcome
pub drained_answered : (j : List Entry) → IsLegal j → (t : ℕ) (u : Update) → update_at j t ≡ Some u → waiting u.doc j ≡ [] → IsAnswered t j
drained_answered j legal t u known none =
    let closed : is_in t (committed j) ≡ true = not_false (is_in t (committed j)) (filter_empty (λ x. not (is_in x (committed j))) t (sent u.doc j) none (sent_has j t u known)) in
    ⊎_elim {C = IsAnswered t j}
    (λ unclosed. absurd (true≢false (sym (sym (ap has_any unclosed) ∙ sym (committed_has t j) ∙ closed))))
    (λ one. one)
    (answered_once t j legal)

-- ---- items and outcomes
abbrev pub HasOutcome : List Entry → Item → Type 0
HasOutcome j x = outcomes x.ticket j ≡ Applied x.v x.op ∷ []

pub items_answered : (d : ℕ) (j : List Entry) → IsLegal j → AllIn (HasOutcome j) (applied_list d j)
items_answered d = by_last (λ j. AllIn (HasOutcome j) (applied_list d j)) none more
  where
    none : AllIn (HasOutcome []) (applied_list d [])
    none = subst (λ (l : List Item). AllIn (HasOutcome []) l) (sym (applied_list-none d)) tt

    one : (h : List Entry) (e : Entry) → IsAllowed h e.seat e.act → (a : Act) → e.act ≡ a → AllIn (HasOutcome (h ++ e ∷ [])) (items_by d h a)
    one h e may (Committed doc token ticket outcome) is = go (eqb doc d) (update_at h ticket) outcome refl
      where
        row : IsAllowed h e.seat (Committed doc token ticket outcome)
        row = subst (λ a. IsAllowed h e.seat a) is may

        new : (o : Outcome) → outcome ≡ o → outcomes ticket (h ++ e ∷ []) ≡ o ∷ []
        new o o_is =
            outcomes-push ticket h e
            ∙ ap₂ (λ x y. x ++ y) (waits_open doc ticket h row.rest row.first) (ap (outcome_of ticket) is ∙ if_true (eqb ticket ticket) (outcome ∷ []) [] (eq-eqb ticket ticket refl) ∙ ap (λ y. y ∷ []) o_is)

        go : (b : Bool) (at : Option Update) (o : Outcome) → outcome ≡ o → AllIn (HasOutcome (h ++ e ∷ [])) (if b then item_of ticket at o else [])
        go false at o o_is = tt
        go true None o o_is = tt
        go true (Some u) (Applied v op) o_is = (new (Applied v op) o_is, tt)
        go true (Some u) (Dup v) o_is = tt
        go true (Some u) (Refused cause) o_is = tt
    one h e may _ is = tt

    more : (h : List Entry) (e : Entry) → IsLegal h → IsAllowed h e.seat e.act → AllIn (HasOutcome h) (applied_list d h) → AllIn (HasOutcome (h ++ e ∷ [])) (applied_list d (h ++ e ∷ []))
    more h e legal may all = subst (λ (l : List Item). AllIn (HasOutcome (h ++ e ∷ [])) l) (sym (applied_list-push d h e))
        (all_in-append (HasOutcome (h ++ e ∷ [])) (applied_list d h) (items_by d h e.act)
        (all_in_map (HasOutcome h) (HasOutcome (h ++ e ∷ [])) (applied_list d h) (λ x p. answer_stays x.ticket h e (Applied x.v x.op) [] may p) all)
        (one h e may e.act refl))

-- an update of a client is refused, or an item is a copy of it
abbrev pub IsRefusal : Outcome → Type 0
IsRefusal o = (cause : Cause) × (o ≡ Refused cause)

abbrev pub HasFate : List Entry → Type 0
HasFate j = (t c : ℕ) (u : Update) (o : Outcome) → update_at j t ≡ Some u → u.client ≡ Some c → outcomes t j ≡ o ∷ [] → IsRefusal o ⊎ AnyIn (IsCopy c u.number) (applied_list u.doc j)

any_in_right : {A : Type 0} (P : A → Type 0) (xs ys : List A) → AnyIn P ys → AnyIn P (xs ++ ys)
any_in_right P [] ys a = a
any_in_right P (x ∷ xs) ys a = inr (any_in_right P xs ys a)

pub fates : (j : List Entry) → IsLegal j → HasFate j
fates = by_last HasFate none more
  where
    none : HasFate []
    none t c u o known own is = let f : [] ≡ o ∷ [] = sym (outcomes-none t) ∙ is in absurd (cc)

    more : (h : List Entry) (e : Entry) → IsLegal h → IsAllowed h e.seat e.act → HasFate h → HasFate (h ++ e ∷ [])
    more h e legal may p t c u o known own is = ⊎_elim {C = Out}
        (λ old. ⊎_elim {C = Out}
        (λ unclosed. fresh old (gives_commits t o e.act (sym (ap (λ l. l ++ outcome_of t e.act) unclosed) ∙ sym (outcomes-push t h e) ∙ is)))
        (λ one.
        let same : one.0 ∷ [] ≡ o ∷ [] = sym (answer_stays t h e one.0 [] may one.1) ∙ is in
        let out : one.0 ≡ o = cc in
        ⊎_elim {C = Out} (λ r. inl r) (λ any. inr (grown any)) (p t c u o old own (one.1 ∙ ap (λ y. y ∷ []) out)))
        (answered_once t h legal))
        (λ new. let f : [] ≡ o ∷ [] = sym (new_open h e u legal new.1) ∙ ap (λ n. outcomes n (h ++ e ∷ [])) (sym new.0) ∙ is in absurd (cc))
        (update_new h e t u known)
      where
        Out : Type 0
        Out = IsRefusal o ⊎ AnyIn (IsCopy c u.number) (applied_list u.doc (h ++ e ∷ []))

        grown : AnyIn (IsCopy c u.number) (applied_list u.doc h) → AnyIn (IsCopy c u.number) (applied_list u.doc (h ++ e ∷ []))
        grown any = subst (AnyIn (IsCopy c u.number)) (sym (applied_list-push u.doc h e)) (any_in_left (IsCopy c u.number) (applied_list u.doc h) (items_by u.doc h e.act) any)

        fresh : update_at h t ≡ Some u → Commits t o e.act → Out
        fresh old k = by o refl
          where
            row : IsAllowed h e.seat (Committed k.doc k.token t o)
            row = subst (λ a. IsAllowed h e.seat a) k.is may

            doc_is : u.doc ≡ k.doc
            doc_is = let s = waits_sent k.doc t h row.rest row.first in ap (λ (y : Update). y.doc) (some_same u s.0 (sym old ∙ s.1)) ∙ s.2

            by : (p : Outcome) → o ≡ p → Out
            by (Applied v op) o_is =
                let x : Item = record { op = op; v = v; ticket = t; update = u } in
                let items : items_by u.doc h e.act ≡ x ∷ [] =
                ap (items_by u.doc h) (k.is ∙ ap (λ y. Committed k.doc k.token t y) o_is)
                ∙ if_true (eqb k.doc u.doc) (item_of t (update_at h t) (Applied v op)) [] (eq-eqb k.doc u.doc (sym doc_is))
                ∙ ap (λ y. item_of t y (Applied v op)) old in
                let any : AnyIn (IsCopy c u.number) (applied_list u.doc h ++ x ∷ []) = any_in_last (IsCopy c u.number) (applied_list u.doc h) x (own, refl) in
                inr (subst (AnyIn (IsCopy c u.number)) (ap (λ l. applied_list u.doc h ++ l) (sym items) ∙ sym (applied_list-push u.doc h e)) any)
            by (Dup v) o_is =
                let dup : IsAllowed h e.seat (Committed k.doc k.token t (Dup v)) = subst (λ y. IsAllowed h e.seat (Committed k.doc k.token t y)) o_is row in
                let n = names_item h legal e.seat k.doc k.token t v dup u old c own in
                let there : AnyIn (IsCopy c u.number) (n.before ++ n.item ∷ n.after) = any_in_right (IsCopy c u.number) n.before (n.item ∷ n.after) (inl n.copy) in
                inr (grown (subst (AnyIn (IsCopy c u.number)) (sym n.stands ∙ ap (λ d. applied_list d h) (sym doc_is)) there))
            by (Refused cause) o_is = inl (cause, o_is)
