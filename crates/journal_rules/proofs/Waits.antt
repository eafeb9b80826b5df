-- What waits after one entry more.
use Rattle.std.proofs.Common.{◌≡◌, ◌≢◌, ℕ, zero, suc, ◌+◌, ◌<◌, ◌≤◌, List, [], ◌∷◌, ◌++◌, length, Bool, true, false, true≢false, not, ◌||◌, cond, refl, sym, ap, ◌∙◌, subst, arith, eqb, eq-eqb, ne_eqb, get_or, append-nil, append_assoc, length-append, All}
use Rattle.std.specs.Prelude.{filter, if◌then◌else◌, slice_get, Option, Some, None}
use Rattle.std.specs.Option.{unwrap_or}
use Rattle.std.specs.List.{list_any}
use Rattle.std.proofs.lemmas.Bool.{eqb-true}
use Rattle.std.proofs.lemmas.Option.{slice_get_within}
use Rattle.std.proofs.lemmas.List.Elements.{filter-append, All-append}
use Rattle.std.proofs.lemmas.List.Folds.{list_any-append}
use Rattle.journal_entries.specs.declared.update.Update.{Update}
use Rattle.journal_entries.specs.declared.act.Act.{Act}
use Rattle.journal_entries.specs.declared.act.Act.TheVariants.{Sent, Committed}
use Rattle.journal_entries.specs.declared.act.Entry.{Entry}
use Rattle.journal_rules.specs.Documents.{update_of, update_in, update_at, sends, sent, ticket_of, committed, waiting, is_in}
use Rattle.journal_rules.specs.Legal.{IsAllowed, IsLegal}
use Rattle.journal_rules.proofs.Pushing.{sent-push, committed-push, sent-none, committed-none}
use Rattle.journal_rules.proofs.Legality.{front, seam, Keeps, by_last}
use Rattle.journal_rules.proofs.Rising.{RisesFrom, filter_rest, filter_on, first_of}

pub all_map : {X : Type 0} (P Q : X → Type 0) (xs : List X) → ((x : X) → P x → Q x) → All P xs → All Q xs
all_map P Q xs f all k d h = f (get_or xs k d) (all k d h)

pub all_none : {X : Type 0} (P : X → Type 0) → All P []
all_none P k d h = absurd (omega arith)

pub all_one : {X : Type 0} (P : X → Type 0) (x : X) → P x → All P (x ∷ [])
all_one P x p zero d h = p
all_one P x p (suc k) d h = absurd (omega arith)

-- induction by the last entry of any journal
behind : (P : List Entry → Type 0) → ((h : List Entry) (e : Entry) → P h → P (h ++ e ∷ [])) → (es h : List Entry) → P h → P (h ++ es)
behind P step [] h p = subst P (sym (append-nil h)) p
behind P step (e ∷ es) h p = subst P (append_assoc h (e ∷ []) es) (behind P step es (h ++ e ∷ []) (step h e p))

pub by_end : (P : List Entry → Type 0) → P [] → ((h : List Entry) (e : Entry) → P h → P (h ++ e ∷ [])) → (j : List Entry) → P j
by_end P start step j = behind P step j [] start

-- an update stays where it was
pub update_stays : (j more : List Entry) (t : ℕ) (u : Update) → update_at j t ≡ Some u → update_at (j ++ more) t ≡ Some u
update_stays j more t u e = go (slice_get j t) refl e
  where
    go : (o : Option Entry) → slice_get j t ≡ o → update_in o ≡ Some u → update_at (j ++ more) t ≡ Some u
    go None h f = absurd (cc)
    go (Some x) h f = ap update_in (front j more t x h) ∙ f

pub update_within : (j : List Entry) (t : ℕ) (u : Update) → update_at j t ≡ Some u → t < length j
update_within j t u e = go (slice_get j t) refl e
  where
    go : (o : Option Entry) → slice_get j t ≡ o → update_in o ≡ Some u → t < length j
    go None h f = absurd (cc)
    go (Some x) h f = slice_get_within j t x h

-- the ticket is that of something that was sent to the document
abbrev pub SentAt : ℕ → List Entry → ℕ → Type 0
SentAt d j t = (u : Update) × (update_at j t ≡ Some u) × (u.doc ≡ d)

abbrev pub one_if : Bool → ℕ → List ℕ
one_if b n = if b then n ∷ [] else []

all_if : (P : ℕ → Type 0) (b : Bool) (n : ℕ) → (b ≡ true → P n) → All P (one_if b n)
all_if P true n p = all_one P n (p refl)
all_if P false n p = all_none P

sends_at : (d : ℕ) (j : List Entry) (e : Entry) → sends d e.act ≡ true → SentAt d (j ++ e ∷ []) (length j)
sends_at d j e is = by e.act refl is
  where
    by : (a : Act) → e.act ≡ a → sends d a ≡ true → SentAt d (j ++ e ∷ []) (length j)
    by (Sent u) h s = (u, ap update_in (seam j e []) ∙ ap update_of h, eqb-true u.doc d s)
    by _ h s = absurd (true≢false (sym s))

pub sent_facts : (d : ℕ) (j : List Entry) → All (SentAt d j) (sent d j)
sent_facts d = by_end (λ j. All (SentAt d j) (sent d j)) none more
  where
    none : All (SentAt d []) (sent d [])
    none = subst (λ (l : List ℕ). All (SentAt d []) l) (sym (sent-none d)) (all_none (SentAt d []))

    more : (h : List Entry) (e : Entry) → All (SentAt d h) (sent d h) → All (SentAt d (h ++ e ∷ [])) (sent d (h ++ e ∷ []))
    more h e all = subst (λ (l : List ℕ). All (SentAt d (h ++ e ∷ [])) l) (sym (sent-push d h e))
        (All-append (SentAt d (h ++ e ∷ [])) (sent d h) (one_if (sends d e.act) (length h))
        (all_map (SentAt d h) (SentAt d (h ++ e ∷ [])) (sent d h) (λ t s. (s.0, update_stays h (e ∷ []) t s.0 s.1, s.2)) all)
        (all_if (SentAt d (h ++ e ∷ [])) (sends d e.act) (length h) (sends_at d h e)))

rises-push : (n y : ℕ) (xs : List ℕ) → RisesFrom n xs → All (λ x. x < y) xs → n ≤ y → RisesFrom n (xs ++ y ∷ [])
rises-push n y [] r all le = (le, tt)
rises-push n y (x ∷ xs) r all le = (r.0, rises-push (x + 1) y xs r.1 (λ k d h. all (suc k) d (omega arith)) (let b = all 0 x (omega arith) in omega (arith, b)))

pub sent_below : (d : ℕ) (j : List Entry) → All (λ t. t < length j) (sent d j)
sent_below d j = all_map (SentAt d j) (λ t. t < length j) (sent d j) (λ t s. update_within j t s.0 s.1) (sent_facts d j)

pub sent_rises : (d : ℕ) (j : List Entry) → RisesFrom 0 (sent d j)
sent_rises d = by_end (λ j. RisesFrom 0 (sent d j)) none more
  where
    none : RisesFrom 0 (sent d [])
    none = subst (RisesFrom 0) (sym (sent-none d)) tt

    by : (h : List Entry) (b : Bool) → RisesFrom 0 (sent d h) → RisesFrom 0 (sent d h ++ one_if b (length h))
    by h true r = rises-push 0 (length h) (sent d h) r (sent_below d h) (omega arith)
    by h false r = subst (RisesFrom 0) (sym (append-nil (sent d h))) r

    more : (h : List Entry) (e : Entry) → RisesFrom 0 (sent d h) → RisesFrom 0 (sent d (h ++ e ∷ []))
    more h e r = subst (RisesFrom 0) (sym (sent-push d h e)) (by h (sends d e.act) r)

-- whether a ticket waits, by the tickets that were committed
abbrev pub open_in : List ℕ → ℕ → Bool
open_in tickets t = not (is_in t tickets)

-- what waits was sent
pub waits_sent : (d t : ℕ) (j : List Entry) (rest : List ℕ) → waiting d j ≡ t ∷ rest → SentAt d j t
waits_sent d t j rest first = first_of (SentAt d j) (open_in (committed j)) t (sent d j) rest (sent_facts d j) first

pub waits_within : (d t : ℕ) (j : List Entry) (rest : List ℕ) → waiting d j ≡ t ∷ rest → t < length j
waits_within d t j rest first = let s = waits_sent d t j rest first in update_within j t s.0 s.1

pub committed_below : (j : List Entry) → IsLegal j → All (λ t. t < length j) (committed j)
committed_below = by_last (λ j. All (λ t. t < length j) (committed j)) none more
  where
    none : All (λ t. t < 0) (committed [])
    none = subst (λ (l : List ℕ). All (λ t. t < 0) l) (sym committed-none) (all_none (λ t. t < 0))

    one : (h : List Entry) (seat : ℕ) (a : Act) → IsAllowed h seat a → All (λ t. t < length h + 1) (ticket_of a)
    one h seat (Committed doc token ticket outcome) may = all_one (λ t. t < length h + 1) ticket (let l = waits_within doc ticket h may.rest may.first in omega (arith, l))
    one h seat _ may = all_none (λ t. t < length h + 1)

    more : Keeps (λ j. All (λ t. t < length j) (committed j))
    more h e legal may all =
        let long : length (h ++ e ∷ []) ≡ length h + 1 = length-append h (e ∷ []) in
        subst (λ (l : List ℕ). All (λ t. t < length (h ++ e ∷ [])) l) (sym (committed-push h e))
        (All-append (λ t. t < length (h ++ e ∷ [])) (committed h) (ticket_of e.act)
        (all_map (λ t. t < length h) (λ t. t < length (h ++ e ∷ [])) (committed h) (λ t l. omega (arith, l, long)) all)
        (all_map (λ t. t < length h + 1) (λ t. t < length (h ++ e ∷ [])) (ticket_of e.act) (λ t l. omega (arith, l, long)) (one h e.seat e.act may)))

-- an entry that commits nothing
pub waiting-more : (d : ℕ) (j : List Entry) (e : Entry) → All (λ t. t < length j) (committed j) → ticket_of e.act ≡ [] → waiting d (j ++ e ∷ []) ≡ waiting d j ++ one_if (sends d e.act) (length j)
waiting-more d j e below none =
    let same : committed (j ++ e ∷ []) ≡ committed j = committed-push j e ∙ ap (λ l. committed j ++ l) none ∙ append-nil (committed j) in
    ap (λ l. filter (open_in (committed (j ++ e ∷ []))) l) (sent-push d j e)
    ∙ ap (λ c. filter (open_in c) (sent d j ++ one_if (sends d e.act) (length j))) same
    ∙ filter-append (open_in (committed j)) (sent d j) (one_if (sends d e.act) (length j))
    ∙ ap (λ l. waiting d j ++ l) (by (sends d e.act))
  where
    new : (ts : List ℕ) (n : ℕ) → All (λ (t : ℕ). t < n) ts → open_in ts n ≡ true
    new [] n all = refl
    new (t ∷ ts) n all =
        let h : eqb t n ≡ false = ne_eqb t n (λ is. let b = all 0 0 (omega arith) in omega (arith, b, is)) in
        ap (λ b. not (b || list_any (λ c. eqb c n) ts)) h ∙ new ts n (λ i d lt. all (suc i) d (omega arith))

    by : (b : Bool) → filter (open_in (committed j)) (one_if b (length j)) ≡ one_if b (length j)
    by true = ap (λ b. cond b (length j ∷ []) []) (new (committed j) (length j) below)
    by false = refl

-- the tests before and after a ticket was committed
open-else : (ts : List ℕ) (t x : ℕ) → x ≢ t → open_in ts x ≡ open_in (ts ++ t ∷ []) x
open-else ts t x apart =
    let h : eqb t x ≡ false = ne_eqb t x (λ e. apart (sym e)) in
    ap not (sym (list_any-append (λ c. eqb c x) ts (t ∷ []) ∙ ap (λ b. list_any (λ c. eqb c x) ts || (b || false)) h ∙ or_false (list_any (λ c. eqb c x) ts)))
  where
    or_false : (b : Bool) → (b || (false || false)) ≡ b
    or_false true = refl
    or_false false = refl

open-here : (ts : List ℕ) (t : ℕ) → open_in (ts ++ t ∷ []) t ≡ false
open-here ts t =
    ap not (list_any-append (λ c. eqb c t) ts (t ∷ []) ∙ ap (λ b. list_any (λ c. eqb c t) ts || (b || false)) (eq-eqb t t refl) ∙ or_true (list_any (λ c. eqb c t) ts))
  where
    or_true : (b : Bool) → (b || (true || false)) ≡ true
    or_true true = refl
    or_true false = refl

-- the document whose first ticket was committed
pub waiting-committed : (d : ℕ) (j : List Entry) (e : Entry) (t : ℕ) (rest : List ℕ) → sends d e.act ≡ false → ticket_of e.act ≡ t ∷ [] → waiting d j ≡ t ∷ rest → waiting d (j ++ e ∷ []) ≡ rest
waiting-committed d j e t rest unsent ticket first =
    ap (λ l. filter (open_in (committed (j ++ e ∷ []))) l) (sent-push d j e ∙ ap (λ b. sent d j ++ one_if b (length j)) unsent ∙ append-nil (sent d j))
    ∙ ap (λ c. filter (open_in c) (sent d j)) (committed-push j e ∙ ap (λ l. committed j ++ l) ticket)
    ∙ filter_rest (open_in (committed j)) (open_in (committed j ++ t ∷ [])) t 0 (sent d j) rest (sent_rises d j) (λ x apart. open-else (committed j) t x apart) (open-here (committed j) t) first

-- another document keeps what waits
pub waiting-committed_other : (k d : ℕ) (j : List Entry) (e : Entry) (t : ℕ) (rest : List ℕ) → k ≢ d → sends k e.act ≡ false → ticket_of e.act ≡ t ∷ [] → waiting d j ≡ t ∷ rest → waiting k (j ++ e ∷ []) ≡ waiting k j
waiting-committed_other k d j e t rest apart unsent ticket first =
    let mine : SentAt d j t = waits_sent d t j rest first in
    ap (λ l. filter (open_in (committed (j ++ e ∷ []))) l) (sent-push k j e ∙ ap (λ b. sent k j ++ one_if b (length j)) unsent ∙ append-nil (sent k j))
    ∙ ap (λ c. filter (open_in c) (sent k j)) (committed-push j e ∙ ap (λ l. committed j ++ l) ticket)
    ∙ sym (filter_on (open_in (committed j)) (open_in (committed j ++ t ∷ [])) (sent k j)
    (all_map (SentAt k j) (λ (x : ℕ). open_in (committed j) x ≡ open_in (committed j ++ t ∷ []) x) (sent k j)
    (λ x s. open-else (committed j) t x (λ same.
    let u : Some s.0 ≡ Some mine.0 = sym s.1 ∙ ap (update_at j) same ∙ mine.1 in
    let is : s.0 ≡ mine.0 = ap (λ o. unwrap_or o s.0) u in
    apart (sym s.2 ∙ ap (λ (x : Update). x.doc) is ∙ mine.2)))
    (sent_facts k j)))

pub waits_still : (d : ℕ) (j : List Entry) (e : Entry) → IsLegal j → ticket_of e.act ≡ [] → sends d e.act ≡ false → waiting d (j ++ e ∷ []) ≡ waiting d j
waits_still d j e legal none unsent = waiting-more d j e (committed_below j legal) none ∙ ap (λ b. waiting d j ++ one_if b (length j)) unsent ∙ append-nil (waiting d j)

-- a source that is looked for in another list of the same
pub source_sought : (x : ℕ) (dup sought : List ℕ) (found b : Bool) → found ≡ is_in x sought → sought ≡ dup → found ≡ b → is_in x dup ≡ b
source_sought x dup sought found b is same e = sym (is ∙ ap (is_in x) same) ∙ e
