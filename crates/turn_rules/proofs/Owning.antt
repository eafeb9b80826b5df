-- Journals whose entries are each by an owner: how they grow, and that an owner knows what is written for its clients.
use Rattle.std.proofs.Common.{◌≡◌, ◌≢◌, ◌⊎◌, inl, inr, ℕ, zero, suc, ◌<◌, ◌==◌, List, [], ◌∷◌, ◌++◌, length, Bool, true, false, not, ◌||◌, true≢false, refl, sym, ap, ap₂, ◌∙◌, subst, arith, eqb, eq-eqb, eqb-true, ne_eqb, append-nil, append_assoc, length-append}
use Rattle.std.specs.Prelude.{Option, Some, None, if◌then◌else◌}
use Rattle.std.specs.List.{list_all}
use Rattle.std.proofs.lemmas.Bool.Decides.{eqb_tells}
use Rattle.std.proofs.lemmas.Bool.{and_parts, not-true, or_cases}
use Rattle.std.proofs.lemmas.List.Folds.{list_any-append}
use Rattle.std.proofs.lemmas.Nat.{mod_below}
use Rattle.journal_entries.specs.declared.act.Act.{Act}
use Rattle.journal_entries.specs.declared.act.Act.TheVariants.{Joined, Edited, Sent, Got, Left, Closed}
use Rattle.journal_entries.specs.declared.act.Entry.{Entry}
use Rattle.journal_rules.specs.Client.{Client, client, client_by, edited_by, got_by, is_of, joined_by, left_by, sent_by}
use Rattle.journal_rules.specs.Documents.{is_in}
use Rattle.journal_rules.specs.Legal.{closed, closed_by}
use Rattle.journal_rules.specs.Mail.{mail}
use Rattle.journal_rules.proofs.Lists.{some_same}
use Rattle.journal_rules.proofs.Pushing.{client-push, closed-push}
use Rattle.turn_rules.specs.Owning.{IsByOwner, IsOwned, MayWriteFor, client_driver, client_of, client_owner, driver_count, driver_owner}
use Rattle.turn_rules.specs.Turns.{Among, entry_by, is_by}

-- ---- the drivers that have closed
pub closed_more : (driver : ℕ) (j : List Entry) (e : Entry) → is_in driver (closed (j ++ e ∷ [])) ≡ (is_in driver (closed j) || is_in driver (closed_by e.act))
closed_more driver j e = ap (is_in driver) (closed-push j e) ∙ list_any-append (λ y. y == driver) (closed j) (closed_by e.act)

pub closed_behind : (driver : ℕ) (j more : List Entry) → is_in driver (closed j) ≡ true → is_in driver (closed (j ++ more)) ≡ true
closed_behind driver j [] is = subst (λ (k : List Entry). is_in driver (closed k) ≡ true) (sym (append-nil j)) is
closed_behind driver j (e ∷ es) is =
    subst (λ (k : List Entry). is_in driver (closed k) ≡ true) (append_assoc j (e ∷ []) es)
    (closed_behind driver (j ++ e ∷ []) es (closed_more driver j e ∙ ap (λ (b : Bool). b || is_in driver (closed_by e.act)) is))

-- who may write for a client may do so later
pub may_write_later : (drivers drivers' : ℕ) (j k more : List Entry) (seat c : ℕ) → drivers' ≡ drivers → k ≡ j ++ more → MayWriteFor drivers j seat c → MayWriteFor drivers' k seat c
may_write_later drivers drivers' j k more seat c same longer may = subst (λ (l : List Entry). MayWriteFor drivers' l seat c) (sym longer) (subst (λ d. MayWriteFor d (j ++ more) seat c) (sym same) (on may))
  where
    on : MayWriteFor drivers j seat c → MayWriteFor drivers (j ++ more) seat c
    on (inl own) = inl own
    on (inr last) = inr (last.0, λ driver low. closed_behind driver j more (last.1 driver low))

-- on one thread seat 0 writes for all clients
pub one_thread_writes : (drivers : ℕ) (j : List Entry) (seat c : ℕ) → drivers ≡ 0 → seat ≡ 0 → MayWriteFor drivers j seat c
one_thread_writes drivers j seat c alone first = inl (first ∙ sym (ap (λ d. client_owner d c) alone))

-- ---- journals that grow
-- a list with one item more, cut at an item: that one, or one of the list
last_cut : {A : Type 0} (xs : List A) (y : A) (before : List A) (x : A) (after : List A) → xs ++ y ∷ [] ≡ before ++ x ∷ after → ((xs ≡ before) × (y ≡ x)) ⊎ ((rest : List A) × (xs ≡ before ++ x ∷ rest))
last_cut [] y [] x after is = inl (refl, cc)
last_cut [] y (b ∷ bs) x after is = let n = ap length is in let m = length-append bs (x ∷ after) in absurd (omega (arith, n, m))
last_cut (z ∷ zs) y [] x after is = let same : z ≡ x = cc in inr (zs, ap (λ v. v ∷ zs) same)
last_cut (z ∷ zs) y (b ∷ bs) x after is =
    let same : z ≡ b = cc in
    let rest : zs ++ y ∷ [] ≡ bs ++ x ∷ after = cc in
    elim (last_cut zs y bs x after rest) as (λ _. ((z ∷ zs ≡ b ∷ bs) × (y ≡ x)) ⊎ ((rest : List _) × (z ∷ zs ≡ b ∷ bs ++ x ∷ rest)))
    [ inl h ↦ inl (ap₂ (λ v l. v ∷ l) same h.0, h.1) | inr h ↦ inr (h.0, ap₂ (λ v l. v ∷ l) same h.1) ]

pub owned_none : (drivers : ℕ) → IsOwned drivers []
owned_none drivers [] e after is = absurd (cc)
owned_none drivers (x ∷ xs) e after is = absurd (cc)

pub owned_push : (drivers : ℕ) (j : List Entry) (e : Entry) → IsOwned drivers j → IsByOwner drivers j e.seat e.act → IsOwned drivers (j ++ e ∷ [])
owned_push drivers j e owned own before x after is = by (last_cut j e before x after is)
  where
    by : ((j ≡ before) × (e ≡ x)) ⊎ ((rest : List Entry) × (j ≡ before ++ x ∷ rest)) → IsByOwner drivers before x.seat x.act
    by (inl h) = subst (λ (y : Entry). IsByOwner drivers before y.seat y.act) h.1 (subst (λ (k : List Entry). IsByOwner drivers k e.seat e.act) h.0 own)
    by (inr h) = owned before x h.0 h.1

pub owned_same : {drivers : ℕ} (before after : List Entry) → after ≡ before → IsOwned drivers before → IsOwned drivers after
owned_same {drivers} before after same was = subst (IsOwned drivers) (sym same) was

pub owned_by : {drivers : ℕ} (before mid after : List Entry) (seat : ℕ) (line : Option ℕ) (act : Act) (e : Entry) → e ≡ entry_by seat line act → mid ≡ before → after ≡ mid ++ e ∷ [] → IsByOwner drivers before seat act → IsOwned drivers before → IsOwned drivers after
owned_by {drivers} before mid after seat line act e e_is same more own was =
    subst (IsOwned drivers) (sym (more ∙ ap₂ (λ (l : List Entry) (x : Entry). l ++ x ∷ []) same e_is)) (owned_push drivers before (entry_by seat line act) was own)

-- an act of no client that closes no driver
pub own_other : {drivers : ℕ} (before : List Entry) (seat : ℕ) (act : Act) → client_of act ≡ None → closed_by act ≡ [] → IsByOwner drivers before seat act
own_other before seat act of_none closes_none = record {
  writes = λ c is. absurd (let f : None ≡ Some c = sym of_none ∙ is in cc);
  closes = λ driver is. absurd (true≢false (sym is ∙ ap (is_in driver) closes_none));
}

-- an act of one client that closes no driver
pub own_client : {drivers : ℕ} (before : List Entry) (seat c : ℕ) (act : Act) → client_of act ≡ Some c → closed_by act ≡ [] → MayWriteFor drivers before seat c → IsByOwner drivers before seat act
own_client {drivers} before seat c act of closes_none may = record {
  writes = λ k is. subst (MayWriteFor drivers before seat) (some_same c k (sym of ∙ is)) may;
  closes = λ driver is. absurd (true≢false (sym is ∙ ap (is_in driver) closes_none));
}

-- the closing of a driver
pub own_closing : {drivers : ℕ} (before : List Entry) (seat driver : ℕ) → seat ≡ driver_owner drivers driver → IsByOwner drivers before seat (Closed driver)
own_closing {drivers} before seat driver own = record {
  writes = λ c is. absurd (cc);
  closes = λ d is. subst (λ n. seat ≡ driver_owner drivers n) (by d is) own;
}
  where
    by : (d : ℕ) → is_in d (driver ∷ []) ≡ true → driver ≡ d
    by d is = elim (or_cases (eqb driver d) false is) as (λ _. driver ≡ d) [ inl h ↦ eqb-true driver d h | inr h ↦ absurd (true≢false (sym h)) ]

-- ---- what an owner knows
-- an entry of another client leaves a client
other_test : (c k : ℕ) → (Some k ≡ Some c → ⊥) → eqb k c ≡ false
other_test c k apart = ne_eqb k c (λ same. apart (ap (λ (n : ℕ). Some n) same))

pub other_client : (c : ℕ) (o : Option ℕ) → (o ≡ Some c → ⊥) → is_of c o ≡ false
other_client c None apart = refl
other_client c (Some k) apart = other_test c k apart

pub client_stays_by : (c : ℕ) (j : List Entry) (act : Act) (s : Client) → (client_of act ≡ Some c → ⊥) → client_by c j act s ≡ s
client_stays_by c j (Joined k doc user track since source v) s apart = ap (λ b. if b then joined_by s j doc user track since source v else s) (other_test c k apart)
client_stays_by c j (Edited k comp) s apart = ap (λ b. if b then edited_by s comp else s) (other_test c k apart)
client_stays_by c j (Sent u) s apart = ap (λ b. if b then sent_by s s.flight else s) (other_client c u.client apart)
client_stays_by c j (Got k brief) s apart = ap (λ b. if b then got_by s (mail c j) else s) (other_test c k apart)
client_stays_by c j (Left k) s apart = ap (λ b. if b then left_by s else s) (other_test c k apart)
client_stays_by c j _ s apart = refl

some_drivers : (drivers : ℕ) → 0 < driver_count drivers
some_drivers drivers = by (eqb_tells drivers 0)
  where
    many : (n : ℕ) → n ≢ 0 → 0 < n
    many zero apart = absurd (apart refl)
    many (suc n) apart = omega arith

    by : ((eqb drivers 0 ≡ true) × (drivers ≡ 0)) ⊎ ((eqb drivers 0 ≡ false) × (drivers ≢ 0)) → 0 < driver_count drivers
    by (inl t) = subst (λ (b : Bool). 0 < (if b then 1 else drivers)) (sym t.0) (omega arith)
    by (inr t) = subst (λ (b : Bool). 0 < (if b then 1 else drivers)) (sym t.0) (many drivers t.1)

driver_there : (drivers c : ℕ) → client_driver drivers c < driver_count drivers
driver_there drivers c = mod_below c (driver_count drivers) (some_drivers drivers)

-- one entry by another than the owner of a driver that hasn't closed: it doesn't close it, and is of none of its clients
unclosed_one : (drivers driver : ℕ) (j : List Entry) (e : Entry) → IsByOwner drivers j e.seat e.act → is_by (driver_owner drivers driver) e ≡ false → is_in driver (closed j) ≡ false → is_in driver (closed (j ++ e ∷ [])) ≡ false
unclosed_one drivers driver j e own other unclosed = closed_more driver j e ∙ ap₂ (λ a b. a || b) unclosed (go (is_in driver (closed_by e.act)) refl)
  where
    go : (b : Bool) → is_in driver (closed_by e.act) ≡ b → is_in driver (closed_by e.act) ≡ false
    go true is = absurd (true≢false (sym (eq-eqb e.seat (driver_owner drivers driver) (own.closes driver is)) ∙ other))
    go false is = is

client_one : (drivers c : ℕ) (j : List Entry) (e : Entry) → IsByOwner drivers j e.seat e.act → is_by (client_owner drivers c) e ≡ false → is_in (client_driver drivers c) (closed j) ≡ false → client c (j ++ e ∷ []) ≡ client c j
client_one drivers c j e own other unclosed = client-push c j e ∙ client_stays_by c j e.act (client c j) (λ is. by (own.writes c is))
  where
    by : MayWriteFor drivers j e.seat c → ⊥
    by (inl mine) = true≢false (sym (eq-eqb e.seat (client_owner drivers c) mine) ∙ other)
    by (inr last) = true≢false (sym (last.1 (client_driver drivers c) (driver_there drivers c)) ∙ unclosed)

unclosed_behind : (drivers driver : ℕ) (seen more : List Entry) → IsOwned drivers (seen ++ more) → list_all (λ e. not (is_by (driver_owner drivers driver) e)) more ≡ true → is_in driver (closed seen) ≡ false → is_in driver (closed (seen ++ more)) ≡ false
unclosed_behind drivers driver seen [] owned others unclosed = ap (λ (k : List Entry). is_in driver (closed k)) (append-nil seen) ∙ unclosed
unclosed_behind drivers driver seen (e ∷ es) owned others unclosed =
    let again : (seen ++ e ∷ []) ++ es ≡ seen ++ e ∷ es = append_assoc seen (e ∷ []) es in
    let both = and_parts (not (is_by (driver_owner drivers driver) e)) (list_all (λ x. not (is_by (driver_owner drivers driver) x)) es) others in
    let next = unclosed_one drivers driver seen e (owned seen e es refl) (not-true (is_by (driver_owner drivers driver) e) both.0) unclosed in
    ap (λ (k : List Entry). is_in driver (closed k)) (sym again) ∙ unclosed_behind drivers driver (seen ++ e ∷ []) es (subst (IsOwned drivers) (sym again) owned) both.1 next

client_behind : (drivers c : ℕ) (seen more : List Entry) → IsOwned drivers (seen ++ more) → list_all (λ e. not (is_by (client_owner drivers c) e)) more ≡ true → is_in (client_driver drivers c) (closed seen) ≡ false → client c (seen ++ more) ≡ client c seen
client_behind drivers c seen [] owned others unclosed = ap (client c) (append-nil seen)
client_behind drivers c seen (e ∷ es) owned others unclosed =
    let again : (seen ++ e ∷ []) ++ es ≡ seen ++ e ∷ es = append_assoc seen (e ∷ []) es in
    let both = and_parts (not (is_by (client_owner drivers c) e)) (list_all (λ x. not (is_by (client_owner drivers c) x)) es) others in
    let other = not-true (is_by (client_owner drivers c) e) both.0 in
    let own = owned seen e es refl in
    ap (client c) (sym again)
    ∙ client_behind drivers c (seen ++ e ∷ []) es (subst (IsOwned drivers) (sym again) owned) both.1 (unclosed_one drivers (client_driver drivers c) seen e own other unclosed)
    ∙ client_one drivers c seen e own other unclosed

-- a driver that hasn't closed as its owner saw it hasn't closed, and its clients are what they were then
pub unclosed_among : (drivers driver : ℕ) (seen look : List Entry) → IsOwned drivers look → Among (is_by (driver_owner drivers driver)) seen look → is_in driver (closed seen) ≡ false → is_in driver (closed look) ≡ false
unclosed_among drivers driver seen look owned among unclosed =
    subst (λ (k : List Entry). is_in driver (closed k) ≡ false) (sym among.1) (unclosed_behind drivers driver seen among.0 (subst (IsOwned drivers) among.1 owned) among.2 unclosed)

pub client_among : (drivers c : ℕ) (seen look : List Entry) → IsOwned drivers look → Among (is_by (client_owner drivers c)) seen look → is_in (client_driver drivers c) (closed seen) ≡ false → client c look ≡ client c seen
client_among drivers c seen look owned among unclosed =
    ap (client c) among.1 ∙ client_behind drivers c seen among.0 (subst (IsOwned drivers) among.1 owned) among.2 unclosed
