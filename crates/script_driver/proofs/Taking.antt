-- Why taking up an update is refused, and what is prepared of one that was taken up.
use Rattle.std.proofs.Common.{◌≡◌, ℕ, ◌≤◌, List, [], ◌∷◌, ◌++◌, length, Bool, true, false, true≢false, not, refl, sym, ap, ◌∙◌, subst, arith, append-nil, length-append}
use Rattle.std.specs.Prelude.{Option, Some, None, ◌==◌, nat_lt, ◌&&◌, option_map, if◌then◌else◌}
use Rattle.std.proofs.lemmas.Bool.{ltb-true}
use Rattle.expiring_lock.specs.declared.refusal.Busy.{Busy}
use Rattle.expiring_lock.specs.declared.refusal.Stale.{Stale}
use Rattle.expiring_lock.specs.declared.refusal.Stale.TheVariants.{Other, Ended}
use Rattle.dup_check.specs.declared.snapshot.Snapshot.{Snapshot}
use Rattle.journal_entries.specs.declared.act.Entry.{Entry}
use Rattle.journal_entries.specs.declared.why.Why.TheVariants.{Empty as NothingWaits, Busy as IsBusy, Stale as IsStale}
use Rattle.journal_rules.specs.Documents.{IsMade, is_in, makings, waiting}
use Rattle.journal_rules.specs.Locks.{Acquiring, acquirings, acquiring_of, is_expired, is_held, is_held_in, last_acquiring, last_token, released, token_in, used_by}
use Rattle.journal_rules.specs.Whys.{IsBusyWith, IsWhy}
use Rattle.journal_rules.proofs.Pushing.{acquirings-push}
use Rattle.journal_rules.proofs.Lists.{some_same}
use Rattle.turn_rules.specs.Draining.{HeldUp, StopsAt, stop_by}
use Rattle.turn_rules.specs.Locking.{acquired, busy, busy_by, staleness}
use Rattle.turn_rules.specs.Turns.{entry_by}
use Rattle.run_rules.specs.Lines.{not_held_by, not_holdable}
use Rattle.book.specs.Calls.{acquire_refused, refused_where}
use Rattle.book.specs.Looking.{IsDecided, IsLookAt}
use Rattle.book.specs.declared.faults.Prepared.{Prepared}
use Rattle.dispatcher.proofs.Taking.{free_and_waits, last_taken, taking, token_taken}
use Rattle.script_driver.specs.Holding.{Stands}
use Rattle.journal_rules.proofs.Fencing.{made_stays}
use Rattle.std.proofs.lemmas.List.Elements.{All-nil}
use Rattle.book.specs.declared.faults.AcquireFault.TheVariants as acquire

-- ---- why it is refused
module _ (doc : ℕ) (j : List Entry) where
  empty_by : (b : Bool) (w : List ℕ) (o : Option Busy) → Some acquire.Empty ≡ (if b then refused_where w o else Some acquire.NoDoc) → w ≡ []
  empty_by false w o e = absurd (cc)
  empty_by true [] o e = refl
  empty_by true (t ∷ ts) None e = absurd (cc)
  empty_by true (t ∷ ts) (Some b) e = absurd (cc)

  pub none_waits : Some acquire.Empty ≡ acquire_refused doc j → waiting doc j ≡ []
  none_waits e = empty_by (nat_lt doc (length (makings j))) (waiting doc j) (busy doc j) e

  busy_where : (b : Busy) (c : Bool) (w : List ℕ) (o : Option Busy) → Some (acquire.Busy b) ≡ (if c then refused_where w o else Some acquire.NoDoc) → (stop_by w o ≡ Some (HeldUp b)) × (o ≡ Some b) × (not_held_by (length w) o ≡ Some (IsBusy b))
  busy_where b false w o e = absurd (cc)
  busy_where b true [] o e = absurd (cc)
  busy_where b true (t ∷ ts) None e = absurd (cc)
  busy_where b true (t ∷ ts) (Some d) e = let same : d ≡ b = cc in (ap (λ x. Some (HeldUp x)) same, ap (λ x. Some x) same, ap (λ x. Some (IsBusy x)) same)

  pub held_up : (b : Busy) → Some (acquire.Busy b) ≡ acquire_refused doc j → StopsAt doc j (HeldUp b) × (busy doc j ≡ Some b) × (not_holdable doc j ≡ Some (IsBusy b))
  held_up b e = busy_where b (nat_lt doc (length (makings j))) (waiting doc j) (busy doc j) e

  pub empty_why : waiting doc j ≡ [] → not_holdable doc j ≡ Some NothingWaits
  empty_why none = ap (λ w. not_held_by (length w) (busy doc j)) none

  pub made_of_free : acquire_refused doc j ≡ None → IsMade doc j
  made_of_free e = by (nat_lt doc (length (makings j))) refl e
    where
      by : (b : Bool) → nat_lt doc (length (makings j)) ≡ b → (if b then refused_where (waiting doc j) (busy doc j) else Some acquire.NoDoc) ≡ None → IsMade doc j
      by true is e = ltb-true doc (length (makings j)) is
      by false is e = absurd (cc)

pub holdable : (doc : ℕ) (j : List Entry) → acquire_refused doc j ≡ None → not_holdable doc j ≡ None
holdable doc j e =
    let f = free_and_waits (nat_lt doc (length (makings j))) (waiting doc j) (busy doc j) e in
    by (waiting doc j) (busy doc j) f.0 f.1.2
  where
    by : (w : List ℕ) (o : Option Busy) → o ≡ None → {ticket : ℕ} {rest : List ℕ} → w ≡ ticket ∷ rest → not_held_by (length w) o ≡ None
    by [] o none first = absurd (cc)
    by (t ∷ ts) None none first = refl
    by (t ∷ ts) (Some b) none first = absurd (cc)

-- the lock that keeps others out is one that is held
pub busy_with : (doc : ℕ) (j : List Entry) (b : Busy) → busy doc j ≡ Some b → IsBusyWith j b
busy_with doc j b e = by (last_acquiring doc j) refl (is_held doc j) refl (is_expired doc j) refl e
  where
    by : (o : Option Acquiring) → last_acquiring doc j ≡ o → (h : Bool) → is_held doc j ≡ h → (x : Bool) → is_expired doc j ≡ x → (if h && not x then option_map busy_by o else None) ≡ Some b → IsBusyWith j b
    by o last false held x expired e = absurd (cc)
    by o last true held true expired e = absurd (cc)
    by None last true held false expired e = absurd (cc)
    by (Some a) last true held false expired e =
        let same : busy_by a ≡ b = some_same (busy_by a) b e in
        record {
          doc = doc;
          acquiring = a;
          held = record { last = last; standing = is_false (is_in a.token (released j)) (ap (λ o. is_held_in o (released j)) (sym last) ∙ held) };
          unexpired = expired;
          token_is = ap (λ (x : Busy). x.token) same;
          until_is = ap (λ (x : Busy). x.until) same;
        }
      where
        is_false : (b : Bool) → not b ≡ true → b ≡ false
        is_false true e = absurd (true≢false (sym e))
        is_false false e = refl

-- a token that is stale is so for a cause that may be told, of a document that was acquired
pub stale_why : (doc token seat session : ℕ) (j : List Entry) (a : Acquiring) (stale : Stale) → IsMade doc j → last_acquiring doc j ≡ Some a → staleness doc token j ≡ Some stale → IsWhy j seat session (IsStale stale)
stale_why doc token seat session j a stale made last e = by (last_token doc j == token) (is_held doc j) refl e
  where
    by : (b h : Bool) → is_held doc j ≡ h → (if b then (if h then None else Some Ended) else Some (Other (last_token doc j))) ≡ Some stale → IsWhy j seat session (IsStale stale)
    by false h held e = subst (λ (s : Stale). IsWhy j seat session (IsStale s)) (some_same (Other (last_token doc j)) stale e) (doc, made, refl)
    by true true held e = absurd (cc)
    by true false held e =
        let ended : is_in (last_token doc j) (released j) ≡ true = ap (λ o. is_in (token_in o) (released j)) last ∙ is_true (is_in a.token (released j)) (ap (λ o. is_held_in o (released j)) (sym last) ∙ held) in
        subst (λ (s : Stale). IsWhy j seat session (IsStale s)) (some_same Ended stale e) (doc, made, ended)
      where
        is_true : (b : Bool) → not b ≡ false → b ≡ true
        is_true true e = refl
        is_true false e = absurd (true≢false e)

-- ---- what it leaves
module _ (seat : ℕ) (line : Option ℕ) (doc : ℕ) (old new : List Entry) (look : Snapshot) (is : new ≡ old ++ entry_by seat line (acquired doc old) ∷ []) (looks : IsLookAt new look) (doc_is : look.doc ≡ doc) where
  abbrev took : Acquiring
  took = taking seat line doc old new look is looks doc_is

  last_took : last_acquiring look.doc new ≡ Some took
  last_took = last_taken seat line doc old new look is looks doc_is

  -- what was prepared of it stands
  module _ (p : Prepared) (look_is : p.look ≡ look) (free : acquire_refused doc old ≡ None) where
    abbrev entry : Entry
    entry = entry_by seat line (acquired doc old)

    made_now : IsMade doc new
    made_now = subst (IsMade doc) (sym is) (made_stays doc old entry (made_of_free doc old free))

    given_now : look.token ≤ length (acquirings new)
    given_now =
        let l = ap (λ (j : List Entry). length (acquirings j)) is in let a = ap length (acquirings-push old entry) in let n = length-append (acquirings old) (acquiring_of seat (acquired doc old)) in
        let t = token_taken seat line doc old new look is looks doc_is in omega (arith, l, a, n, t)

    at_look : Stands seat new (record { look = look; decision = p.decision }) → Stands seat new p
    at_look s = subst (λ (q : Prepared). Stands seat new q) (ap (λ (l : Snapshot). record { look = l; decision = p.decision }) (sym look_is)) s

    pub stands_taken : IsDecided p.look p.decision → Stands seat new p
    stands_taken decided = at_look (record {
      seat_is = seat_of;
      made = subst (λ d. IsMade d new) (sym doc_is) made_now;
      given = given_now;
      last = took;
      last_is = last_took;
      named = looks.update_is;
      looked = record { early = new; more = []; journal_is = sym (append-nil new); looks = looks; unused = All-nil (λ (e : Entry). is_in look.token (used_by e.act) ≡ false) };
      decided = subst (λ (l : Snapshot). IsDecided l p.decision) look_is decided;
    })
      where
        seat_of : look.seat ≡ seat
        seat_of = sym looks.seat_is ∙ ap (λ (a : Acquiring). a.seat) (some_same looks.acquiring took (sym looks.last ∙ last_took))
