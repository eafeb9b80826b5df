-- A book under a document's lock.
use Rattle.std.proofs.Common.{◌≡◌, ◌≢◌, ◌⊎◌, inl, inr, ℕ, ◌+◌, ◌-◌, ◌≤◌, ◌<◌, List, [], ◌∷◌, ◌++◌, length, Bool, true, false, not, ◌&&◌, refl, sym, ap, ap₂, ◌∙◌, subst, arith, append-nil, length-append, eqb, eq-eqb}
use Rattle.std.specs.Prelude.{slice_get, Option, Some, None, nat_le, option_map, if◌then◌else◌}
use Rattle.std.proofs.lemmas.Bool.{cases_lt, le-leb}
use Rattle.std.proofs.lemmas.Bool.Decides.{eqb_tells, nat_tests}
use Rattle.expiring_lock.specs.Locks.{LockState, IsUnexpired}
use Rattle.expiring_lock.specs.declared.lock.TheConstants.{LOCK_LIFE}
use Rattle.expiring_lock.specs.declared.refusal.Busy.{Busy}
use Rattle.expiring_lock.specs.declared.refusal.Stale.{Stale}
use Rattle.expiring_lock.specs.declared.refusal.Stale.TheVariants.{Other, Ended}
use Rattle.journal_entries.specs.Journals.{Journaled, entries, spare}
use Rattle.journal_entries.specs.declared.update.Update.{Update}
use Rattle.journal_entries.specs.declared.update.Outcome.{Outcome}
use Rattle.journal_entries.specs.declared.update.Outcome.TheVariants.{Refused}
use Rattle.journal_entries.specs.declared.act.Act.TheVariants.{Acquired, Committed, Released}
use Rattle.journal_entries.specs.declared.act.Entry.{Entry}
use Rattle.journal_rules.specs.Documents.{IsMade, making_of, makings, is_in, waiting, update_at}
use Rattle.journal_rules.specs.Locks.{Acquiring, Holds, acquiring_of, acquirings, clock, ticked, is_held_in, is_expired_in, last_acquiring, next_token, released, token_in}
use Rattle.journal_rules.specs.Legal.{IsAllowed, IsAcquiring, closed, closed_by}
use Rattle.turn_rules.specs.Locking.{busy, busy_by, staleness}
use Rattle.book.specs.declared.document.Document.{Document}
use Rattle.dup_check.specs.declared.past.Past.{Past}
use Rattle.dup_check.specs.declared.snapshot.Snapshot.{Snapshot}
use Rattle.dup_check.specs.Window.{Recent, since_in}
use Rattle.journal_rules.specs.Documents.{base, version}
use Rattle.book.specs.Passing.{past_or_none}
use Rattle.book.specs.Looking.{IsLook, IsLookAt, window_of}
use Rattle.book.specs.Deciding.{Becomes, IsSame}
use Rattle.book.specs.Standing.{AreDocuments, IsDocument, IsFreed, IsLocked, IsUnqueued, Turns, lock_in, one_for, owed_by, owed_for}
use Rattle.book.specs.Shown.{IsBook, unclosed}
use Rattle.turn_rules.specs.Owning.{driver_count}
use Rattle.journal_entries.specs.declared.update.Cause.{Cause}
use Rattle.journal_entries.specs.declared.update.Cause.TheVariants.{Memory as WantsMemory, StoreFault}
use Rattle.journal_rules.specs.Keeping.{FailedUnder, loading}
use Rattle.journal_rules.specs.Legal.{IsUnloadable}
use Rattle.journal_rules.specs.Locks.{acquired_by, used, used_by}
use Rattle.journal_rules.proofs.Pushing.{last_acquiring-push, used-push}
use Rattle.journal_rules.proofs.Waits.{waits_sent, update_stays}
use Rattle.journal_rules.proofs.Fencing.{token_bound}
use Rattle.std.proofs.lemmas.Option.{slice_get_within}
use Rattle.std.proofs.lemmas.Bool.{lt-ltb}
use Rattle.book.specs.declared.faults.AcquireFault.TheVariants.{NoDoc, Empty, Busy as IsBusy}
use Rattle.book.specs.Calls.{stale_in, MayRefuse, acquire_refused, refused_of, refused_where}
use Rattle.project_histories.proofs.Lists.{at_within, same_item}
use Rattle.book.proofs.Owed.{owed_set, owed_least}
use Rattle.book.proofs.Keeping.{Passes, kept_set, here_acquired, here_released, here_committed, unmade_lock}
use Rattle.book.proofs.Booking.{no_name, push_book}

-- ---- what the lock answers is what the journal says
stale_as : (o : Option Acquiring) (tokens : List ℕ) (token : ℕ) → stale_in (lock_in o tokens) token ≡ (if eqb (token_in o) token then (if is_held_in o tokens then None else Some Ended) else Some (Other (token_in o)))
stale_as None tokens token = refl
stale_as (Some a) tokens token = refl

pub stale_is : (d token : ℕ) (x : Document) (j : List Entry) → IsDocument d x j → stale_in x.lock token ≡ staleness d token j
stale_is d token x j is = ap (λ (l : LockState). stale_in l token) is.lock_is ∙ stale_as (last_acquiring d j) (released j) token

abbrev busy_in : Option Acquiring → List ℕ → ℕ → Option Busy
busy_in o tokens now = if is_held_in o tokens && not (is_expired_in o now) then option_map busy_by o else None

busy_some : (o : Option Acquiring) (tokens : List ℕ) (now : ℕ) → IsUnexpired (lock_in o tokens) now → busy_in o tokens now ≡ Some (record { token = (lock_in o tokens).last; until = (lock_in o tokens).until })
busy_some None tokens now u = absurd (cc)
busy_some (Some a) tokens now u = ap₂ (λ (h x : Bool). if h && not x then Some (busy_by a) else None) u.0 (late a.until now u.1)
  where
    late : (until now : ℕ) → now < until → nat_le until now ≡ false
    late until now lt = grind (arith, nat_tests)

busy_none : (o : Option Acquiring) (tokens : List ℕ) (now : ℕ) → (IsUnexpired (lock_in o tokens) now → ⊥) → busy_in o tokens now ≡ None
busy_none None tokens now free = refl
busy_none (Some a) tokens now free = by (not (is_in a.token tokens)) refl (cases_lt now a.until)
  where
    by : (h : Bool) → not (is_in a.token tokens) ≡ h → (now < a.until) ⊎ (a.until ≤ now) → (if h && not (nat_le a.until now) then Some (busy_by a) else None) ≡ None
    by false is at = refl
    by true is (inl lt) = absurd (free (is, lt))
    by true is (inr le) = ap (λ x. if not x then Some (busy_by a) else None) (le-leb a.until now le)

pub busy_is : (d now : ℕ) (x : Document) (j : List Entry) → IsDocument d x j → now ≡ clock j → IsUnexpired x.lock now → busy d j ≡ Some (record { token = x.lock.last; until = x.lock.until })
busy_is d now x j is now_is u =
    ap (λ n. busy_in (last_acquiring d j) (released j) n) (sym now_is)
    ∙ busy_some (last_acquiring d j) (released j) now (subst (λ (l : LockState). IsUnexpired l now) is.lock_is u)
    ∙ ap (λ (l : LockState). Some (record { token = l.last; until = l.until })) (sym is.lock_is)

pub not_busy : (d now : ℕ) (x : Document) (j : List Entry) → IsDocument d x j → now ≡ clock j → (IsUnexpired x.lock now → ⊥) → busy d j ≡ None
not_busy d now x j is now_is free =
    ap (λ n. busy_in (last_acquiring d j) (released j) n) (sym now_is)
    ∙ busy_none (last_acquiring d j) (released j) now (λ u. free (subst (λ (l : LockState). IsUnexpired l now) (sym is.lock_is) u))

-- so it may be acquired
free_in : (o : Option Acquiring) (tokens : List ℕ) (now : ℕ) → (IsUnexpired (lock_in o tokens) now → ⊥) → (is_held_in o tokens ≡ false) ⊎ (is_expired_in o now ≡ true)
free_in None tokens now free = inl refl
free_in (Some a) tokens now free = by (not (is_in a.token tokens)) refl (cases_lt now a.until)
  where
    by : (h : Bool) → not (is_in a.token tokens) ≡ h → (now < a.until) ⊎ (a.until ≤ now) → (h ≡ false) ⊎ (nat_le a.until now ≡ true)
    by false is at = inl refl
    by true is (inl lt) = absurd (free (is, lt))
    by true is (inr le) = inr (le-leb a.until now le)

pub may_acquire : (d now until : ℕ) (x : Document) (j : List Entry) → IsMade d j → IsDocument d x j → now ≡ clock j → until ≡ now + LOCK_LIFE → (IsUnexpired x.lock now → ⊥) → IsAcquiring j d (next_token j) until
may_acquire d now until x j made is now_is until_is free = record {
  made = made;
  free = subst (λ n. (is_held_in (last_acquiring d j) (released j) ≡ false) ⊎ (is_expired_in (last_acquiring d j) n ≡ true)) now_is
      (free_in (last_acquiring d j) (released j) now (λ u. free (subst (λ (l : LockState). IsUnexpired l now) (sym is.lock_is) u)));
  token_is = refl;
  until_is = until_is ∙ ap (λ n. n + LOCK_LIFE) now_is;
}

-- ---- the lock was acquired
pub acquired_book : {names names' : List (List ℕ)} (before mid after : Journaled) (documents documents' : List Document) (now tokens owed drivers sum doc until seat : ℕ) (e : Entry)
    → IsBook before names documents now tokens owed drivers → names' ≡ names → entries mid ≡ entries before → (sum ≡ owed + 2) × (sum ≤ spare mid) → entries after ≡ entries mid ++ e ∷ [] → spare after + 1 ≡ spare mid
    → e.seat ≡ seat → e.act ≡ Acquired doc (tokens + 1) until → IsAcquiring (entries before) doc (tokens + 1) until
    → Turns doc (IsLocked (record { last = tokens + 1; until = until; seat = seat; held = true })) documents documents' → IsBook after names' documents' now (tokens + 1) (sum - 1) drivers
acquired_book {names} {names'} before mid after documents documents' now tokens owed drivers sum doc until seat e was called same enough more less seat_is is may t =
    let locked = subst (λ n. IsLocked (record { last = tokens + 1; until = until; seat = n; held = true }) t.was t.now) (sym seat_is) t.is in
    let here = here_acquired doc t.was t.now (entries before) e was.stands.legal (was.stands.each doc t.was t.at) (tokens + 1) until is may.token_is locked in
    let stands = kept_set documents doc t.was t.now (entries before) e t.at (subst (IsAllowed (entries before) e.seat) (sym is) may) (λ d apart. subst (Passes d) (sym is) apart) (ap making_of is) here was.stands in
    let one = ap (λ a. length (acquiring_of e.seat a)) is in
    let all = owed_set documents doc t.was t.now t.at in
    let s = ap owed_for t.set_is in
    let l = ap length t.is.waiting_is in
    let h : one_for t.now.lock.held ≡ 1 = ap (λ (k : LockState). one_for k.held) t.is.lock_is in
    let counted = was.counted in
    let sum_is = enough.0 in
    let sum_low = enough.1 in
    push_book before after documents documents' now now tokens (tokens + 1) owed (sum - 1) drivers e was (no_name names names' e called (ap making_of is)) (more ∙ ap (λ l. l ++ e ∷ []) same)
    (subst (λ (l : List Document). AreDocuments l (entries before ++ e ∷ [])) (sym t.set_is) stands) (ap (λ a. ticked a now) (sym is)) was.now_low (omega (arith, one))
    (subst (λ (l : List ℕ). owed_for documents' + unclosed (driver_count drivers) l ≤ sum - 1) (sym (ap (λ a. closed (entries before) ++ closed_by a) is ∙ append-nil (closed (entries before)))) (omega (arith, all, s, l, h, counted, sum_is)))
    (omega (arith, sum_low, less))

-- ---- a lock whose token stands
abbrev Stands : LockState → ℕ → Type 0
Stands lock token = (lock.last ≡ token) × (lock.held ≡ true)

pub stands_in : (lock : LockState) (token : ℕ) → stale_in lock token ≡ None → (lock.last ≡ token) × (lock.held ≡ true)
stands_in lock token none = by (eqb_tells lock.last token) lock.held refl none
  where
    by : ((eqb lock.last token ≡ true) × (lock.last ≡ token)) ⊎ ((eqb lock.last token ≡ false) × (lock.last ≢ token)) → (h : Bool) → lock.held ≡ h → stale_in lock token ≡ None → (lock.last ≡ token) × (lock.held ≡ true)
    by (inl t) true is none = (t.1, is)
    by (inl t) false is none =
        let f : Some Ended ≡ None = sym (ap₂ (λ (b h : Bool). if b then (if h then None else Some Ended) else Some (Other lock.last)) t.0 is) ∙ none in absurd (cc)
    by (inr t) h is none =
        let f : Some (Other lock.last) ≡ None = sym (ap (λ b. if b then (if lock.held then None else Some Ended) else Some (Other lock.last)) t.0) ∙ none in absurd (cc)

-- something waits, or a lock is held: so an entry is owed
pub waits_owed : {names : List (List ℕ)} (before : Journaled) (documents : List Document) (now tokens owed drivers doc : ℕ) (x : Document) → IsBook before names documents now tokens owed drivers → slice_get documents doc ≡ Some x → 1 ≤ owed_by x → 1 ≤ owed
waits_owed before documents now tokens owed drivers doc x was at one = let l = owed_least documents doc x at in let c = was.counted in omega (arith, l, c, one)

pub released_book : {names names' : List (List ℕ)} (before after : Journaled) (documents documents' : List Document) (now tokens owed drivers doc token seat : ℕ) (e : Entry)
    → IsBook before names documents now tokens owed drivers → names' ≡ names → entries after ≡ entries before ++ e ∷ [] → spare after + 1 ≡ spare before
    → e.seat ≡ seat → e.act ≡ Released doc token → Holds seat doc token (entries before) → (t : Turns doc IsFreed documents documents') → t.was.lock.held ≡ true → IsBook after names' documents' now tokens (owed - 1) drivers
released_book {names} {names'} before after documents documents' now tokens owed drivers doc token seat e was called more less seat_is is holds t held =
    let here = here_released doc t.was t.now (entries before) e was.stands.legal (was.stands.each doc t.was t.at) token holds.acquiring is holds.held.last holds.token_is t.is in
    let may : IsAllowed (entries before) e.seat e.act = subst (IsAllowed (entries before) e.seat) (sym is) (subst (λ n. Holds n doc token (entries before)) (sym seat_is) holds) in
    let stands = kept_set documents doc t.was t.now (entries before) e t.at may (λ d apart. subst (Passes d) (sym is) apart) (ap making_of is) here was.stands in
    let none = ap (λ a. length (acquiring_of e.seat a)) is in
    let all = owed_set documents doc t.was t.now t.at in
    let s = ap owed_for t.set_is in
    let l = ap length t.is.waiting_is in
    let h : one_for t.now.lock.held ≡ 0 = ap (λ (k : LockState). one_for k.held) t.is.lock_is in
    let g : one_for t.was.lock.held ≡ 1 = ap one_for held in
    let counted = was.counted in
    let room = was.room in
    push_book before after documents documents' now now tokens tokens owed (owed - 1) drivers e was (no_name names names' e called (ap making_of is)) more
    (subst (λ (l : List Document). AreDocuments l (entries before ++ e ∷ [])) (sym t.set_is) stands) (ap (λ a. ticked a now) (sym is)) was.now_low (omega (arith, none))
    (subst (λ (l : List ℕ). owed_for documents' + unclosed (driver_count drivers) l ≤ owed - 1) (sym (ap (λ a. closed (entries before) ++ closed_by a) is ∙ append-nil (closed (entries before)))) (omega (arith, all, s, l, h, g, counted)))
    (omega (arith, room, less))

-- ---- what a check of a token tells
module _ {names : List (List ℕ)} (before : Journaled) (documents : List Document) (now tokens owed drivers doc token : ℕ) (was : IsBook before names documents now tokens owed drivers) where
  pub told_by : (r : Option Stale) → doc < length documents → ((d : Document) → slice_get documents doc ≡ Some d → stale_in d.lock token ≡ r) → staleness doc token (entries before) ≡ r
  told_by r within check = let x = at_within documents doc within in sym (stale_is doc token x.0 (entries before) (was.stands.each doc x.0 x.1)) ∙ check x.0 x.1

  pub told_unmade : (r : Option Stale) → length documents ≤ doc → stale_in (record { last = 0; until = 0; seat = 0; held = false }) token ≡ r → staleness doc token (entries before) ≡ r
  told_unmade r high given =
      let c = was.stands.count in
      let lock = unmade_lock doc (entries before) was.stands.legal (omega (arith, c, high)) in
      sym (stale_as (last_acquiring doc (entries before)) (released (entries before)) token) ∙ ap (λ (l : LockState). stale_in l token) lock ∙ given

  pub held_owed : doc < length documents → ((d : Document) → slice_get documents doc ≡ Some d → stale_in d.lock token ≡ None) → 1 ≤ owed
  held_owed within check =
      let x = at_within documents doc within in
      let h : one_for x.0.lock.held ≡ 1 = ap one_for (stands_in x.0.lock token (check x.0 x.1)).1 in
      waits_owed before documents now tokens owed drivers doc x.0 was x.1 (omega (arith, h))

-- the first update that waits was refused
allowed_refusal : (j : List Entry) (seat doc token ticket : ℕ) (cause : Cause) → MayRefuse j seat doc token ticket cause → IsAllowed j seat (Committed doc token ticket (Refused cause))
allowed_refusal j seat doc token ticket cause may = record { holds = may.holds; unused = may.unused; rest = may.rest; first = may.first; ends = inr (ends may.cause_is) }
  where
    ends : (cause ≡ WantsMemory) ⊎ ((cause ≡ StoreFault) × (loading doc j ≡ FailedUnder (Some token))) → (Refused cause ≡ Refused WantsMemory) ⊎ IsUnloadable j doc token (Refused cause)
    ends (inl m) = inl (ap Refused m)
    ends (inr f) = inr (record { outcome_is = ap Refused f.0; failed = f.1 })

abbrev rest_of : {A : Type 0} → List A → List A
rest_of [] = []
rest_of (x ∷ xs) = xs

-- the first update that waits was settled, and the document is what its outcome made of it
pub settled_book : {R : Document → Document → Type 0} {names names' : List (List ℕ)} (before after : Journaled) (documents documents' : List Document) (now tokens owed drivers doc token ticket seat : ℕ) (outcome : Outcome) (u : Update) (rest : List ℕ) (e : Entry)
    → IsBook before names documents now tokens owed drivers → names' ≡ names → entries after ≡ entries before ++ e ∷ [] → spare after + 1 ≡ spare before
    → e.seat ≡ seat → e.act ≡ Committed doc token ticket outcome → IsAllowed (entries before) seat (Committed doc token ticket outcome) → waiting doc (entries before) ≡ ticket ∷ rest → update_at (entries before) ticket ≡ Some u
    → (t : Turns doc R documents documents') → Becomes t.was u t.now outcome → t.now.lock ≡ t.was.lock → t.now.kept ≡ t.was.kept → (first : ℕ) → t.was.waiting.items ≡ first ∷ t.now.waiting.items → IsBook after names' documents' now tokens (owed - 1) drivers
settled_book {R} {names} {names'} before after documents documents' now tokens owed drivers doc token ticket seat outcome u rest e was called more less seat_is is may first named t becomes locks keeps taken waits =
    let j = entries before in
    let x = was.stands.each doc t.was t.at in
    let left : t.now.waiting.items ≡ rest = ap rest_of (sym waits ∙ x.waiting_is ∙ first) in
    let here = here_committed doc t.was t.now j e was.stands.legal x token ticket outcome u rest is first named becomes locks keeps left in
    let allowed : IsAllowed j e.seat e.act = subst (IsAllowed j e.seat) (sym is) (subst (λ n. IsAllowed j n (Committed doc token ticket outcome)) (sym seat_is) may) in
    let stands = kept_set documents doc t.was t.now j e t.at allowed (λ d apart. subst (Passes d) (sym is) apart) (ap making_of is) here was.stands in
    let none = ap (λ a. length (acquiring_of e.seat a)) is in
    let all = owed_set documents doc t.was t.now t.at in
    let s = ap owed_for t.set_is in
    let l = ap length waits in
    let h : one_for t.now.lock.held ≡ one_for t.was.lock.held = ap (λ (k : LockState). one_for k.held) locks in
    let counted = was.counted in
    let room = was.room in
    push_book before after documents documents' now now tokens tokens owed (owed - 1) drivers e was (no_name names names' e called (ap making_of is)) more
    (subst (λ (l : List Document). AreDocuments l (j ++ e ∷ [])) (sym t.set_is) stands) (ap (λ a. ticked a now) (sym is)) was.now_low (omega (arith, none))
    (subst (λ (l : List ℕ). owed_for documents' + unclosed (driver_count drivers) l ≤ owed - 1) (sym (ap (λ a. closed j ++ closed_by a) is ∙ append-nil (closed j))) (omega (arith, all, s, l, h, counted)))
    (omega (arith, room, less))

pub refused_book : {names names' : List (List ℕ)} (before after : Journaled) (documents documents' : List Document) (now tokens owed drivers doc token ticket seat : ℕ) (cause : Cause) (e : Entry)
    → IsBook before names documents now tokens owed drivers → names' ≡ names → entries after ≡ entries before ++ e ∷ [] → spare after + 1 ≡ spare before
    → e.seat ≡ seat → e.act ≡ Committed doc token ticket (Refused cause) → MayRefuse (entries before) seat doc token ticket cause → Turns doc IsUnqueued documents documents' → IsBook after names' documents' now tokens (owed - 1) drivers
refused_book {names} {names'} before after documents documents' now tokens owed drivers doc token ticket seat cause e was called more less seat_is is may t =
    let sent = waits_sent doc ticket (entries before) may.rest may.first in
    settled_book before after documents documents' now tokens owed drivers doc token ticket seat (Refused cause) sent.0 may.rest e was called more less seat_is is
    (allowed_refusal (entries before) seat doc token ticket cause may) may.first sent.1 t t.is.same t.is.lock_is t.is.kept_is t.is.ticket t.is.waiting_is

pub some_waits : (j : List Entry) (documents : List Document) (doc : ℕ) (x : Document) (ticket : ℕ) (rest : List ℕ) → AreDocuments documents j → slice_get documents doc ≡ Some x → waiting doc j ≡ ticket ∷ rest → 0 < length x.waiting.items
some_waits j documents doc x ticket rest were at first = let l = ap length ((were.each doc x at).waiting_is ∙ first) in omega (arith, l)

-- ---- why a document can't be acquired
module _ (j : List Entry) (documents : List Document) (doc : ℕ) (x : Document) (were : AreDocuments documents j) (at : slice_get documents doc ≡ Some x) where
  pub made : IsMade doc j
  made = let lt = slice_get_within documents doc x at in let c = were.count in omega (arith, lt, c)

  refusal : acquire_refused doc j ≡ refused_where x.waiting.items (busy doc j)
  refusal = ap (λ b. if b then refused_where (waiting doc j) (busy doc j) else Some NoDoc) (lt-ltb doc (length (makings j)) made) ∙ ap (λ l. refused_where l (busy doc j)) (sym (were.each doc x at).waiting_is)

  pub acquire_empty : slice_get x.waiting.items 0 ≡ None → acquire_refused doc j ≡ Some Empty
  acquire_empty none = refusal ∙ go x.waiting.items none
    where
      go : (l : List ℕ) → slice_get l 0 ≡ None → refused_where l (busy doc j) ≡ Some Empty
      go [] e = refl
      go (t ∷ ts) e = absurd (cc)

  some_first : (ticket : ℕ) (l : List ℕ) (b : Option Busy) → slice_get l 0 ≡ Some ticket → refused_where l b ≡ refused_of b
  some_first ticket [] b e = absurd (cc)
  some_first ticket (t ∷ ts) b e = refl

  pub acquire_busy : (ticket now : ℕ) → slice_get x.waiting.items 0 ≡ Some ticket → now ≡ clock j → IsUnexpired x.lock now → acquire_refused doc j ≡ Some (IsBusy (record { token = x.lock.last; until = x.lock.until }))
  acquire_busy ticket now first now_is u = refusal ∙ some_first ticket x.waiting.items (busy doc j) first ∙ ap refused_of (busy_is doc now x j (were.each doc x at) now_is u)

  pub acquire_free : (ticket now : ℕ) → slice_get x.waiting.items 0 ≡ Some ticket → now ≡ clock j → (IsUnexpired x.lock now → ⊥) → acquire_refused doc j ≡ None
  acquire_free ticket now first now_is free = refusal ∙ some_first ticket x.waiting.items (busy doc j) first ∙ ap refused_of (not_busy doc now x j (were.each doc x at) now_is free)

  -- the last token of a document was given before
  pub token_below : x.lock.last < length (acquirings j) + 1
  token_below =
      let b = token_bound doc j were.legal in
      let l : x.lock.last ≡ token_in (last_acquiring doc j) = ap (λ (k : LockState). k.last) (were.each doc x at).lock_is ∙ last_in (last_acquiring doc j) in
      omega (arith, b, l)
    where
      last_in : (o : Option Acquiring) → (lock_in o (released j)).last ≡ token_in o
      last_in None = refl
      last_in (Some a) = refl

  -- the first that waits
  pub waits_first : (ticket : ℕ) → slice_get x.waiting.items 0 ≡ Some ticket → (rest : List ℕ) × (waiting doc j ≡ ticket ∷ rest)
  waits_first ticket first = let w = go x.waiting.items first in (w.0, sym (were.each doc x at).waiting_is ∙ w.1)
    where
      go : (l : List ℕ) → slice_get l 0 ≡ Some ticket → (rest : List ℕ) × (l ≡ ticket ∷ rest)
      go [] e = absurd (cc)
      go (t ∷ ts) e = (ts, ap (λ n. n ∷ ts) (same_item t ticket e))

-- the window of a document
pub window_is : (d : ℕ) (x : Document) (j : List Entry) → IsDocument d x j → x.window ≡ window_of d j
window_is d x j here =
    ap₂ (λ (b v : ℕ). record { base = b; version = v; last = x.window.last }) here.window_is.base_is here.window_is.version_is
    ∙ ap (λ (l : List Past). record { base = base d j; version = version d j; last = l }) here.window_is.last_is

-- what was looked at, as the journal behind the acquiring has it
pub look_at : (now was : Document) (u : Update) (look : Snapshot) (j : List Entry) (a : Acquiring) (rest : List ℕ) → IsLook was u look → IsSame was now → IsDocument look.doc now j → last_acquiring look.doc j ≡ Some a → a.token ≡ look.token → a.seat ≡ look.seat → is_in look.token (used j) ≡ false → look.at ≡ length j
    → waiting look.doc j ≡ look.ticket ∷ rest → update_at j look.ticket ≡ Some u → IsLookAt j look
look_at now was u look j a rest is same here last token_is seat_is unused at first named = record {
  at_is = at;
  acquiring = a;
  last = last;
  token_is = token_is;
  seat_is = seat_is;
  unused = unused;
  rest = rest;
  first = first;
  update_is = named ∙ ap (λ (x : Update). Some x) (sym is.update_is);
  base_is = is.base_is ∙ sym (ap (λ (w : Recent). w.base) same.window_is) ∙ here.window_is.base_is;
  version_is = is.version_is ∙ sym (ap (λ (w : Recent). w.version) same.window_is) ∙ here.window_is.version_is;
  text_is = here.text_is ∙ ap (λ (t : List ℕ). Some t) (same.text_is ∙ sym is.text_is);
  ranges_are = here.tracked.ranges_are ∙ same.ranges_are ∙ sym is.ranges_are;
  past_is = is.past_is ∙ ap₂ (λ (w : Recent) (n : ℕ). past_or_none (since_in w n)) (sym same.window_is ∙ window_is look.doc now j here) (ap (λ (x : Update). x.v) (sym is.update_is));
}

pub acquired_look : (doc token until : ℕ) (was now x : Document) (u : Update) (look : Snapshot) (j : List Entry) (e : Entry) (rest : List ℕ) (ticket : ℕ) {seat at : ℕ} → IsLook was u look → IsDocument doc now (j ++ e ∷ []) → IsDocument doc was j
    → IsLocked (record { last = token; until = until; seat = e.seat; held = true }) was now → e.act ≡ Acquired doc token until → e.seat ≡ seat
    → (look.seat ≡ seat) × (look.token ≡ token) × (look.doc ≡ doc) × (look.ticket ≡ ticket) × (look.at ≡ at + 1) → is_in token (used j) ≡ false → at ≡ length j → waiting doc j ≡ ticket ∷ rest → update_at j ticket ≡ Some u → IsLookAt (j ++ e ∷ []) look
acquired_look doc token until was now x u look j e rest ticket {seat} {at} is here before locked act_is seat_is taking free at_is first named =
    let k = j ++ e ∷ [] in
    let a : Acquiring = record { seat = e.seat; doc = doc; token = token; until = until } in
    let last : last_acquiring doc k ≡ Some a = last_acquiring-push doc j e ∙ ap (λ b. acquired_by doc e.seat b (last_acquiring doc j)) act_is ∙ ap (λ b. if b then Some a else last_acquiring doc j) (eq-eqb doc doc refl) in
    let waits : waiting doc k ≡ ticket ∷ rest = sym here.waiting_is ∙ locked.waiting_is ∙ before.waiting_is ∙ first in
    let d = sym taking.2 in
    let n = length-append j (e ∷ []) in
    let t4 = taking.4 in
    let unused : is_in token (used k) ≡ false = ap (is_in token) (used-push j e ∙ ap (λ b. used j ++ used_by b) act_is ∙ append-nil (used j)) ∙ free in
    look_at now was u look k a rest is locked.same (subst (λ m. IsDocument m now k) d here) (subst (λ m. last_acquiring m k ≡ Some a) d last) (sym taking.1) (seat_is ∙ sym taking.0) (ap (λ t. is_in t (used k)) taking.1 ∙ unused) (omega (arith, n, t4, at_is))
    (subst (λ m. waiting m k ≡ look.ticket ∷ rest) d (waits ∙ ap (λ m. m ∷ rest) (sym taking.3))) (ap (update_at k) taking.3 ∙ update_stays j (e ∷ []) ticket u named)
