-- A book whose document is taken up for its keeper, and put there.
use Rattle.std.proofs.Common.{◌≡◌, ◌⊎◌, inl, inr, ℕ, ◌+◌, ◌-◌, ◌≤◌, ◌<◌, ◌^◌, List, [], ◌∷◌, ◌++◌, length, map, Bool, true, false, refl, sym, ap, ap₂, ◌∙◌, subst, arith, append-nil, All, eq-eqb, zero, suc}
use Rattle.std.specs.Prelude.{slice_get, Option, Some, None, Result, Ok, Err, OnOk, OnErr, unwrap_or, min, if◌then◌else◌}
use Rattle.std.proofs.lemmas.Bool.{lt-ltb, cases_lt}
use Rattle.std.proofs.lemmas.List.{take-append-le}
use Rattle.ot_parts.specs.Lines.{lines_of}
use Rattle.source_sink.specs.Causes.{Rose}
use Rattle.ranges_tracker.specs.Cells.{Row, plain_row}
use Rattle.ranges_tracker.specs.Kept.{IsKept, Kept}
use Rattle.ranges_tracker.specs.Shown.{shown}
use Rattle.ranges_tracker.proofs.Versions.{tracked_at}
use Rattle.expiring_lock.specs.Locks.{IsUnexpired, LockState}
use Rattle.expiring_lock.specs.declared.refusal.Busy.{Busy}
use Rattle.journal_entries.specs.Journals.{Journaled, entries, spare}
use Rattle.journal_entries.specs.declared.act.Act.TheVariants.{Acquired, Flushed, FlushFailed}
use Rattle.journal_entries.specs.declared.act.Entry.{Entry}
use Rattle.journal_rules.specs.Documents.{IsMade, Item, Making, applied_list, base_in, first_in, is_in, makings, name, replayed, text, text_at, version, making_of, name_in}
use Rattle.journal_rules.specs.Fence.{IsSameOf}
use Rattle.journal_rules.specs.Keeping.{cached, faults, kept}
use Rattle.journal_rules.specs.Legal.{FaultsRose, IsAllowed, IsLegal, closed, closed_by}
use Rattle.journal_rules.specs.Locks.{Acquiring, HeldBy, Holds, acquired_by, acquiring_of, last_acquiring, used_by, clock, ticked}
use Rattle.journal_rules.specs.Tracking.{cells, cells_at, tracked}
use Rattle.journal_rules.proofs.Fencing.{acquired_made, fenced}
use Rattle.journal_rules.proofs.Legality.{legal_front}
use Rattle.journal_rules.proofs.Pushing.{last_acquiring-push}
use Rattle.journal_laws.proofs.Unmade.{version_low}
use Rattle.journal_laws.proofs.Updates.{text_at_version}
use Rattle.journal_rules.proofs.Growing.{cells_at_version}
use Rattle.journal_rules.proofs.Waits.{all_none}
use Rattle.turn_rules.specs.Locking.{busy, staleness}
use Rattle.book.specs.declared.document.Document.{Document}
use Rattle.book.specs.declared.faults.AcquireFault.TheVariants.{NoDoc, Busy as IsBusy}
use Rattle.book.specs.declared.faults.KeptLook.{KeptLook}
use Rattle.book.specs.declared.faults.PreparedKept.{PreparedKept}
use Rattle.book.specs.Calls.{acquire_any_refused, unavailable_by}
use Rattle.book.specs.Flushing.{IsKeptLook, IsMadeOf, IsPreparedFor, IsTaken}
use Rattle.book.specs.Standing.{AreDocuments, IsDocument, IsKeptAt, IsLocked, Turns, one_for, owed_for}
use Rattle.book.specs.Stored.{kept_document}
use Rattle.dup_check.specs.Window.{Recent}
use Rattle.ranges_tracker.specs.declared.change.Change.{Change}
use Rattle.ranges_tracker.specs.declared.comment.Comment.{Comment}
use Rattle.ranges_tracker.specs.Agree.{IsSince}
use Rattle.book.specs.Shown.{IsBook, unclosed}
use Rattle.turn_rules.specs.Owning.{driver_count}
use Rattle.book.proofs.Booking.{no_name, push_book}
use Rattle.book.proofs.Fenced.{IsUnder, last_stays, under}
use Rattle.book.proofs.Keeping.{Passes, here_flushed, kept_set}
use Rattle.book.proofs.Locking.{busy_is, made, not_busy}
use Rattle.book.proofs.Owed.{owed_set}
use Rattle.journal_rules.proofs.Lists.{some_same}

-- ---- why a document can't be taken up
module _ (j : List Entry) (documents : List Document) (doc : ℕ) (x : Document) (were : AreDocuments documents j) (at : slice_get documents doc ≡ Some x) where
  any_refusal : acquire_any_refused doc j ≡ unavailable_by (busy doc j) (cached doc j)
  any_refusal = ap (λ b. if b then unavailable_by (busy doc j) (cached doc j) else Some NoDoc) (lt-ltb doc (length (makings j)) (made j documents doc x were at))

  pub any_busy : (now : ℕ) → now ≡ clock j → IsUnexpired x.lock now → acquire_any_refused doc j ≡ Some (IsBusy (record { token = x.lock.last; until = x.lock.until }))
  any_busy now now_is u = any_refusal ∙ ap (λ o. unavailable_by o (cached doc j)) (busy_is doc now x j (were.each doc x at) now_is u)

  pub any_free : (now : ℕ) → now ≡ clock j → (IsUnexpired x.lock now → ⊥) → acquire_any_refused doc j ≡ None
  any_free now now_is free = any_refusal ∙ ap₂ unavailable_by (not_busy doc now x j (were.each doc x at) now_is free) (were.each doc x at).cached_is

-- ---- what is taken up
pub taken_up : (doc token until : ℕ) (was now : Document) (look : KeptLook) (j : List Entry) (e : Entry) {seat : ℕ} → IsDocument doc now (j ++ e ∷ []) → IsLocked (record { last = token; until = until; seat = e.seat; held = true }) was now
    → e.act ≡ Acquired doc token until → e.seat ≡ seat → look ≡ record { token = token; doc = doc; version = was.window.version; text = was.text; ranges = was.ranges } → IsKeptLook (j ++ e ∷ []) seat look
taken_up doc token until was now look j e {seat} here locked act_is seat_is look_is =
    let k = j ++ e ∷ [] in
    let a : Acquiring = record { seat = e.seat; doc = doc; token = token; until = until } in
    let last : last_acquiring doc k ≡ Some a = last_acquiring-push doc j e ∙ ap (λ b. acquired_by doc e.seat b (last_acquiring doc j)) act_is ∙ ap (λ b. if b then Some a else last_acquiring doc j) (eq-eqb doc doc refl) in
    subst (IsKeptLook k seat) (sym look_is) (record {
      taken = record { acquiring = a; last = last; token_is = refl; seat_is = seat_is; cached_is = here.cached_is };
      version_is = sym (ap (λ (w : Recent). w.version) locked.same.window_is) ∙ here.window_is.version_is;
      text_is = here.text_is ∙ ap (λ t. Some t) locked.same.text_is;
      ranges_are = here.tracked.ranges_are ∙ locked.same.ranges_are;
    })

-- and may be kept
pub may_keep : (doc : ℕ) (x : Document) (look : KeptLook) (j : List Entry) → IsLegal j → length j ≤ 2 ^ 61 → IsDocument doc x j → look.version ≡ x.window.version → look.text ≡ x.text → look.ranges ≡ x.ranges → IsKept look.text look.version look.ranges
may_keep doc x look j legal short is version_is text_is ranges_are =
    let at = tracked_at (cells doc j) x.text x.ranges (version doc j) is.tracked in
    let v = version_is ∙ is.window_is.version_is in
    let low = version_low doc j legal in
    rw (text_is, ranges_are) (record { agree = at.agree; since = subst (λ n. IsSince n x.ranges.0) (sym v) at.since; long = is.short; bound = omega (arith, v, low, short) })

pub prepared_at_once : (look : KeptLook) (prepared : PreparedKept) (seat : ℕ) (j : List Entry) → IsKeptLook j seat look → IsMadeOf look prepared → IsPreparedFor j seat prepared
prepared_at_once look prepared seat j is by = record {
  early = j;
  more = [];
  journal_is = sym (append-nil j);
  taken = subst (IsTaken j seat prepared.doc) (sym by.token_is) (subst (λ n. IsTaken j seat n look.token) (sym by.doc_is) is.taken);
  kept_is = by.kept_is ∙ whole ∙ ap (λ n. kept_document n (version n j) j) (sym by.doc_is);
  unused = all_none (λ (e : Entry). is_in prepared.token (used_by e.act) ≡ false);
}
  where
    text_is : text_at look.doc (version look.doc j) j ≡ Some look.text
    text_is = text_at_version look.doc j ∙ is.text_is

    cells_is : cells_at look.doc (version look.doc j) j ≡ cells look.doc j
    cells_is = cells_at_version look.doc j

    whole : record { lines = lines_of look.text; version = look.version; ranges = look.ranges } ≡ kept_document look.doc (version look.doc j) j
    whole = ap₂ (λ (n : ℕ) (r : List Change × List Comment). record { lines = lines_of look.text; version = n; ranges = r }) is.version_is (sym is.ranges_are ∙ ap shown (sym cells_is))
        ∙ ap (λ o. record { lines = lines_of (unwrap_or o []); version = version look.doc j; ranges = shown (cells_at look.doc (version look.doc j) j) }) (sym text_is)

-- ---- while the token stands, the document is what was taken up
module _ (prepared : PreparedKept) (seat : ℕ) (j : List Entry) (legal : IsLegal j) (of : IsPreparedFor j seat prepared) (stands : staleness prepared.doc prepared.token j ≡ None) where
  now : IsUnder prepared.doc prepared.token j
  now = under prepared.doc prepared.token j stands

  same : of.taken.acquiring ≡ now.acquiring
  same = last_stays prepared.doc prepared.token of.early of.more j of.taken.acquiring of.journal_is legal of.taken.last of.taken.token_is now

  pub holds : Holds seat prepared.doc prepared.token j
  holds = record { acquiring = now.acquiring; held = now.held; token_is = now.token_is; seat_is = ap (λ (x : Acquiring). x.seat) (sym same) ∙ of.taken.seat_is }

  fence : IsSameOf prepared.doc of.early j
  fence = subst (λ (k : List Entry). IsSameOf prepared.doc of.early k) (sym of.journal_is)
      (fenced of.early of.more prepared.doc of.taken.acquiring (subst IsLegal of.journal_is legal) of.taken.last
      (sym (ap (last_acquiring prepared.doc) of.journal_is) ∙ now.held.last ∙ ap (λ (x : Acquiring). Some x) (sym same)) none)
    where
      none : All (λ (e : Entry). is_in of.taken.acquiring.token (used_by e.act) ≡ false) of.more
      none = subst (λ t. All (λ (e : Entry). is_in t (used_by e.act) ≡ false) of.more) (sym of.taken.token_is) of.unused

  pub version_is : prepared.kept.version ≡ version prepared.doc j
  version_is = ap (λ (k : Kept). k.version) of.kept_is ∙ sym fence.version_is

  pub put_is : prepared.kept ≡ kept_document prepared.doc prepared.kept.version j
  put_is = of.kept_is
      ∙ ap₂ (λ (o : Option (List ℕ)) (r : Row). record { lines = lines_of (unwrap_or o []); version = version prepared.doc of.early; ranges = shown r }) (sym (fence.text_is (version prepared.doc of.early))) (sym (fence.cells_is (version prepared.doc of.early)))
      ∙ ap (λ n. kept_document prepared.doc n j) (sym (ap (λ (k : Kept). k.version) of.kept_is))

  pub made_still : IsMade prepared.doc j
  made_still = acquired_made prepared.doc j legal now.acquiring now.held.last

-- ---- the document was put
put_owes : (documents documents' : List Document) (doc v : ℕ) (t : Turns doc (IsKeptAt v) documents documents') → owed_for documents' ≡ owed_for documents
put_owes documents documents' doc v t =
    let all = owed_set documents doc t.was t.now t.at in
    let s = ap owed_for t.set_is in
    let l = ap length t.is.waiting_is in
    let h : one_for t.now.lock.held ≡ one_for t.was.lock.held = ap (λ (k : LockState). one_for k.held) t.is.lock_is in
    omega (arith, all, s, l, h)

pub flushed_book : {names names' : List (List ℕ)} (before mid after : Journaled) (documents documents' : List Document) (now tokens owed drivers sum doc token v seat : ℕ) (e : Entry)
    → IsBook before names documents now tokens owed drivers → names' ≡ names → entries mid ≡ entries before → (sum ≡ owed + 1) × (sum ≤ spare mid) → entries after ≡ entries mid ++ e ∷ [] → spare after + 1 ≡ spare mid
    → e.seat ≡ seat → e.act ≡ Flushed doc token v → Holds seat doc token (entries before) → v ≡ version doc (entries before) → Turns doc (IsKeptAt v) documents documents' → IsBook after names' documents' now tokens owed drivers
flushed_book {names} {names'} before mid after documents documents' now tokens owed drivers sum doc token v seat e was called same enough more less seat_is is holds at t =
    let j = entries before in
    let x = was.stands.each doc t.was t.at in
    let may : IsAllowed j seat (Flushed doc token v) = record { holds = holds; cached_is = x.cached_is; v_is = at } in
    let allowed : IsAllowed j e.seat e.act = subst (IsAllowed j e.seat) (sym is) (subst (λ n. IsAllowed j n (Flushed doc token v)) (sym seat_is) may) in
    let here = here_flushed doc t.was t.now j e was.stands.legal x token v is t.is in
    let stands = kept_set documents doc t.was t.now j e t.at allowed (λ d apart. subst (Passes d) (sym is) apart) (ap making_of is) here was.stands in
    let none = ap (λ a. length (acquiring_of e.seat a)) is in
    let owes = put_owes documents documents' doc v t in
    let counted = was.counted in
    let sum_is = enough.0 in
    let sum_low = enough.1 in
    push_book before after documents documents' now now tokens tokens owed owed drivers e was (no_name names names' e called (ap making_of is)) (more ∙ ap (λ l. l ++ e ∷ []) same)
    (subst (λ (l : List Document). AreDocuments l (j ++ e ∷ [])) (sym t.set_is) stands) (ap (λ a. ticked a now) (sym is)) was.now_low (omega (arith, none))
    (subst (λ (l : List ℕ). owed_for documents' + unclosed (driver_count drivers) l ≤ owed) (sym (ap (λ a. closed j ++ closed_by a) is ∙ append-nil (closed j))) (omega (arith, owes, counted)))
    (omega (arith, sum_is, sum_low, less))

-- ---- the keeper failed
pub faults_rose : (before after : ℕ) (j : List Entry) → Rose before after → before ≤ after → after ≤ 2 ^ 64 - 1 → All (λ end. end ≤ before) (faults j) → FaultsRose before after j
faults_rose before after j rose later high onward = record { rose = by (cases_lt before (2 ^ 64 - 1)); onward = onward }
  where
    by : (before < 2 ^ 64 - 1) ⊎ (2 ^ 64 - 1 ≤ before) → (before < after) ⊎ ((before ≡ 2 ^ 64 - 1) × (after ≡ 2 ^ 64 - 1))
    by (inl lt) = inl (omega (arith, lt, rose))
    by (inr ge) = inr (omega (arith, ge, later, high), omega (arith, ge, later, high))

-- ---- the name of a document
pub name_there : (ms : List Making) (i : ℕ) (n : List ℕ) → slice_get (map (λ (m : Making). m.name) ms) i ≡ Some n → n ≡ name_in (slice_get ms i)
name_there [] i n at = absurd (cc)
name_there (m ∷ ms) zero n at = sym (some_same m.name n at)
name_there (m ∷ ms) (suc i) n at = name_there ms i n at

-- ---- what the keeper answered
pub err_of : {T E : Type 0} {P : Type 0} (r : Result T E) (e : E) → r ≡ Err e → OnErr r P → P
err_of {P = P} r e is told = subst (λ x. OnErr x P) is told

pub ok_of : {T E : Type 0} {P : Type 0} (r : Result T E) (x : T) → r ≡ Ok x → OnOk r P → P
ok_of {P = P} r x is told = subst (λ y. OnOk y P) is told
