-- The documents of a book after one entry more.
use Rattle.std.proofs.Common.{◌≡◌, ◌≢◌, ◌⊎◌, inl, inr, ℕ, zero, suc, ◌≤◌, ◌<◌, List, [], ◌∷◌, ◌++◌, length, true, false, slice_set, refl, sym, ap, ap₂, ◌∙◌, subst, arith, eqb, eq-eqb, ne_eqb, append-nil, length-append}
use Rattle.std.specs.Prelude.{slice_get, Option, Some, None, if◌then◌else◌, ⊤}
use Rattle.std.proofs.lemmas.Option.{slice_get_within}
use Rattle.std.proofs.lemmas.List.{length-set}
use Rattle.std.proofs.lemmas.Bool.Decides.{eqb_tells}
use Rattle.journal_entries.specs.declared.update.Update.{Update}
use Rattle.journal_entries.specs.declared.update.Outcome.{Outcome}
use Rattle.journal_entries.specs.declared.act.Act.{Act}
use Rattle.journal_entries.specs.declared.act.Act.TheVariants.{Made, Ticked, Joined as JoinedAct, Edited, Sent, Malformed, Got, Left as LeftAct, Acquired, Committed, Released, Flushed, FlushFailed, Handed, Declined, Closed}
use Rattle.journal_entries.specs.declared.act.Entry.{Entry}
use Rattle.journal_rules.specs.Documents.{IsMade, Making, making_of, makings, item_of, items_by, applied_list, sends, ticket_of, waiting, update_at}
use Rattle.journal_rules.specs.Keeping.{cached_by, cached, kept_by, kept}
use Rattle.journal_rules.specs.Locks.{Acquiring, acquired_by, last_acquiring, next_token, released_by, released}
use Rattle.journal_rules.specs.Legal.{IsAllowed, IsLegal}
use Rattle.journal_rules.proofs.Pushing.{makings-push, makings-none, applied_list-push, cached-push, kept-push, kept-none}
use Rattle.journal_rules.proofs.Legality.{Keeps, by_last, seam, last_or, legal_push}
use Rattle.journal_rules.proofs.Fencing.{acquired_made}
use Rattle.journal_laws.proofs.Unmade.{unmade_waits, unmade_applied}
use Rattle.journal_rules.proofs.Waits.{one_if, committed_below, waiting-more, waiting-committed, waiting-committed_other, waits_still}
use Rattle.book.specs.declared.document.Document.{Document}
use Rattle.book.specs.Deciding.{Becomes}
use Rattle.book.specs.Standing.{AreDocuments, IsDocument, IsNew, IsQueued, IsKeptAs, IsLocked, IsFreed, IsKeptAt, Turns, lock_in, lock_of}
use Rattle.project_histories.proofs.Lists.{set_elsewhere, set_here}
use Rattle.book.proofs.Standing.{same_self, moved, made_new, applied_document}
use Rattle.book.proofs.Tokens.{lock_still, lock_push, lock_acquired, lock_released, lock_elsewhere}

-- an act that says nothing of a document
abbrev pub Passes : ℕ → Act → Type 0
Passes d (Made doc name project first base) = doc ≢ d
Passes d (Ticked ms) = ⊤
Passes d (Sent u) = u.doc ≢ d
Passes d (Malformed doc fault) = ⊤
Passes d (Acquired doc token until) = doc ≢ d
Passes d (Committed doc token ticket outcome) = doc ≢ d
Passes d (Released doc token) = doc ≢ d
Passes d (Flushed doc token v) = doc ≢ d
Passes d (FlushFailed doc token from to) = ⊤
Passes d (Handed project count) = ⊤
Passes d (Declined session why) = ⊤
Passes d (JoinedAct client doc user track since source v) = ⊤
Passes d (Edited client comp) = ⊤
Passes d (Got client brief) = ⊤
Passes d (LeftAct client) = ⊤
Passes d (Closed driver) = ⊤
Passes d _ = ⊥

making_within : (ms : List Making) (m : Making) (d : ℕ) → d < length ms → slice_get (ms ++ m ∷ []) d ≡ slice_get ms d
making_within [] m d lt = absurd (omega (arith, lt))
making_within (x ∷ xs) m zero lt = refl
making_within (x ∷ xs) m (suc d) lt = making_within xs m d (omega (arith, lt))

record Facts (d : ℕ) (j : List Entry) (seat : ℕ) (a : Act) : Type 0 where
  makes : slice_get (makings j ++ making_of a) d ≡ slice_get (makings j) d
  items : items_by d j a ≡ []
  locks : lock_in (acquired_by d seat a (last_acquiring d j)) (released j ++ released_by a) ≡ lock_of d j
  caches : cached_by d a (cached d j) ≡ cached d j
  keeps : kept_by d a (kept d j) ≡ kept d j

none_made : (d : ℕ) (j : List Entry) → slice_get (makings j ++ []) d ≡ slice_get (makings j) d
none_made d j = ap (λ l. slice_get l d) (append-nil (makings j))

facts : (d : ℕ) (j : List Entry) (seat : ℕ) (a : Act) → IsLegal j → IsAllowed j seat a → Passes d a → IsMade d j → Facts d j seat a
facts d j seat (Made doc name project first base) legal may apart made = record {
  makes = making_within (makings j) _ d made;
  items = refl;
  locks = lock_still d j seat (Made doc name project first base) refl refl;
  caches = ap (λ b. if b then true else cached d j) (ne_eqb doc d apart);
  keeps = refl;
}
facts d j seat (Ticked ms) legal may apart made = record { makes = none_made d j; items = refl; locks = lock_still d j seat (Ticked ms) refl refl; caches = refl; keeps = refl }
facts d j seat (Sent u) legal may apart made = record { makes = none_made d j; items = refl; locks = lock_still d j seat (Sent u) refl refl; caches = refl; keeps = refl }
facts d j seat (Malformed doc fault) legal may apart made = record { makes = none_made d j; items = refl; locks = lock_still d j seat (Malformed doc fault) refl refl; caches = refl; keeps = refl }
facts d j seat (Acquired doc token until) legal may apart made = record {
  makes = none_made d j;
  items = refl;
  locks = lock_still d j seat (Acquired doc token until) (ap (λ b. if b then Some (record { seat = seat; doc = doc; token = token; until = until }) else last_acquiring d j) (ne_eqb doc d apart)) refl;
  caches = refl;
  keeps = refl;
}
facts d j seat (Committed doc token ticket outcome) legal may apart made = record {
  makes = none_made d j;
  items = ap (λ b. if b then item_of ticket (update_at j ticket) outcome else []) (ne_eqb doc d apart);
  locks = lock_still d j seat (Committed doc token ticket outcome) refl refl;
  caches = refl;
  keeps = refl;
}
facts d j seat (Released doc token) legal may apart made = record {
  makes = none_made d j;
  items = refl;
  locks = lock_elsewhere d doc token may.acquiring j legal may.held.last may.token_is apart;
  caches = refl;
  keeps = refl;
}
facts d j seat (Flushed doc token v) legal may apart made = record {
  makes = none_made d j;
  items = refl;
  locks = lock_still d j seat (Flushed doc token v) refl refl;
  caches = refl;
  keeps = ap (λ b. if b then Some v else kept d j) (ne_eqb doc d apart);
}
facts d j seat (FlushFailed doc token from to) legal may apart made = record { makes = none_made d j; items = refl; locks = lock_still d j seat (FlushFailed doc token from to) refl refl; caches = refl; keeps = refl }
facts d j seat (Handed project count) legal may apart made = record { makes = none_made d j; items = refl; locks = lock_still d j seat (Handed project count) refl refl; caches = refl; keeps = refl }
facts d j seat (Declined session why) legal may apart made = record { makes = none_made d j; items = refl; locks = lock_still d j seat (Declined session why) refl refl; caches = refl; keeps = refl }
facts d j seat (Closed driver) legal may apart made = record { makes = none_made d j; items = refl; locks = lock_still d j seat (Closed driver) refl refl; caches = refl; keeps = refl }
facts d j seat (JoinedAct client doc user track since source v) legal may apart made = record { makes = none_made d j; items = refl; locks = lock_still d j seat (JoinedAct client doc user track since source v) refl refl; caches = refl; keeps = refl }
facts d j seat (Edited client comp) legal may apart made = record { makes = none_made d j; items = refl; locks = lock_still d j seat (Edited client comp) refl refl; caches = refl; keeps = refl }
facts d j seat (Got client brief) legal may apart made = record { makes = none_made d j; items = refl; locks = lock_still d j seat (Got client brief) refl refl; caches = refl; keeps = refl }
facts d j seat (LeftAct client) legal may apart made = record { makes = none_made d j; items = refl; locks = lock_still d j seat (LeftAct client) refl refl; caches = refl; keeps = refl }
facts d j seat _ legal may apart made = absurd apart

pub waits_on : (d : ℕ) (j : List Entry) (e : Entry) (a : Act) → e.act ≡ a → IsLegal j → IsAllowed j e.seat a → Passes d a → waiting d (j ++ e ∷ []) ≡ waiting d j
waits_on d j e (Committed doc token ticket outcome) is legal may apart = waiting-committed_other d doc j e ticket may.rest (λ h. apart (sym h)) (ap (sends d) is) (ap ticket_of is) may.first
waits_on d j e (Sent u) is legal may apart = waits_still d j e legal (ap ticket_of is) (ap (sends d) is ∙ ne_eqb u.doc d apart)
waits_on d j e (Made doc name project first base) is legal may apart = waits_still d j e legal (ap ticket_of is) (ap (sends d) is)
waits_on d j e (Ticked ms) is legal may apart = waits_still d j e legal (ap ticket_of is) (ap (sends d) is)
waits_on d j e (Malformed doc fault) is legal may apart = waits_still d j e legal (ap ticket_of is) (ap (sends d) is)
waits_on d j e (Acquired doc token until) is legal may apart = waits_still d j e legal (ap ticket_of is) (ap (sends d) is)
waits_on d j e (Released doc token) is legal may apart = waits_still d j e legal (ap ticket_of is) (ap (sends d) is)
waits_on d j e (Flushed doc token v) is legal may apart = waits_still d j e legal (ap ticket_of is) (ap (sends d) is)
waits_on d j e (FlushFailed doc token from to) is legal may apart = waits_still d j e legal (ap ticket_of is) (ap (sends d) is)
waits_on d j e (Handed project count) is legal may apart = waits_still d j e legal (ap ticket_of is) (ap (sends d) is)
waits_on d j e (Declined session why) is legal may apart = waits_still d j e legal (ap ticket_of is) (ap (sends d) is)
waits_on d j e (Closed driver) is legal may apart = waits_still d j e legal (ap ticket_of is) (ap (sends d) is)
waits_on d j e (JoinedAct client doc user track since source v) is legal may apart = waits_still d j e legal (ap ticket_of is) (ap (sends d) is)
waits_on d j e (Edited client comp) is legal may apart = waits_still d j e legal (ap ticket_of is) (ap (sends d) is)
waits_on d j e (Got client brief) is legal may apart = waits_still d j e legal (ap ticket_of is) (ap (sends d) is)
waits_on d j e (LeftAct client) is legal may apart = waits_still d j e legal (ap ticket_of is) (ap (sends d) is)
waits_on d j e _ is legal may apart = absurd apart

-- a document of which an entry says nothing
pub passed : (d : ℕ) (x : Document) (j : List Entry) (e : Entry) → IsLegal j → IsAllowed j e.seat e.act → Passes d e.act → IsMade d j → IsDocument d x j → IsDocument d x (j ++ e ∷ [])
passed d x j e legal may apart made was =
    let f = facts d j e.seat e.act legal may apart made in
    moved d x x j (j ++ e ∷ [])
    (ap (λ l. slice_get l d) (makings-push j e) ∙ f.makes)
    (applied_list-push d j e ∙ ap (λ l. applied_list d j ++ l) f.items ∙ append-nil (applied_list d j))
    (same_self x)
    (was.waiting_is ∙ sym (waits_on d j e e.act refl legal may apart))
    (was.lock_is ∙ sym (lock_push d j e ∙ f.locks))
    (was.kept_is ∙ sym (kept-push d j e ∙ f.keeps))
    (cached-push d j e ∙ f.caches ∙ was.cached_is) was

-- ---- all documents
same_count : (j : List Entry) (e : Entry) → making_of e.act ≡ [] → length (makings (j ++ e ∷ [])) ≡ length (makings j)
same_count j e no_making = ap length (makings-push j e ∙ ap (λ l. makings j ++ l) no_making ∙ append-nil (makings j))

pub kept_quiet : (documents : List Document) (j : List Entry) (e : Entry) → IsAllowed j e.seat e.act → ((d : ℕ) → Passes d e.act) → making_of e.act ≡ [] → AreDocuments documents j → AreDocuments documents (j ++ e ∷ [])
kept_quiet documents j e may apart no_making were = record {
  legal = legal_push j e were.legal may;
  few = were.few;
  count = were.count ∙ sym (same_count j e no_making);
  each = λ d x at. (let lt = slice_get_within documents d x at in let c = were.count in passed d x j e were.legal may (apart d) (omega (arith, lt, c)) (were.each d x at));
}

pub kept_set : (documents : List Document) (doc : ℕ) (was now : Document) (j : List Entry) (e : Entry) → slice_get documents doc ≡ Some was → IsAllowed j e.seat e.act → ((d : ℕ) → doc ≢ d → Passes d e.act) → making_of e.act ≡ []
    → IsDocument doc now (j ++ e ∷ []) → AreDocuments documents j → AreDocuments (slice_set documents doc now) (j ++ e ∷ [])
kept_set documents doc was now j e at_was may apart no_making here were = record {
  legal = legal_push j e were.legal may;
  few = let n = length-set documents doc now in let m = were.few in omega (arith, n, m);
  count = length-set documents doc now ∙ were.count ∙ sym (same_count j e no_making);
  each = λ d x at. by d x at (eqb_tells doc d);
}
  where
    by : (d : ℕ) (x : Document) → slice_get (slice_set documents doc now) d ≡ Some x → ((eqb doc d ≡ true) × (doc ≡ d)) ⊎ ((eqb doc d ≡ false) × (doc ≢ d)) → IsDocument d x (j ++ e ∷ [])
    by d x at (inl t) =
        let is : x ≡ now = set_here documents doc now x (subst (λ (n : ℕ). slice_get (slice_set documents doc now) n ≡ Some x) (sym t.1) at) in
        subst (λ (n : ℕ). IsDocument n x (j ++ e ∷ [])) t.1 (subst (λ (y : Document). IsDocument doc y (j ++ e ∷ [])) (sym is) here)
    by d x at (inr t) =
        let at_old = set_elsewhere documents doc d now x (λ h. t.1 (sym h)) at in
        let lt = slice_get_within documents d x at_old in let c = were.count in
        passed d x j e were.legal may (apart d t.1) (omega (arith, lt, c)) (were.each d x at_old)

-- ---- where nothing but spare room was changed
pub kept_same : (documents documents' : List Document) (doc : ℕ) (j : List Entry) → Turns doc IsKeptAs documents documents' → AreDocuments documents j → AreDocuments documents' j
kept_same documents documents' doc j t were = subst (λ (l : List Document). AreDocuments l j) (sym t.set_is) (record {
  legal = were.legal;
  few = let n = length-set documents doc t.now in let m = were.few in omega (arith, n, m);
  count = length-set documents doc t.now ∙ were.count;
  each = λ d x at. by d x at (eqb_tells doc d);
})
  where
    was : IsDocument doc t.was j
    was = were.each doc t.was t.at

    by : (d : ℕ) (x : Document) → slice_get (slice_set documents doc t.now) d ≡ Some x → ((eqb doc d ≡ true) × (doc ≡ d)) ⊎ ((eqb doc d ≡ false) × (doc ≢ d)) → IsDocument d x j
    by d x at (inl s) =
        let is : x ≡ t.now = set_here documents doc t.now x (subst (λ (n : ℕ). slice_get (slice_set documents doc t.now) n ≡ Some x) (sym s.1) at) in
        subst (λ (n : ℕ). IsDocument n x j) s.1 (subst (λ (y : Document). IsDocument doc y j) (sym is)
        (moved doc t.was t.now j j refl refl t.is.same (t.is.waiting_is ∙ was.waiting_is) (t.is.lock_is ∙ was.lock_is) (t.is.kept_is ∙ was.kept_is) was.cached_is was))
    by d x at (inr s) = were.each d x (set_elsewhere documents doc d t.now x (λ h. s.1 (sym h)) at)

-- ---- a document that an entry speaks of
module _ (doc : ℕ) (was now : Document) (j : List Entry) (e : Entry) (legal : IsLegal j) (before : IsDocument doc was j) where
  no_making_more : making_of e.act ≡ [] → slice_get (makings (j ++ e ∷ [])) doc ≡ slice_get (makings j) doc
  no_making_more none = ap (λ l. slice_get l doc) (makings-push j e ∙ ap (λ l. makings j ++ l) none ∙ append-nil (makings j))

  no_item_more : items_by doc j e.act ≡ [] → applied_list doc (j ++ e ∷ []) ≡ applied_list doc j
  no_item_more none = applied_list-push doc j e ∙ ap (λ l. applied_list doc j ++ l) none ∙ append-nil (applied_list doc j)

  still_cached : cached_by doc e.act (cached doc j) ≡ cached doc j → cached doc (j ++ e ∷ []) ≡ true
  still_cached same = cached-push doc j e ∙ same ∙ before.cached_is

  still_kept : now.kept ≡ was.kept → kept_by doc e.act (kept doc j) ≡ kept doc j → now.kept ≡ kept doc (j ++ e ∷ [])
  still_kept same none = same ∙ before.kept_is ∙ sym (kept-push doc j e ∙ none)

  pub here_sent : (u : Update) → e.act ≡ Sent u → u.doc ≡ doc → IsQueued (length j) was now → IsDocument doc now (j ++ e ∷ [])
  here_sent u is own queued =
      moved doc was now j (j ++ e ∷ []) (no_making_more (ap making_of is)) (no_item_more (ap (items_by doc j) is)) queued.same
      (queued.waiting_is ∙ ap (λ l. l ++ length j ∷ []) before.waiting_is
      ∙ sym (waiting-more doc j e (committed_below j legal) (ap ticket_of is) ∙ ap (λ b. waiting doc j ++ one_if b (length j)) (ap (sends doc) is ∙ eq-eqb u.doc doc own)))
      (queued.lock_is ∙ before.lock_is ∙ sym (lock_push doc j e ∙ ap (λ a. lock_in (acquired_by doc e.seat a (last_acquiring doc j)) (released j ++ released_by a)) is ∙ ap (λ l. lock_in (last_acquiring doc j) l) (append-nil (released j))))
      (still_kept queued.kept_is (ap (λ a. kept_by doc a (kept doc j)) is))
      (still_cached (ap (λ a. cached_by doc a (cached doc j)) is)) before

  pub here_acquired : (token until : ℕ) → e.act ≡ Acquired doc token until → token ≡ next_token j → IsLocked (record { last = token; until = until; seat = e.seat; held = true }) was now → IsDocument doc now (j ++ e ∷ [])
  here_acquired token until is next locked =
      moved doc was now j (j ++ e ∷ []) (no_making_more (ap making_of is)) (no_item_more (ap (items_by doc j) is)) locked.same
      (locked.waiting_is ∙ before.waiting_is ∙ sym (waits_still doc j e legal (ap ticket_of is) (ap (sends doc) is)))
      (locked.lock_is ∙ sym (lock_acquired doc token until j e legal is next))
      (still_kept locked.kept_is (ap (λ a. kept_by doc a (kept doc j)) is))
      (still_cached (ap (λ a. cached_by doc a (cached doc j)) is)) before

  pub here_released : (token : ℕ) (a : Acquiring) → e.act ≡ Released doc token → last_acquiring doc j ≡ Some a → a.token ≡ token → IsFreed was now → IsDocument doc now (j ++ e ∷ [])
  here_released token a is last same freed =
      moved doc was now j (j ++ e ∷ []) (no_making_more (ap making_of is)) (no_item_more (ap (items_by doc j) is)) freed.same
      (freed.waiting_is ∙ before.waiting_is ∙ sym (waits_still doc j e legal (ap ticket_of is) (ap (sends doc) is)))
      (freed.lock_is ∙ ap (λ l. record { last = l.last; until = l.until; seat = l.seat; held = false }) before.lock_is ∙ sym (lock_released doc token a j e is last same))
      (still_kept freed.kept_is (ap (λ a. kept_by doc a (kept doc j)) is))
      (still_cached (ap (λ a. cached_by doc a (cached doc j)) is)) before

  pub here_committed : (token ticket : ℕ) (outcome : Outcome) (u : Update) (rest : List ℕ) → e.act ≡ Committed doc token ticket outcome → waiting doc j ≡ ticket ∷ rest → update_at j ticket ≡ Some u
      → Becomes was u now outcome → now.lock ≡ was.lock → now.kept ≡ was.kept → now.waiting.items ≡ rest → IsDocument doc now (j ++ e ∷ [])
  here_committed token ticket outcome u rest is first named becomes locks keeps waits =
      applied_document doc was now j (j ++ e ∷ []) ticket u outcome (no_making_more (ap making_of is))
      (applied_list-push doc j e ∙ ap (λ a. applied_list doc j ++ items_by doc j a) is
      ∙ ap (λ b. applied_list doc j ++ (if b then item_of ticket (update_at j ticket) outcome else [])) (eq-eqb doc doc refl)
      ∙ ap (λ o. applied_list doc j ++ item_of ticket o outcome) named)
      (waits ∙ sym (waiting-committed doc j e ticket rest (ap (sends doc) is) (ap ticket_of is) first))
      (locks ∙ before.lock_is ∙ sym (lock_push doc j e ∙ ap (λ a. lock_in (acquired_by doc e.seat a (last_acquiring doc j)) (released j ++ released_by a)) is ∙ ap (λ l. lock_in (last_acquiring doc j) l) (append-nil (released j))))
      (still_kept keeps (ap (λ a. kept_by doc a (kept doc j)) is))
      (still_cached (ap (λ a. cached_by doc a (cached doc j)) is)) becomes before

  pub here_flushed : (token v : ℕ) → e.act ≡ Flushed doc token v → IsKeptAt v was now → IsDocument doc now (j ++ e ∷ [])
  here_flushed token v is at =
      moved doc was now j (j ++ e ∷ []) (no_making_more (ap making_of is)) (no_item_more (ap (items_by doc j) is)) at.same
      (at.waiting_is ∙ before.waiting_is ∙ sym (waits_still doc j e legal (ap ticket_of is) (ap (sends doc) is)))
      (at.lock_is ∙ before.lock_is ∙ sym (lock_push doc j e ∙ ap (λ a. lock_in (acquired_by doc e.seat a (last_acquiring doc j)) (released j ++ released_by a)) is ∙ ap (λ l. lock_in (last_acquiring doc j) l) (append-nil (released j))))
      (at.kept_is ∙ sym (kept-push doc j e ∙ ap (λ a. kept_by doc a (kept doc j)) is ∙ ap (λ b. if b then Some v else kept doc j) (eq-eqb doc doc refl)))
      (still_cached (ap (λ a. cached_by doc a (cached doc j)) is)) before

-- ---- a new document
never_acquired : (d : ℕ) (j : List Entry) → IsLegal j → length (makings j) ≤ d → last_acquiring d j ≡ None
never_acquired d j legal high = by (last_acquiring d j) refl
  where
    by : (o : Option Acquiring) → last_acquiring d j ≡ o → o ≡ None
    by None is = refl
    by (Some a) is = let made = acquired_made d j legal a is in absurd (omega (arith, made, high))

pub unmade_lock : (d : ℕ) (j : List Entry) → IsLegal j → length (makings j) ≤ d → lock_of d j ≡ record { last = 0; until = 0; seat = 0; held = false }
unmade_lock d j legal high = ap (λ o. lock_in o (released j)) (never_acquired d j legal high)

-- a document that wasn't made was never put into the keeper
unmade_kept : (j : List Entry) → IsLegal j → (d : ℕ) → length (makings j) ≤ d → kept d j ≡ None
unmade_kept = by_last (λ j. (d : ℕ) → length (makings j) ≤ d → kept d j ≡ None) none more
  where
    none : (d : ℕ) → length (makings []) ≤ d → kept d [] ≡ None
    none d high = kept-none d

    one : (h : List Entry) (seat : ℕ) (a : Act) → IsLegal h → IsAllowed h seat a → (d : ℕ) → length (makings h) ≤ d → kept d h ≡ None → kept_by d a (kept d h) ≡ None
    one h seat (Flushed doc token v) legal may d high was = by (eqb_tells doc d)
      where
        by : ((eqb doc d ≡ true) × (doc ≡ d)) ⊎ ((eqb doc d ≡ false) × (doc ≢ d)) → (if eqb doc d then Some v else kept d h) ≡ None
        by (inl t) =
            let made = acquired_made doc h legal may.holds.acquiring may.holds.held.last in
            let same = t.1 in absurd (omega (arith, made, same, high))
        by (inr t) = ap (λ b. if b then Some v else kept d h) t.0 ∙ was
    one h seat _ legal may d high was = was

    more : Keeps (λ j. (d : ℕ) → length (makings j) ≤ d → kept d j ≡ None)
    more h e legal may was d high =
        let n = ap length (makings-push h e) ∙ length-append (makings h) (making_of e.act) in
        let low : length (makings h) ≤ d = omega (arith, n, high) in
        kept-push d h e ∙ one h e.seat e.act legal may d low (was d low)

pub kept_made : (documents : List Document) (new : Document) (j : List Entry) (e : Entry) (doc : ℕ) (name project first : List ℕ) (base : ℕ) → e.act ≡ Made doc name project first base → IsAllowed j e.seat (Made doc name project first base) → length documents < 1000 → IsNew new first base → AreDocuments documents j → AreDocuments (documents ++ new ∷ []) (j ++ e ∷ [])
kept_made documents new j e doc name project first base is may few is_new were = record {
  legal = legal_push j e were.legal (subst (IsAllowed j e.seat) (sym is) may);
  few = let n = length-append documents (new ∷ []) in omega (arith, n, few);
  count = let n = length-append documents (new ∷ []) in let k = ap length ms ∙ length-append (makings j) (m ∷ []) in let c = were.count in omega (arith, n, k, c);
  each = λ d document at. by d document (last_or documents new d document at);
}
  where
    m : Making
    m = record { name = name; project = project; first = first; base = base }

    ms : makings (j ++ e ∷ []) ≡ makings j ++ m ∷ []
    ms = makings-push j e ∙ ap (λ a. makings j ++ making_of a) is

    items : (d : ℕ) → applied_list d (j ++ e ∷ []) ≡ applied_list d j
    items d = applied_list-push d j e ∙ ap (λ a. applied_list d j ++ items_by d j a) is ∙ append-nil (applied_list d j)

    waits : (d : ℕ) → waiting d (j ++ e ∷ []) ≡ waiting d j
    waits d = waits_still d j e were.legal (ap ticket_of is) (ap (sends d) is)

    by : (d : ℕ) (document : Document) → (slice_get documents d ≡ Some document) ⊎ ((d ≡ length documents) × (document ≡ new)) → IsDocument d document (j ++ e ∷ [])
    by d document (inl at) =
        let lt = slice_get_within documents d document at in
        let c = were.count in
        let next = may.next in
        passed d document j e were.legal (subst (IsAllowed j e.seat) (sym is) may) (subst (Passes d) (sym is) (λ same. let s = same in absurd (omega (arith, s, lt, c, next)))) (omega (arith, lt, c)) (were.each d document at)
    by d document (inr t) =
        let at : d ≡ length (makings j) = t.0 ∙ were.count in
        let here : slice_get (makings (j ++ e ∷ [])) d ≡ Some m = ap₂ (λ (l : List Making) (n : ℕ). slice_get l n) ms at ∙ seam (makings j) m [] in
        let high : length (makings j) ≤ d = omega (arith, at) in
        let none : applied_list d (j ++ e ∷ []) ≡ [] = items d ∙ unmade_applied d j were.legal high in
        let idle : waiting d (j ++ e ∷ []) ≡ [] = waits d ∙ unmade_waits d j were.legal high in
        let locks : lock_of d (j ++ e ∷ []) ≡ record { last = 0; until = 0; seat = 0; held = false } =
        lock_push d j e ∙ ap (λ a. lock_in (acquired_by d e.seat a (last_acquiring d j)) (released j ++ released_by a)) is ∙ ap (λ l. lock_in (last_acquiring d j) l) (append-nil (released j)) ∙ unmade_lock d j were.legal high in
        let keeps : kept d (j ++ e ∷ []) ≡ None = kept-push d j e ∙ ap (λ a. kept_by d a (kept d j)) is ∙ unmade_kept j were.legal d high in
        let caches : cached d (j ++ e ∷ []) ≡ true = cached-push d j e ∙ ap (λ a. cached_by d a (cached d j)) is ∙ ap (λ b. if b then true else cached d j) (eq-eqb doc d (may.next ∙ sym at)) in
        subst (λ (x : Document). IsDocument d x (j ++ e ∷ [])) (sym t.1) (made_new d new (j ++ e ∷ []) m here none idle locks keeps caches may.short is_new)

-- no documents
pub kept_none : AreDocuments [] []
kept_none = record {
  legal = λ i e at. absurd (cc);
  few = omega arith;
  count = ap length (sym makings-none);
  each = λ d document at. absurd (cc);
}
