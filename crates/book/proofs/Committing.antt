-- A decision by a look is committed.
use Rattle.std.proofs.Common.{refl, sym, ap, subst, ◌≡◌, inl, ℕ, ◌+◌, ◌-◌, ◌<◌, ◌^◌, List, [], ◌∷◌, ◌++◌, length, ◌∙◌, arith}
use Rattle.std.specs.Prelude.{slice_get, Option, Some, None}
use Rattle.dup_check.specs.declared.snapshot.Snapshot.{Snapshot}
use Rattle.dup_check.specs.declared.snapshot.Decision.{Decision}
use Rattle.dup_check.specs.declared.snapshot.Decision.TheVariants.{Apply, Dup, Refuse}
use Rattle.dup_check.specs.Snapshot.{outcome_of}
use Rattle.journal_entries.specs.Journals.{Journaled, entries, spare}
use Rattle.journal_entries.specs.declared.act.Act.TheVariants.{Committed}
use Rattle.journal_entries.specs.declared.act.Entry.{Entry}
use Rattle.journal_entries.specs.declared.update.Outcome.{Outcome}
use Rattle.journal_entries.specs.declared.update.Outcome.TheVariants.{Dup as DupOutcome, Refused}
use Rattle.history_queue.specs.declared.item.Item.{Item as HistoryItem}
use Rattle.journal_rules.specs.Documents.{IsMade, making_of}
use Rattle.journal_rules.specs.History.{handed_by, history_by}
use Rattle.journal_rules.specs.Deciding.{decided}
use Rattle.journal_rules.specs.Legal.{IsAllowed, IsLegal}
use Rattle.journal_laws.proofs.Unmade.{version_low}
use Rattle.turn_rules.specs.Locking.{staleness}
use Rattle.book.specs.declared.document.Document.{Document}
use Rattle.project_histories.specs.Histories.{AreHistories, Histories}
use Rattle.project_histories.proofs.Histories.{dup_none, histories_applied, histories_quiet, refused_none}
use Rattle.book.specs.Looking.{IsDecided, IsOf, IsSettled, PutsItem, item_by}
use Rattle.book.specs.Standing.{AreDocuments, Turns}
use Rattle.book.specs.Shown.{IsBook}
use Rattle.journal_rules.proofs.Fencing.{acquired_made}
use Rattle.book.proofs.Fenced.{first, holds, named, read, still, still_decided, under, unused}
use Rattle.project_histories.proofs.Lists.{at_within}
use Rattle.book.proofs.Locking.{settled_book}
use Rattle.book.proofs.Settling.{becomes}

-- what becomes of the update by the journal as it is
pub decided_now : (j : List Entry) (documents : List Document) (x : Document) (look : Snapshot) (decision : Decision) → AreDocuments documents j → slice_get documents look.doc ≡ Some x → IsOf look j → staleness look.doc look.token j ≡ None → IsDecided look decision → outcome_of look.version decision ≡ decided j look.doc look.update
decided_now j documents x look decision were at of stands by = still_decided look j were.legal of stands x decision (were.each look.doc x at) by

-- the same of the documents, wherever the document stands
pub decided_here : (j : List Entry) (documents : List Document) (look : Snapshot) (decision : Decision) → AreDocuments documents j → IsOf look j → staleness look.doc look.token j ≡ None → IsDecided look decision → outcome_of look.version decision ≡ decided j look.doc look.update
decided_here j documents look decision were of stands by =
    let u = under look.doc look.token j stands in
    let made = acquired_made look.doc j were.legal u.acquiring u.held.last in
    let c = were.count in
    let x = at_within documents look.doc (omega (arith, made, c)) in
    decided_now j documents x.0 look decision were x.1 of stands by

pub committed_book : {names names' : List (List ℕ)} (before after : Journaled) (documents documents' : List Document) (now tokens owed drivers seat : ℕ) (look : Snapshot) (decision : Decision) (e : Entry)
    → IsBook before names documents now tokens owed drivers → names' ≡ names → entries after ≡ entries before ++ e ∷ [] → spare after + 1 ≡ spare before
    → e.seat ≡ seat → seat ≡ look.seat → e.act ≡ Committed look.doc look.token look.ticket (outcome_of look.version decision)
    → IsOf look (entries before) → staleness look.doc look.token (entries before) ≡ None → IsDecided look decision → Turns look.doc (IsSettled look decision) documents documents' → IsBook after names' documents' now tokens (owed - 1) drivers
committed_book before after documents documents' now tokens owed drivers seat look decision e was called more less seat_is own is of stands by t =
    let j = entries before in
    let legal = was.stands.legal in
    let x = was.stands.each look.doc t.was t.at in
    let outcome = outcome_of look.version decision in
    let f = first look j legal of stands in
    let may : IsAllowed j look.seat (Committed look.doc look.token look.ticket outcome) = record {
      holds = holds look j legal of stands;
      unused = unused look j legal of stands;
      rest = _;
      first = f;
      ends = inl (record { update = look.update; named = named look j legal of stands; outcome_is = still_decided look j legal of stands t.was decision x by; cached_is = x.cached_is });
    } in
    settled_book before after documents documents' now tokens owed drivers look.doc look.token look.ticket look.seat outcome look.update _ e was called more less (seat_is ∙ own) is may f (named look j legal of stands)
    t (becomes t.was look.update look (still look j legal of stands t.was x) decision t.now by.applies t.is.takes) t.is.lock_is t.is.kept_is t.is.ticket t.is.waiting_is

-- the version of a document has room to grow
pub version_fits : (j : List Entry) (documents : List Document) (x : Document) (d : ℕ) → AreDocuments documents j → slice_get documents d ≡ Some x → length j < 2 ^ 63 → x.window.version < 2 ^ 64 - 1
version_fits j documents x d were at short =
    let v = (were.each d x at).window_is.version_is in
    let low = version_low d j were.legal in
    omega (arith, v, low, short)

-- ---- the history of the document's project
pub committed_histories : (h h' : Histories) (j : List Entry) (e : Entry) (look : Snapshot) (decision : Decision) (item : Option HistoryItem) → IsLegal j → IsOf look j → staleness look.doc look.token j ≡ None
    → e.act ≡ Committed look.doc look.token look.ticket (outcome_of look.version decision) → item ≡ item_by look decision → PutsItem look.doc item h h' → AreHistories h j → AreHistories h' (j ++ e ∷ [])
committed_histories h h' j e look decision item legal of stands is item_is puts were = by decision is (subst (λ o. PutsItem look.doc o h h') item_is puts)
  where
    made : IsMade look.doc j
    made = let u = under look.doc look.token j stands in acquired_made look.doc j legal u.acquiring u.held.last

    as_before : (o : Outcome) → e.act ≡ Committed look.doc look.token look.ticket o → ((p : List ℕ) → history_by p j (Committed look.doc look.token look.ticket o) ≡ []) → h' ≡ h → AreHistories h' (j ++ e ∷ [])
    as_before o at none same =
        subst (λ (k : Histories). AreHistories k (j ++ e ∷ [])) (sym same)
        (histories_quiet h j e legal (ap making_of at) (λ p. ap (history_by p j) at ∙ none p) (λ p. ap (handed_by p) at) were)

    by : (d : Decision) → e.act ≡ Committed look.doc look.token look.ticket (outcome_of look.version d) → PutsItem look.doc (item_by look d) h h' → AreHistories h' (j ++ e ∷ [])
    by (Apply op text ranges) at put = histories_applied h h' j e look.doc look.token look.ticket look.version op look.update look.text _ legal at (named look j legal of stands) (read look j legal of stands) made refl put were
    by (Dup v) at same = as_before (DupOutcome v) at (λ p. dup_none p j look.doc look.token look.ticket v) same
    by (Refuse cause) at same = as_before (Refused cause) at (λ p. refused_none p j look.doc look.token look.ticket cause) same
