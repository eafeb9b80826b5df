-- A book after an update was sent, for which room was made in its document's queue and in the outboxes of its room.
use Rattle.std.proofs.Common.{◌≡◌, ℕ, ◌+◌, ◌-◌, ◌≤◌, List, [], ◌∷◌, ◌++◌, length, ap, ◌∙◌}
use Rattle.board.specs.declared.view.Start.{Start}
use Rattle.std.specs.Prelude.{slice_get, Some}
use Rattle.std.proofs.lemmas.List.{length-set}
use Rattle.rooms.specs.Rooms.{Roomed, AreRoomier, HaveRoom, member}
use Rattle.journal_entries.specs.Journals.{Journaled, entries, spare}
use Rattle.journal_entries.specs.declared.update.Update.{Update}
use Rattle.journal_entries.specs.declared.act.Act.TheVariants.{Sent}
use Rattle.journal_entries.specs.declared.act.Entry.{Entry}
use Rattle.journal_rules.specs.Legal.{IsAllowed}
use Rattle.book.specs.declared.document.Document.{Document}
use Rattle.book.specs.Standing.{IsKeptAs, IsQueued, Turns}
use Rattle.ranges_tracker.specs.Kept.{Kept}
use Rattle.std.proofs.Common.{Bool, subst, sym}
use Rattle.book.specs.Shown.{IsBookWithKeeper}
use Rattle.book.specs.Stored.{BeganBy}
use Rattle.journal_rules.specs.Documents.{making_of}
use Rattle.journal_rules.specs.History.{handed_by, history_by}
use Rattle.journal_rules.specs.Keeping.{fault_of, kept_by}
use Rattle.project_histories.specs.Histories.{Histories}
use Rattle.project_histories.proofs.Histories.{histories_quiet, histories_same}
use Rattle.turn_rules.specs.Owning.{IsByOwner}
use Rattle.turn_rules.proofs.Owning.{owned_push, owned_same}
use Rattle.book.proofs.Stored.{keeps_push, keeps_same}
use Rattle.book.proofs.Booking.{kept_owes, same_book, sent_book}
use Rattle.book.proofs.Holders.{queued_kept}
use Rattle.book.proofs.Keeping.{kept_same}
use Rattle.book.proofs.Roomed.{roomed_roomier, roomed_same, roomed_sent, told_room}

pub as_many : {R : Document → Document → Type 0} (documents documents' : List Document) (doc : ℕ) → Turns doc R documents documents' → length documents' ≡ length documents
as_many documents documents' doc t = ap length t.set_is ∙ length-set documents doc t.now

-- room was made
pub reserved_book : {names names' : List (List ℕ)} {projects : Histories} {tells : Bool} {stored : List (List ℕ × Kept)} {count : ℕ} {start : Start} (before mid : Journaled) (documents documents' : List Document) (rooms rooms' : Roomed) (now tokens owed drivers doc : ℕ)
    → IsBookWithKeeper before names documents rooms projects now tokens owed drivers tells stored count start → names' ≡ names → entries mid ≡ entries before → spare before ≤ spare mid
    → Turns doc IsKeptAs documents documents' → ((c : ℕ) → AreRoomier (member c rooms) (member c rooms')) → IsBookWithKeeper mid names' documents' rooms' projects now tokens owed drivers tells stored count start
reserved_book {projects = projects} before mid documents documents' rooms rooms' now tokens owed drivers doc was called same grows t roomier = record {
  book = same_book before mid documents documents' now tokens owed drivers was.book called same grows (kept_same documents documents' doc (entries before) t was.book.stands) (kept_owes documents documents' doc t);
  roomed = roomed_same rooms' (entries before) (entries mid) same (roomed_roomier rooms rooms' (entries before) roomier was.roomed);
  keeps = keeps_same (entries before) (entries mid) same was.keeps;
  histories = histories_same projects (entries before) (entries mid) same was.histories;
  owned = owned_same (entries before) (entries mid) same was.owned;
}

pub queued_book : {names names' : List (List ℕ)} {projects : Histories} {tells : Bool} {stored : List (List ℕ × Kept)} {count : ℕ} {start : Start} (before mid after : Journaled) (documents documents' documents'' : List Document) (rooms rooms' : Roomed) (now tokens owed drivers sum ticket : ℕ) (u : Update) (e : Entry)
    → IsBookWithKeeper before names documents rooms projects now tokens owed drivers tells stored count start → entries mid ≡ entries before → (sum ≡ owed + 2) × (sum ≤ spare mid) → entries after ≡ entries mid ++ e ∷ [] → spare after + 1 ≡ spare mid
    → names' ≡ names → e.act ≡ Sent u → IsAllowed (entries before) e.seat (Sent u) → IsByOwner drivers (entries before) e.seat (Sent u) → ticket ≡ length (entries mid)
    → Turns u.doc IsKeptAs documents documents' → Turns u.doc (IsQueued ticket) documents' documents''
    → ((c : ℕ) → AreRoomier (member c rooms) (member c rooms')) → ((d : Document) → slice_get documents' u.doc ≡ Some d → HaveRoom u.doc (length d.waiting.items + 1) rooms')
    → IsBookWithKeeper after names' documents'' rooms' projects now tokens (sum - 1) drivers tells stored count start
queued_book {projects = projects} {start = start} before mid after documents documents' documents'' rooms rooms' now tokens owed drivers sum ticket u e was same enough more less called is may own at t q roomier room = record {
  book = sent_book before mid after documents documents'' now tokens owed drivers sum ticket u e was.book same enough.0 enough.1 more less called is may at (queued_kept u.doc ticket t q);
  roomed = roomed_same rooms' (entries before ++ e ∷ []) (entries after) (more ∙ ap (λ l. l ++ e ∷ []) same)
      (roomed_sent rooms' (entries before) e u was.book.stands.legal is (told_room rooms' (entries before) documents documents' u.doc was.book.stands t room) (roomed_roomier rooms rooms' (entries before) roomier was.roomed));
  keeps = keeps_same (entries before ++ e ∷ []) (entries after) (more ∙ ap (λ l. l ++ e ∷ []) same)
      (keeps_push (entries before) e (λ d o. ap (λ a. kept_by d a o) is) (ap fault_of is) (subst (BeganBy start.faults) (sym is) tt) was.keeps);
  histories = histories_same projects (entries before ++ e ∷ []) (entries after) (more ∙ ap (λ l. l ++ e ∷ []) same)
      (histories_quiet projects (entries before) e was.book.stands.legal (ap making_of is) (λ p. ap (history_by p (entries before)) is) (λ p. ap (handed_by p) is) was.histories);
  owned = owned_same (entries before ++ e ∷ []) (entries after) (more ∙ ap (λ l. l ++ e ∷ []) same) (owned_push drivers (entries before) e was.owned (subst (IsByOwner drivers (entries before) e.seat) (sym is) own));
}
