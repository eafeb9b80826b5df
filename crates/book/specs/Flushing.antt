-- How a document is put into the keeper: what is taken up of it under its lock, what is made of that, and what a flush leaves.
use Rattle.std.specs.Prelude.{◌≡◌, ℕ, ◌≤◌, ◌++◌, Bool, true, false, List, [], ◌∷◌, Option, Some, None, All}
use Rattle.ot_parts.specs.Lines.{lines_of}
use Rattle.source_sink.specs.Causes.{Rose}
use Rattle.ranges_tracker.specs.Kept.{Kept}
use Rattle.ranges_tracker.specs.Shown.{shown}
use Rattle.expiring_lock.specs.declared.refusal.Busy.{Busy}
use Rattle.journal_entries.specs.declared.act.Act.TheVariants.{FlushFailed}
use Rattle.journal_entries.specs.declared.act.Entry.{Entry}
use Rattle.journal_rules.specs.Documents.{is_in, text, version}
use Rattle.journal_rules.specs.Keeping.{cached}
use Rattle.journal_rules.specs.Locks.{Acquiring, last_acquiring, used_by}
use Rattle.journal_rules.specs.Tracking.{cells}
use Rattle.turn_rules.specs.Locking.{staleness}
use Rattle.turn_rules.specs.Turns.{entry_by}
use Rattle.book.specs.declared.faults.FlushFault.{FlushFault}
use Rattle.book.specs.declared.faults.FlushFault.TheVariants.{Stale, Memory, StoreFault}
use Rattle.book.specs.declared.faults.KeptLook.{KeptLook}
use Rattle.book.specs.declared.faults.PreparedKept.{PreparedKept}
use Rattle.book.specs.Shown.{Shown}
use Rattle.book.specs.Stored.{kept_document}

-- the last acquiring of a document is that of this seat, under this token, and the document was cached then
pub record IsTaken (early : List Entry) (seat doc token : ℕ) : Type 0 where
  pub acquiring : Acquiring
  pub last : last_acquiring doc early ≡ Some acquiring
  pub token_is : acquiring.token ≡ token
  pub seat_is : acquiring.seat ≡ seat
  pub cached_is : cached doc early ≡ true

-- what was taken up is the document as this journal has it
pub record IsKeptLook (early : List Entry) (seat : ℕ) (look : KeptLook) : Type 0 where
  pub taken : IsTaken early seat look.doc look.token
  pub version_is : look.version ≡ version look.doc early
  pub text_is : text look.doc early ≡ Some look.text
  pub ranges_are : shown (cells look.doc early) ≡ look.ranges

-- what is put is made of what was taken up
pub record IsMadeOf (look : KeptLook) (prepared : PreparedKept) : Type 0 where
  pub doc_is : prepared.doc ≡ look.doc
  pub token_is : prepared.token ≡ look.token
  pub kept_is : prepared.kept ≡ record { lines = lines_of look.text; version = look.version; ranges = look.ranges }

-- what is put is the document as it was when it was taken up, and since then no update was committed under its token
pub record IsPreparedFor (journal : List Entry) (seat : ℕ) (prepared : PreparedKept) : Type 0 where
  pub early : List Entry
  pub more : List Entry
  pub journal_is : journal ≡ early ++ more
  pub taken : IsTaken early seat prepared.doc prepared.token
  pub kept_is : prepared.kept ≡ kept_document prepared.doc (version prepared.doc early) early
  pub unused : All (λ e. is_in prepared.token (used_by e.act) ≡ false) more

-- the book has these entries more, and its keeper was asked: the count of faults didn't fall
pub record HasAsked (old new : Shown) (more : List Entry) : Type 0 where
  pub journal_is : new.journal ≡ old.journal ++ more
  pub drivers_are : new.drivers ≡ old.drivers
  pub start_is : new.start ≡ old.start
  pub later : old.faults ≤ new.faults

-- why a flush did nothing: another token stands; memory was wanting; or the keeper failed, which is noted
abbrev pub MayNotFlush : Shown → Shown → ℕ → Option ℕ → PreparedKept → FlushFault → Type 0
MayNotFlush old new seat line prepared (Stale s) = (staleness prepared.doc prepared.token old.journal ≡ Some s) × (new ≡ old)
MayNotFlush old new seat line prepared Memory = (staleness prepared.doc prepared.token old.journal ≡ None) × HasAsked old new []
MayNotFlush old new seat line prepared (StoreFault before after) =
    (staleness prepared.doc prepared.token old.journal ≡ None) × (before ≡ old.faults) × (after ≡ new.faults) × Rose before after
    × HasAsked old new (entry_by seat line (FlushFailed prepared.doc prepared.token before after) ∷ [])
