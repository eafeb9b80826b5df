-- What contracts see of a book: its journal, the number of its drivers and its keeper; and what holds of its fields.
use Rattle.std.specs.Prelude.{◌≡◌, ℕ, zero, suc, ◌+◌, ◌≤◌, Bool, List, ◌++◌, length, map, Option, if◌then◌else◌}
use Rattle.board.specs.declared.view.Start.{Start}
use Rattle.journal_entries.specs.Journals.{Journaled, entries, spare}
use Rattle.journal_entries.specs.declared.act.Act.{Act}
use Rattle.journal_entries.specs.declared.act.Entry.{Entry}
use Rattle.journal_rules.specs.Documents.{Making, is_in, makings}
use Rattle.journal_rules.specs.Locks.{acquirings, clock}
use Rattle.journal_rules.specs.Legal.{clock_end, closed}
use Rattle.turn_rules.specs.Owning.{IsOwned, driver_count}
use Rattle.turn_rules.specs.Turns.{entry_by}
use Rattle.book.specs.declared.document.Document.{Document}
use Rattle.rooms.specs.Rooms.{Roomed}
use Rattle.ranges_tracker.specs.Kept.{Kept}
use Rattle.book.specs.Roomed.{AreRoomed}
use Rattle.book.specs.Standing.{AreDocuments, owed_for}
use Rattle.book.specs.Stored.{IsKeeping}
use Rattle.project_histories.specs.Histories.{AreHistories, Histories}

-- of the keeper, its documents, where its type tells them, its count of faults, and both as the book was made
pub record Shown : Type 0 where
  pub journal : List Entry
  pub drivers : ℕ
  pub documents : List (List ℕ × Kept)
  pub faults : ℕ
  pub start : Start

-- how many drivers haven't closed
abbrev pub unclosed : ℕ → List ℕ → ℕ
unclosed zero tokens = 0
unclosed (suc n) tokens = (if is_in n tokens then 0 else 1) + unclosed n tokens

-- the names of the documents that were made
abbrev pub names_in : List Entry → List (List ℕ)
names_in journal = map (λ (m : Making). m.name) (makings journal)

-- the journal is legal, and the documents, the clock and the count of tokens stand as it says; and there is room for what is owed: an entry for each update that waits, each lock that wasn't released and each driver that hasn't closed
pub record IsBook (journal : Journaled) (names : List (List ℕ)) (documents : List Document) (now tokens owed drivers : ℕ) : Type 0 where
  pub names_are : names ≡ names_in (entries journal)
  pub stands : AreDocuments documents (entries journal)
  pub now_is : now ≡ clock (entries journal)
  pub now_low : now ≤ clock_end
  pub tokens_are : tokens ≡ length (acquirings (entries journal))
  pub counted : owed_for documents + unclosed (driver_count drivers) (closed (entries journal)) ≤ owed
  pub room : owed ≤ spare journal

-- and so do its rooms, the histories of its projects, and its keeper; and each entry of a client and each closing is by its owner
pub record IsBookWithKeeper (journal : Journaled) (names : List (List ℕ)) (documents : List Document) (rooms : Roomed) (projects : Histories) (now tokens owed drivers : ℕ) (tells : Bool) (stored : List (List ℕ × Kept)) (count : ℕ) (start : Start) : Type 0 where
  pub book : IsBook journal names documents now tokens owed drivers
  pub roomed : AreRoomed rooms (entries journal)
  pub histories : AreHistories projects (entries journal)
  pub keeps : IsKeeping tells stored count start (entries journal)
  pub owned : IsOwned drivers (entries journal)

-- a book with these entries more, by a seat, for a line or for none
abbrev pub adds : Shown → ℕ → Option ℕ → List Act → Shown
adds book seat line acts = record { journal = book.journal ++ map (entry_by seat line) acts; drivers = book.drivers; documents = book.documents; faults = book.faults; start = book.start }
