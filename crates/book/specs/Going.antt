-- How a book goes on: it has entries more, and its keeper keeps the documents of all names under which nothing was flushed.
use Rattle.std.specs.Prelude.{◌≡◌, Bool, List, ◌++◌}
use Rattle.journal_entries.specs.declared.act.Entry.{Entry}
use Rattle.book.specs.Shown.{Shown}
use Rattle.book.specs.Stored.{KeepsOthers}

-- a book with another journal, and all else as it was
abbrev pub with_journal : Shown → List Entry → Shown
with_journal book journal = record { journal = journal; drivers = book.drivers; documents = book.documents; faults = book.faults; start = book.start }

-- a book went on
pub record GoesOn (tells : Bool) (old new : Shown) : Type 0 where
  pub more : List Entry
  pub journal_is : new.journal ≡ old.journal ++ more
  pub drivers_are : new.drivers ≡ old.drivers
  pub start_is : new.start ≡ old.start
  pub others : KeepsOthers tells new.journal old.documents new.documents
