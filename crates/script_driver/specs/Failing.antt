-- What a line leaves of a book where it fails.
use Rattle.std.specs.Prelude.{◌≡◌, ℕ, List, ◌++◌, All}
use Rattle.journal_entries.specs.declared.act.Entry.{Entry}
use Rattle.journal_rules.specs.Legal.{closed}
use Rattle.book.specs.Shown.{Shown}

-- a book went on by entries of this seat alone, of which none closes a driver
pub record GoesByOwn (seat : ℕ) (old new : Shown) : Type 0 where
  pub own : List Entry
  pub journal_is : new.journal ≡ old.journal ++ own
  pub all : All (λ (e : Entry). e.seat ≡ seat) own
  pub closed_is : closed new.journal ≡ closed old.journal
  pub drivers_are : new.drivers ≡ old.drivers
  pub start_is : new.start ≡ old.start
