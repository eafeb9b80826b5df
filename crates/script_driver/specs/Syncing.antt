-- What a `sync` leaves.
use Rattle.std.specs.Prelude.{ℕ, List}
use Rattle.journal_entries.specs.declared.act.Entry.{Entry}
use Rattle.script_driver.specs.Apart.{GoesApart}
use Rattle.script_driver.specs.Clients.{GoesQuietly}

-- a journal goes on by a drain, and then by entries of this session's client
pub record GoesApartThenQuietly (from session : ℕ) (left last : List Entry) : Type 0 where
  pub mid : List Entry
  pub apart : GoesApart from left mid
  pub quiet : GoesQuietly session mid last
