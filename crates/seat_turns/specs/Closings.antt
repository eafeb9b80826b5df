-- Whether the drivers of sessions have closed.
use Rattle.std.specs.Prelude.{ℕ, ◌==◌, Bool, false, Option, Some, None}
use Rattle.journal_entries.specs.declared.act.Act.{Act}
use Rattle.journal_entries.specs.declared.act.Act.TheVariants.{Closed as DriverClosed}
use Rattle.journal_entries.specs.declared.act.Entry.{Entry}
pub use Rattle.turn_rules.specs.Owning.{IsEachClosed}
use Rattle.seat_turns.specs.declared.ending.WorkerEnd.{WorkerEnd}
use Rattle.seat_turns.specs.declared.ending.WorkerEnd.TheVariants.{Closed, Memory}

-- the entry that closes a driver
abbrev pub is_closing : ℕ → Act → Bool
is_closing driver (DriverClosed d) = d == driver
is_closing driver _ = false

abbrev pub is_closing_in : ℕ → Option Entry → Bool
is_closing_in driver (Some e) = is_closing driver e.act
is_closing_in driver None = false

-- what is said of the end behind the last closing alone
abbrev pub IfClosed : WorkerEnd → Type 0 → Type 0
IfClosed Closed X = X
IfClosed Memory X = Unit {0}
