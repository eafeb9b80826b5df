-- What sessions keep from a `hold` to their next `finish`.
use Rattle.std.specs.Prelude.{◌≡◌, ◌≢◌, ℕ, ◌≤◌, true, List, [], length, slice_get, Option, Some, None, option_and_then, option_map}
use Rattle.journal_entries.specs.declared.act.Entry.{Entry}
use Rattle.journal_rules.specs.Documents.{IsMade, update_at}
use Rattle.journal_rules.specs.Locks.{Acquiring, acquirings, last_acquiring}
use Rattle.book.specs.declared.faults.Prepared.{Prepared}
use Rattle.book.specs.Looking.{IsDecided, IsOf}
use Rattle.book.specs.Shown.{Shown}
use Rattle.ranges_tracker.specs.Kept.{Kept}
use Rattle.script_driver.specs.declared.driver.Driver.{Driver}
use Rattle.run_rules.specs.Keeping.{Preparation, Preparations}
use Rattle.script_driver.specs.Clients.{AreOwnClientsOf}
use Rattle.script_driver.specs.Handing.{is_own, items_handed_by}

-- a preparation, as the rules of runs see it
abbrev pub preparation_of : Prepared → Preparation
preparation_of p = record { doc = p.look.doc; token = p.look.token }

abbrev pub kept : Option Prepared → Option Preparation
kept o = option_map preparation_of o

-- what each session keeps, by its number
abbrev pub kept_in : List (Option Prepared) → Preparations
kept_in holds session = option_and_then kept (slice_get holds session)

-- a preparation of a seat stands: it looked at a document, under a token that was given; nothing was committed under the token since, and the decision is that of the look
pub record Stands (seat : ℕ) (journal : List Entry) (p : Prepared) : Type 0 where
  pub seat_is : p.look.seat ≡ seat
  pub made : IsMade p.look.doc journal
  pub given : p.look.token ≤ length (acquirings journal)
  pub last : Acquiring
  pub last_is : last_acquiring p.look.doc journal ≡ Some last
  pub named : update_at journal p.look.ticket ≡ Some p.look.update
  pub looked : IsOf p.look journal
  pub decided : IsDecided p.look p.decision

-- what is kept stands, each under a token of its own
pub record AreHeld (seat : ℕ) (holds : List (Option Prepared)) (journal : List Entry) : Type 0 where
  pub stands : (session : ℕ) (p : Prepared) → slice_get holds session ≡ Some (Some p) → Stands seat journal p
  pub apart : (one other : ℕ) (p q : Prepared) → one ≢ other → slice_get holds one ≡ Some (Some p) → slice_get holds other ≡ Some (Some q) → p.look.token ≢ q.look.token

-- a book of one driver, before its first entry, over a keeper that has these documents and this count of faults
abbrev pub empty_book : List (List ℕ × Kept) → ℕ → Shown
empty_book documents count = record { journal = []; drivers = 0; documents = documents; faults = count; start = record { faults = count; documents = documents } }

-- what sessions keep stands; each session has a client, which is the journal's where the driver's seat owns it; and the driver has what it handed out
pub record IsDriver {K : Type 0} (driver : Driver K) : Type 0 where
  pub held : AreHeld driver.seat driver.holds.items driver.book.journal
  pub clients : AreOwnClientsOf driver.book.drivers driver.seat driver.clients.items driver.book.journal
  pub many : length driver.clients.items ≡ length driver.holds.items
  pub handed : driver.handed.items ≡ items_handed_by (is_own driver.book.drivers driver.seat) driver.book.journal
