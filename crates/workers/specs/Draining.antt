-- What a worker makes of the journal.
use Rattle.std.specs.Prelude.{◌≡◌, ℕ, zero, suc, List, None}
use Rattle.journal_entries.specs.declared.act.Entry.{Entry}
use Rattle.run_rules.specs.Threads.{DrainsOn, is_by}
use Rattle.turn_rules.specs.Draining.{DrainsOne}
use Rattle.turn_rules.specs.Turns.{Among, entry_by}
use Rattle.book.specs.Calls.{acquire_refused, told}
use Rattle.book.specs.declared.faults.AcquireFault.{AcquireFault}

-- so many updates of one document are drained, among the entries of others
abbrev pub DrainsOf : ℕ → ℕ → ℕ → List Entry → List Entry → Type 0
DrainsOf seat doc zero left last = Among (is_by seat) left last
DrainsOf seat doc (suc n) left last = (mid : List Entry) × DrainsOne (entry_by seat None) (Among (is_by seat)) doc left mid × DrainsOf seat doc n mid last

abbrev pub DrainsSome : ℕ → ℕ → List Entry → List Entry → Type 0
DrainsSome seat doc left last = (n : ℕ) × DrainsOf seat doc n left last

-- some updates are drained, each of some document
abbrev pub Works : ℕ → List Entry → List Entry → Type 0
Works seat left last = (n : ℕ) × DrainsOn seat n left last

-- why no further update of a document was taken up
abbrev pub IsWhyNoMore : ℕ → List Entry → AcquireFault → Type 0
IsWhyNoMore doc journal fault = told fault ≡ acquire_refused doc journal
