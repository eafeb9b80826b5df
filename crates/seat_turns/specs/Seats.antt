-- What one knows of one's seat, and of the locks that it acquires.
use Rattle.std.specs.Prelude.{◌≡◌, ◌≢◌, ℕ, ◌==◌, ◌&&◌, Bool, true, false, List, ◌++◌, All}
use Rattle.atomic_table.specs.Seated.{TableId}
use Rattle.journal_entries.specs.declared.act.Act.{Act}
use Rattle.journal_entries.specs.declared.act.Act.TheVariants.{Acquired}
use Rattle.journal_entries.specs.declared.act.Entry.{Entry}
use Rattle.journal_rules.specs.Locks.{Acquiring, HeldBy}
use Rattle.run_rules.specs.Threads.{is_by}
use Rattle.board.specs.declared.view.Start.{Start}
use Rattle.board.specs.Turns.{Sitting}
use Rattle.board.specs.Views.{made_by}

-- a seat of the board that has no turn
abbrev pub IsAtRest : TableId → Sitting → Type 0
IsAtRest board seat = (seat.board ≡ board) × (seat.view.holds ≡ false)

-- and that has seen all that it made
abbrev pub IsIdle : TableId → Sitting → Type 0
IsIdle board seat = (seat.board ≡ board) × (seat.view.holds ≡ false) × (made_by seat.view.number seat.view.seen ≡ seat.view.made)

-- one that has the turn, on a book with this journal, these drivers and this start
abbrev pub IsInTurn : TableId → Sitting → List Entry → ℕ → Start → Type 0
IsInTurn board seat journal drivers start =
    (seat.board ≡ board) × (seat.view.holds ≡ true) × (seat.view.seen ≡ journal) × (drivers ≡ seat.view.drivers) × (start ≡ seat.view.start)

-- the number, and what is the same for all seats, stay
abbrev pub IsSameSeat : Sitting → Sitting → Type 0
IsSameSeat old new = (new.view.number ≡ old.view.number) × (new.view.drivers ≡ old.view.drivers) × (new.view.start ≡ old.view.start)

-- the journal is longer by entries of this seat alone
abbrev pub IsLongerBy : ℕ → List Entry → List Entry → Type 0
IsLongerBy seat look last = (own : List Entry) × (last ≡ look ++ own) × All (λ e. e.seat ≡ seat) own

-- this seat holds no lock, expired or not
abbrev pub HoldsNoLock : ℕ → List Entry → Type 0
HoldsNoLock seat journal = (doc : ℕ) (a : Acquiring) → HeldBy doc a journal → a.seat ≢ seat

-- this seat acquires the document's lock
abbrev pub is_acquiring : ℕ → Act → Bool
is_acquiring doc (Acquired d token until) = d == doc
is_acquiring doc _ = false

abbrev pub acquires : ℕ → ℕ → Entry → Bool
acquires seat doc e = is_acquiring doc e.act && is_by seat e
