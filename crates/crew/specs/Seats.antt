-- Seat 0 of a crew's board, and the others.
use Rattle.std.specs.Prelude.{◌≡◌, ◌≢◌, ℕ, false, List}
use Rattle.atomic_table.specs.Seated.{TableId}
use Rattle.journal_entries.specs.declared.act.Entry.{Entry}
use Rattle.board.specs.Turns.{Sitting}

-- seat 0, at rest
abbrev pub IsFirst : TableId → Sitting → Type 0
IsFirst board seat = (seat.board ≡ board) × (seat.view.holds ≡ false) × (seat.view.number ≡ 0)

-- what it made, and what is the same for all seats, stay
abbrev pub IsSameFirst : Sitting → Sitting → Type 0
IsSameFirst old new = (new.view.made ≡ old.view.made) × (new.view.drivers ≡ old.view.drivers) × (new.view.start ≡ old.view.start)

-- another seat, at rest
abbrev pub IsOtherSeat : TableId → Sitting → Type 0
IsOtherSeat board seat = (seat.board ≡ board) × (seat.view.holds ≡ false) × (seat.view.number ≢ 0)

-- one of this number, as it was made, on a board of one driver
abbrev pub IsNewSeat : TableId → List Entry → ℕ → Sitting → Type 0
IsNewSeat board start number seat = (seat.board ≡ board) × (seat.view.holds ≡ false) × (seat.view.number ≡ number) × (seat.view.drivers ≡ 1) × (seat.view.seen ≡ start)
