-- The workers of a crew, as they wait and as they are done.
use Rattle.std.specs.Prelude.{◌≡◌, ℕ, Bool, true, false, List, [], ◌∷◌, ◌++◌}
use Rattle.std.specs.declared.alloc.Global.{Global}
use Rattle.atomic_table.specs.Seated.{TableId}
use Rattle.crossbeam_queue.specs.SegTies.{SegId}
use Rattle.journal_entries.specs.declared.act.Entry.{Entry}
use Rattle.seat_turns.specs.Closings.{IfClosed}
use Rattle.seat_turns.specs.Seats.{HoldsNoLock, IsAtRest}
use Rattle.seat_turns.specs.declared.ending.WorkerEnd.{WorkerEnd}
use Rattle.seat_turns.specs.declared.ending.WorkerEnd.TheVariants.{Closed, Memory}
use Rattle.workers.specs.Draining.{Works}
use Rattle.workers.specs.Sweeping.{AreSwept}
use Rattle.crew.specs.declared.place.Place.{Place}
use Rattle.crew.specs.declared.place.Place.TheVariants.{Waiting, Done, Empty}
use Rattle.crew.specs.Seats.{IsOtherSeat}

-- what a worker's seat has seen as it waits
abbrev pub start_of : {K : Type 0} → Place K → List Entry
start_of (Waiting seat pass) = seat.view.seen
start_of _ = []

-- a worker that waits, under the seat of this number
abbrev pub IsReady : {K : Type 0} → TableId → SegId Global → ℕ → Place K → Type 0
IsReady board queue number (Waiting seat pass) = IsAtRest board seat × (seat.view.number ≡ number) × (seat.view.drivers ≡ 1) × HoldsNoLock number seat.view.seen × (pass.queue ≡ queue)
IsReady board queue number _ = ⊥

-- one that is done: behind the last closing it has drained some updates since its start, and swept each document
abbrev pub IsDone : {K : Type 0} → TableId → List Entry → ℕ → Place K → Type 0
IsDone board start number (Done end seat) = IsAtRest board seat × (seat.view.number ≡ number) × IfClosed end (Works number start seat.view.seen × AreSwept 1 number seat.view.seen)
IsDone board start number _ = ⊥

-- whoever has a seat
abbrev pub IsSeated : {K : Type 0} → TableId → Place K → Type 0
IsSeated board (Waiting seat pass) = IsOtherSeat board seat
IsSeated board (Done end seat) = IsOtherSeat board seat
IsSeated board Empty = ⊥

abbrev pub ends_closed : WorkerEnd → Bool
ends_closed Closed = true
ends_closed Memory = false

abbrev pub has_closed : {K : Type 0} → Place K → Bool
has_closed (Done end seat) = ends_closed end
has_closed _ = false

-- the number of a seat, with what it saw last
abbrev pub sight_of : {K : Type 0} → Place K → ℕ × List Entry
sight_of (Waiting seat pass) = (seat.view.number, seat.view.seen)
sight_of (Done end seat) = (seat.view.number, seat.view.seen)
sight_of Empty = (0, [])

-- of all places, from the last to the first
abbrev pub sights_of : {K : Type 0} → List (Place K) → List (ℕ × List Entry)
sights_of [] = []
sights_of (place ∷ places) = sights_of places ++ sight_of place ∷ []
