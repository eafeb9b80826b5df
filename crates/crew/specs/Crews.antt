-- A crew before it goes, and when it has gone.
use Rattle.std.specs.Prelude.{◌≡◌, ℕ, ◌+◌, ◌<◌, ◌≤◌, List, length, slice_index_or, vec_len}
use Rattle.std.specs.Global.{Vec}
use Rattle.std.specs.declared.alloc.Global.{Global}
use Rattle.atomic_table.specs.Seated.{TableId}
use Rattle.crossbeam_queue.specs.SegTies.{SegId}
use Rattle.journal_entries.specs.declared.act.Entry.{Entry}
use Rattle.board.specs.Turns.{Sitting}
use Rattle.drivers.specs.declared.driving.DriverDone.{DriverDone}
use Rattle.flusher.specs.declared.rounds.FlusherDone.{FlusherDone}
use Rattle.session_lines.specs.declared.line.Line.{Line}
use Rattle.turn_rules.specs.Turns.{is_by}
use Rattle.run_rules.specs.Threads.{DriverFollows, with_workers}
use Rattle.flusher.specs.Flushing.{FlushesSome}
use Rattle.script_driver.specs.Clients.{AreClientsOf}
use Rattle.script_driver.specs.Handing.{items_handed_by}
use Rattle.seat_turns.specs.Closings.{IfClosed}
use Rattle.crew.specs.declared.place.Place.{Place}
use Rattle.crew.specs.declared.seating.Seats.{Seats}
use Rattle.crew.specs.Places.{IsDone, IsReady, start_of}
use Rattle.crew.specs.Seats.{IsNewSeat, IsOtherSeat}

-- workers that wait, under the seats from 2 on
abbrev pub AreReady : {K : Type 0} → TableId → SegId Global → Vec (Place K) → Type 0
AreReady board queue places = (vec_len places ≤ 32) × ((w : ℕ) (d : Place _) → w < vec_len places → IsReady board queue (w + 2) (slice_index_or places.items w d))

-- the driver has seat 1, the workers the next ones, and the flusher the last
pub record IsSeatedCrew {K : Type 0} (board : TableId) (queue : SegId Global) (start : List Entry) (workers : ℕ) (seats : Seats K) : Type 0 where
  pub driver : IsNewSeat board start 1 seats.driver
  pub many : vec_len seats.places ≡ workers
  pub ready : AreReady board queue seats.places
  pub starts : (w : ℕ) (d : _) → w < vec_len seats.places → start_of (slice_index_or seats.places.items w d) ≡ start
  pub flusher : IsNewSeat board start (workers + 2) seats.flusher

-- the driver is done; where its end is behind the last line, it has gone its course
abbrev pub IsDriven : {K N : Type 0} → TableId → List Line → ℕ → Sitting → DriverDone K N → Type 0
IsDriven board lines sessions seat done =
    IsOtherSeat board done.seat × (done.seat.view.number ≡ seat.view.number)
    × IfClosed done.end ((workers : ℕ) → DriverFollows (with_workers workers) lines seat.view.seen done.seat.view.seen 0)
    × IfClosed done.end (AreClientsOf done.clients.items done.seat.view.seen × (length done.clients.items ≡ sessions))
    × IfClosed done.end (done.handed.items ≡ items_handed_by (is_by 1) done.seat.view.seen)

-- so are the workers, each behind the last closing
abbrev pub AreDone : {K : Type 0} → TableId → Vec (Place K) → Vec (Place K) → Type 0
AreDone board places gone =
    (vec_len gone ≡ vec_len places) × ((w : ℕ) (d : Place _) → w < vec_len places → IsDone board (start_of (slice_index_or places.items w d)) (w + 2) (slice_index_or gone.items w d))

-- and the flusher
abbrev pub IsFlushed : {K : Type 0} → TableId → Sitting → FlusherDone K → Type 0
IsFlushed board seat done =
    IsOtherSeat board done.seat × (done.seat.view.number ≡ seat.view.number) × IfClosed done.end (FlushesSome seat.view.number seat.view.seen done.seat.view.seen)
