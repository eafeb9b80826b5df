use Rattle.std.proofs.Common.{◌≡◌, ℕ, ◌+◌, ◌<◌, vec_len, vec_capacity}
use Rattle.std.specs.Prelude.{slice_index_or}
use Rattle.crew.specs.Places.{IsReady, start_of}
use Rattle.crew.specs.Seats.{IsFirst, IsSameFirst}
use Rattle.crew.proofs.seating.seat_workers.Given as goal

abbrev pub invariant-loop : goal.invariant-loop
invariant-loop g l = record {
  first : IsFirst l.board l.seat × IsSameFirst l.initial.seat l.seat;
  pass : l.pass.queue ≡ l.wakes;
  same : (l.seat.view.joined ≡ l.initial.seat.view.joined) × (l.seat.view.seen ≡ l.initial.seat.view.seen);
  count : l.seat.view.count ≡ vec_len l.places + 2;
  many : vec_len l.places ≡ l.counter;
  room : vec_capacity l.places ≡ vec_capacity l.initial.places;
  ready : (w : ℕ) (d : _) → w < vec_len l.places → IsReady l.board l.wakes (w + 2) (slice_index_or l.places.items w d);
  starts : (w : ℕ) (d : _) → w < vec_len l.places → start_of (slice_index_or l.places.items w d) ≡ l.initial.seat.view.seen;
}
