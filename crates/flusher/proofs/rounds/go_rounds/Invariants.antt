use Rattle.std.proofs.Common.{List}
use Rattle.journal_entries.specs.declared.act.Entry.{Entry}
use Rattle.seat_turns.specs.Closings.{IsEachClosed}
use Rattle.seat_turns.specs.Seats.{IsIdle, IsSameSeat}
use Rattle.flusher.specs.Flushing.{FlushesSome}
use Rattle.flusher.proofs.rounds.go_rounds.Given as goal

-- so far documents were flushed
abbrev pub invariant-loop : goal.invariant-loop
invariant-loop g l = record {
  idle : IsIdle l.board l.seat;
  same : IsSameSeat l.initial.seat l.seat;
  flushes : FlushesSome l.initial.seat.view.number l.initial.seat.view.seen l.seat.view.seen;
  known : IsEachClosed l.watch l.seat.view.seen;
}
