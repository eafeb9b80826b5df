use Rattle.std.proofs.Common.{List}
use Rattle.journal_entries.specs.declared.act.Entry.{Entry}
use Rattle.seat_turns.specs.Seats.{IsIdle, IsSameSeat}
use Rattle.flusher.specs.Flushing.{FlushesSome}
use Rattle.flusher.proofs.Visiting.{AreVisitedBelow}
use Rattle.flusher.proofs.rounds.go_round.Given as goal

-- so far documents were flushed, and those below this number visited
abbrev pub invariant-loop : goal.invariant-loop
invariant-loop g l = record {
  idle : IsIdle l.board l.seat;
  same : IsSameSeat l.initial.seat l.seat;
  flushes : FlushesSome l.initial.seat.view.number l.initial.seat.view.seen l.seat.view.seen;
  visited : AreVisitedBelow l.initial.seat.view.number l.doc l.initial.seat.view.seen l.seat.view.seen;
}
