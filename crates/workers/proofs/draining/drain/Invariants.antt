use Rattle.std.proofs.Common.{List}
use Rattle.journal_entries.specs.declared.act.Entry.{Entry}
use Rattle.workers.specs.Draining.{DrainsSome}
use Rattle.seat_turns.specs.Seats.{IsIdle, IsSameSeat}
use Rattle.workers.proofs.draining.drain.Given as goal

-- however it goes on from here, it has gone on so from the start
abbrev pub invariant-loop : goal.invariant-loop
invariant-loop g l = record {
  idle : IsIdle l.board l.seat;
  same : IsSameSeat l.initial.seat l.seat;
  goes : (last : List Entry) → DrainsSome l.initial.seat.view.number l.doc l.seat.view.seen last → DrainsSome l.initial.seat.view.number l.doc l.initial.seat.view.seen last;
}
