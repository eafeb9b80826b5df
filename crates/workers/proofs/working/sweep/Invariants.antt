use Rattle.std.proofs.Common.{List}
use Rattle.journal_entries.specs.declared.act.Entry.{Entry}
use Rattle.workers.specs.Draining.{Works}
use Rattle.seat_turns.specs.Seats.{IsIdle, IsSameSeat}
use Rattle.seat_turns.specs.Closings.{IsEachClosed}
use Rattle.workers.proofs.Courses.{Sweeps}
use Rattle.workers.proofs.working.sweep.Given as goal

-- however it goes on from here, it has gone on so from the start; and the documents below this number are swept
abbrev pub invariant-loop : goal.invariant-loop
invariant-loop g l = record {
  idle : IsIdle l.board l.seat;
  same : IsSameSeat l.initial.seat l.seat;
  goes : (last : List Entry) → Works l.initial.seat.view.number l.seat.view.seen last → Works l.initial.seat.view.number l.initial.seat.view.seen last;
  closed : IsEachClosed l.drivers l.seat.view.seen;
  swept : Sweeps l.drivers l.initial.seat.view.number l.initial.seat.view.seen l.doc l.seat.view.seen;
}
