use Rattle.std.proofs.Common.{◌≡◌, List}
use Rattle.journal_entries.specs.declared.act.Entry.{Entry}
use Rattle.workers.specs.Draining.{Works}
use Rattle.seat_turns.specs.Seats.{IsIdle, IsSameSeat}
use Rattle.seat_turns.specs.Closings.{IsEachClosed}
use Rattle.workers.proofs.working.follow_wakes.Given as goal

-- however it goes on from here, it has gone on so from the start
abbrev pub invariant-loop : goal.invariant-loop
invariant-loop g l = record {
  idle : IsIdle l.board l.seat;
  same : IsSameSeat l.initial.seat l.seat;
  pass : (l.pass.queue ≡ l.wakes) × (l.pass.number ≡ l.initial.pass.number) × (l.pass.pushed ≡ l.initial.pass.pushed);
  goes : (last : List Entry) → Works l.initial.seat.view.number l.seat.view.seen last → Works l.initial.seat.view.number l.initial.seat.view.seen last;
  known : IsEachClosed l.watch l.seat.view.seen;
}
