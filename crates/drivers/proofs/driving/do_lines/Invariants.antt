use Rattle.std.proofs.Common.{◌≡◌, ◌+◌, List, length}
use Rattle.journal_entries.specs.declared.act.Entry.{Entry}
use Rattle.journal_rules.specs.Documents.{Making}
use Rattle.session_lines.specs.Standing.{AreBySessions}
use Rattle.run_rules.specs.Keeping.{nothing_kept}
use Rattle.run_rules.specs.Lines.{numbered}
use Rattle.script_driver.specs.Fitting.{AreBuilt, AreFit}
use Rattle.script_driver.specs.Holding.{kept_in}
use Rattle.seat_turns.specs.Seats.{IsIdle, IsSameSeat}
use Rattle.drivers.specs.Driving.{Drives, IsKept, IsOpen}
use Rattle.drivers.proofs.driving.do_lines.Given as goal

-- the rest fits behind some documents, and whatever it leads to, the whole leads to
abbrev pub invariant-loop-line : goal.invariant-loop-line
invariant-loop-line g l = record {
  idle : IsIdle l.board l.seat;
  same : IsSameSeat l.initial.seat l.seat;
  pass : (l.pass.queue ≡ l.wakes) × (l.pass.number ≡ l.initial.pass.number);
  unclosed : IsOpen l.seat.view.seen;
  kept : IsKept l.kept l.seat.view.seen;
  many : length l.kept.holds.items ≡ l.sessions;
  fit : (ms : List Making) × AreFit ms l.line-iterator.rest.items;
  built : AreBuilt l.line-iterator.rest.items;
  by : AreBySessions l.sessions l.line-iterator.rest.items;
  count : l.number + length l.line-iterator.rest.items ≡ 1 + length l.fn.lines.items;
  goes : (last : List Entry) → Drives (numbered l.number l.line-iterator.rest.items) (kept_in l.kept.holds.items) l.seat.view.seen last → Drives (numbered 1 l.fn.lines.items) nothing_kept l.initial.seat.view.seen last;
}
