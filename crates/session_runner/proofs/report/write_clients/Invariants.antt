use Rattle.std.proofs.Common.{◌≤◌, ◌++◌, ℕ, List, take}
use Rattle.std.specs.Prelude.{Option}
use Rattle.source_sink.specs.Buffered.{Delivered}
use Rattle.run_rules.specs.Report.{client_lines}
use Rattle.session_runner.proofs.report.write_clients.Given as goal

-- the lines of the clients so far have gone to the buffer
abbrev pub invariant-loop-n : goal.invariant-loop-n
invariant-loop-n g l =
    (g.W.Sink.count l.initial.out ≤ g.W.Sink.count l.out)
    × ((start : Option (List ℕ)) (text : List ℕ) → Delivered start (g.W.Sink.written l.initial.out) l.initial.buffer text → Delivered start (g.W.Sink.written l.out) l.buffer (text ++ client_lines 0 (take l.n l.run.names) l.run.book.journal))
