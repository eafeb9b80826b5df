use Rattle.std.proofs.Common.{◌≤◌, ◌++◌, ℕ, List, take}
use Rattle.std.specs.Prelude.{Option}
use Rattle.source_sink.specs.Buffered.{Delivered}
use Rattle.project_histories.specs.Handing.{projects_of}
use Rattle.run_rules.specs.Report.{project_lines_of}
use Rattle.session_runner.proofs.report.write_projects.Given as goal

-- the lines of the projects so far have gone to the buffer
abbrev pub invariant-loop-place : goal.invariant-loop-place
invariant-loop-place g l =
    (g.W.Sink.count l.initial.out ≤ g.W.Sink.count l.out)
    × ((start : Option (List ℕ)) (text : List ℕ) → Delivered start (g.W.Sink.written l.initial.out) l.initial.buffer text → Delivered start (g.W.Sink.written l.out) l.buffer (text ++ project_lines_of (take l.place (projects_of l.book.journal)) l.book.journal))
