use Rattle.std.proofs.Common.{◌≡◌, ◌≤◌, ◌++◌, ℕ, List, [], take, drop}
use Rattle.std.specs.Prelude.{Option}
use Rattle.source_sink.specs.Buffered.{Delivered}
use Rattle.run_rules.specs.Report.{entry_lines}
use Rattle.session_runner.proofs.Handing.{handed_behind}
use Rattle.session_runner.proofs.report.write_entries.Given as goal

-- the lines of the entries so far have gone to the buffer, the memory for the next one is empty, and what is left is what the later entries hand out
abbrev pub invariant-loop-n : goal.invariant-loop-n
invariant-loop-n g l = record {
  later : g.W.Sink.count l.initial.out ≤ g.W.Sink.count l.out;
  emptied : l.line.items ≡ [];
  written : (start : Option (List ℕ)) (text : List ℕ) → Delivered start (g.W.Sink.written l.initial.out) l.initial.buffer text → Delivered start (g.W.Sink.written l.out) l.buffer (text ++ entry_lines [] (take l.n l.journal));
  left : l.left ≡ handed_behind (take l.n l.journal) (drop l.n l.journal);
}
