use Rattle.std.proofs.Common.{◌≤◌, ◌++◌, ℕ, List}
use Rattle.std.specs.Prelude.{Option}
use Rattle.source_sink.specs.Buffered.{Delivered}
use Rattle.session_runner.specs.Report.{document_lines}
use Rattle.session_runner.proofs.report.write_documents.Given as goal

-- the lines of the documents so far have gone to the buffer
abbrev pub invariant-loop-doc : goal.invariant-loop-doc
invariant-loop-doc g l =
    (g.W.Sink.count l.initial.out ≤ g.W.Sink.count l.out)
    × ((start : Option (List ℕ)) (text : List ℕ) → Delivered start (g.W.Sink.written l.initial.out) l.initial.buffer text → Delivered start (g.W.Sink.written l.out) l.buffer (text ++ document_lines l.doc l.book.journal))
