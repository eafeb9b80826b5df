use Rattle.std.proofs.Common.{rules, ◌≡◌, ◌+◌, ◌++◌, ◌∙◌, length, Err, sym, subst, arith}
use Rattle.journal_rules.specs.Documents.{makings}
use Rattle.session_runner.specs.Report.{document_line, document_lines}
use Rattle.session_runner.specs.Writing.{Pushed}
use Rattle.session_runner.proofs.Writing.{longer, documents_cut, documents_more, regrouped, regrouped_prefix}
use Rattle.session_runner.proofs.report.write_documents.Goals as goal

pub returns-in_err-write_line-clause-pushed : goal.returns-in_err-write_line-clause-pushed
returns-in_err-write_line-clause-pushed g c = λ start text given.
    let j = c.args.book.now.journal in
    let doc = c.loop-doc.doc in
    let line = document_line doc j in
    let pushed = c.in_err-write_line.ensures.pushed start (text ++ document_lines doc j) line c.document_line.ensures (c.loop-doc.invariant.1 start text given) in
    let more : document_lines (doc + 1) j ≡ document_lines doc j ++ line = documents_more j doc in
    let lt = c.loop-doc-test.true in
    let count = c.docs-docs.ensures in
    let cut = documents_cut j (doc + 1) (length (makings j)) (omega (arith, lt, count)) in
    let prefix = longer start _ _ text (document_lines (doc + 1) j) cut.0 (document_lines (length (makings j)) j) cut.1
    (regrouped_prefix start _ _ text (document_lines doc j) line (document_lines (doc + 1) j) more pushed) in
    let is : c.from_residual.result ≡ Err c.in_err-write_line.field-0.0 = search rules in
    subst (λ r. Pushed start (g.W.Sink.written c.write_line.new.out) c.write_line.new.buffer (text ++ document_lines (length (makings j)) j) r) (sym is) prefix

pub loop-doc-preserved : goal.loop-doc-preserved
loop-doc-preserved g c =
    let j = c.args.book.now.journal in
    let doc = c.loop-doc.doc in
    let line = document_line doc j in
    let more : document_lines (doc + 1) j ≡ document_lines doc j ++ line = documents_more j doc in
    let before = c.loop-doc.invariant.0 in
    let later = c.in_ok-write_line.ensures.cause.later in (
      omega (arith, before, later),
      λ start text given. regrouped start _ _ text (document_lines doc j) line (document_lines (doc + 1) j) more (c.in_ok-write_line.ensures.pushed start (text ++ document_lines doc j) line c.document_line.ensures (c.loop-doc.invariant.1 start text given)),
    )
