use Rattle.std.proofs.Common.{rules, ◌≡◌, [], Err, sym, subst}
use Rattle.source_sink.specs.Buffered.{Delivered}
use Rattle.source_sink.specs.Outside.{Wrote}
use Rattle.source_sink.proofs.Delivering.{Delivered-nil, Wrote-delivered, Wrote-prefix}
use Rattle.session_runner.specs.declared.report.WriteFault.TheVariants.{Failed as SinkFailed}
use Rattle.session_runner.specs.Report.{report_of}
use Rattle.session_runner.proofs.Writing.{whole_prefix}
use Rattle.session_runner.proofs.report.write_report.Goals as goal

pub returns-in_err-write_lines-clause-wrote : goal.returns-in_err-write_lines-clause-wrote
returns-in_err-write_lines-clause-wrote g c =
    let start = g.W.Sink.written c.args.out.now in
    let given : Delivered start start c.in_ok-buffer.buffer [] = subst (λ l. Delivered start start l []) (sym c.in_ok-buffer.ensures) (Delivered-nil start) in
    let prefix = c.in_err-write_lines.ensures.pushed start [] given in
    let is : c.from_residual-in_err-write_lines.result ≡ Err c.in_err-write_lines.field-0.0 = search rules in
    subst (λ r. Wrote start (g.W.Sink.written c.write_lines.new.out) (report_of c.args.run.now.names c.args.run.now.book.journal) r) (sym is) (Wrote-prefix _ _ _ _ _ prefix)

pub returns-in_err-flush-clause-wrote : goal.returns-in_err-flush-clause-wrote
returns-in_err-flush-clause-wrote g c =
    let start = g.W.Sink.written c.args.out.now in
    let given : Delivered start start c.in_ok-buffer.buffer [] = subst (λ l. Delivered start start l []) (sym c.in_ok-buffer.ensures) (Delivered-nil start) in
    let pushed = c.in_ok-write_lines.ensures.pushed start [] given in
    let flushed = c.in_err-flush.ensures.delivered start (report_of c.args.run.now.names c.args.run.now.book.journal) pushed in
    let is : c.from_residual-in_err-flush.result ≡ Err SinkFailed = search rules in
    subst (λ r. Wrote start (g.W.Sink.written c.flush.new.out) (report_of c.args.run.now.names c.args.run.now.book.journal) r) (sym is) (Wrote-prefix _ _ _ _ _ (whole_prefix _ _ _ _ flushed))

pub returns-clause-wrote : goal.returns-clause-wrote
returns-clause-wrote g c =
    let start = g.W.Sink.written c.args.out.now in
    let given : Delivered start start c.in_ok-buffer.buffer [] = subst (λ l. Delivered start start l []) (sym c.in_ok-buffer.ensures) (Delivered-nil start) in
    let pushed = c.in_ok-write_lines.ensures.pushed start [] given in
    let flushed = c.in_ok-flush.ensures.delivered start (report_of c.args.run.now.names c.args.run.now.book.journal) pushed in
    Wrote-delivered _ _ _ _ (subst (λ l. Delivered start (g.W.Sink.written c.flush.new.out) l (report_of c.args.run.now.names c.args.run.now.book.journal)) c.in_ok-flush.ensures.empty flushed)
