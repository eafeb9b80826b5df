use Rattle.std.proofs.Common.{rules, ◌≡◌, ◌+◌, ◌++◌, ◌∙◌, [], List, length, take, drop, Err, ap, sym, subst, arith, append-nil}
use Rattle.std.proofs.lemmas.Result.{IfOk-weaker}
use Rattle.history_queue.specs.declared.item.Item.{Item}
use Rattle.json_lines.specs.Object.{line_of}
use Rattle.project_histories.specs.Handing.{items_of}
use Rattle.report_text.specs.Entries.{entry_members}
use Rattle.source_sink.specs.Buffered.{Delivered}
use Rattle.run_rules.specs.Report.{entry_lines}
use Rattle.session_runner.specs.Writing.{Pushed}
use Rattle.session_runner.proofs.Handing.{enough_left, handed_first, items_first, rest_behind}
use Rattle.session_runner.proofs.Writing.{longer, entries_more, entries_cut, regrouped, regrouped_prefix}
use Rattle.session_runner.proofs.report.write_entries.Goals as goal

pub loop-n-init : goal.loop-n-init
loop-n-init g c = record {
  later = omega arith;
  emptied = c.new-line.ensures.items;
  written = λ start text given. subst (λ l. Delivered start (g.W.Sink.written c.args.out.now) c.args.buffer.now l) (sym (append-nil text)) given;
  left = c.requires.handed ∙ handed_first c.args.journal.now;
}

pub split_at-requires : goal.split_at-requires
split_at-requires g c =
    let enough = enough_left c.args.journal.now c.loop-n.n c.index-journal-n.result c.loop-n-test.true c.index-journal-n.is c.requires.legal c.loop-n.left.now c.loop-n.invariant.left in
    let count = c.handed_count.ensures in
    omega (arith, enough, count)

pub returns-in_err-line-clause-pushed : goal.returns-in_err-line-clause-pushed
returns-in_err-line-clause-pushed g c = λ start text given.
    let j = c.args.journal.now in let k = c.loop-n.n in let e = c.index-journal-n.result in
    let so_far = entry_lines [] (take k j) in
    let line = line_of (entry_members 0 k (items_of (take k j) e.act) e) in
    let items = c.split_at.ensures.front ∙ ap (λ n. take n c.loop-n.left.now) c.handed_count.ensures ∙ items_first j k e c.loop-n-test.true c.index-journal-n.is c.requires.legal c.loop-n.left.now c.loop-n.invariant.left in
    let made = IfOk-weaker c.append_entry_line-made.result _ (λ made. made.items ≡ line) (λ made is. is ∙ ap (λ before. before ++ line_of (entry_members 0 k c.split_at.result.0.now e)) c.loop-n.invariant.emptied ∙ ap (λ (xs : List Item). line_of (entry_members 0 k xs e)) items) c.append_entry_line-made.ensures in
    let pushed = c.in_err-line.ensures.pushed start (text ++ so_far) line made (c.loop-n.invariant.written start text given) in
    let more = entries_more j k e c.loop-n-test.true c.index-journal-n.is in
    let prefix = longer start _ _ text (entry_lines [] (take (k + 1) j)) (entry_lines (take (k + 1) j) (drop (k + 1) j)) (entry_lines [] j) (entries_cut j (k + 1))
    (regrouped_prefix start _ _ text so_far line (entry_lines [] (take (k + 1) j)) more pushed) in
    let is : c.from_residual.result ≡ Err c.in_err-line.field-0.0 = search rules in
    subst (λ r. Pushed start (g.W.Sink.written c.write_line.new.out) c.write_line.new.buffer (text ++ entry_lines [] j) r) (sym is) prefix

pub loop-n-preserved : goal.loop-n-preserved
loop-n-preserved g c =
    let j = c.args.journal.now in let k = c.loop-n.n in let e = c.index-journal-n.result in
    let so_far = entry_lines [] (take k j) in
    let line = line_of (entry_members 0 k (items_of (take k j) e.act) e) in
    let items = c.split_at.ensures.front ∙ ap (λ n. take n c.loop-n.left.now) c.handed_count.ensures ∙ items_first j k e c.loop-n-test.true c.index-journal-n.is c.requires.legal c.loop-n.left.now c.loop-n.invariant.left in
    let made = IfOk-weaker c.append_entry_line-made.result _ (λ made. made.items ≡ line) (λ made is. is ∙ ap (λ before. before ++ line_of (entry_members 0 k c.split_at.result.0.now e)) c.loop-n.invariant.emptied ∙ ap (λ (xs : List Item). line_of (entry_members 0 k xs e)) items) c.append_entry_line-made.ensures in
    let more = entries_more j k e c.loop-n-test.true c.index-journal-n.is in
    let before = c.loop-n.invariant.later in
    let later = c.in_ok-line.ensures.cause.later in
    record {
      later = omega (arith, before, later);
      emptied = c.in_ok-line.ensures.emptied;
      written = λ start text given. regrouped start _ _ text so_far line (entry_lines [] (take (k + 1) j)) more (c.in_ok-line.ensures.pushed start (text ++ so_far) line made (c.loop-n.invariant.written start text given));
      left = c.split_at.ensures.back ∙ ap (λ n. drop n c.loop-n.left.now) c.handed_count.ensures ∙ rest_behind j k e c.loop-n-test.true c.index-journal-n.is c.requires.legal c.loop-n.left.now c.loop-n.invariant.left;
    }
