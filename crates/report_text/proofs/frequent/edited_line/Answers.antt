use Rattle.std.proofs.Common.{[], ◌++◌, ◌∙◌, ap}
use Rattle.std.proofs.lemmas.Result.{IfOk-weaker}
use Rattle.json_lines.specs.Object.{line_of, with_member}
use Rattle.journal_entries.specs.declared.act.Act.TheVariants.{Edited}
use Rattle.report_text.specs.Entries.{entry_members}
use Rattle.line_writer.proofs.Chains.{line_is, then}
use Rattle.report_text.proofs.frequent.edited_line.Goals as goal

pub returns : goal.returns
unfolding with_member
returns c =
    let put =
    then c.in_ok-number.ensures (then c.in_ok-number-2.ensures (then c.in_ok-text.ensures (then c.in_ok-put_optional.ensures (then c.in_ok-number-3.ensures (then c.in_ok-put_op_of.ensures c.in_ok-number-4.ensures))))) in
    let h = c.args.heading.now in
    let ms = entry_members h.board h.n [] (record { seat = h.seat; line = h.line; act = Edited c.args.client c.args.comp.now }) in
    IfOk-weaker c.finish.result _ _ (λ made written. written ms (line_is _ _ _ c.in_ok-line.ensures.1 put) ∙ ap (λ before. before ++ line_of ms) (put.same ∙ c.in_ok-line.ensures.0)) c.finish.ensures
