use Rattle.std.proofs.Common.{[], ◌∷◌, ◌++◌, ◌∙◌, ap}
use Rattle.std.proofs.lemmas.Result.{IfOk-weaker}
use Rattle.json.specs.Token.{begin_object}
use Rattle.json_lines.specs.Object.{line_of}
use Rattle.journal_entries.specs.declared.act.Act.TheVariants.{Got}
use Rattle.line_writer.specs.Puts.{members_closed}
use Rattle.line_writer.proofs.Chains.{line_is, then}
use Rattle.report_text.specs.Entries.{entry_members}
use Rattle.report_text.proofs.Message.{got_is}
use Rattle.report_text.proofs.frequent.got_line.Goals as goal

pub returns : goal.returns
returns c =
    let put = then c.in_ok-number.ensures (then c.in_ok-number-2.ensures (then c.in_ok-text.ensures (then c.in_ok-put_optional.ensures c.in_ok-put_message.ensures))) in
    let h = c.args.heading.now in
    let ms = entry_members h.board h.n [] (record { seat = h.seat; line = h.line; act = Got c.args.client c.args.brief.now }) in
    IfOk-weaker c.finish.result _ _ (λ made written.
    written ms (line_is _ _ _ c.in_ok-line.ensures.1 put ∙ ap (λ members. begin_object ∷ members_closed members) (got_is h c.args.client c.args.brief.now))
    ∙ ap (λ before. before ++ line_of ms) (put.same ∙ c.in_ok-line.ensures.0)) c.finish.ensures
