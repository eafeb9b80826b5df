use Rattle.std.proofs.Common.{codes, ◌++◌, ◌∙◌, ap, subst}
use Rattle.std.proofs.lemmas.Result.{IfOk-weaker}
use Rattle.serde_json.specs.Data.{member, string}
use Rattle.json_lines.specs.Object.{line_of, with_member}
use Rattle.line_writer.specs.Puts.{Puts}
use Rattle.line_writer.proofs.Chains.{line_is, then}
use Rattle.report_text.specs.Clients.{client_members}
use Rattle.report_text.proofs.client_end.client_line.Goals as goal

pub returns : goal.returns
unfolding with_member
returns c =
    let state = subst (λ s. Puts c.put_op.new.line c.text-2.new.self (member (codes "state") (string s))) c.state_name.ensures c.in_ok-text-2.ensures in
    let put =
    then c.in_ok-number.ensures (then c.in_ok-number-2.ensures (then c.in_ok-number-3.ensures (then c.in_ok-text.ensures (then c.in_ok-put_op_or_null.ensures
    (then c.in_ok-put_name.ensures (then c.in_ok-put_op.ensures (then state (then c.in_ok-put_text_or_null.ensures c.in_ok-number-4.ensures)))))))) in
    let ms = client_members c.args.end.now in
    IfOk-weaker c.finish.result _ _ (λ made written. written ms (line_is _ _ _ c.in_ok-line.ensures.1 put) ∙ ap (λ before. before ++ line_of ms) (put.same ∙ c.in_ok-line.ensures.0)) c.finish.ensures
