use Rattle.std.proofs.Common.{codes, ◌∙◌, subst}
use Rattle.std.proofs.lemmas.Result.{on_ok_weaker}
use Rattle.serde_json.specs.Data.{item, object, member, no_members, number, string, unsigned}
use Rattle.line_writer.specs.Puts.{PutsElements}
use Rattle.line_writer.proofs.Chains.{object_element, then}
use Rattle.report_text.proofs.members.put_comment.Goals as goal

pub returns : goal.returns
returns c =
    on_ok_weaker c.close_object.result (λ closes.
    subst (λ s. PutsElements c.args.line.now c.close_object.new.self (item (object (member (codes "c") (string s) (member (codes "p") (number (unsigned c.args.place)) (member (codes "t") (number (unsigned c.args.thread)) no_members))))))
    (c.as_str.ensures.value ∙ c.in_ok-utf8.ensures)
    (object_element _ c.args.line.now c.open_object.new.self c.number-2.new.self c.close_object.new.self c.in_ok-open_object.ensures (then c.in_ok-text.ensures (then c.in_ok-number.ensures c.in_ok-number-2.ensures)) closes)) c.close_object.ensures
