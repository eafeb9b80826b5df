use Rattle.std.proofs.Common.{subst}
use Rattle.std.proofs.lemmas.Result.{on_ok_weaker}
use Rattle.serde_json.specs.Data.{member}
use Rattle.ot_json.specs.Grammar.{operation_data}
use Rattle.line_writer.specs.Puts.{Puts}
use Rattle.line_writer.proofs.Chains.{array_member}
use Rattle.report_text.proofs.members.put_op.Goals as goal

pub returns : goal.returns
returns c = on_ok_weaker c.close_array.result (λ closes.
    subst (λ op. Puts c.args.line.now c.close_array.new.self (member c.args.key.now (operation_data op))) c.comps.ensures.value
    (array_member c.args.key.now _ c.args.line.now c.key.new.self c.open_array.new.self c.put_comps.new.line c.close_array.new.self c.in_ok-key.ensures c.in_ok-open_array.ensures c.in_ok-put_comps.ensures closes)) c.close_array.ensures
