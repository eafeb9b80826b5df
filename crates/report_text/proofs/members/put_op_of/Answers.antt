use Rattle.std.proofs.lemmas.Result.{on_ok_weaker}
use Rattle.line_writer.proofs.Chains.{array_member}
use Rattle.report_text.proofs.members.put_op_of.Goals as goal

pub returns : goal.returns
returns c = on_ok_weaker c.close_array.result (λ closes.
    array_member c.args.key.now _ c.args.line.now c.key.new.self c.open_array.new.self c.put_unless_void.new.line c.close_array.new.self c.in_ok-key.ensures c.in_ok-open_array.ensures c.in_ok-put_unless_void.ensures closes) c.close_array.ensures
