use Rattle.std.proofs.lemmas.Result.{on_ok_weaker}
use Rattle.line_writer.proofs.Chains.{then}
use Rattle.report_text.proofs.frequent.put_back.Goals as goal

pub returns : goal.returns
returns c = on_ok_weaker c.number-4.result (λ last.
    then c.in_ok-number.ensures (then c.in_ok-put_op.ensures (then c.in_ok-number-2.ensures (then c.in_ok-number-3.ensures (then c.in_ok-flag.ensures (then c.in_ok-put_name.ensures last)))))) c.number-4.ensures
