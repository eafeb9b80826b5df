use Rattle.std.proofs.lemmas.Result.{on_ok_weaker}
use Rattle.line_writer.proofs.Chains.{then}
use Rattle.report_text.proofs.frequent.put_error.Goals as goal

pub returns : goal.returns
returns c = on_ok_weaker c.number-3.result (λ last. then c.in_ok-text.ensures (then c.in_ok-number.ensures (then c.in_ok-number-2.ensures last))) c.number-3.ensures
