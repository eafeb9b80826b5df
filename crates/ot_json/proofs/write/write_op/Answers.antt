use Rattle.std.proofs.Common.{ap, ◌∙◌}
use Rattle.std.proofs.lemmas.Result.{IfOk-weaker}
use Rattle.serde_json.specs.Written.{has_float}
use Rattle.ot_json.proofs.Back.{both_ok, long_reads, reads}
use Rattle.ot_json.proofs.Plain.{operation_plain}
use Rattle.ot_json.proofs.write.write_op.Goals as goal

pub returns-clause-plain : goal.returns-clause-plain
returns-clause-plain c = IfOk-weaker c.write_comps.result _ _ (λ v e. ap has_float e ∙ operation_plain c.comps.result.now) c.write_comps.ensures.value

pub returns-clause-reads : goal.returns-clause-reads
returns-clause-reads c =
    both_ok c.write_comps.result _ _ _ c.write_comps.ensures.value c.write_comps.ensures.typed
    (λ v e typed. reads _ c.comps.result.now c.args.op.now e typed c.comps.ensures.solid c.comps.ensures.value)

pub returns-clause-reads_long : goal.returns-clause-reads_long
returns-clause-reads_long c =
    both_ok c.write_comps.result _ _ _ c.write_comps.ensures.value c.write_comps.ensures.typed
    (λ v e typed. long_reads _ c.comps.result.now c.args.op.now e typed c.comps.ensures.solid c.comps.ensures.value)
