use Rattle.ot_json.specs.Grammar.{component_data}
use Rattle.line_writer.proofs.Chains.{one_more}
use Rattle.report_text.proofs.members.put_comps.Goals as goal

pub loop-comp-preserved : goal.loop-comp-preserved
loop-comp-preserved c = one_more component_data _ _ _ c.args.comps.now c.loop-comp.comp-index _ c.comp-item.result c.loop-comp-test.true c.comp-item.is c.loop-comp.invariant c.in_ok-put_comp.ensures
