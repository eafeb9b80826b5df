use Rattle.std.proofs.Common.{List, subst, sym}
use Rattle.serde_json.specs.Data.{object}
use Rattle.serde_json.specs.declared.value.Value.{Value}
use Rattle.report_text.specs.Documents.{change_members}
use Rattle.report_text.proofs.Plain.{IsPlain, more_plain, written_more}
use Rattle.report_text.proofs.document_end.changes_value.Goals as goal

pub loop-change-preserved : goal.loop-change-preserved
loop-change-preserved c = record {
  written = written_more (λ x. object (change_members x)) _ _ _ c.args.changes.now c.loop-change.change-index c.change-item.result c.loop-change-test.true c.change-item.is c.in_ok-push.ensures.items c.in_ok-change_value.ensures.data c.loop-change.invariant.written;
  plain = subst (λ (l : List Value). IsPlain l) (sym c.in_ok-push.ensures.items) (more_plain _ _ c.loop-change.invariant.plain c.in_ok-change_value.ensures.plain);
}
