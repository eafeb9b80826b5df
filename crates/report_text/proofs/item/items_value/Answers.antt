use Rattle.std.proofs.Common.{List, subst, sym}
use Rattle.serde_json.specs.Data.{object}
use Rattle.serde_json.specs.declared.value.Value.{Value}
use Rattle.report_text.specs.Entries.{item_members}
use Rattle.report_text.proofs.Plain.{IsPlain, more_plain, written_more}
use Rattle.report_text.proofs.item.items_value.Goals as goal

pub loop-item-preserved : goal.loop-item-preserved
loop-item-preserved c = record {
  written = written_more (λ x. object (item_members x)) _ _ _ c.args.items.now c.loop-item.item-index c.item-item.result c.loop-item-test.true c.item-item.is c.in_ok-push.ensures.items c.in_ok-item_value.ensures.data c.loop-item.invariant.written;
  plain = subst (λ (l : List Value). IsPlain l) (sym c.in_ok-push.ensures.items) (more_plain _ _ c.loop-item.invariant.plain c.in_ok-item_value.ensures.plain);
}
