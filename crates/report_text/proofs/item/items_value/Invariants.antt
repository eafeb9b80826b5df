use Rattle.std.proofs.Common.{◌≡◌, map, take}
use Rattle.serde_json.specs.Data.{object}
use Rattle.serde_json.specs.View.{view}
use Rattle.report_text.specs.Entries.{item_members}
use Rattle.report_text.proofs.Plain.{IsPlain}
use Rattle.report_text.proofs.item.items_value.Given as goal

abbrev pub invariant-loop-item : goal.invariant-loop-item
invariant-loop-item l = record {
  written : map view l.values.items ≡ map (λ x. object (item_members x)) (take l.item-index l.items);
  plain : IsPlain l.values.items;
}
