use Rattle.std.proofs.Common.{◌≡◌, map, take}
use Rattle.serde_json.specs.Data.{object}
use Rattle.serde_json.specs.View.{view}
use Rattle.report_text.specs.Documents.{change_members}
use Rattle.report_text.proofs.Plain.{IsPlain}
use Rattle.report_text.proofs.document_end.changes_value.Given as goal

abbrev pub invariant-loop-change : goal.invariant-loop-change
invariant-loop-change l = record {
  written : map view l.values.items ≡ map (λ x. object (change_members x)) (take l.change-index l.changes);
  plain : IsPlain l.values.items;
}
