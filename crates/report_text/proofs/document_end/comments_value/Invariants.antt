use Rattle.std.proofs.Common.{◌≡◌, map, take}
use Rattle.serde_json.specs.Data.{object}
use Rattle.serde_json.specs.View.{view}
use Rattle.report_text.specs.Documents.{comment_members}
use Rattle.report_text.proofs.Plain.{IsPlain}
use Rattle.report_text.proofs.document_end.comments_value.Given as goal

abbrev pub invariant-loop-comment : goal.invariant-loop-comment
invariant-loop-comment l = record {
  written : map view l.values.items ≡ map (λ x. object (comment_members x)) (take l.comment-index l.comments);
  plain : IsPlain l.values.items;
}
