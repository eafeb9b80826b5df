use Rattle.std.proofs.Common.{List, subst, sym}
use Rattle.serde_json.specs.Data.{object}
use Rattle.serde_json.specs.declared.value.Value.{Value}
use Rattle.report_text.specs.Documents.{comment_members}
use Rattle.report_text.proofs.Plain.{IsPlain, more_plain, written_more}
use Rattle.report_text.proofs.document_end.comments_value.Goals as goal

pub loop-comment-preserved : goal.loop-comment-preserved
loop-comment-preserved c = record {
  written = written_more (λ x. object (comment_members x)) _ _ _ c.args.comments.now c.loop-comment.comment-index c.comment-item.result c.loop-comment-test.true c.comment-item.is c.in_ok-push.ensures.items c.in_ok-comment_value.ensures.data c.loop-comment.invariant.written;
  plain = subst (λ (l : List Value). IsPlain l) (sym c.in_ok-push.ensures.items) (more_plain _ _ c.loop-comment.invariant.plain c.in_ok-comment_value.ensures.plain);
}
