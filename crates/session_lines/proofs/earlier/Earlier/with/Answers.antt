use Rattle.std.proofs.Common.{◌≡◌, ◌&&◌, ◌∙◌, sym, ap}
use Rattle.session_lines.specs.Script.{makes_document}
use Rattle.session_lines.proofs.Indexing.{indexed_more}
use Rattle.session_lines.proofs.earlier.Earlier.with.Goals as goal
use Rattle.session_lines.proofs.earlier.Earlier.with.Goals.{then-only_documents, else-only_documents}

pub invariant_of-result : goal.invariant_of-result
invariant_of-result c =
    let only : c.if-only_documents.result ≡ (c.self.inside.only_documents && makes_document c.args.line) =
    elim c.if-only_documents.branch [
      | then-only_documents w ↦ w.result-is ∙ c.makes_document-makes_document.ensures ∙ sym (ap (λ b. b && makes_document c.args.line) w.if-only_documents.true)
      | else-only_documents w ↦ w.result-is ∙ w.if-only_documents.false ∙ sym (ap (λ b. b && makes_document c.args.line) w.if-only_documents.false)
    ] in
    indexed_more _ _ c.args.line _ _ _ _ _ _ c.self.invariant (rw c.self.view_is c.requires) c.in_ok-push.ensures.items c.in_ok-note_document.ensures c.in_ok-note_home.ensures only
