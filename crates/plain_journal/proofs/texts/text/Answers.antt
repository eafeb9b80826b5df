use Rattle.std.proofs.Common.{◌≡◌, ap, ap₂, ◌∙◌, subst, map}
use Rattle.std.specs.Prelude.{IfOk}
use Rattle.journal_rules.specs.Documents as rules
use Rattle.plain_journal.specs.Answers.{operations}
use Rattle.plain_journal.proofs.Replays.{same_operations}
use Rattle.plain_journal.proofs.texts.text.Goals as goal

pub returns : goal.returns
returns c =
    let j = c.args.journal.now in
    let operations_are : operations c.as_slice.result.now ≡ rules.operations c.args.doc j =
    ap operations c.as_slice.ensures.value ∙ same_operations c.in_ok-items.items.items ∙ ap (map (λ (x : rules.Item). x.op)) c.in_ok-items.ensures in
    subst (λ o. IfOk c.replayed.result (λ text. text ≡ o)) (ap₂ rules.replayed c.in_ok-first.ensures operations_are) c.replayed.ensures
