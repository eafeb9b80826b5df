use Rattle.std.proofs.Common.{◌≡◌, ◌-◌, ap, ap₂, ◌∙◌, subst, map, take, List, arith}
use Rattle.std.specs.Prelude.{IfOk}
use Rattle.journal_rules.specs.Documents as rules
use Rattle.plain_journal.specs.declared.documents.Item.{Item}
use Rattle.plain_journal.specs.Answers.{operations}
use Rattle.plain_journal.proofs.Replays.{same_operations, take_operations, take_least}
use Rattle.plain_journal.proofs.texts.text_at.Goals as goal

pub returns : goal.returns
returns c =
    let j = c.args.journal.now in
    let xs : List Item = c.in_ok-items.items.items in
    let whole : operations xs ≡ rules.operations c.args.doc j = same_operations xs ∙ ap (map (λ (x : rules.Item). x.op)) c.in_ok-items.ensures in
    let n = c.args.v - rules.base c.args.doc j in
    let base : c.in_ok-base.field-0 ≡ rules.base c.args.doc j = c.in_ok-base.ensures in
    let least = c.min.ensures in let count = c.saturating_sub-count.ensures in let len = c.len.ensures in
    let operations_are : operations (take c.min.result c.deref.result.now) ≡ take n (rules.operations c.args.doc j) =
    ap (λ l. operations (take c.min.result l)) c.deref.ensures.value ∙ ap operations (take_least n c.min.result xs (omega (arith, base, least, count, len))) ∙ take_operations n xs ∙ ap (take n) whole in
    subst (λ o. IfOk c.replayed.result (λ text. text ≡ o)) (ap₂ rules.replayed c.in_ok-first.ensures operations_are) c.replayed.ensures
