use Rattle.std.proofs.Common.{◌≡◌, ◌-◌, List, ap, ◌∙◌, take, drop}
use Rattle.journal_rules.specs.Documents as documents
use Rattle.journal_rules.specs.Client as rules
use Rattle.plain_journal.specs.declared.documents.Item.{Item}
use Rattle.plain_journal.specs.Answers.{client_as}
use Rattle.plain_journal.proofs.Between.{between_is, between_sized}
use Rattle.plain_journal.proofs.clients.returned.Goals as goal

pub caught_up-requires-clause-items : goal.caught_up-requires-clause-items
caught_up-requires-clause-items c =
    between_sized c.args.before.now c.args.doc c.requires.legal c.saturating_sub-skipped.result c.saturating_sub.result c.in_ok-items.items.items c.part-missed.result.now c.in_ok-items.ensures
    (c.part-missed.ensures ∙ ap (λ (l : List Item). take c.saturating_sub.result (drop c.saturating_sub-skipped.result l)) c.as_slice.ensures.value)

pub returns : goal.returns
returns c =
    let first : c.in_ok-base.field-0 ≡ documents.base c.args.doc c.args.before.now = c.in_ok-base.ensures in
    let skipped : c.saturating_sub-skipped.result ≡ c.args.since - documents.base c.args.doc c.args.before.now = c.saturating_sub-skipped.ensures ∙ ap (λ n. c.args.since - n) first in
    let missed = between_is c.args.before.now c.args.doc c.args.since c.args.v c.saturating_sub-skipped.result c.saturating_sub.result c.in_ok-items.items.items c.part-missed.result.now skipped c.saturating_sub.ensures c.in_ok-items.ensures
    (c.part-missed.ensures ∙ ap (λ (l : List Item). take c.saturating_sub.result (drop c.saturating_sub-skipped.result l)) c.as_slice.ensures.value) in
    c.back_under.ensures ∙ ap (rules.back_under c.args.source) (c.in_ok-now.ensures ∙ ap (rules.caught_up (client_as c.args.now)) missed)
