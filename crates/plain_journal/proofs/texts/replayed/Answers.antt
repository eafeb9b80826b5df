use Rattle.std.proofs.Common.{◌+◌, ap, sym, refl, ◌∙◌, drop}
use Rattle.std.specs.Option.{option_and_then}
use Rattle.std.proofs.lemmas.List.{drop_all}
use Rattle.journal_rules.specs.Documents as rules
use Rattle.plain_journal.specs.Answers.{operations}
use Rattle.plain_journal.proofs.Replays.{replays_next}
use Rattle.plain_journal.proofs.texts.replayed.Goals as goal
use Rattle.ot_op.proofs.Applying.{failing_none}

pub loop-item-init : goal.loop-item-init
loop-item-init c = refl

pub loop-item-preserved : goal.loop-item-preserved
loop-item-preserved c =
    let xs = c.args.items.now in
    let i = c.loop-item.item-index in
    sym (replays_next c.loop-item.text xs i c.item-item.result c.loop-item-test.true c.item-item.is ∙ ap (λ o. option_and_then (λ next. rules.replayed next (operations (drop (i + 1) xs))) o) c.in-Ok.ensures.ok)
    ∙ c.loop-item.invariant

pub returns-in-Err-Mismatch : goal.returns-in-Err-Mismatch
returns-in-Err-Mismatch c =
    let xs = c.args.items.now in
    let i = c.loop-item.item-index in
    let fails = rw c.in-Err-Mismatch.field-0-is at c.in-Err-Mismatch.ensures.fault in
    sym (replays_next c.loop-item.text xs i c.item-item.result c.loop-item-test.true c.item-item.is
    ∙ ap (λ o. option_and_then (λ next. rules.replayed next (operations (drop (i + 1) xs))) o) (failing_none c.loop-item.text c.apply.new.text c.item-item.result.op.now c.in-Err-Mismatch.field-0-0 fails))
    ∙ c.loop-item.invariant

pub returns : goal.returns
returns c = sym (ap (λ l. rules.replayed c.loop-item.text (operations l)) (drop_all c.loop-item.item-index c.args.items.now c.loop-item-test.false)) ∙ c.loop-item.invariant
