use Rattle.std.proofs.Common.{◌∙◌, ap, sym, map, take}
use Rattle.std.proofs.lemmas.List.{take_all}
use Rattle.journal_rules.specs.Documents.{makings}
use Rattle.journal_rules.proofs.Pushing.{makings-none, makings-push}
use Rattle.plain_journal.specs.Answers.{making_as}
use Rattle.plain_journal.proofs.Prefixes.{take_next, gathers_on}
use Rattle.plain_journal.proofs.documents.makings.Goals as goal

pub loop-entry-init : goal.loop-entry-init
loop-entry-init c = ap (map making_as) c.new-made.ensures.items ∙ sym makings-none

pub loop-entry-preserved : goal.loop-entry-preserved
loop-entry-preserved c =
    let j = c.args.journal.now in
    let i = c.loop-entry.entry-index in
    let e = c.entry-item.result in
    gathers_on making_as c.loop-entry.made.items c.push_found.new.list.items c.making_of.result _ _ c.loop-entry.invariant c.in_ok-push_found.ensures c.making_of.ensures
    ∙ sym (makings-push (take i j) e) ∙ ap makings (sym (take_next j i e c.loop-entry-test.true c.entry-item.is))

pub returns : goal.returns
returns c = c.loop-entry.invariant ∙ ap makings (take_all c.loop-entry.entry-index c.args.journal.now c.loop-entry-test.false)
