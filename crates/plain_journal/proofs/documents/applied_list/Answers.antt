use Rattle.std.proofs.Common.{◌∙◌, ap, sym, map, take}
use Rattle.std.proofs.lemmas.List.{take_all}
use Rattle.journal_rules.specs.Documents.{applied_list}
use Rattle.journal_rules.proofs.Pushing.{applied_list-none, applied_list-push}
use Rattle.plain_journal.specs.Answers.{item_as}
use Rattle.plain_journal.proofs.Prefixes.{take_next, gathers_on}
use Rattle.plain_journal.proofs.documents.applied_list.Goals as goal

pub loop-n-init : goal.loop-n-init
loop-n-init c = ap (map item_as) c.new-items.ensures.items ∙ sym (applied_list-none c.args.doc)

pub loop-n-preserved : goal.loop-n-preserved
loop-n-preserved c =
    let j = c.args.journal.now in
    let i = c.loop-n.n in
    let e = c.index-journal-n.result in
    gathers_on item_as c.loop-n.items.items c.push_found.new.list.items c.item_by.result _ _ c.loop-n.invariant c.in_ok-push_found.ensures c.item_by.ensures
    ∙ sym (applied_list-push c.args.doc (take i j) e) ∙ ap (applied_list c.args.doc) (sym (take_next j i e c.loop-n-test.true c.index-journal-n.is))

pub returns : goal.returns
returns c = c.loop-n.invariant ∙ ap (applied_list c.args.doc) (take_all c.loop-n.n c.args.journal.now c.loop-n-test.false)
