use Rattle.std.proofs.Common.{ap, sym, ◌∙◌, take}
use Rattle.std.proofs.lemmas.List.{take_all}
use Rattle.journal_rules.specs.Locks.{last_acquiring, acquired_by}
use Rattle.journal_rules.proofs.Pushing.{last_acquiring-none, last_acquiring-push}
use Rattle.plain_journal.proofs.Prefixes.{take_next}
use Rattle.plain_journal.proofs.locks.last_acquiring.Goals as goal

pub loop-entry-init : goal.loop-entry-init
loop-entry-init c = sym (last_acquiring-none c.args.doc)

pub loop-entry-preserved : goal.loop-entry-preserved
loop-entry-preserved c =
    let j = c.args.journal.now in
    let e = c.entry-item.result in
    let now = take c.loop-entry.entry-index j in
    c.acquired_by-last.ensures ∙ ap (acquired_by c.args.doc e.seat e.act) c.loop-entry.invariant
    ∙ sym (last_acquiring-push c.args.doc now e) ∙ ap (last_acquiring c.args.doc) (sym (take_next j c.loop-entry.entry-index e c.loop-entry-test.true c.entry-item.is))

pub returns : goal.returns
returns c = c.loop-entry.invariant ∙ ap (last_acquiring c.args.doc) (take_all c.loop-entry.entry-index c.args.journal.now c.loop-entry-test.false)
