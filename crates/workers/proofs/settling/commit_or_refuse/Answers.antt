use Rattle.std.proofs.Common.{ap, sym, ◌∙◌, subst}
use Rattle.journal_entries.specs.declared.update.Cause.TheVariants.{Memory}
use Rattle.turn_rules.specs.Locking.{staleness}
use Rattle.book.specs.Calls.{MayRefuse}
use Rattle.book.specs.Shown.{Shown}
use Rattle.workers.proofs.Settled.{may_refuse_up, stale_of}
use Rattle.workers.proofs.Standing.{taken_over}
use Rattle.workers.proofs.settling.commit_or_refuse.Goals as goal

pub refuse-requires-clause-may : goal.refuse-requires-clause-may
refuse-requires-clause-may g c = λ stands. may_refuse_up c.args.by.seat c.args.look c.args.book.now.journal c.legal.ensures c.requires.taken stands

pub refuse-requires-clause-over : goal.refuse-requires-clause-over
refuse-requires-clause-over g c = λ s stale. taken_over c.args.by.seat c.args.look c.args.book.now.journal s c.legal.ensures c.requires.taken stale

pub returns-in-Err-Stale : goal.returns-in-Err-Stale
returns-in-Err-Stale g c =
    (taken_over c.args.by.seat c.args.look c.args.book.now.journal _ c.legal.ensures c.requires.taken (stale_of _ _ _ _ c.in-Err-Stale.field-0-is c.in-Err-Stale.ensures.refused), c.in-Err-Stale.ensures.kept)

pub refuse-requires-in-Err-Memory-clause-may : goal.refuse-requires-in-Err-Memory-clause-may
refuse-requires-in-Err-Memory-clause-may g c = λ stands.
    let same = c.in-Err-Memory.ensures.kept in
    let look = c.args.look in
    subst (λ (b : Shown). MayRefuse b.journal c.args.by.seat look.doc look.token look.ticket Memory) (sym same)
    (may_refuse_up c.args.by.seat look c.args.book.now.journal c.legal.ensures c.requires.taken (ap (λ (b : Shown). staleness look.doc look.token b.journal) (sym same) ∙ stands))
