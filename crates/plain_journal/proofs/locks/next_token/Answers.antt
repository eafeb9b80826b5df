use Rattle.std.proofs.Common.{◌≡◌, ap, sym, ◌∙◌, ◌+◌, take, length, length-append, arith}
use Rattle.std.proofs.lemmas.List.{take_all}
use Rattle.journal_rules.specs.Locks.{acquiring_of, acquirings}
use Rattle.journal_rules.proofs.Pushing.{acquirings-none, acquirings-push}
use Rattle.plain_journal.proofs.Prefixes.{take_next}
use Rattle.plain_journal.proofs.locks.next_token.Goals as goal

pub loop-entry-init : goal.loop-entry-init
loop-entry-init c = record { counted = sym (ap length acquirings-none); few = omega arith }

pub loop-entry-preserved : goal.loop-entry-preserved
loop-entry-preserved c =
    let j = c.args.journal.now in
    let e = c.entry-item.result in
    let now = take c.loop-entry.entry-index j in
    let next : length (acquirings (take (c.loop-entry.entry-index + 1) j)) ≡ length (acquirings now) + length (acquiring_of e.seat e.act) =
    ap (λ l. length (acquirings l)) (take_next j c.loop-entry.entry-index e c.loop-entry-test.true c.entry-item.is) ∙ ap length (acquirings-push now e) ∙ length-append (acquirings now) (acquiring_of e.seat e.act) in
    let one = c.acquirings_in-taken.ensures.count e.seat in
    let was = c.loop-entry.invariant.counted in
    let few = c.acquirings_in-taken.ensures.few in
    record { counted = omega (arith, next, one, was); few = omega (arith, few) }

pub returns : goal.returns
returns c =
    let whole = ap (λ l. length (acquirings l)) (take_all c.loop-entry.entry-index c.args.journal.now c.loop-entry-test.false) in
    let was = c.loop-entry.invariant.counted in
    omega (arith, whole, was)
