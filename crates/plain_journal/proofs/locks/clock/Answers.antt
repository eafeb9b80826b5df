use Rattle.std.proofs.Common.{◌≡◌, ap, sym, ◌∙◌, ◌+◌, take, arith}
use Rattle.std.proofs.lemmas.List.{take_all}
use Rattle.journal_rules.specs.Locks.{clock}
use Rattle.journal_rules.proofs.Pushing.{clock-none}
use Rattle.plain_journal.proofs.Prefixes.{clock_next, clock_low, legal_take}
use Rattle.plain_journal.proofs.locks.clock.Goals as goal

pub overflow_add-now : goal.overflow_add-now
overflow_add-now c =
    let j = c.args.journal.now in
    let i = c.loop-entry.entry-index in
    let now : c.loop-entry.now ≡ clock (take i j) = c.loop-entry.invariant in
    let ticks = c.ticks-now.ensures (clock (take i j)) in
    let next = clock_next j i c.entry-item.result c.loop-entry-test.true c.entry-item.is in
    let low = clock_low (take (i + 1) j) (legal_take j (i + 1) c.requires) in
    omega (arith, now, ticks, next, low)

pub loop-entry-init : goal.loop-entry-init
loop-entry-init c = sym clock-none

pub loop-entry-preserved : goal.loop-entry-preserved
loop-entry-preserved c =
    let j = c.args.journal.now in
    let i = c.loop-entry.entry-index in
    ap (λ n. n + c.ticks-now.result) c.loop-entry.invariant ∙ sym (c.ticks-now.ensures (clock (take i j))) ∙ sym (clock_next j i c.entry-item.result c.loop-entry-test.true c.entry-item.is)

pub returns-clause-value : goal.returns-clause-value
returns-clause-value c = c.loop-entry.invariant ∙ ap clock (take_all c.loop-entry.entry-index c.args.journal.now c.loop-entry-test.false)

pub returns-clause-low : goal.returns-clause-low
returns-clause-low c =
    let j = c.args.journal.now in
    let now : c.loop-entry.now ≡ clock j = c.loop-entry.invariant ∙ ap clock (take_all c.loop-entry.entry-index j c.loop-entry-test.false) in
    let low = clock_low j c.requires in
    omega (arith, now, low)
