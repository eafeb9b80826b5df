use Rattle.std.proofs.Common.{ap, sym, refl, take, length, arith, List}
use Rattle.std.proofs.lemmas.Option.{slice_get_read}
use Rattle.journal_entries.specs.declared.act.Entry.{Entry}
use Rattle.journal_rules.specs.History.{history}
use Rattle.plain_journal.proofs.Prefixes.{take_next, legal_take, length_first}
use Rattle.plain_journal.proofs.History.{handed_fits, left_next, none_left}
use Rattle.plain_journal.proofs.allowed_history.history_len.Goals as goal

pub loop-n-init : goal.loop-n-init
loop-n-init c = record { left_is = sym (none_left c.args.project.now); few = omega arith }

pub left_after-requires-clause-few : goal.left_after-requires-clause-few
left_after-requires-clause-few c =
    let len = length_first c.args.journal.now c.loop-n.n c.loop-n-test.true in
    let few = c.loop-n.invariant.few in
    omega (arith, len, few)

pub left_after-requires-clause-within : goal.left_after-requires-clause-within
left_after-requires-clause-within c =
    let j = c.args.journal.now in
    let i = c.loop-n.n in
    let e = c.index-journal-n.result in
    let left = c.loop-n.invariant.left_is in
    let fits = handed_fits c.args.project.now (take i j) e.seat e.act (c.requires i e (slice_get_read j (length j) i e refl c.loop-n-test.true c.index-journal-n.is)) in
    omega (arith, left, fits)

pub loop-n-preserved : goal.loop-n-preserved
loop-n-preserved c =
    let j = c.args.journal.now in
    let i = c.loop-n.n in
    let e = c.index-journal-n.result in
    let p = c.args.project.now in
    let was = c.loop-n.invariant.left_is in
    let step = c.in_ok-left.ensures.left in
    let next = left_next p (take i j) e (legal_take j i c.requires) (c.requires i e (slice_get_read j (length j) i e refl c.loop-n-test.true c.index-journal-n.is)) in
    let at = ap (λ (l : List Entry). length (history p l)) (take_next j i e c.loop-n-test.true c.index-journal-n.is) in
    let len = length_first j i c.loop-n-test.true in
    let few = c.in_ok-left.ensures.few in
    record { left_is = omega (arith, was, step, next, at); few = omega (arith, few, len) }
