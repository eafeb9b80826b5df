use Rattle.ot_op.proofs.Applying.{applied_all-more, failing_at}
use Rattle.ot_op.proofs.apply_op.apply.Goals as goal

pub loop-k-preserved : goal.loop-k-preserved
loop-k-preserved g c =
    let here = rw c.if-not-branch.false at c.in_ok-apply_comp.ensures.applies in
    applied_all-more _ _ _ _ _ c.comp-item.result c.loop-k-test.true c.comp-item.is c.loop-k.invariant here

pub returns-then-not-branch-clause-fault : goal.returns-then-not-branch-clause-fault
returns-then-not-branch-clause-fault g c =
    let here = rw c.if-not-branch.true at c.in_ok-apply_comp.ensures.applies in
    let left = failing_at _ _ _ _ c.comp-item.result c.loop-k-test.true c.comp-item.is c.loop-k.invariant here.0 in
    rw (here.1, ← c.comps-comp-items.ensures.value) left
