use Rattle.std.proofs.Common.{◌∙◌}
use Rattle.workers.proofs.Courses.{closed_drained}
use Rattle.workers.proofs.Works.{drained_on, looked_on, works_none}
use Rattle.workers.proofs.working.follow_wakes.Goals as goal

pub returns-in-Memory-clause-works : goal.returns-in-Memory-clause-works
returns-in-Memory-clause-works g c = c.loop.invariant.goes _ (drained_on _ _ _ _ _ _ c.loop.invariant.same.0 c.drain-why.ensures.drains (works_none _ _))

pub loop-preserved-in_default : goal.loop-preserved-in_default
loop-preserved-in_default g c =
    let was = c.loop.invariant in
    let d = c.drain-why.ensures in
    let p = c.pop.ensures.same in
    record {
      idle = d.idle;
      same = (d.same.0 ∙ was.same.0, d.same.1 ∙ was.same.1, d.same.2 ∙ was.same.2);
      pass = (p.0 ∙ was.pass.0, p.1 ∙ was.pass.1, p.2 ∙ was.pass.2);
      goes = λ last more. was.goes last (drained_on _ _ _ _ _ last was.same.0 d.drains more);
      known = closed_drained _ _ _ _ _ d.drains was.known;
    }

pub returns-then-look_closed-clause-works : goal.returns-then-look_closed-clause-works
returns-then-look_closed-clause-works g c = c.loop.invariant.goes _ (looked_on _ _ _ _ _ c.loop.invariant.same.0 c.look_closed.ensures.among (works_none _ _))

pub loop-preserved : goal.loop-preserved
loop-preserved g c =
    let was = c.loop.invariant in
    let d = c.look_closed.ensures in
    let p = c.pop.ensures.same in
    record {
      idle = d.idle;
      same = (d.same.0 ∙ was.same.0, d.same.1 ∙ was.same.1, d.same.2 ∙ was.same.2);
      pass = (p.0 ∙ was.pass.0, p.1 ∙ was.pass.1, p.2 ∙ was.pass.2);
      goes = λ last more. was.goes last (looked_on _ _ _ _ last was.same.0 d.among more);
      known = d.known;
    }
