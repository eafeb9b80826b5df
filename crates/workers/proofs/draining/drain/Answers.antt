use Rattle.std.proofs.Common.{◌∙◌}
use Rattle.workers.proofs.Works.{no_more, one_more}
use Rattle.workers.proofs.draining.drain.Goals as goal

pub returns-in-Err-clause-drains : goal.returns-in-Err-clause-drains
returns-in-Err-clause-drains g c = c.loop.invariant.goes _ (no_more _ _ _ _ _ c.loop.invariant.same.0 c.in-Err.ensures.refused.0)

pub loop-preserved : goal.loop-preserved
loop-preserved g c =
    let one = c.loop.invariant.same in
    let two = c.drain_one.ensures.same in
    record {
      idle = c.drain_one.ensures.idle;
      same = (two.0 ∙ one.0, two.1 ∙ one.1, two.2 ∙ one.2);
      goes = λ last more. c.loop.invariant.goes last (one_more _ _ _ _ _ last one.0 c.in_default.ensures.drains more);
    }
