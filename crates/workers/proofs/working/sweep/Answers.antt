use Rattle.std.proofs.Common.{◌∙◌, arith}
use Rattle.seat_turns.proofs.Growing.{closed_among}
use Rattle.workers.proofs.Courses.{closed_drained, sweeps_all, sweeps_among, sweeps_one}
use Rattle.workers.proofs.Works.{drained_on, looked_on, works_none}
use Rattle.workers.proofs.working.sweep.Goals as goal

pub returns-then-doc-count_docs-clause-works : goal.returns-then-doc-count_docs-clause-works
returns-then-doc-count_docs-clause-works g c =
    c.loop.invariant.goes _ (looked_on _ _ _ _ _ c.loop.invariant.same.0 c.count_docs.ensures.among (works_none _ _))

pub returns-then-doc-count_docs-clause-closed : goal.returns-then-doc-count_docs-clause-closed
returns-then-doc-count_docs-clause-closed g c = closed_among _ _ _ _ c.count_docs.ensures.among c.loop.invariant.closed

pub returns-in-Memory-clause-works : goal.returns-in-Memory-clause-works
returns-in-Memory-clause-works g c =
    let two = c.count_docs.ensures.same.0 ∙ c.loop.invariant.same.0 in
    c.loop.invariant.goes _ (looked_on _ _ _ _ _ c.loop.invariant.same.0 c.count_docs.ensures.among (drained_on _ _ _ _ _ _ two c.drain-why.ensures.drains (works_none _ _)))

pub returns-in-Memory-clause-closed : goal.returns-in-Memory-clause-closed
returns-in-Memory-clause-closed g c =
    closed_drained _ _ _ _ _ c.drain-why.ensures.drains (closed_among _ _ _ _ c.count_docs.ensures.among c.loop.invariant.closed)

pub returns-then-doc-count_docs-clause-swept : goal.returns-then-doc-count_docs-clause-swept
returns-then-doc-count_docs-clause-swept g c =
    let s = c.count_docs.ensures in
    sweeps_all c.args.drivers c.args.seat.now.view.number c.args.seat.now.view.seen c.loop.doc c.count_docs.new.seat.view.seen (omega (arith, s.docs, c.if-doc-count_docs.true))
    (sweeps_among _ _ _ _ _ _ _ c.loop.invariant.same.0 s.among c.loop.invariant.swept)

pub loop-preserved : goal.loop-preserved
loop-preserved g c =
    let was = c.loop.invariant in
    let s = c.count_docs.ensures in
    let d = c.drain-why.ensures in
    let two = s.same.0 ∙ was.same.0 in
    let closed = closed_drained _ _ _ _ _ d.drains (closed_among _ _ _ _ s.among was.closed) in
    record {
      idle = d.idle;
      same = (d.same.0 ∙ two, d.same.1 ∙ s.same.1 ∙ was.same.1, d.same.2 ∙ s.same.2 ∙ was.same.2);
      goes = λ last more. was.goes last (looked_on _ _ _ _ last was.same.0 s.among (drained_on _ _ _ _ _ last two d.drains more));
      closed = closed;
      swept = sweeps_one _ _ _ _ c.loop.doc c.count_docs.new.seat.view.seen c.drain-why.new.seat.view.seen two d.drains closed c.drain-why.result d.why c.in_default.not-Memory (omega (arith, s.docs, c.if-doc-count_docs.false))
          (sweeps_among _ _ _ _ _ _ _ was.same.0 s.among was.swept);
    }
