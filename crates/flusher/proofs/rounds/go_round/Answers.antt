use Rattle.std.proofs.Common.{◌∙◌, arith}
use Rattle.run_rules.proofs.Growing.{extends_on}
use Rattle.flusher.proofs.Flushes.{flushed_behind, flushes_extend, looked_behind, short_error}
use Rattle.flusher.proofs.Visiting.{gone_round, visited_one}
use Rattle.flusher.proofs.rounds.go_round.Goals as goal

pub returns-then-doc-count_docs-clause-flushes : goal.returns-then-doc-count_docs-clause-flushes
returns-then-doc-count_docs-clause-flushes g c =
    let was = c.loop.invariant in
    looked_behind _ _ _ _ _ was.same.0 was.flushes c.count_docs.ensures.among

pub returns-then-doc-count_docs-clause-round : goal.returns-then-doc-count_docs-clause-round
returns-then-doc-count_docs-clause-round g c =
    let s = c.count_docs.ensures in
    gone_round _ c.loop.doc _ _ c.count_docs.new.seat.view.seen (s.among.0, s.among.1) (omega (arith, s.docs, c.if-doc-count_docs.true)) c.loop.invariant.visited

pub returns-in_err-flush_if_needed-clause-short : goal.returns-in_err-flush_if_needed-clause-short
returns-in_err-flush_if_needed-clause-short g c =
    let was = c.loop.invariant in
    short_error c.from_residual.result _ _ _ _ _ (c.count_docs.ensures.same.0 ∙ was.same.0) (looked_behind _ _ _ _ _ was.same.0 was.flushes c.count_docs.ensures.among) c.in_err-flush_if_needed.ensures.short

pub loop-preserved : goal.loop-preserved
loop-preserved g c =
    let was = c.loop.invariant in
    let s = c.count_docs.ensures in
    let f = c.flush_if_needed.ensures in
    let two = s.same.0 ∙ was.same.0 in
    let among = s.among in
    let start = flushes_extend _ _ _ was.flushes in
    record {
      idle = f.idle;
      same = (f.same.0 ∙ two, f.same.1 ∙ s.same.1 ∙ was.same.1, f.same.2 ∙ s.same.2 ∙ was.same.2);
      flushes = flushed_behind _ _ _ _ _ two (looked_behind _ _ _ _ _ was.same.0 was.flushes among) c.in_ok-flush_if_needed.ensures.flushes;
      visited = visited_one _ _ c.loop.doc _ c.loop.seat.view.seen c.count_docs.new.seat.view.seen c.flush_if_needed.new.seat.view.seen two
          (extends_on _ _ _ start (among.0, among.1)) (extends_on _ _ _ (among.0, among.1) (flushes_extend _ _ _ c.in_ok-flush_if_needed.ensures.flushes)) was.visited c.in_ok-flush_if_needed.ensures.visited;
    }
