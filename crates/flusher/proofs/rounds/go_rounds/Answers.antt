use Rattle.std.proofs.Common.{◌∙◌}
use Rattle.seat_turns.proofs.Growing.{closed_on}
use Rattle.flusher.proofs.Flushes.{flushed_behind, flushes_extend, flushes_none, looked_behind, short_behind}
use Rattle.flusher.proofs.Visiting.{gone_on}
use Rattle.flusher.proofs.rounds.go_rounds.Goals as goal

pub look_closed-requires-clause-known : goal.look_closed-requires-clause-known
look_closed-requires-clause-known g c = closed_on c.loop.watch _ _ (flushes_extend _ _ _ c.in_default.ensures.flushes) c.loop.invariant.known

pub returns-in-Err-clause-flushes : goal.returns-in-Err-clause-flushes
returns-in-Err-clause-flushes g c = short_behind _ _ _ _ _ c.loop.invariant.same.0 c.loop.invariant.flushes c.in-Err.ensures.short

pub returns-then-look_closed-clause-flushes : goal.returns-then-look_closed-clause-flushes
returns-then-look_closed-clause-flushes g c =
    let was = c.loop.invariant in
    looked_behind _ _ _ _ _ (c.go_round.ensures.same.0 ∙ was.same.0) (flushed_behind _ _ _ _ _ was.same.0 was.flushes c.in_default.ensures.flushes) c.look_closed.ensures.among

pub returns-then-look_closed-clause-round : goal.returns-then-look_closed-clause-round
returns-then-look_closed-clause-round g c =
    let was = c.loop.invariant in
    let among = c.look_closed.ensures.among in
    gone_on _ _ _ _ _ _ was.same.0 (flushes_extend _ _ _ was.flushes) (among.0, among.1) c.in_default.ensures.round

pub loop-preserved : goal.loop-preserved
loop-preserved g c =
    let was = c.loop.invariant in
    let r = c.go_round.ensures in
    let l = c.look_closed.ensures in
    let two = r.same.0 ∙ was.same.0 in
    record {
      idle = l.idle;
      same = (l.same.0 ∙ two, l.same.1 ∙ r.same.1 ∙ was.same.1, l.same.2 ∙ r.same.2 ∙ was.same.2);
      flushes = looked_behind _ _ _ _ _ two (flushed_behind _ _ _ _ _ was.same.0 was.flushes c.in_default.ensures.flushes) l.among;
      known = l.known;
    }
