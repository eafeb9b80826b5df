use Rattle.std.proofs.Common.{ℕ, sym, subst}
use Rattle.workers.specs.Taking.{IsTakenUp}
use Rattle.workers.proofs.Turning.{drains_at}
use Rattle.workers.proofs.draining.drain_one.Goals as goal

pub settle-requires-clause-taken : goal.settle-requires-clause-taken
settle-requires-clause-taken g c =
    subst (λ (n : ℕ). IsTakenUp n c.in_ok-look.look c.take_up.new.seat.view.seen) (sym c.take_up.ensures.same.0) c.in_ok-look.ensures.taken.0

pub returns-clause-drains : goal.returns-clause-drains
returns-clause-drains g c =
    let was = c.in_ok-look.ensures in
    drains_at _ _ _ _ _ _ _ _ c.take_up.ensures.same.0 was.taken.1 was.takes c.settle.ensures.settles
