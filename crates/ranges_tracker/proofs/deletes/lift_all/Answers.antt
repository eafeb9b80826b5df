use Rattle.std.proofs.Common.{◌≡◌, ◌+◌, ℕ, arith, ap, get_or}
use Rattle.ranges_tracker.specs.Cells.{raised}
use Rattle.ranges_tracker.specs.declared.change.Change.{Change}
use Rattle.ranges_tracker.specs.Tracked.{piece, placed}
use Rattle.ranges_tracker.proofs.Pushing.{written}
use Rattle.ranges_tracker.proofs.deletes.lift_all.Goals as goal

pub loop-d-preserved : goal.loop-d-preserved
loop-d-preserved c =
    let here : Change = get_or c.loop-d.deletes c.loop-d.d-index c.d-item.result in
    let at : c.lift-d.result ≡ raised c.args.at c.args.len here.at = c.lift-d.ensures in
    written (placed (raised c.args.at c.args.len)) c.args.deletes.now c.loop-d.deletes c.loop-d.d-index (c.loop-d.d-index + 1) _ c.d-item.result (omega arith) c.loop-d-test.true c.loop-d.invariant (ap (λ (n : ℕ). piece here n here.text) at)
