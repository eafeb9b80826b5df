use Rattle.ranges_tracker.proofs.WellKept.{step_keeps_it}
use Rattle.ranges_tracker.proofs.laws.step_keeps.Goals as goal

pub returns : goal.returns
returns c = step_keeps_it
