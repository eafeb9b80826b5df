use Rattle.ranges_tracker.proofs.WellKept.{well_steady}
use Rattle.ranges_tracker.proofs.laws.well_formed_is_steady.Goals as goal

pub returns : goal.returns
returns c = well_steady
