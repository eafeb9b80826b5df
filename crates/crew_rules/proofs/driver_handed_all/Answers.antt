use Rattle.crew_rules.proofs.Handing.{driver_handed}
use Rattle.crew_rules.proofs.driver_handed_all.Goals as goal

pub returns : goal.returns
returns c = driver_handed
