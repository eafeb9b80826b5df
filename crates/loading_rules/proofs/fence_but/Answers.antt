use Rattle.loading_rules.proofs.Fencing.{fenced}
use Rattle.loading_rules.proofs.fence_but.Goals as goal

pub returns : goal.returns
returns c = fenced
