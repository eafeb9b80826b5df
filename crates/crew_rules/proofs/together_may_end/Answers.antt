use Rattle.crew_rules.proofs.Whole.{may_end}
use Rattle.crew_rules.proofs.together_may_end.Goals as goal

pub returns : goal.returns
returns c = may_end
