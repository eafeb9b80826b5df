use Rattle.crew_rules.proofs.Whole.{follows}
use Rattle.crew_rules.proofs.together_follows.Goals as goal

pub returns : goal.returns
returns c = follows
