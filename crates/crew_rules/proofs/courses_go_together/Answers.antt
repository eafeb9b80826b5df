use Rattle.crew_rules.proofs.Whole.{courses}
use Rattle.crew_rules.proofs.courses_go_together.Goals as goal

pub returns : goal.returns
returns c = courses
