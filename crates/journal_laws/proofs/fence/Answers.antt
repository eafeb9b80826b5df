use Rattle.journal_rules.proofs.Fencing.{fenced}
use Rattle.journal_laws.proofs.fence.Goals as goal

pub returns : goal.returns
returns c = fenced
