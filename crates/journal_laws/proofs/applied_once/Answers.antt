use Rattle.journal_laws.proofs.Laws.{once}
use Rattle.journal_laws.proofs.applied_once.Goals as goal

pub returns : goal.returns
returns c = once
