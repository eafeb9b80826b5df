use Rattle.journal_laws.proofs.Laws.{flies}
use Rattle.journal_laws.proofs.flight_known.Goals as goal

pub returns : goal.returns
returns c = flies
