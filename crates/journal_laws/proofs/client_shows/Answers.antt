use Rattle.journal_laws.proofs.Laws.{shows}
use Rattle.journal_laws.proofs.client_shows.Goals as goal

pub returns : goal.returns
returns c = shows
