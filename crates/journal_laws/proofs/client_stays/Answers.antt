use Rattle.journal_laws.proofs.Staying.{stays_well}
use Rattle.journal_laws.proofs.client_stays.Goals as goal

pub returns : goal.returns
returns c = stays_well
