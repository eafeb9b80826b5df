use Rattle.journal_sizes.proofs.Clients.{at_ease}
use Rattle.journal_sizes.proofs.clients_are_sized.Goals as goal

pub returns : goal.returns
returns c = at_ease
