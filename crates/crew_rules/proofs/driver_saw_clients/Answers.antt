use Rattle.crew_rules.proofs.Clients.{saw_clients}
use Rattle.crew_rules.proofs.driver_saw_clients.Goals as goal

pub returns : goal.returns
returns c = saw_clients
