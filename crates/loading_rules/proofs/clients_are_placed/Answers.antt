use Rattle.loading_rules.proofs.Weakening.{client_placed}
use Rattle.loading_rules.proofs.clients_are_placed.Goals as goal

pub returns : goal.returns
returns c = client_placed
