use Rattle.loading_rules.proofs.Items.{operations_passable}
use Rattle.loading_rules.proofs.operations_are_passable.Goals as goal

pub returns : goal.returns
returns c = operations_passable
