use Rattle.journal_sizes.proofs.Updates.{operations_sized}
use Rattle.journal_sizes.proofs.operations_are_sized.Goals as goal

pub returns : goal.returns
returns c = operations_sized
