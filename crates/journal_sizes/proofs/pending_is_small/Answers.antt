use Rattle.journal_sizes.proofs.Units.{pending_units}
use Rattle.journal_sizes.proofs.pending_is_small.Goals as goal

pub returns : goal.returns
returns c = pending_units
