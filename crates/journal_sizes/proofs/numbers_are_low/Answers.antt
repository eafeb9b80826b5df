use Rattle.journal_sizes.proofs.Counts.{number_low}
use Rattle.journal_sizes.proofs.numbers_are_low.Goals as goal

pub returns : goal.returns
returns c = number_low
