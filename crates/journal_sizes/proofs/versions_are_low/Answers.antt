use Rattle.journal_sizes.proofs.Counts.{version_within}
use Rattle.journal_sizes.proofs.versions_are_low.Goals as goal

pub returns : goal.returns
returns c = version_within
