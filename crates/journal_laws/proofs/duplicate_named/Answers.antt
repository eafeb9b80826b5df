use Rattle.journal_laws.proofs.Duplicates.{names_item}
use Rattle.journal_laws.proofs.duplicate_named.Goals as goal

pub returns : goal.returns
returns c = names_item
