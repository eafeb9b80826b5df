use Rattle.journal_laws.proofs.Cells.{cells_of_text}
use Rattle.journal_laws.proofs.cells_are_the_text.Goals as goal

pub returns : goal.returns
returns c = cells_of_text
