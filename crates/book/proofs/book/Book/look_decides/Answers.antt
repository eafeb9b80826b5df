use Rattle.journal_entries.specs.Journals.{entries}
use Rattle.book.proofs.Committing.{decided_here}
use Rattle.book.proofs.book.Book.look_decides.Goals as goal

pub returns : goal.returns
returns g c = rw (← c.self.view_is) (λ look decision. decided_here (entries c.self.inside.journal) c.self.inside.documents.items look decision c.self.invariant.book.stands)
