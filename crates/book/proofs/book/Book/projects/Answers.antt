use Rattle.std.proofs.Common.{◌∙◌}
use Rattle.journal_entries.specs.Journals.{entries}
use Rattle.book.proofs.Handing.{as_many_projects}
use Rattle.book.proofs.book.Book.projects.Goals as goal

pub returns : goal.returns
returns g c = rw (← c.self.view_is) (c.len.ensures ∙ as_many_projects c.self.inside.projects (entries c.self.inside.journal) c.self.invariant.histories)
