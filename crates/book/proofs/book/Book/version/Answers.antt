use Rattle.std.proofs.Common.{◌∙◌}
use Rattle.book.proofs.book.Book.version.Goals as goal

pub returns : goal.returns
returns g c = c.version.ensures ∙ c.document.ensures.window_is.version_is
