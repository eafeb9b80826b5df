use Rattle.std.proofs.Common.{sym}
use Rattle.book.proofs.book.Book.ranges.Goals as goal

pub returns : goal.returns
returns g c = sym c.document.ensures.tracked.ranges_are
