use Rattle.std.proofs.Common.{rules}
use Rattle.journal_entries.specs.Journals.{entries}
use Rattle.book.proofs.Booking.{found_as}
use Rattle.book.proofs.book.Book.find.Goals as goal

pub returns-in_err-found : goal.returns-in_err-found
returns-in_err-found g c =
    let on = found_as c.args.name.now c.self.inside.documents.names (entries c.self.inside.journal) c.self.invariant.book.names_are in
    let is = c.self.view_is in
    search (rules, on, is)

pub returns : goal.returns
returns g c =
    let on = found_as c.args.name.now c.self.inside.documents.names (entries c.self.inside.journal) c.self.invariant.book.names_are in
    let is = c.self.view_is in
    search (rules, on, is)
