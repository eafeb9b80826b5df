use Rattle.std.proofs.Common.{◌≡◌, ◌∙◌, sym, ap}
use Rattle.std.specs.Prelude.{slice_get, Some, None}
use Rattle.std.specs.Option.{option_copied}
use Rattle.journal_entries.specs.Journals.{entries}
use Rattle.book.proofs.Lists.{none_within}
use Rattle.book.proofs.Booking.{waits_as, waits_nowhere}
use Rattle.book.proofs.book.Book.waiting.Goals as goal

pub returns-in_default : goal.returns-in_default
returns-in_default g c =
    let items = c.self.inside.documents.items in
    let none : slice_get items c.args.doc ≡ None = sym c.get.ensures ∙ ap option_copied c.in_default.is in
    rw (← c.self.view_is) (sym (waits_nowhere c.args.doc items (entries c.self.inside.journal) c.self.invariant.book.stands (none_within items c.args.doc none)))

pub returns : goal.returns
returns g c =
    let items = c.self.inside.documents.items in
    let x = c.in-Some.document.now in
    let at : slice_get items c.args.doc ≡ Some x = sym c.get.ensures ∙ ap option_copied c.in-Some.is in
    rw (← c.self.view_is) (c.len.ensures ∙ waits_as c.args.doc x items (entries c.self.inside.journal) c.self.invariant.book.stands at)
