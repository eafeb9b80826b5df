use Rattle.std.proofs.Common.{◌∙◌, sym, ap}
use Rattle.std.specs.Option.{option_copied}
use Rattle.book.proofs.book.Book.document.Goals as goal

pub returns : goal.returns
returns g c =
    let at = sym c.get.ensures ∙ ap option_copied c.in-Some.is in
    rw (← c.self.view_is) (c.self.invariant.book.stands.each c.args.doc c.in-Some.document.now at)
