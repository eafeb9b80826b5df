use Rattle.book.proofs.book.Book.text.Goals as goal

pub returns : goal.returns
returns g c = c.document.ensures.text_is
