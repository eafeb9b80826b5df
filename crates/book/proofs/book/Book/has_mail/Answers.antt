use Rattle.std.proofs.Common.{ℕ, ◌∙◌, ap}
use Rattle.std.specs.Prelude.{Option, is_some}
use Rattle.journal_entries.specs.Journals.{entries}
use Rattle.book.proofs.Roomed.{told_first}
use Rattle.book.proofs.book.Book.has_mail.Goals as goal

pub returns : goal.returns
returns g c =
    rw (← c.self.view_is) (c.is_some.ensures ∙ ap (λ (o : Option ℕ). is_some o) c.next.ensures ∙ told_first c.self.inside.rooms (entries c.self.inside.journal) c.args.client c.self.invariant.book.stands.legal c.self.invariant.roomed)
