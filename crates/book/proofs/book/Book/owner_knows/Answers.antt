use Rattle.journal_entries.specs.Journals.{entries}
use Rattle.turn_rules.proofs.Owning.{client_among, unclosed_among}
use Rattle.book.proofs.book.Book.owner_knows.Goals as goal

pub returns-clause-unclosed : goal.returns-clause-unclosed
returns-clause-unclosed g c = rw (← c.self.view_is) (λ driver seen. unclosed_among c.self.inside.drivers driver seen (entries c.self.inside.journal) c.self.invariant.owned)

pub returns-clause-clients : goal.returns-clause-clients
returns-clause-clients g c = rw (← c.self.view_is) (λ client seen. client_among c.self.inside.drivers client seen (entries c.self.inside.journal) c.self.invariant.owned)
