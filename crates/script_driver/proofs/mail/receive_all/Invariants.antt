use Rattle.std.proofs.Common.{◌≡◌, List, length}
use Rattle.journal_entries.specs.declared.act.Entry.{Entry}
use Rattle.journal_rules.specs.Mail.{mail}
use Rattle.turn_rules.specs.Owning.{MayWriteFor}
use Rattle.turn_rules.specs.Turns.{Alone, entry_by}
use Rattle.run_rules.specs.Lines.{Gets}
use Rattle.book.specs.Going.{with_journal}
use Rattle.book.specs.Roomed.{IsClientAfter}
use Rattle.script_driver.specs.Clients.{GoesQuietly}
use Rattle.script_driver.specs.Failing.{GoesByOwn}
use Rattle.script_driver.proofs.mail.receive_all.Given as goal

-- however the client gets what is left of its mail, it gets the whole so
abbrev pub invariant-getting : goal.invariant-getting
invariant-getting g l = record {
  goes : (last : List Entry) → Gets (entry_by l.by.seat l.by.line) Alone l.initial.client.client l.book.journal last → Gets (entry_by l.by.seat l.by.line) Alone l.initial.client.client l.initial.book.journal last;
  client : IsClientAfter l.book.journal l.initial.client l.client;
  owner : MayWriteFor l.book.drivers l.book.journal l.by.seat l.client.client;
  quiet : GoesQuietly l.initial.client.client l.initial.book.journal l.book.journal;
  rest : l.book ≡ with_journal l.initial.book l.book.journal;
  own : GoesByOwn l.by.seat l.initial.book l.book;
}

-- the mail that is left
abbrev pub decreases-getting : goal.decreases-getting
decreases-getting g l = length (mail l.initial.client.client l.book.journal)
