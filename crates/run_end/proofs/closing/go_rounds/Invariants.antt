use Rattle.std.proofs.Common.{◌≡◌, ℕ, List, length, None}
use Rattle.journal_entries.specs.declared.act.Entry.{Entry}
use Rattle.turn_rules.specs.Locking.{busy}
use Rattle.turn_rules.specs.Owning.{MayEnd}
use Rattle.run_rules.specs.Ending.{Rounds}
use Rattle.book.specs.Going.{with_journal}
use Rattle.script_driver.specs.Clients.{AreClientsOf}
use Rattle.run_end.proofs.closing.go_rounds.Given as goal

-- no lock keeps seat 0 out, each session has its client, and however the rounds that are left go, the whole goes so
abbrev pub invariant-rounds : goal.invariant-rounds
invariant-rounds g l = record {
  rest : l.book ≡ with_journal l.initial.book l.book.journal;
  free : (doc : ℕ) → busy doc l.book.journal ≡ None;
  ends : MayEnd l.book.drivers l.book.journal;
  clients : AreClientsOf l.clients.items l.book.journal;
  sessions : length l.clients.items ≡ length l.initial.clients.items;
  goes : (last : List Entry) → Rounds (length l.initial.clients.items) l.left l.book.journal last → Rounds (length l.initial.clients.items) 3 l.initial.book.journal last;
}

abbrev pub decreases-rounds : goal.decreases-rounds
decreases-rounds g l = l.left
