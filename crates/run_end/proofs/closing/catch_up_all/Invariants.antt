use Rattle.std.proofs.Common.{◌≡◌, ℕ, length}
use Rattle.std.specs.Prelude.{None}
use Rattle.turn_rules.specs.Locking.{busy}
use Rattle.turn_rules.specs.Owning.{MayEnd}
use Rattle.run_rules.specs.Ending.{CatchesUp, InOrder}
use Rattle.book.specs.Going.{with_journal}
use Rattle.script_driver.specs.Clients.{AreClientsOf}
use Rattle.run_end.proofs.closing.catch_up_all.Given as goal

abbrev pub invariant-loop-client : goal.invariant-loop-client
invariant-loop-client g l = record {
  catches : InOrder CatchesUp l.client-index l.initial.book.journal l.book.journal;
  rest : l.book ≡ with_journal l.initial.book l.book.journal;
  free : (doc : ℕ) → busy doc l.book.journal ≡ None;
  ends : MayEnd l.book.drivers l.book.journal;
  clients : AreClientsOf l.client-items l.book.journal;
  sessions : length l.client-items ≡ length l.initial.client-items;
}
