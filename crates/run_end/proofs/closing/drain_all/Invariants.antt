use Rattle.std.proofs.Common.{◌≡◌, ℕ, None}
use Rattle.journal_rules.specs.Documents.{makings}
use Rattle.turn_rules.specs.Locking.{busy}
use Rattle.run_rules.specs.Ending.{DrainsDry, InOrder}
use Rattle.book.specs.Going.{with_journal}
use Rattle.script_driver.specs.Clients.{StayAll}
use Rattle.run_end.proofs.closing.drain_all.Given as goal

abbrev pub invariant-loop-doc : goal.invariant-loop-doc
invariant-loop-doc g l = record {
  drains : InOrder DrainsDry l.doc l.initial.book.journal l.book.journal;
  rest : l.book ≡ with_journal l.initial.book l.book.journal;
  free : (doc : ℕ) → busy doc l.book.journal ≡ None;
  stay : StayAll l.initial.book.journal l.book.journal;
  makings : makings l.book.journal ≡ makings l.initial.book.journal;
}
