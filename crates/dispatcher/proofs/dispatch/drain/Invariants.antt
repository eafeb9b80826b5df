use Rattle.std.proofs.Common.{◌≡◌, ◌≤◌, ◌-◌}
use Rattle.journal_rules.specs.Documents.{IsMade}
use Rattle.turn_rules.specs.Turns.{entry_by}
use Rattle.book.specs.Going.{with_journal}
use Rattle.dispatcher.specs.Draining.{DrainsMany}
use Rattle.dispatcher.proofs.dispatch.drain.Given as goal

-- so many were drained so far
abbrev pub invariant-draining : goal.invariant-draining
invariant-draining g l = record {
  many : DrainsMany (entry_by l.initial.by.seat l.initial.by.line) l.initial.doc l.count l.initial.book.journal l.book.journal;
  made : IsMade l.initial.doc l.book.journal;
  few : l.count ≤ l.initial.most;
  rest : l.book ≡ with_journal l.initial.book l.book.journal;
}

abbrev pub decreases-draining : goal.decreases-draining
decreases-draining g l = l.initial.most - l.count
