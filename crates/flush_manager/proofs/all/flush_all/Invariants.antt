use Rattle.std.proofs.Common.{◌≡◌}
use Rattle.journal_rules.specs.Documents.{makings}
use Rattle.turn_rules.specs.Turns.{entry_by}
use Rattle.book.specs.Going.{GoesOn}
use Rattle.flush_manager.specs.FlushesAll.{FlushesBelow}
use Rattle.flush_manager.proofs.all.flush_all.Given as goal

-- the documents so far were flushed, and none was made
abbrev pub invariant-loop-doc : goal.invariant-loop-doc
invariant-loop-doc g l = record {
  below : FlushesBelow (entry_by l.initial.by.seat l.initial.by.line) l.doc l.initial.book.journal l.book.journal l.end;
  makings : makings l.book.journal ≡ makings l.initial.book.journal;
  goes : GoesOn g.K.Keeper.tells l.initial.book l.book;
}
