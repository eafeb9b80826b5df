use Rattle.std.proofs.Common.{◌≡◌, ◌+◌, List, [], ℕ, drop, All}
use Rattle.std.specs.Prelude.{filter}
use Rattle.journal_entries.specs.declared.act.Entry.{Entry}
use Rattle.journal_rules.specs.Documents.{makings}
use Rattle.journal_rules.specs.Legal.{closed}
use Rattle.run_rules.specs.Lines.{numbered}
use Rattle.session_lines.specs.declared.line.Line.{Line}
use Rattle.book.specs.Going.{with_journal}
use Rattle.script_driver.specs.Fitting.{AreFit}
use Rattle.script_driver.specs.Handing.{items_handed}
use Rattle.script_driver.proofs.Made.{Makes, first_book}
use Rattle.script_driver.proofs.making.make_documents.Given as goal

-- what is left fits, and whatever it leads to, the whole leads to
abbrev pub invariant-loop-line : goal.invariant-loop-line
invariant-loop-line g l = record {
  rest : l.book ≡ with_journal (first_book (g.K.Keeper.documents l.fn.keeper) (g.K.Keeper.count l.fn.keeper) l.drivers) l.book.journal;
  fit : AreFit (makings l.book.journal) (drop l.line-index l.lines);
  count : l.number ≡ l.line-index + 1;
  leads : (last : List Entry) → Makes (numbered l.number (drop l.line-index l.lines)) l.book.journal last → Makes (numbered 1 l.lines) [] last;
  seats : All (λ e. e.seat ≡ 0) l.book.journal;
  handed : items_handed l.book.journal ≡ [];
  closed : closed l.book.journal ≡ [];
}
