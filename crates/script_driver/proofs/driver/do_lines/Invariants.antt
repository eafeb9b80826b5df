use Rattle.std.proofs.Common.{◌≡◌, ◌+◌, ◌≤◌, List, [], length, sum_by}
use Rattle.journal_entries.specs.declared.act.Entry.{Entry}
use Rattle.journal_rules.specs.Documents.{makings}
use Rattle.journal_rules.specs.Legal.{closed}
use Rattle.journal_rules.specs.Locks.{clock}
use Rattle.session_lines.specs.Standing.{AreBySessions, moved_by}
use Rattle.run_rules.specs.Keeping.{nothing_kept}
use Rattle.run_rules.specs.Lines.{Leads, numbered}
use Rattle.turn_rules.specs.Turns.{Alone}
use Rattle.script_driver.specs.Fitting.{AreBuilt, AreFit}
use Rattle.book.specs.Going.{GoesOn}
use Rattle.script_driver.specs.Holding.{IsDriver, empty_book, kept_in}
use Rattle.script_driver.proofs.driver.do_lines.Given as goal

-- the rest fits, and whatever it leads to, the whole leads to
abbrev pub invariant-loop-line : goal.invariant-loop-line
invariant-loop-line g l = record {
  driver : IsDriver l.driver;
  seat : l.driver.seat ≡ 0;
  goes_on : GoesOn g.K.Keeper.tells (empty_book (g.K.Keeper.documents l.fn.keeper) (g.K.Keeper.count l.fn.keeper)) l.driver.book;
  sessions : length l.driver.holds.items ≡ l.fn.sessions;
  fit : AreFit (makings l.driver.book.journal) l.line-iterator.rest.items;
  built : AreBuilt l.line-iterator.rest.items;
  by : AreBySessions l.fn.sessions l.line-iterator.rest.items;
  clock : clock l.driver.book.journal + sum_by moved_by l.line-iterator.rest.items ≡ sum_by moved_by l.fn.lines.items;
  closed : closed l.driver.book.journal ≡ [];
  count : l.number + length l.line-iterator.rest.items ≡ 1 + length l.fn.lines.items;
  leads : (last : List Entry) → Leads 0 Alone (numbered l.number l.line-iterator.rest.items) (kept_in l.driver.holds.items) l.driver.book.journal last
      → Leads 0 Alone (numbered 1 l.fn.lines.items) nothing_kept [] last;
}
