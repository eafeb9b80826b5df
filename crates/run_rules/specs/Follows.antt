-- Which journals follow a script on one thread.
use Rattle.std.specs.Prelude.{ℕ, List, [], ◌∷◌, ◌++◌, None}
use Rattle.journal_entries.specs.declared.act.Act.TheVariants.{Closed}
use Rattle.journal_entries.specs.declared.act.Entry.{Entry}
use Rattle.session_lines.specs.declared.line.Line.{Line}
use Rattle.run_rules.specs.Ending.{Ends}
use Rattle.run_rules.specs.Keeping.{nothing_kept}
use Rattle.run_rules.specs.Lines.{Leads, numbered}
use Rattle.turn_rules.specs.Turns.{Alone, entry_by}

-- seat 0 does the lines in order, closes its driver, and ends the run
pub record Follows (lines : List Line) (sessions : ℕ) (journal : List Entry) : Type 0 where
  pub done : List Entry
  pub leads : Leads 0 Alone (numbered 1 lines) nothing_kept [] done
  pub ends : Ends sessions (done ++ entry_by 0 None (Closed 0) ∷ []) journal
