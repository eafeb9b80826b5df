-- Documents that seat 0 makes before anybody else writes.
use Rattle.std.specs.Prelude.{ℕ, List, [], ◌∷◌}
use Rattle.journal_entries.specs.declared.act.Act.{Act}
use Rattle.journal_entries.specs.declared.act.Act.TheVariants.{Made}
use Rattle.session_lines.specs.declared.line.Line.{Line}
use Rattle.session_lines.specs.declared.line.Line.TheVariants.{Doc}

-- a line that makes a document makes the next; another makes nothing
abbrev pub making_acts : ℕ → Line → List Act
making_acts next (Doc name project text v) = Made next name project text v ∷ []
making_acts next _ = []
