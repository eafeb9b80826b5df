-- What one session does among the others.
use Rattle.std.specs.Prelude.{ℕ, ◌-◌, ◌==◌, Bool, false, List, [], filter, slice_get, Option, Some, None, option_and_then}
use Rattle.journal_rules.specs.Client.{is_of}
use Rattle.journal_entries.specs.declared.act.Entry.{Entry}
use Rattle.session_lines.specs.declared.line.Line.{Line}
use Rattle.session_lines.specs.Script.{session_of}
use Rattle.run_rules.specs.Keeping.{nothing_kept}
use Rattle.run_rules.specs.Lines.{Leads, numbered}
use Rattle.turn_rules.specs.Turns.{Among}

-- its lines
abbrev pub lines_of : ℕ → List Line → List (ℕ × Line)
lines_of session lines = filter (λ x. is_of session (session_of x.1)) (numbered 1 lines)

-- the session that does the line of this number, and its entries
abbrev pub session_at : List Line → Option ℕ → Option ℕ
session_at lines (Some k) = option_and_then session_of (slice_get lines (k - 1))
session_at lines None = None

abbrev pub is_by_session : List Line → ℕ → Entry → Bool
is_by_session lines session e = is_of session (session_at lines e.line)

-- it does its own lines in order, and no further entry is its own
abbrev pub GoesItsCourse : ℕ → List Line → ℕ → List Entry → Type 0
GoesItsCourse seat lines session journal =
    (done : List Entry) × Leads seat (Among (is_by_session lines session)) (lines_of session lines) nothing_kept [] done
    × Among (is_by_session lines session) done journal
