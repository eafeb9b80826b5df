-- What is known of the lines of a script that was read.
use Rattle.std.specs.Prelude.{◌≡◌, ◌≢◌, ◌<◌, ◌≤◌, ℕ, ◌+◌, ◌*◌, nat_lt, Bool, true, List, [], ◌∷◌, ◌++◌, length, sum_by, Option, Some, None, IfOk, ⊤}
use Rattle.std.specs.List.{list_all}
use Rattle.ot_op.specs.Operation.{IsWithinLimits}
use Rattle.session_lines.specs.Script.{may_follow, session_of}
use Rattle.session_lines.specs.declared.line.Line.{Line}
use Rattle.session_lines.specs.declared.line.Line.TheVariants.{Doc, Tick, Raw, Ins, Del}
use Rattle.ot_op.specs.declared.limits.TheConstants.{MAX_TEXT_UNITS}
use Rattle.journal_entries.specs.declared.limits.TheConstants.{MAX_BASE, MAX_RAW_SOURCE}
use Rattle.session_lines.specs.declared.limits.TheConstants.{MAX_TICK}

-- the texts, numbers and operations of a line are within their limits, and no insert or delete is empty
abbrev pub IsWithin : Line → Type 0
IsWithin (Doc doc project text v) = (length text ≤ MAX_TEXT_UNITS) × (v ≤ MAX_BASE)
IsWithin (Raw session doc user source dup track v op) = (source ≤ MAX_RAW_SOURCE) × IfOk op IsWithinLimits
IsWithin (Ins session p text) = text ≢ []
IsWithin (Del session p n) = 0 < n
IsWithin _ = ⊤

-- each line is within its limits, and may stand behind those before it
abbrev pub AreStanding : List Line → List Line → Type 0
AreStanding earlier [] = ⊤
AreStanding earlier (l ∷ ls) = IsWithin l × (may_follow earlier l ≡ true) × AreStanding (earlier ++ l ∷ []) ls

-- each line that a session does is done by one of so many
abbrev pub is_one_of : ℕ → Option ℕ → Bool
is_one_of sessions (Some session) = nat_lt session sessions
is_one_of sessions None = true

abbrev pub AreBySessions : ℕ → List Line → Type 0
AreBySessions sessions lines = list_all (λ line. is_one_of sessions (session_of line)) lines ≡ true

-- by how many milliseconds a line moves the clock on
abbrev pub moved_by : Line → ℕ
moved_by (Tick session ms) = ms
moved_by _ = 0

-- lines of a text of so many bytes move the clock on by at most 10^12 milliseconds for each 4 of the bytes, the line feeds counted, one behind the last line too
abbrev pub AreSlow : ℕ → List Line → Type 0
AreSlow bytes lines = 4 * sum_by moved_by lines ≤ MAX_TICK * (bytes + 1)
