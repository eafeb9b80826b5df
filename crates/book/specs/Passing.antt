-- What a document's window holds of the operations from a version on.
use Rattle.std.specs.Prelude.{ℕ, List, [], map, Option, Some, None}
use Rattle.dup_check.specs.declared.past.Past.{Past}
use Rattle.dup_check.specs.Window.{Recent, since_in}
use Rattle.dup_check.specs.Snapshot.{numbered}
use Rattle.journal_rules.specs.Deciding.{Passed}
use Rattle.share_client.specs.declared.returning.Missed.{Missed}

-- none where the window doesn't reach back to the version
abbrev pub past_or_none : Option (List Past) → List Past
past_or_none (Some past) = past
past_or_none None = []

-- as a client is told of them that missed them
abbrev pub missed_of : Past → Missed
missed_of x = record { source = x.source; op = x.op }

abbrev pub missed_by : Recent → ℕ → List Missed
missed_by window v = map missed_of (past_or_none (since_in window v))

abbrev pub passed_by : Recent → ℕ → List Passed
passed_by window v = numbered v (past_or_none (since_in window v))
