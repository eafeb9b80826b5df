use Rattle.std.proofs.Common.{◌≤◌, ℕ, List, length}
use Rattle.json.specs.Token.{Token}
use Rattle.serde_json.specs.Data.{Items}
use Rattle.line_reader.specs.Reads.{ReadsItems}
use Rattle.line_reader.proofs.Reading.{edits_before}
use Rattle.line_reader.proofs.edit.read_edits.Given as goal

-- what is left is read behind the edits so far
abbrev pub invariant-edits : goal.invariant-edits
invariant-edits l = (n : ℕ) × (length l.reader ≤ n) × ((ds : Items) (rest : List Token) → ReadsItems n l.reader ds rest → ReadsItems (length l.initial.reader) l.initial.reader (edits_before l.edits.items ds) rest)

abbrev pub decreases-edits : goal.decreases-edits
decreases-edits l = length l.reader
