use Rattle.std.proofs.Common.{◌≤◌, ℕ, List, length}
use Rattle.json.specs.Token.{Token}
use Rattle.serde_json.specs.Data.{Members, no_members}
use Rattle.line_reader.specs.Fields.{AreDifferent, all_put}
use Rattle.line_reader.specs.Reads.{ReadsMembers}
use Rattle.line_reader.proofs.field.read_members.Given as goal

-- what is left is read behind the fields so far
abbrev pub invariant-loop : goal.invariant-loop
invariant-loop l = (n : ℕ) × (length l.reader ≤ n) × ((ms : Members) (rest : List Token) → ReadsMembers 126 n l.reader (all_put l.fields.items no_members) ms rest → ReadsMembers 126 (length l.initial.reader) l.initial.reader no_members ms rest) × AreDifferent l.fields.items
