-- The line that is written of a client at the end.
use Rattle.std.specs.Prelude.{ℕ, List, codes, Option, Some, None}
use Rattle.serde_json.specs.Data.{Data, null, Members, no_members}
use Rattle.json_lines.specs.Object.{units_data, with_member, with_number, with_text}
use Rattle.ot_op.specs.declared.comp.Comp.{Comp}
use Rattle.ot_json.specs.Grammar.{operation_data}
use Rattle.report_text.specs.declared.client_end.ClientEnd.{ClientEnd}
use Rattle.report_text.specs.declared.client_end.EndState.{EndState}
use Rattle.report_text.specs.declared.client_end.EndState.TheVariants.{Joined, Left, Stale}

abbrev pub state_name : EndState → List ℕ
state_name Joined = codes "joined"
state_name Left = codes "left"
state_name Stale = codes "stale"

abbrev pub operation_or_null : Option (List Comp) → Data
operation_or_null None = null
operation_or_null (Some op) = operation_data op

abbrev pub text_or_null : Option (List ℕ) → Data
text_or_null None = null
text_or_null (Some text) = units_data text

-- the members of a client's line
abbrev pub client_members : ClientEnd → Members
client_members end =
    with_number (codes "v") end.v (with_member (codes "text") (text_or_null end.text) (with_text (codes "state") (state_name end.state)
    (with_member (codes "pending") (operation_data end.pending) (with_text (codes "name") end.name (with_member (codes "flight") (operation_or_null end.flight)
    (with_text (codes "e") (codes "client") (with_number (codes "doc") end.doc (with_number (codes "client") end.client (with_number (codes "b") end.b no_members)))))))))
