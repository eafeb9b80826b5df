-- A client at the end, by the fields of its line.
use Rattle.std.specs.Prelude.{ℕ, List, Option, Some, None, option_map, codes, if◌then◌else◌}
use Rattle.std.specs.Str.{bytes_eq}
use Rattle.serde_json.specs.Data.{Data}
use Rattle.json_lines.specs.Reading.{number_at, text_at}
use Rattle.report_text.specs.declared.client_end.ClientEnd.{ClientEnd}
use Rattle.report_text.specs.declared.client_end.EndState.{EndState}
use Rattle.report_text.specs.declared.client_end.EndState.TheVariants.{Joined, Left, Stale}
use Rattle.report_reader.specs.Fields.{and_then, name_at, operation_at, operation_or_null_at, u32_at, units_or_null_at}

abbrev pub state_named : List ℕ → Option EndState
state_named name =
    if bytes_eq name (codes "joined") then Some Joined
    else (if bytes_eq name (codes "left") then Some Left
    else (if bytes_eq name (codes "stale") then Some Stale
    else None))

abbrev pub state_of : Data → Option EndState
state_of d = and_then (text_at (codes "state") d) state_named

abbrev pub client_of : Data → Option ClientEnd
client_of d =
    and_then (u32_at (codes "b") d) (λ b. and_then (u32_at (codes "client") d) (λ client. and_then (u32_at (codes "doc") d) (λ doc.
    and_then (operation_or_null_at (codes "flight") d) (λ flight. and_then (name_at (codes "name") d) (λ name. and_then (operation_at (codes "pending") d) (λ pending.
    and_then (state_of d) (λ state. and_then (units_or_null_at (codes "text") d) (λ text.
    option_map (λ v. record { b = b; client = client; doc = doc; flight = flight; name = name; pending = pending; state = state; text = text; v = v }) (number_at (codes "v") d)))))))))
