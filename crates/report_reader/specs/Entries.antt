-- An entry, by the fields of its line.
use Rattle.std.specs.Prelude.{List, [], length, Option, Some, option_map, codes}
use Rattle.serde_json.specs.Data.{Data}
use Rattle.json_lines.specs.Reading.{number_at}
use Rattle.history_queue.specs.declared.item.Item.{Item}
use Rattle.report_reader.specs.declared.kind.ActKind.{ActKind}
use Rattle.report_reader.specs.declared.kind.ActKind.TheVariants.{Handed}
use Rattle.report_reader.specs.declared.entry.EntryLine.{EntryLine}
use Rattle.report_reader.specs.Acts.{act_of}
use Rattle.report_reader.specs.Fields.{and_then, each_at, name_at, operation_at, u32_at, u32_or_null_at}

-- an item of a history
abbrev pub item_of : Data → Option Item
item_of d =
    and_then (u32_at (codes "doc") d) (λ doc. and_then (number_at (codes "v") d) (λ v. and_then (operation_at (codes "op") d) (λ op.
    and_then (name_at (codes "user") d) (λ user. and_then (number_at (codes "ms") d) (λ ms.
    option_map (λ len. record { doc = doc; v = v; op = op; user = user; ms = ms; length_before = len }) (number_at (codes "len") d))))))

-- what an entry of a kind hands out
abbrev pub items_of : ActKind → Data → Option (List Item)
items_of Handed d = each_at item_of (codes "items") d
items_of _ d = Some []

abbrev pub entry_of : ActKind → Data → Option EntryLine
entry_of kind d =
    and_then (u32_at (codes "b") d) (λ board. and_then (number_at (codes "n") d) (λ n. and_then (u32_at (codes "seat") d) (λ seat.
    and_then (u32_or_null_at (codes "line") d) (λ line. and_then (items_of kind d) (λ items.
    option_map (λ act. record { board = board; n = n; entry = record { seat = seat; line = line; act = act }; items = items }) (act_of kind (length items) d))))))
