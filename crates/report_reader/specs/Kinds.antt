-- The kinds of lines by their names.
use Rattle.std.specs.Prelude.{ℕ, List, Option, Some, None, option_map, codes, if◌then◌else◌}
use Rattle.std.specs.Option.{option_or}
use Rattle.std.specs.Str.{bytes_eq}
use Rattle.serde_json.specs.Data.{Data}
use Rattle.json_lines.specs.Reading.{text_at}
use Rattle.report_reader.specs.Fields.{and_then}
use Rattle.report_reader.specs.declared.kind.ActKind.{ActKind}
use Rattle.report_reader.specs.declared.kind.ActKind.TheVariants.{Made, Ticked, Joined, Edited, Sent, Malformed, Got, Left, Acquired, Loaded, LoadFailed, LoadDiffers, Committed, Released, Flushed, FlushFailed, Unloaded, Handed, Declined, Closed}
use Rattle.report_reader.specs.declared.kind.LineKind.{LineKind}
use Rattle.report_reader.specs.declared.kind.LineKind.TheVariants.{Entry, Document, Client, Project}

-- what clients do
abbrev pub client_act : List ℕ → Option ActKind
client_act name =
    if bytes_eq name (codes "joined") then Some Joined
    else (if bytes_eq name (codes "edited") then Some Edited
    else (if bytes_eq name (codes "sent") then Some Sent
    else (if bytes_eq name (codes "malformed") then Some Malformed
    else (if bytes_eq name (codes "got") then Some Got
    else (if bytes_eq name (codes "left") then Some Left
    else None)))))

-- what is done under a lock
abbrev pub lock_act : List ℕ → Option ActKind
lock_act name =
    if bytes_eq name (codes "acquired") then Some Acquired
    else (if bytes_eq name (codes "committed") then Some Committed
    else (if bytes_eq name (codes "released") then Some Released
    else (if bytes_eq name (codes "flushed") then Some Flushed
    else (if bytes_eq name (codes "flush-failed") then Some FlushFailed
    else (if bytes_eq name (codes "unloaded") then Some Unloaded
    else None)))))

abbrev pub load_act : List ℕ → Option ActKind
load_act name =
    if bytes_eq name (codes "loaded") then Some Loaded
    else (if bytes_eq name (codes "load-failed") then Some LoadFailed
    else (if bytes_eq name (codes "load-differs") then Some LoadDiffers
    else None))

abbrev pub other_act : List ℕ → Option ActKind
other_act name =
    if bytes_eq name (codes "made") then Some Made
    else (if bytes_eq name (codes "ticked") then Some Ticked
    else (if bytes_eq name (codes "handed") then Some Handed
    else (if bytes_eq name (codes "declined") then Some Declined
    else (if bytes_eq name (codes "closed") then Some Closed
    else None))))

abbrev pub act_kind : List ℕ → Option ActKind
act_kind name = option_or (client_act name) (option_or (lock_act name) (option_or (load_act name) (other_act name)))

abbrev pub end_kind : List ℕ → Option LineKind
end_kind name =
    if bytes_eq name (codes "doc") then Some Document
    else (if bytes_eq name (codes "client") then Some Client
    else (if bytes_eq name (codes "project") then Some Project
    else None))

abbrev pub kind_of_name : List ℕ → Option LineKind
kind_of_name name = option_or (end_kind name) (option_map Entry (act_kind name))

-- the kind that a line's `e` names
abbrev pub line_kind : Data → Option LineKind
line_kind d = and_then (text_at (codes "e") d) kind_of_name
