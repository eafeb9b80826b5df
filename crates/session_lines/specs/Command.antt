-- The commands by their names.
use Rattle.std.specs.Prelude.{ℕ, List, Option, Some, None, option_map, codes, if◌then◌else◌}
use Rattle.std.specs.Str.{bytes_eq}
use Rattle.session_lines.specs.declared.command.Command.{Command}
use Rattle.session_lines.specs.declared.command.Command.TheVariants.{Doc, BySession}
use Rattle.session_lines.specs.declared.command.Action.{Action}
use Rattle.session_lines.specs.declared.command.Action.TheVariants.{Tick, Raw, Join, Rejoin, Leave, Send, Resend, Recv, Sync, Finish, Ins, Del, Com, Drain, Hold, Flush, Unload, Hand}

abbrev pub session_action_of : List ℕ → Option Action
session_action_of name =
    if bytes_eq name (codes "tick") then Some Tick
    else (if bytes_eq name (codes "join") then Some Join
    else (if bytes_eq name (codes "rejoin") then Some Rejoin
    else (if bytes_eq name (codes "leave") then Some Leave
    else (if bytes_eq name (codes "recv") then Some Recv
    else (if bytes_eq name (codes "sync") then Some Sync
    else None)))))

abbrev pub edit_action_of : List ℕ → Option Action
edit_action_of name =
    if bytes_eq name (codes "ins") then Some Ins
    else (if bytes_eq name (codes "del") then Some Del
    else (if bytes_eq name (codes "com") then Some Com
    else (if bytes_eq name (codes "send") then Some Send
    else (if bytes_eq name (codes "resend") then Some Resend
    else (if bytes_eq name (codes "raw") then Some Raw
    else None)))))

abbrev pub document_action_of : List ℕ → Option Action
document_action_of name =
    if bytes_eq name (codes "drain") then Some Drain
    else (if bytes_eq name (codes "hold") then Some Hold
    else (if bytes_eq name (codes "finish") then Some Finish
    else (if bytes_eq name (codes "flush") then Some Flush
    else (if bytes_eq name (codes "unload") then Some Unload
    else (if bytes_eq name (codes "hand") then Some Hand
    else None)))))

-- the first that is there
abbrev pub first_of : {A : Type 0} → Option A → Option A → Option A
first_of (Some x) o = Some x
first_of None o = o

abbrev pub action_of : List ℕ → Option Action
action_of name = first_of (session_action_of name) (first_of (edit_action_of name) (document_action_of name))

abbrev pub command_of : List ℕ → Option Command
command_of name = if bytes_eq name (codes "doc") then Some Doc else option_map BySession (action_of name)
