-- The script that a text is, or its first bad line.
use Rattle.std.specs.Prelude.{ℕ, ◌+◌, ◌==◌, ◌&&◌, nat_le, nat_lt, not, List, [], ◌∷◌, ◌++◌, length, Bool, true, is_some, Option, Some, None, Result, Ok, Err, codes, if◌then◌else◌}
use Rattle.std.specs.List.{filter_map, list_all, list_any}
use Rattle.serde_json.specs.Data.{Data}
use Rattle.json_lines.specs.Lines.{lines_of, value_of}
use Rattle.json_lines.specs.Reading.{key_count, text_at}
use Rattle.session_lines.specs.Command.{command_of, first_of}
use Rattle.session_lines.specs.Fields.{name_at}
use Rattle.session_lines.specs.Line.{and_then, action_line, doc_line, line_keys}
use Rattle.session_lines.specs.Names.{same_name, number_of_name, with_name}
use Rattle.session_lines.specs.declared.command.Action.{Action}
use Rattle.session_lines.specs.declared.command.Command.{Command}
use Rattle.session_lines.specs.declared.command.Command.TheVariants.{Doc as DoDoc, BySession}
use Rattle.session_lines.specs.declared.fault.ScriptFault.{ScriptFault}
use Rattle.session_lines.specs.declared.fault.ScriptFault.TheVariants.{Json, Form, Unknown}
use Rattle.session_lines.specs.declared.line.Line.{Line}
use Rattle.session_lines.specs.declared.line.Line.TheVariants.{Doc, Tick, Raw, Join, Rejoin, Leave, Send, Resend, Recv, Sync, Finish, Ins, Del, Com, Drain, Hold, Flush, Unload, Hand}
use Rattle.session_lines.specs.declared.script.Script.{Script}
use Rattle.session_lines.specs.declared.limits.TheConstants.{MAX_DOCUMENTS}

-- the number of the session that does a line; a doc line is done by none
abbrev pub session_of : Line → Option ℕ
session_of (Doc doc project text v) = None
session_of (Tick s ms) = Some s
session_of (Raw s doc user source dup track v op) = Some s
session_of (Join s doc user track) = Some s
session_of (Rejoin s) = Some s
session_of (Leave s) = Some s
session_of (Send s) = Some s
session_of (Resend s) = Some s
session_of (Recv s) = Some s
session_of (Sync s) = Some s
session_of (Finish s) = Some s
session_of (Ins s p text) = Some s
session_of (Del s p n) = Some s
session_of (Com s p n t) = Some s
session_of (Drain s doc) = Some s
session_of (Hold s doc) = Some s
session_of (Flush s doc) = Some s
session_of (Unload s doc) = Some s
session_of (Hand s project n) = Some s

-- the name of the document that a line makes
abbrev pub made_document : Line → Option (List ℕ)
made_document (Doc doc project text v) = Some doc
made_document l = None

abbrev pub makes_document : Line → Bool
makes_document l = is_some (made_document l)

-- the session that a line joins to a document, and this document's name
abbrev pub join_of : Line → Option (ℕ × List ℕ)
join_of (Join s doc user track) = Some (s, doc)
join_of l = None

-- the documents that lines make
abbrev pub documents_of : List Line → List (List ℕ)
documents_of lines = filter_map made_document lines

abbrev pub joined_by : ℕ → Option (ℕ × List ℕ) → Option (List ℕ)
joined_by s None = None
joined_by s (Some (session, doc)) = if session == s then Some doc else None

-- the document of the first join of a session
abbrev pub home_document : ℕ → List Line → Option (List ℕ)
home_document s [] = None
home_document s (l ∷ ls) = first_of (joined_by s (join_of l)) (home_document s ls)

-- a document is made before any other command, under a new name, and only 1,000 are
abbrev pub may_make : List Line → Option (List ℕ) → Bool
may_make earlier None = true
may_make earlier (Some doc) = list_all makes_document earlier && (nat_lt (length earlier) MAX_DOCUMENTS && not (list_any (same_name doc) (documents_of earlier)))

abbrev pub is_home : Option (List ℕ) → List ℕ → Bool
is_home None doc = true
is_home (Some home) doc = same_name home doc

-- the joins of a session all name one document
abbrev pub may_join : List Line → Option (ℕ × List ℕ) → Bool
may_join earlier None = true
may_join earlier (Some (s, doc)) = is_home (home_document s earlier) doc

-- whether a line may stand behind these lines
abbrev pub may_follow : List Line → Line → Bool
may_follow earlier l = may_make earlier (made_document l) && may_join earlier (join_of l)

abbrev pub script : List Line → List (List ℕ) → Script
script lines names = record { lines = lines; sessions = length names; names = names }

-- the script with one line more
abbrev pub with_line : List Line → List (List ℕ) → Line → Option Script
with_line lines names l = if may_follow lines l then Some (script (lines ++ l ∷ []) names) else None

-- a line that the session of this name does; at most 256 sessions appear
abbrev pub by_session : List Line → List (List ℕ) → Action → Data → List ℕ → Option Script
by_session lines names action d name =
    if nat_le (length (with_name names name)) 256
    then and_then (action_line action (number_of_name names name) d) (with_line lines (with_name names name))
    else None

abbrev pub by_command : List Line → List (List ℕ) → Command → Data → Option Script
by_command lines names DoDoc d = and_then (doc_line d) (with_line lines names)
by_command lines names (BySession action) d = and_then (name_at (codes "as") d) (by_session lines names action d)

abbrev pub or_fault : ScriptFault → Option Script → Result Script ScriptFault
or_fault fault None = Err fault
or_fault fault (Some s) = Ok s

-- the script with the line number n, whose value is d
abbrev pub with_command : ℕ → Script → Data → Option Command → Result Script ScriptFault
with_command n s d None = Err (Unknown n)
with_command n s d (Some command) = or_fault (Form n) (if key_count d == line_keys command d then by_command s.lines s.names command d else None)

abbrev pub with_name_of_command : ℕ → Script → Data → Option (List ℕ) → Result Script ScriptFault
with_name_of_command n s d None = Err (Form n)
with_name_of_command n s d (Some name) = with_command n s d (command_of name)

abbrev pub with_value : ℕ → Script → Option Data → Result Script ScriptFault
with_value n s None = Err (Json n)
with_value n s (Some d) = with_name_of_command n s d (text_at (codes "do") d)

-- the script with the line number n, which has these bytes
abbrev pub next_script : ℕ → Script → List ℕ → Result Script ScriptFault
next_script n s line = with_value n s (value_of line)

abbrev pub then_lines : (Script → Result Script ScriptFault) → Result Script ScriptFault → Result Script ScriptFault
then_lines more (Ok s) = more s
then_lines more (Err fault) = Err fault

-- the script with these lines, numbered from n on
abbrev pub with_lines : ℕ → List (List ℕ) → Script → Result Script ScriptFault
with_lines n [] s = Ok s
with_lines n (line ∷ lines) s = then_lines (with_lines (n + 1) lines) (next_script n s line)

abbrev pub script_of : List ℕ → Result Script ScriptFault
script_of bytes = with_lines 1 (lines_of bytes) (script [] [])
