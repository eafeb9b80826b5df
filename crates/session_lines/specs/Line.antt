-- What one line is by itself.
use Rattle.std.specs.Prelude.{ℕ, ◌+◌, ◌==◌, nat_le, List, [], ◌∷◌, length, Option, Some, None, Result, option_map, option_and_then, codes, if◌then◌else◌}
use Rattle.serde_json.specs.Data.{Data}
use Rattle.serde_json.specs.Find.{get}
pub use Rattle.json_lines.specs.Reading.{and_then}
use Rattle.json_lines.specs.Reading.{has_key, number_at, whole_at}
use Rattle.ot_json.specs.Grammar.{operation_of}
use Rattle.ot_op.specs.declared.comp.Comp.{Comp}
use Rattle.ot_op.specs.declared.fault.FormFault.{FormFault}
use Rattle.session_lines.specs.Fields.{name_at, units_at, u32_at, number_or_zero, flag_or_false, sources_or_none}
use Rattle.session_lines.specs.declared.command.Command.{Command}
use Rattle.session_lines.specs.declared.command.Command.TheVariants.{Doc as DoDoc, BySession}
use Rattle.session_lines.specs.declared.command.Action.{Action}
use Rattle.session_lines.specs.declared.command.Action.TheVariants.{Tick as DoTick, Raw as DoRaw, Join as DoJoin, Rejoin as DoRejoin, Leave as DoLeave, Send as DoSend, Resend as DoResend, Recv as DoRecv, Sync as DoSync, Finish as DoFinish, Ins as DoIns, Del as DoDel, Com as DoCom, Drain as DoDrain, Hold as DoHold, Flush as DoFlush, Unload as DoUnload, Hand as DoHand}
use Rattle.session_lines.specs.declared.line.Line.{Line}
use Rattle.session_lines.specs.declared.line.Line.TheVariants.{Doc, Tick, Raw, Join, Rejoin, Leave, Send, Resend, Recv, Sync, Finish, Ins, Del, Com, Drain, Hold, Flush, Unload, Hand}
use Rattle.ot_op.specs.declared.limits.TheConstants.{MAX_TEXT_UNITS}
use Rattle.journal_entries.specs.declared.limits.TheConstants.{MAX_BASE, MAX_RAW_SOURCE}
use Rattle.session_lines.specs.declared.limits.TheConstants.{MAX_TICK}

-- one key more where an optional field is there
abbrev pub extra : List ℕ → Data → ℕ
extra k d = if has_key k d then 1 else 0

-- how many keys a line of an action has, with `do` and `as`
abbrev pub action_keys : Action → Data → ℕ
action_keys DoTick d = 3
action_keys DoRaw d = 6 + extra (codes "source") d + extra (codes "dup") d + extra (codes "track") d
action_keys DoJoin d = 4 + extra (codes "track") d
action_keys DoRejoin d = 2
action_keys DoLeave d = 2
action_keys DoSend d = 2
action_keys DoResend d = 2
action_keys DoRecv d = 2
action_keys DoSync d = 2
action_keys DoFinish d = 2
action_keys DoIns d = 4
action_keys DoDel d = 4
action_keys DoCom d = 5
action_keys DoDrain d = 3
action_keys DoHold d = 3
action_keys DoFlush d = 3
action_keys DoUnload d = 3
action_keys DoHand d = 4

-- how many keys a line of a command has, with `do`
abbrev pub line_keys : Command → Data → ℕ
line_keys DoDoc d = 4 + extra (codes "v") d
line_keys (BySession action) d = action_keys action d

-- a text of a document
abbrev pub first_text : List ℕ → Option (List ℕ)
first_text us = if nat_le (length us) MAX_TEXT_UNITS then Some us else None

abbrev pub doc_line : Data → Option Line
doc_line d =
    and_then (name_at (codes "doc") d) (λ doc. and_then (name_at (codes "project") d) (λ project.
    and_then (number_or_zero MAX_BASE (codes "v") d) (λ v. and_then (option_and_then first_text (units_at (codes "text") d)) (λ text.
    Some (Doc doc project text v)))))

abbrev pub tick_line : ℕ → Data → Option Line
tick_line s d = option_map (λ ms. Tick s ms) (whole_at MAX_TICK (codes "ms") d)

-- what reading the operation of a raw line gives
unfoldable pub raw_operation : Data → Result (List Comp) FormFault
raw_operation d = operation_of d

abbrev pub raw_line : ℕ → Data → Option Line
raw_line s d =
    and_then (number_at (codes "v") d) (λ v. and_then (number_or_zero MAX_RAW_SOURCE (codes "source") d) (λ source. and_then (flag_or_false (codes "track") d) (λ track.
    and_then (name_at (codes "doc") d) (λ doc. and_then (name_at (codes "user") d) (λ user. and_then (sources_or_none (codes "dup") d) (λ dup.
    and_then (get (codes "op") d) (λ op. Some (Raw s doc user source dup track v (raw_operation op)))))))))

abbrev pub join_line : ℕ → Data → Option Line
join_line s d =
    and_then (flag_or_false (codes "track") d) (λ track. and_then (name_at (codes "doc") d) (λ doc. and_then (name_at (codes "user") d) (λ user.
    Some (Join s doc user track))))

-- some text
abbrev pub solid : List ℕ → Option (List ℕ)
solid [] = None
solid (u ∷ us) = Some (u ∷ us)

abbrev pub ins_line : ℕ → Data → Option Line
ins_line s d = and_then (u32_at (codes "p") d) (λ p. option_map (λ text. Ins s p text) (option_and_then solid (units_at (codes "s") d)))

abbrev pub del_line : ℕ → Data → Option Line
del_line s d = and_then (u32_at (codes "p") d) (λ p. and_then (u32_at (codes "n") d) (λ n. if n == 0 then None else Some (Del s p n)))

abbrev pub com_line : ℕ → Data → Option Line
com_line s d = and_then (u32_at (codes "p") d) (λ p. and_then (u32_at (codes "n") d) (λ n. option_map (λ t. Com s p n t) (u32_at (codes "t") d)))

abbrev pub hand_line : ℕ → Data → Option Line
hand_line s d = and_then (u32_at (codes "n") d) (λ n. option_map (λ project. Hand s project n) (name_at (codes "project") d))

-- a line with nothing but a document
abbrev pub on_document : (List ℕ → Line) → Data → Option Line
on_document line d = option_map line (name_at (codes "doc") d)

-- an action of the session number s
abbrev pub action_line : Action → ℕ → Data → Option Line
action_line DoTick s d = tick_line s d
action_line DoRaw s d = raw_line s d
action_line DoJoin s d = join_line s d
action_line DoRejoin s d = Some (Rejoin s)
action_line DoLeave s d = Some (Leave s)
action_line DoSend s d = Some (Send s)
action_line DoResend s d = Some (Resend s)
action_line DoRecv s d = Some (Recv s)
action_line DoSync s d = Some (Sync s)
action_line DoFinish s d = Some (Finish s)
action_line DoIns s d = ins_line s d
action_line DoDel s d = del_line s d
action_line DoCom s d = com_line s d
action_line DoDrain s d = on_document (Drain s) d
action_line DoHold s d = on_document (Hold s) d
action_line DoFlush s d = on_document (Flush s) d
action_line DoUnload s d = on_document (Unload s) d
action_line DoHand s d = hand_line s d
