-- Parts of an entry's line: faults, causes, outcomes, whys and messages, each by its name.
use Rattle.std.specs.Prelude.{ℕ, List, Option, Some, None, option_map, codes, if◌then◌else◌}
use Rattle.std.specs.Option.{option_or}
use Rattle.std.specs.Str.{bytes_eq}
use Rattle.serde_json.specs.Data.{Data}
use Rattle.json_lines.specs.Reading.{number_at, text_at}
use Rattle.ot_op.specs.declared.fault.FormFault.{FormFault}
use Rattle.ot_op.specs.declared.fault.FormFault.TheVariants.{Form, Supplementary, TooLarge}
use Rattle.expiring_lock.specs.declared.refusal.Stale.{Stale}
use Rattle.expiring_lock.specs.declared.refusal.Stale.TheVariants as stale
use Rattle.journal_entries.specs.declared.message.Brief.{Brief}
use Rattle.journal_entries.specs.declared.message.Brief.TheVariants as brief
use Rattle.journal_entries.specs.declared.update.Cause.{Cause}
use Rattle.journal_entries.specs.declared.update.Cause.TheVariants as cause
use Rattle.journal_entries.specs.declared.update.Outcome.{Outcome}
use Rattle.journal_entries.specs.declared.update.Outcome.TheVariants.{Applied, Dup, Refused}
use Rattle.journal_entries.specs.declared.why.Why.{Why}
use Rattle.journal_entries.specs.declared.why.Why.TheVariants as why
use Rattle.report_reader.specs.Fields.{and_then, number_or_null_at, operation_at}

-- what is wrong with a malformed operation
abbrev pub fault_named : Data → List ℕ → Option FormFault
fault_named d name =
    if bytes_eq name (codes "form") then option_map Form (number_at (codes "at") d)
    else (if bytes_eq name (codes "supplementary") then option_map Supplementary (number_at (codes "at") d)
    else (if bytes_eq name (codes "too-large") then and_then (number_at (codes "comps") d) (λ comps. option_map (TooLarge comps) (number_at (codes "units") d))
    else None))

abbrev pub fault_of : Data → Option FormFault
fault_of d = and_then (text_at (codes "fault") d) (fault_named d)

-- the cause of a refusal
abbrev pub cause_named : Data → List ℕ → Option Cause
cause_named d name =
    if bytes_eq name (codes "future") then option_map cause.Future (number_at (codes "have") d)
    else (if bytes_eq name (codes "too-old") then option_map cause.TooOld (number_at (codes "have") d)
    else (if bytes_eq name (codes "mismatch") then Some cause.Mismatch
    else (if bytes_eq name (codes "too-long") then option_map cause.TooLong (number_at (codes "len") d)
    else (if bytes_eq name (codes "store-fault") then Some cause.StoreFault
    else (if bytes_eq name (codes "memory") then Some cause.Memory
    else None)))))

abbrev pub cause_of : Data → Option Cause
cause_of d = and_then (text_at (codes "cause") d) (cause_named d)

-- an outcome
abbrev pub applied_of : Data → Option Outcome
applied_of d = and_then (number_at (codes "v") d) (λ v. option_map (Applied v) (operation_at (codes "op") d))

abbrev pub outcome_named : Data → List ℕ → Option Outcome
outcome_named d name =
    if bytes_eq name (codes "applied") then applied_of d
    else (if bytes_eq name (codes "dup") then option_map Dup (number_at (codes "v") d)
    else (if bytes_eq name (codes "refused") then option_map Refused (cause_of d)
    else None))

abbrev pub outcome_of : Data → Option Outcome
outcome_of d = and_then (text_at (codes "out") d) (outcome_named d)

-- a message in short
abbrev pub brief_named : Data → List ℕ → Option Brief
brief_named d name =
    if bytes_eq name (codes "op") then option_map brief.Op (number_at (codes "v") d)
    else (if bytes_eq name (codes "ack") then option_map brief.Ack (number_at (codes "v") d)
    else (if bytes_eq name (codes "error") then option_map brief.Error (number_at (codes "number") d)
    else None))

abbrev pub brief_of : Data → Option Brief
brief_of d = and_then (text_at (codes "msg") d) (brief_named d)

-- why a line did nothing, where no more is said of it
abbrev pub plain_why : List ℕ → Option Why
plain_why name =
    if bytes_eq name (codes "no-doc") then Some why.NoDoc
    else (if bytes_eq name (codes "no-project") then Some why.NoProject
    else (if bytes_eq name (codes "not-joined") then Some why.NotJoined
    else (if bytes_eq name (codes "not-left") then Some why.NotLeft
    else (if bytes_eq name (codes "in-flight") then Some why.InFlight
    else None))))

abbrev pub short_why : List ℕ → Option Why
short_why name =
    if bytes_eq name (codes "nothing") then Some why.Nothing
    else (if bytes_eq name (codes "empty") then Some why.Empty
    else (if bytes_eq name (codes "uncached") then Some why.Uncached
    else (if bytes_eq name (codes "holding") then Some why.Holding
    else (if bytes_eq name (codes "store-fault") then Some why.StoreFault
    else None))))

-- a token that no longer stands: the document's last token, or none where it is that one and has ended
abbrev pub stale_of : Option ℕ → Stale
stale_of (Some token) = stale.Other token
stale_of None = stale.Ended

-- a why of a measure
abbrev pub measured_why : Data → List ℕ → Option Why
measured_why d name =
    if bytes_eq name (codes "too-old") then option_map why.TooOld (number_at (codes "have") d)
    else (if bytes_eq name (codes "past-end") then option_map why.PastEnd (number_at (codes "len") d)
    else (if bytes_eq name (codes "full") then and_then (number_at (codes "comps") d) (λ comps. option_map (why.Full comps) (number_at (codes "units") d))
    else (if bytes_eq name (codes "busy") then and_then (number_at (codes "token") d) (λ token. option_map (λ until. why.Busy (record { token = token; until = until })) (number_at (codes "until") d))
    else (if bytes_eq name (codes "stale") then option_map (λ token. why.Stale (stale_of token)) (number_or_null_at (codes "token") d)
    else (if bytes_eq name (codes "unflushed") then and_then (number_or_null_at (codes "kept") d) (λ kept. option_map (why.Unflushed kept) (number_at (codes "have") d))
    else (if bytes_eq name (codes "waiting") then option_map why.Waiting (number_at (codes "count") d)
    else None))))))

abbrev pub why_named : Data → List ℕ → Option Why
why_named d name = option_or (plain_why name) (option_or (short_why name) (measured_why d name))

abbrev pub why_of : Data → Option Why
why_of d = and_then (text_at (codes "why") d) (why_named d)
