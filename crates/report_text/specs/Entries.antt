-- The line that is written of an entry. The members of an object stand here in the order in which they are put in; the object has them in byte order.
use Rattle.std.specs.Prelude.{ℕ, List, [], map, codes, Option, Some, None}
use Rattle.serde_json.specs.Data.{Data, array, object, Members, no_members}
use Rattle.serde_json.specs.View.{items_of}
use Rattle.json_lines.specs.Object.{with_member, with_number, with_text, with_flag, with_units}
use Rattle.ot_op.specs.declared.fault.FormFault.{FormFault}
use Rattle.ot_op.specs.declared.fault.FormFault.TheVariants.{Form, Supplementary, TooLarge}
use Rattle.ot_op.specs.Compose.{appended}
use Rattle.ot_json.specs.Grammar.{operation_data}
use Rattle.expiring_lock.specs.declared.refusal.Stale.{Stale}
use Rattle.expiring_lock.specs.declared.refusal.Stale.TheVariants as stale
use Rattle.history_queue.specs.declared.item.Item.{Item}
use Rattle.journal_entries.specs.declared.message.Brief.{Brief}
use Rattle.journal_entries.specs.declared.message.Brief.TheVariants as brief
use Rattle.journal_entries.specs.declared.update.Update.{Update}
use Rattle.journal_entries.specs.declared.update.Cause.{Cause}
use Rattle.journal_entries.specs.declared.update.Cause.TheVariants as cause
use Rattle.journal_entries.specs.declared.update.Outcome.{Outcome}
use Rattle.journal_entries.specs.declared.update.Outcome.TheVariants.{Applied, Dup, Refused}
use Rattle.journal_entries.specs.declared.why.Why.{Why}
use Rattle.journal_entries.specs.declared.why.Why.TheVariants as why
use Rattle.journal_entries.specs.declared.act.Act.{Act}
use Rattle.journal_entries.specs.declared.act.Act.TheVariants.{Made, Ticked, Joined, Edited, Sent, Malformed, Got, Left, Acquired, Loaded, LoadFailed, LoadDiffers, Committed, Released, Flushed, FlushFailed, Unloaded, Handed, Declined, Closed}
use Rattle.journal_entries.specs.declared.act.Entry.{Entry}
use Rattle.report_text.specs.Values.{with_numbers, with_optional}

-- what is wrong with a malformed operation
abbrev pub fault_name : FormFault → List ℕ
fault_name (Form at) = codes "form"
fault_name (Supplementary at) = codes "supplementary"
fault_name (TooLarge comps units) = codes "too-large"

abbrev pub with_places : FormFault → Members → Members
with_places (Form at) ms = with_number (codes "at") at ms
with_places (Supplementary at) ms = with_number (codes "at") at ms
with_places (TooLarge comps units) ms = with_number (codes "units") units (with_number (codes "comps") comps ms)

abbrev pub with_fault : FormFault → Members → Members
with_fault fault ms = with_places fault (with_text (codes "fault") (fault_name fault) ms)

-- the cause of a refusal
abbrev pub cause_name : Cause → List ℕ
cause_name (cause.Future have) = codes "future"
cause_name (cause.TooOld have) = codes "too-old"
cause_name cause.Mismatch = codes "mismatch"
cause_name (cause.TooLong len) = codes "too-long"
cause_name cause.StoreFault = codes "store-fault"
cause_name cause.Memory = codes "memory"

abbrev pub with_measure : Cause → Members → Members
with_measure (cause.Future have) ms = with_number (codes "have") have ms
with_measure (cause.TooOld have) ms = with_number (codes "have") have ms
with_measure (cause.TooLong len) ms = with_number (codes "len") len ms
with_measure _ ms = ms

abbrev pub with_cause : Cause → Members → Members
with_cause cause ms = with_measure cause (with_text (codes "cause") (cause_name cause) ms)

-- an outcome
abbrev pub outcome_name : Outcome → List ℕ
outcome_name (Applied v op) = codes "applied"
outcome_name (Dup v) = codes "dup"
outcome_name (Refused cause) = codes "refused"

abbrev pub with_result : Outcome → Members → Members
with_result (Applied v op) ms = with_number (codes "v") v (with_member (codes "op") (operation_data op) ms)
with_result (Dup v) ms = with_number (codes "v") v ms
with_result (Refused cause) ms = with_cause cause ms

abbrev pub with_outcome : Outcome → Members → Members
with_outcome outcome ms = with_result outcome (with_text (codes "out") (outcome_name outcome) ms)

-- why a line did nothing
abbrev pub why_name : Why → List ℕ
why_name why.NoDoc = codes "no-doc"
why_name why.NoProject = codes "no-project"
why_name why.NotJoined = codes "not-joined"
why_name why.NotLeft = codes "not-left"
why_name (why.TooOld have) = codes "too-old"
why_name (why.PastEnd len) = codes "past-end"
why_name (why.Full comps units) = codes "full"
why_name why.InFlight = codes "in-flight"
why_name why.Nothing = codes "nothing"
why_name why.Empty = codes "empty"
why_name (why.Busy busy) = codes "busy"
why_name why.Uncached = codes "uncached"
why_name why.Holding = codes "holding"
why_name (why.Stale stale) = codes "stale"
why_name (why.Unflushed kept have) = codes "unflushed"
why_name (why.Waiting count) = codes "waiting"
why_name why.StoreFault = codes "store-fault"

-- the last token of a stale one's document; none where it has ended
abbrev pub token_of : Stale → Option ℕ
token_of (stale.Other token) = Some token
token_of stale.Ended = None

abbrev pub with_details : Why → Members → Members
with_details (why.TooOld have) ms = with_number (codes "have") have ms
with_details (why.PastEnd len) ms = with_number (codes "len") len ms
with_details (why.Full comps units) ms = with_number (codes "units") units (with_number (codes "comps") comps ms)
with_details (why.Busy busy) ms = with_number (codes "until") busy.until (with_number (codes "token") busy.token ms)
with_details (why.Stale stale) ms = with_optional (codes "token") (token_of stale) ms
with_details (why.Unflushed kept have) ms = with_optional (codes "kept") kept (with_number (codes "have") have ms)
with_details (why.Waiting count) ms = with_number (codes "count") count ms
with_details _ ms = ms

abbrev pub with_why : Why → Members → Members
with_why why ms = with_details why (with_text (codes "why") (why_name why) ms)

-- a message in short
abbrev pub with_brief : Brief → Members → Members
with_brief (brief.Op v) ms = with_number (codes "v") v (with_text (codes "msg") (codes "op") ms)
with_brief (brief.Ack v) ms = with_number (codes "v") v (with_text (codes "msg") (codes "ack") ms)
with_brief (brief.Error number) ms = with_number (codes "number") number (with_text (codes "msg") (codes "error") ms)

-- an update that was sent
abbrev pub with_update : Update → Members → Members
with_update u ms =
    with_number (codes "v") u.v (with_text (codes "user") u.user (with_flag (codes "track") u.track (with_number (codes "source") u.source
    (with_member (codes "op") (operation_data u.op) (with_number (codes "number") u.number (with_number (codes "ms") u.ms
    (with_numbers (codes "dup") u.dup (with_number (codes "doc") u.doc (with_optional (codes "client") u.client ms)))))))))

-- a document's number and a lock's token
abbrev pub with_lock : ℕ → ℕ → Members → Members
with_lock doc token ms = with_number (codes "token") token (with_number (codes "doc") doc ms)

abbrev pub with_lock_if_any : ℕ → Option ℕ → Members → Members
with_lock_if_any doc token ms = with_optional (codes "token") token (with_number (codes "doc") doc ms)

-- the keeper's counts of faults as a call began and as it ended
abbrev pub with_counts : ℕ → ℕ → Members → Members
with_counts before after ms = with_number (codes "before") before (with_number (codes "after") after ms)

-- an item of a history
abbrev pub item_members : Item → Members
item_members x =
    with_number (codes "v") x.v (with_text (codes "user") x.user (with_member (codes "op") (operation_data x.op)
    (with_number (codes "ms") x.ms (with_number (codes "len") x.length_before (with_number (codes "doc") x.doc no_members)))))

abbrev pub items_data : List Item → Data
items_data items = array (items_of (map (λ x. object (item_members x)) items))

-- an act; `items` are what a `handed` handed out
abbrev pub act_name : Act → List ℕ
act_name (Made doc name project first base) = codes "made"
act_name (Ticked ms) = codes "ticked"
act_name (Joined client doc user track since source v) = codes "joined"
act_name (Edited client comp) = codes "edited"
act_name (Sent update) = codes "sent"
act_name (Malformed doc fault) = codes "malformed"
act_name (Got client brief) = codes "got"
act_name (Left client) = codes "left"
act_name (Acquired doc token until) = codes "acquired"
act_name (Loaded doc token v) = codes "loaded"
act_name (LoadFailed doc token before after) = codes "load-failed"
act_name (LoadDiffers doc token had got) = codes "load-differs"
act_name (Committed doc token ticket outcome) = codes "committed"
act_name (Released doc token) = codes "released"
act_name (Flushed doc token v) = codes "flushed"
act_name (FlushFailed doc token before after) = codes "flush-failed"
act_name (Unloaded doc token) = codes "unloaded"
act_name (Handed project count) = codes "handed"
act_name (Declined session why) = codes "declined"
act_name (Closed driver) = codes "closed"

abbrev pub with_fields : List Item → Act → Members → Members
with_fields items (Made doc name project first base) ms =
    with_units (codes "text") first (with_text (codes "project") project (with_text (codes "name") name (with_number (codes "doc") doc (with_number (codes "base") base ms))))
with_fields items (Ticked n) ms = with_number (codes "ms") n ms
with_fields items (Joined client doc user track since source v) ms =
    with_number (codes "v") v (with_text (codes "user") user (with_flag (codes "track") track (with_number (codes "source") source
    (with_optional (codes "from") since (with_number (codes "doc") doc (with_number (codes "client") client ms))))))
with_fields items (Edited client comp) ms = with_member (codes "op") (operation_data (appended [] comp)) (with_number (codes "client") client ms)
with_fields items (Sent update) ms = with_update update ms
with_fields items (Malformed doc fault) ms = with_fault fault (with_number (codes "doc") doc ms)
with_fields items (Got client brief) ms = with_brief brief (with_number (codes "client") client ms)
with_fields items (Left client) ms = with_number (codes "client") client ms
with_fields items (Acquired doc token until) ms = with_number (codes "until") until (with_lock doc token ms)
with_fields items (Loaded doc token v) ms = with_number (codes "v") v (with_lock_if_any doc token ms)
with_fields items (LoadFailed doc token before after) ms = with_counts before after (with_lock_if_any doc token ms)
with_fields items (LoadDiffers doc token had got) ms = with_number (codes "had") had (with_optional (codes "got") got (with_lock_if_any doc token ms))
with_fields items (Committed doc token ticket outcome) ms = with_outcome outcome (with_number (codes "ticket") ticket (with_lock doc token ms))
with_fields items (Released doc token) ms = with_lock doc token ms
with_fields items (Flushed doc token v) ms = with_number (codes "v") v (with_lock doc token ms)
with_fields items (FlushFailed doc token before after) ms = with_counts before after (with_lock doc token ms)
with_fields items (Unloaded doc token) ms = with_lock doc token ms
with_fields items (Handed project count) ms = with_text (codes "project") project (with_member (codes "items") (items_data items) ms)
with_fields items (Declined session why) ms = with_why why (with_number (codes "session") session ms)
with_fields items (Closed driver) ms = with_number (codes "driver") driver ms

-- the members of an entry's line, on its board and under its number
abbrev pub entry_members : ℕ → ℕ → List Item → Entry → Members
entry_members board n items e =
    with_fields items e.act (with_text (codes "e") (act_name e.act) (with_number (codes "seat") e.seat (with_number (codes "n") n
    (with_optional (codes "line") e.line (with_number (codes "b") board no_members)))))
