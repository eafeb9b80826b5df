-- Worked rows: the definitions compute.
use Rattle.std.proofs.Common.{◌≡◌, ℕ, List, [], ◌∷◌, false, refl, take}
use Rattle.std.specs.Prelude.{Some, None}
use Rattle.ot_op.specs.declared.comp.Comp.{Comp}
use Rattle.ot_op.specs.declared.comp.Comp.TheVariants.{Ins, Del}
use Rattle.ot_transform.specs.Crossing.{crossed}
use Rattle.journal_entries.specs.declared.update.Update.{Update}
use Rattle.journal_entries.specs.declared.update.Outcome.TheVariants.{Applied, Dup}
use Rattle.journal_entries.specs.declared.message.Brief.TheVariants.{Op as OpBrief, Ack as AckBrief}
use Rattle.journal_entries.specs.declared.message.Msg.TheVariants.{Op, Ack}
use Rattle.journal_entries.specs.declared.why.Why.TheVariants.{Nothing}
use Rattle.journal_entries.specs.declared.act.Act.{Act}
use Rattle.journal_entries.specs.declared.act.Act.TheVariants.{Made, Ticked, Joined, Edited, Sent, Got, Left, Acquired, Committed, Released, Flushed, Declined, Closed}
use Rattle.journal_entries.specs.declared.act.Entry.{Entry}
use Rattle.journal_rules.specs.declared.state.ClientState.TheVariants.{Joined as IsJoined}
use Rattle.journal_rules.specs.Documents.{makings, applied_list, sent, committed, text, waiting}
use Rattle.journal_rules.specs.Deciding.{decided}
use Rattle.journal_rules.specs.Mail.{outbox, mail}
use Rattle.journal_rules.specs.Client.{client, sending}
use Rattle.journal_rules.specs.Keeping.{kept}

abbrev pub by : Act → Entry
by a = record { seat = 0; line = None; act = a }

abbrev pub of_c : ℕ → ℕ → ℕ → List ℕ → List Comp → Update
of_c number source v dup op = record { doc = 0; client = Some 0; number = number; source = source; dup = dup; user = 117 ∷ []; track = false; ms = 0; v = v; op = op }

abbrev pub raw : ℕ → ℕ → List Comp → Update
raw source v op = record { doc = 0; client = None; number = 0; source = source; dup = []; user = 117 ∷ []; track = false; ms = 0; v = v; op = op }

abbrev pub del_b : List Comp
del_b = Del 1 (98 ∷ []) ∷ []

abbrev pub ins_x : List Comp
ins_x = Ins 1 (88 ∷ []) ∷ []

-- a room: another's delete, and the client's own insert
abbrev pub room_row : List Entry
room_row =
    by (Made 0 (97 ∷ []) (112 ∷ []) (97 ∷ 98 ∷ 99 ∷ []) 0) ∷ by (Joined 0 0 (117 ∷ []) false None 1000001 0) ∷ by (Sent (raw 1 0 del_b)) ∷ by (Edited 0 (Ins 1 (88 ∷ [])))
    ∷ by (Sent (of_c 1 1000001 0 [] ins_x)) ∷ by (Acquired 0 1 30000) ∷ by (Committed 0 1 2 (Applied 0 del_b)) ∷ by (Released 0 1)
    ∷ by (Acquired 0 2 30000) ∷ by (Committed 0 2 4 (Applied 1 ins_x)) ∷ by (Released 0 2) ∷ by (Got 0 (OpBrief 0))
    ∷ by (Got 0 (AckBrief 1)) ∷ by (Closed 0) ∷ by (Ticked 30000) ∷ by (Acquired 0 3 60000)
    ∷ by (Flushed 0 3 2) ∷ by (Released 0 3) ∷ []

room_sends : sending 0 (client 0 (take 4 room_row)) 0 ≡ Some (of_c 1 1000001 0 [] ins_x)
unfolding client makings applied_list outbox
room_sends = refl

room_waits : waiting 0 (take 9 room_row) ≡ 4 ∷ []
unfolding sent committed
room_waits = refl

room_decides : decided (take 9 room_row) 0 (of_c 1 1000001 0 [] ins_x) ≡ Applied 1 ins_x
unfolding makings applied_list crossed
room_decides = refl

room_mail : mail 0 (take 11 room_row) ≡ Op 0 del_b 1 ∷ Ack 1 1 ∷ []
unfolding outbox
room_mail = refl

room_text : text 0 room_row ≡ Some (97 ∷ 88 ∷ 99 ∷ [])
unfolding makings applied_list
room_text = refl

room_client : client 0 room_row ≡ record { state = IsJoined; doc = 0; user = 117 ∷ []; track = false; source = 1000001; version = 2; text = 97 ∷ 88 ∷ 99 ∷ []; flight = None; pending = []; number = 1; sources = [] }
unfolding client makings applied_list outbox crossed
room_client = refl

room_kept : kept 0 room_row ≡ Some 2
unfolding kept
room_kept = refl

-- a resend is found as a duplicate, and acknowledged again
abbrev pub resend_row : List Entry
resend_row =
    by (Made 0 (97 ∷ []) (112 ∷ []) (97 ∷ 98 ∷ []) 0) ∷ by (Joined 0 0 (117 ∷ []) false None 1000001 0) ∷ by (Edited 0 (Ins 1 (88 ∷ []))) ∷ by (Sent (of_c 1 1000001 0 [] ins_x))
    ∷ by (Sent (of_c 1 1000001 0 (1000001 ∷ []) ins_x)) ∷ by (Acquired 0 1 30000) ∷ by (Committed 0 1 3 (Applied 0 ins_x)) ∷ by (Released 0 1)
    ∷ by (Acquired 0 2 30000) ∷ by (Committed 0 2 4 (Dup 0)) ∷ by (Released 0 2) ∷ by (Got 0 (AckBrief 0))
    ∷ by (Got 0 (AckBrief 0)) ∷ by (Closed 0) ∷ by (Ticked 30000) ∷ by (Acquired 0 3 60000)
    ∷ by (Flushed 0 3 1) ∷ by (Released 0 3) ∷ []

resend_decides : decided (take 9 resend_row) 0 (of_c 1 1000001 0 (1000001 ∷ []) ins_x) ≡ Dup 0
unfolding makings applied_list
resend_decides = refl

resend_mail : mail 0 (take 11 resend_row) ≡ Ack 0 1 ∷ Ack 0 1 ∷ []
unfolding outbox
resend_mail = refl

resend_text : text 0 resend_row ≡ Some (97 ∷ 88 ∷ 98 ∷ [])
unfolding makings applied_list
resend_text = refl

resend_client : client 0 resend_row ≡ record { state = IsJoined; doc = 0; user = 117 ∷ []; track = false; source = 1000001; version = 1; text = 97 ∷ 88 ∷ 98 ∷ []; flight = None; pending = []; number = 1; sources = [] }
unfolding client makings applied_list outbox crossed
resend_client = refl

-- a client leaves and comes back behind the commit: its flight lands as an operation of the old source, and there is nothing to send again
abbrev pub leave_row : List Entry
leave_row =
    by (Made 0 (97 ∷ []) (112 ∷ []) (97 ∷ 98 ∷ []) 0) ∷ by (Joined 0 0 (117 ∷ []) false None 1000001 0) ∷ by (Edited 0 (Ins 1 (88 ∷ []))) ∷ by (Sent (of_c 1 1000001 0 [] ins_x))
    ∷ by (Left 0) ∷ by (Acquired 0 1 30000) ∷ by (Committed 0 1 3 (Applied 0 ins_x)) ∷ by (Released 0 1)
    ∷ by (Joined 0 0 (117 ∷ []) false (Some 0) 1000008 1) ∷ by (Declined 0 Nothing) ∷ by (Closed 0) ∷ by (Ticked 30000)
    ∷ by (Acquired 0 2 60000) ∷ by (Flushed 0 2 1) ∷ by (Released 0 2) ∷ []

leave_client : client 0 leave_row ≡ record { state = IsJoined; doc = 0; user = 117 ∷ []; track = false; source = 1000008; version = 1; text = 97 ∷ 88 ∷ 98 ∷ []; flight = None; pending = []; number = 1; sources = [] }
unfolding client makings applied_list outbox crossed
leave_client = refl

leave_sends : sending 0 (client 0 leave_row) 0 ≡ None
unfolding client makings applied_list outbox crossed
leave_sends = refl
