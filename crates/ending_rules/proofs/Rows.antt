-- Worked rows: three rounds are needed, and a client that is stuck.
use Rattle.std.proofs.Common.{◌≡◌, ℕ, List, [], ◌∷◌, ◌++◌, true, false, refl}
use Rattle.std.specs.Prelude.{Some, None}
use Rattle.ot_op.specs.declared.comp.Comp.{Comp}
use Rattle.ot_op.specs.declared.comp.Comp.TheVariants.{Ins, Del}
use Rattle.ot_transform.specs.Crossing.{crossed}
use Rattle.journal_entries.specs.declared.update.Update.{Update}
use Rattle.journal_entries.specs.declared.update.Outcome.TheVariants.{Applied, Refused}
use Rattle.journal_entries.specs.declared.update.Cause.TheVariants.{Memory}
use Rattle.journal_entries.specs.declared.message.Brief.TheVariants.{Op as OpBrief, Ack as AckBrief}
use Rattle.journal_entries.specs.declared.act.Act.TheVariants.{Made, Ticked, Joined, Edited, Sent, Got, Left, Acquired, Committed, Released, Closed}
use Rattle.journal_entries.specs.declared.act.Entry.{Entry}
use Rattle.journal_rules.specs.declared.state.ClientState.TheVariants.{Joined as IsJoined}
use Rattle.journal_rules.specs.Documents.{makings, applied_list, sent, committed, waiting}
use Rattle.journal_rules.specs.Locks.{clock}
use Rattle.journal_rules.specs.Mail.{outbox}
use Rattle.journal_rules.specs.Client.{client, sending}
use Rattle.journal_laws.proofs.Rows.{by}
use Rattle.ending_rules.specs.Rounds.{needs_round}

abbrev of_c : ℕ → ℕ → ℕ → List ℕ → ℕ → List Comp → Update
of_c number source v dup ms op = record { doc = 0; client = Some 0; number = number; source = source; dup = dup; user = 117 ∷ []; track = false; ms = ms; v = v; op = op }

abbrev ins_x : List Comp
ins_x = Ins 1 (88 ∷ []) ∷ []

abbrev ins_y : List Comp
ins_y = Ins 0 (89 ∷ []) ∷ []

-- an update is refused for memory under a source that its client has no more, while more is pending
abbrev begun : List Entry
begun =
    by (Made 0 (97 ∷ []) (112 ∷ []) (97 ∷ 98 ∷ []) 0) ∷ by (Joined 0 0 (117 ∷ []) false None 1000001 0) ∷ by (Edited 0 (Ins 1 (88 ∷ []))) ∷ by (Sent (of_c 1 1000001 0 [] 0 ins_x))
    ∷ by (Left 0) ∷ by (Joined 0 0 (117 ∷ []) false (Some 0) 1000005 0) ∷ by (Edited 0 (Ins 0 (89 ∷ []))) ∷ by (Closed 0) ∷ by (Ticked 30000) ∷ []

abbrev drained_1 : List Entry
drained_1 = by (Acquired 0 1 60000) ∷ by (Committed 0 1 3 (Refused Memory)) ∷ by (Released 0 1) ∷ []

abbrev turned_1 : List Entry
turned_1 = by (Sent (of_c 1 1000005 0 (1000001 ∷ []) 30000 ins_x)) ∷ []

abbrev drained_2 : List Entry
drained_2 = by (Acquired 0 2 60000) ∷ by (Committed 0 2 12 (Applied 0 ins_x)) ∷ by (Released 0 2) ∷ []

abbrev turned_2 : List Entry
turned_2 = by (Got 0 (AckBrief 0)) ∷ by (Sent (of_c 2 1000005 1 [] 30000 ins_y)) ∷ []

abbrev drained_3 : List Entry
drained_3 = by (Acquired 0 3 60000) ∷ by (Committed 0 3 17 (Applied 1 ins_y)) ∷ by (Released 0 3) ∷ []

abbrev turned_3 : List Entry
turned_3 = by (Got 0 (AckBrief 1)) ∷ []

abbrev round_1 : List Entry
round_1 = drained_1 ++ turned_1

abbrev round_2 : List Entry
round_2 = drained_2 ++ turned_2

abbrev round_3 : List Entry
round_3 = drained_3 ++ turned_3

needs_first : needs_round 1 begun ≡ true
unfolding client makings applied_list outbox sent committed crossed
needs_first = refl

needs_second : needs_round 1 (begun ++ round_1) ≡ true
unfolding client makings applied_list outbox sent committed crossed
needs_second = refl

-- two rounds are not enough
needs_third : needs_round 1 (begun ++ round_1 ++ round_2) ≡ true
unfolding client makings applied_list outbox sent committed crossed
needs_third = refl

needs_no_fourth : needs_round 1 (begun ++ round_1 ++ round_2 ++ round_3) ≡ false
unfolding client makings applied_list outbox sent committed crossed
needs_no_fourth = refl

settled_1 : waiting 0 (begun ++ drained_1) ≡ []
unfolding sent committed
settled_1 = refl

settled_2 : waiting 0 ((begun ++ round_1) ++ drained_2) ≡ []
unfolding sent committed
settled_2 = refl

settled_3 : waiting 0 ((begun ++ round_1 ++ round_2) ++ drained_3) ≡ []
unfolding sent committed
settled_3 = refl

resends : sending 0 (client 0 (begun ++ drained_1)) (clock (begun ++ drained_1)) ≡ Some (of_c 1 1000005 0 (1000001 ∷ []) 30000 ins_x)
unfolding client makings applied_list outbox clock crossed
resends = refl

sends_pending : sending 0 (client 0 (begun ++ round_1 ++ drained_2 ++ by (Got 0 (AckBrief 0)) ∷ [])) (clock (begun ++ round_1 ++ drained_2 ++ by (Got 0 (AckBrief 0)) ∷ [])) ≡ Some (of_c 2 1000005 1 [] 30000 ins_y)
unfolding client makings applied_list outbox clock crossed
sends_pending = refl

ends_with : client 0 (begun ++ round_1 ++ round_2 ++ round_3) ≡ record { state = IsJoined; doc = 0; user = 117 ∷ []; track = false; source = 1000005; version = 2; text = 89 ∷ 97 ∷ 88 ∷ 98 ∷ []; flight = None; pending = []; number = 2; sources = [] }
unfolding client makings applied_list outbox crossed
ends_with = refl

-- a delete that another one took the place of: what is in flight becomes empty, and its copy was refused
abbrev del_b : List Comp
del_b = Del 1 (98 ∷ []) ∷ []

abbrev other_del : Update
other_del = record { doc = 0; client = None; number = 0; source = 1; dup = []; user = 117 ∷ []; track = false; ms = 0; v = 0; op = del_b }

abbrev stuck_row : List Entry
stuck_row =
    by (Made 0 (97 ∷ []) (112 ∷ []) (97 ∷ 98 ∷ []) 0) ∷ by (Joined 0 0 (117 ∷ []) false None 1000001 0) ∷ by (Edited 0 (Del 1 (98 ∷ []))) ∷ by (Sent (of_c 1 1000001 0 [] 0 del_b))
    ∷ by (Left 0) ∷ by (Joined 0 0 (117 ∷ []) false (Some 0) 1000005 0) ∷ by (Edited 0 (Ins 0 (89 ∷ []))) ∷ by (Sent other_del) ∷ by (Closed 0) ∷ by (Ticked 30000)
    ∷ by (Acquired 0 1 60000) ∷ by (Committed 0 1 3 (Refused Memory)) ∷ by (Released 0 1)
    ∷ by (Acquired 0 2 60000) ∷ by (Committed 0 2 7 (Applied 0 del_b)) ∷ by (Released 0 2) ∷ by (Got 0 (OpBrief 0)) ∷ []

stuck_client : client 0 stuck_row ≡ record { state = IsJoined; doc = 0; user = 117 ∷ []; track = false; source = 1000005; version = 1; text = 89 ∷ 97 ∷ []; flight = Some []; pending = ins_y; number = 1; sources = 1000001 ∷ [] }
unfolding client makings applied_list outbox crossed
stuck_client = refl

-- it sends nothing, and a round is always needed
stuck_sends : sending 0 (client 0 stuck_row) 30000 ≡ None
unfolding client makings applied_list outbox crossed
stuck_sends = refl

stuck_needs : needs_round 1 stuck_row ≡ true
unfolding client makings applied_list outbox sent committed crossed
stuck_needs = refl
