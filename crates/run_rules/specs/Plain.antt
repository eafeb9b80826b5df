-- The lines that are done in one turn, and whose acts are known from the look.
use Rattle.std.specs.Prelude.{ℕ, ◌+◌, zero, suc, nat_lt, min, Bool, true, List, [], ◌∷◌, length, Option, Some, None, Result, Ok, Err, if◌then◌else◌}
use Rattle.ot_op.specs.declared.comp.Comp.{Comp}
use Rattle.ot_op.specs.declared.comp.Comp.TheVariants as comp
use Rattle.ot_op.specs.declared.fault.FormFault.{FormFault}
use Rattle.journal_entries.specs.declared.act.Act.{Act}
use Rattle.journal_entries.specs.declared.act.Act.TheVariants.{Made, Ticked, Sent, Malformed, Released, Unloaded, Handed, Declined}
use Rattle.journal_entries.specs.declared.act.Entry.{Entry}
use Rattle.journal_entries.specs.declared.why.Why.{Why}
use Rattle.journal_entries.specs.declared.why.Why.TheVariants.{NoDoc, NoProject, Unflushed, Waiting}
use Rattle.journal_rules.specs.Documents.{makings, number_of, version, waiting}
use Rattle.journal_rules.specs.History.{history}
use Rattle.journal_rules.specs.Keeping.{kept}
use Rattle.journal_rules.specs.Legal.{is_project}
use Rattle.journal_rules.specs.Locks.{clock, next_token}
use Rattle.session_lines.specs.declared.line.Line.{Line}
use Rattle.session_lines.specs.declared.line.Line.TheVariants.{Doc, Tick, Raw, Rejoin, Leave, Send, Resend, Recv, Ins, Del, Com, Unload, Hand}
use Rattle.turn_rules.specs.Clients.{edit_act, part_of, send_act, resend_act, recv_act, leave_act, rejoin_act}
use Rattle.turn_rules.specs.Locking.{acquired, unavailable}

-- a raw line sends an update where its document was made and its operation is in form
abbrev pub raw_act : Option ℕ → ℕ → ℕ → List ℕ → ℕ → List ℕ → Bool → ℕ → Result (List Comp) FormFault → Act
raw_act None now session user source dup track v op = Declined session NoDoc
raw_act (Some doc) now session user source dup track v (Ok op) =
    Sent (record { doc = doc; client = None; number = 0; source = source; dup = dup; user = user; track = track; ms = now; v = v; op = op })
raw_act (Some doc) now session user source dup track v (Err fault) = Malformed doc fault

-- a document needs a flush: it was never flushed, or at a lower version than its own
abbrev pub is_behind : Option ℕ → ℕ → Bool
is_behind None have = true
is_behind (Some v) have = nat_lt v have

abbrev pub needs_flush : ℕ → List Entry → Bool
needs_flush doc look = is_behind (kept doc look) (version doc look)

-- why a document that was acquired isn't unloaded: it needs a flush, or something waits
abbrev pub waiting_why : ℕ → Option Why
waiting_why zero = None
waiting_why (suc n) = Some (Waiting (suc n))

abbrev pub not_unloadable : ℕ → List Entry → Option Why
not_unloadable doc look =
    if needs_flush doc look then Some (Unflushed (kept doc look) (version doc look)) else waiting_why (length (waiting doc look))

abbrev pub unloads : ℕ → ℕ → ℕ → Option Why → List Act
unloads session doc token None = Unloaded doc token ∷ Released doc token ∷ []
unloads session doc token (Some why) = Released doc token ∷ Declined session why ∷ []

-- unloading: the lock is acquired, unless it can't be
abbrev pub unload_acts_by : ℕ → ℕ → List Entry → Option Why → List Act
unload_acts_by session doc look (Some why) = Declined session why ∷ []
unload_acts_by session doc look None = acquired doc look ∷ unloads session doc (next_token look) (not_unloadable doc look)

abbrev pub unload_acts : ℕ → Option ℕ → List Entry → List Act
unload_acts session None look = Declined session NoDoc ∷ []
unload_acts session (Some doc) look = unload_acts_by session doc look (unavailable doc look)

-- handing history out: so many items, or what is left where that is less
abbrev pub hand_act : ℕ → List ℕ → ℕ → List Entry → Act
hand_act session project n look = if is_project project look then Handed project (min n (length (history project look))) else Declined session NoProject

-- what each of these lines makes at a look. The other lines make nothing so
abbrev pub plain_acts : List Entry → Line → List Act
plain_acts look (Doc name project text v) = Made (length (makings look)) name project text v ∷ []
plain_acts look (Tick session ms) = Ticked ms ∷ []
plain_acts look (Raw session doc user source dup track v op) = raw_act (number_of doc look) (clock look) session user source dup track v op ∷ []
plain_acts look (Rejoin session) = rejoin_act session look ∷ []
plain_acts look (Leave session) = leave_act session look ∷ []
plain_acts look (Ins session p text) = edit_act session look p (comp.Ins p text) ∷ []
plain_acts look (Del session p n) = edit_act session look (p + n) (comp.Del p (part_of session look p n)) ∷ []
plain_acts look (Com session p n t) = edit_act session look (p + n) (comp.Com p (part_of session look p n) t) ∷ []
plain_acts look (Send session) = send_act session look ∷ []
plain_acts look (Resend session) = resend_act session look ∷ []
plain_acts look (Recv session) = recv_act session look ∷ []
plain_acts look (Unload session doc) = unload_acts session (number_of doc look) look
plain_acts look (Hand session project n) = hand_act session project n look ∷ []
plain_acts look _ = []
