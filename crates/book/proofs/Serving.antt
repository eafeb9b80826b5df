-- What a call for a client leaves: its entry is allowed, and the client that was handed in is the journal's again.
use Rattle.std.proofs.Common.{◌≡◌, ◌⊎◌, inl, inr, ℕ, ◌+◌, ◌≤◌, List, [], ◌∷◌, ◌++◌, length, Bool, true, false, not, refl, sym, ap, ◌∙◌, subst, eqb, eq-eqb}
use Rattle.std.specs.Prelude.{Option, Some, None, is_some, unwrap_or, if◌then◌else◌}
use Rattle.ot_op.specs.declared.comp.Comp.{Comp}
use Rattle.ot_op.specs.Apply.{applied}
use Rattle.ot_op.specs.Compose.{appended}
use Rattle.ot_op.specs.Operation.{total_units}
use Rattle.ot_op.specs.declared.limits.TheConstants.{MAX_COMPONENTS, MAX_OPERATION_UNITS}
use Rattle.journal_entries.specs.declared.message.Msg.{Msg}
use Rattle.journal_entries.specs.declared.update.Update.{Update}
use Rattle.journal_entries.specs.declared.act.Act.TheVariants.{Joined as JoinedAct, Edited, Sent, Got, Left as LeftAct}
use Rattle.journal_entries.specs.declared.act.Entry.{Entry}
use Rattle.journal_rules.specs.declared.state.ClientState.{ClientState}
use Rattle.journal_rules.specs.declared.state.ClientState.TheVariants.{Away, Joined, Left, Stale}
use Rattle.journal_rules.specs.Client as rules
use Rattle.journal_rules.specs.Client.{client, client_by, sending, update_from}
use Rattle.journal_rules.specs.Documents.{IsMade, text, text_at, version}
use Rattle.journal_rules.specs.Locks.{clock}
use Rattle.journal_rules.specs.Mail.{mail}
use Rattle.journal_rules.specs.Legal.{IsAllowed, IsLegal, brief_of}
use Rattle.journal_rules.proofs.Pushing.{client-push}
use Rattle.journal_laws.proofs.Updates.{text_at_version}
use Rattle.journal_laws.proofs.World.{joined_alive}
use Rattle.journal_laws.proofs.Laws.{shows}
use Rattle.turn_rules.specs.Clients.{is_present}
use Rattle.share_client.specs.Clients.{Numbered, again_fault, flight_fault, pending_fault, send_fault}
use Rattle.share_client.specs.declared.edit.Edit.{Edit}
use Rattle.share_client.specs.declared.send.SendFault.TheVariants as send
use Rattle.share_client.specs.declared.returning.Missed.{Missed}
use Rattle.share_client.specs.Returning.{with_all}
use Rattle.share_client.specs.Edits.{IsEdit, edit_comp, edit_fault}
use Rattle.turn_rules.specs.Clients.{is_joined}
use Rattle.share_client.proofs.Edits.{edit_applies, edit_solid, first_none, joined_if, unrefused}
use Rattle.book.specs.Roomed.{IsClientAfter, IsClientOf}

-- ---- the client behind its entry
client_after : (j k : List Entry) (e : Entry) (was now : Numbered) (s : rules.Client) → k ≡ j ++ e ∷ [] → client_by was.client j e.act was.now ≡ s → IsClientOf j was → now ≡ record was { now = s } → IsClientAfter k was now
client_after j k e was now s more by own is = record {
  client_is = ap (λ (x : Numbered). x.client) is;
  stands = ap (λ (x : Numbered). x.now) is ∙ sym by ∙ ap (client_by was.client j e.act) own
      ∙ sym (ap (client was.client) more ∙ client-push was.client j e) ∙ ap (λ (x : Numbered). client x.client k) (sym is);
}

if_own : (c : ℕ) (s t : rules.Client) → (if eqb c c then s else t) ≡ s
if_own c s t = ap (λ b. if b then s else t) (eq-eqb c c refl)

pub edited_client : (j k : List Entry) (e : Entry) (was now : Numbered) (comp : Comp) → k ≡ j ++ e ∷ [] → e.act ≡ Edited was.client comp → IsClientOf j was → now ≡ record was { now = rules.edited_by was.now comp } → IsClientAfter k was now
edited_client j k e was now comp more is own now_is = client_after j k e was now (rules.edited_by was.now comp) more (ap (λ a. client_by was.client j a was.now) is ∙ if_own was.client (rules.edited_by was.now comp) was.now) own now_is

pub got_client : (j k : List Entry) (e : Entry) (was now : Numbered) (m : Msg) (rest : List Msg) → k ≡ j ++ e ∷ [] → e.act ≡ Got was.client (brief_of m) → mail was.client j ≡ m ∷ rest → IsClientOf j was → now ≡ record was { now = rules.delivered was.now m } → IsClientAfter k was now
got_client j k e was now m rest more is first own now_is =
    client_after j k e was now (rules.delivered was.now m) more
    (ap (λ a. client_by was.client j a was.now) is ∙ if_own was.client (rules.got_by was.now (mail was.client j)) was.now ∙ ap (rules.got_by was.now) first) own now_is

pub sent_client : (j k : List Entry) (e : Entry) (was now : Numbered) (u : Update) → k ≡ j ++ e ∷ [] → e.act ≡ Sent u → u.client ≡ Some was.client → IsClientOf j was → now ≡ record was { now = rules.sent_by was.now was.now.flight } → IsClientAfter k was now
sent_client j k e was now u more is whose own now_is =
    client_after j k e was now (rules.sent_by was.now was.now.flight) more
    (ap (λ a. client_by was.client j a was.now) is ∙ ap (λ o. if rules.is_of was.client o then rules.sent_by was.now was.now.flight else was.now) whose
    ∙ if_own was.client (rules.sent_by was.now was.now.flight) was.now) own now_is

pub joined_client : (j k : List Entry) (e : Entry) (was now : Numbered) (doc : ℕ) (user : List ℕ) (track : Bool) (source v : ℕ) (here : List ℕ) → k ≡ j ++ e ∷ [] → e.act ≡ JoinedAct was.client doc user track None source v → v ≡ version doc j → text doc j ≡ Some here
    → IsClientOf j was → now ≡ record was { now = rules.joined_anew was.now doc user track source v here } → IsClientAfter k was now
joined_client j k e was now doc user track source v here more is at text_is own now_is =
    client_after j k e was now (rules.joined_anew was.now doc user track source v here) more
    (ap (λ a. client_by was.client j a was.now) is ∙ if_own was.client (rules.joined_by was.now j doc user track None source v) was.now
    ∙ ap (λ o. rules.joined_anew was.now doc user track source v (unwrap_or o [])) (ap (λ n. text_at doc n j) at ∙ text_at_version doc j ∙ text_is)) own now_is

pub left_client : (j k : List Entry) (e : Entry) (was now : Numbered) → k ≡ j ++ e ∷ [] → e.act ≡ LeftAct was.client → IsClientOf j was → now ≡ record was { now = rules.left_by was.now } → IsClientAfter k was now
left_client j k e was now more is own now_is = client_after j k e was now (rules.left_by was.now) more (ap (λ a. client_by was.client j a was.now) is ∙ if_own was.client (rules.left_by was.now) was.now) own now_is

pub returned_client : (j k : List Entry) (e : Entry) (was now : Numbered) (source v : ℕ) (missed : List Missed) → k ≡ j ++ e ∷ [] → e.act ≡ JoinedAct was.client was.now.doc was.now.user was.now.track (Some was.now.version) source v
    → rules.caught_up was.now (rules.items_between was.now.doc was.now.version v j) ≡ with_all was.now missed → IsClientOf j was → now ≡ record was { now = rules.back_under source (with_all was.now missed) } → IsClientAfter k was now
returned_client j k e was now source v missed more is caught own now_is =
    client_after j k e was now (rules.back_under source (with_all was.now missed)) more
    (ap (λ a. client_by was.client j a was.now) is ∙ if_own was.client (rules.joined_by was.now j was.now.doc was.now.user was.now.track (Some was.now.version) source v) was.now
    ∙ ap (rules.back_under source) caught) own now_is

-- it is the journal's client still, where nothing was written
pub same_client : (j k : List Entry) (was now : Numbered) → k ≡ j → IsClientOf j was → now ≡ was → IsClientAfter k was now
same_client j k was now same own is = record {
  client_is = ap (λ (x : Numbered). x.client) is;
  stands = ap (λ (x : Numbered). x.now) is ∙ own ∙ ap (client was.client) (sym same) ∙ ap (λ (x : Numbered). client x.client k) (sym is);
}

-- ---- edits
pub may_edit : (j : List Entry) (seat : ℕ) (was : Numbered) (edit : Edit) → IsClientOf j was → IsEdit edit → edit_fault was.now edit ≡ None → IsAllowed j seat (Edited was.client (edit_comp was.now.text edit))
may_edit j seat was edit own is none =
    let comp = edit_comp was.now.text edit in
    let f = unrefused was.now edit none in
    record {
      joined = ap (λ (s : rules.Client). s.state) (sym own) ∙ f.joined;
      solid = edit_solid was.now.text edit is f.within;
      applies = ap (λ (s : rules.Client). is_some (applied s.text comp)) (sym own) ∙ edit_applies was.now.text edit f.within;
      few = subst (λ (s : rules.Client). length (appended s.pending comp) ≤ MAX_COMPONENTS) own f.few;
      short = subst (λ (s : rules.Client). total_units (appended s.pending comp) ≤ MAX_OPERATION_UNITS) own f.short;
    }

-- ---- sendings
record Sendable (s : rules.Client) : Type 0 where
  joined : s.state ≡ Joined
  free : s.flight ≡ None
  some : pending_fault s.pending ≡ None

sendable : (s : rules.Client) → send_fault s ≡ None → Sendable s
sendable s none =
    let a = first_none (not (is_joined s.state)) send.NotJoined (if rules.has_flight s.flight then Some send.InFlight else pending_fault s.pending) none in
    let b = first_none (rules.has_flight s.flight) send.InFlight (pending_fault s.pending) a.1 in
    record { joined = joined_if s.state a.0; free = no_flight s.flight b.0; some = b.1 }
  where
    no_flight : (f : Option (List Comp)) → rules.has_flight f ≡ false → f ≡ None
    no_flight None e = refl
    no_flight (Some op) e = absurd (cc)

pub free_flight : (s : rules.Client) → send_fault s ≡ None → s.flight ≡ None
free_flight s none = (sendable s none).free

pub sends_joined : (s : rules.Client) → send_fault s ≡ None → s.state ≡ Joined
sends_joined s none = (sendable s none).joined

pub sending_now : (c : ℕ) (s : rules.Client) (now : ℕ) → send_fault s ≡ None → sending c s now ≡ Some (update_from c s now (s.number + 1) s.pending [])
sending_now c s now none =
    let f = sendable s none in
    ap (rules.sends_by c s now) f.joined ∙ ap (λ o. rules.sends_flight c s now o s.pending) f.free ∙ by s.pending f.some
  where
    by : (p : List Comp) → pending_fault p ≡ None → rules.sends_flight c s now None p ≡ Some (update_from c s now (s.number + 1) p [])
    by [] e = absurd (cc)
    by (p ∷ ps) e = refl

pub may_send : (j : List Entry) (seat : ℕ) (was : Numbered) → IsClientOf j was → send_fault was.now ≡ None → IsAllowed j seat (Sent (update_from was.client was.now (clock j) (was.now.number + 1) was.now.pending []))
may_send j seat was own none = ap (λ (s : rules.Client). sending was.client s (clock j)) (sym own) ∙ sending_now was.client was.now (clock j) none

-- and sendings again
record Resendable (s : rules.Client) : Type 0 where
  joined : s.state ≡ Joined
  some : flight_fault s.flight ≡ None

resendable : (s : rules.Client) → again_fault s ≡ None → Resendable s
resendable s none =
    let a = first_none (not (is_joined s.state)) send.NotJoined (flight_fault s.flight) none in
    record { joined = joined_if s.state a.0; some = a.1 }

pub resends_joined : (s : rules.Client) → again_fault s ≡ None → s.state ≡ Joined
resends_joined s none = (resendable s none).joined

pub resending_now : (c : ℕ) (s : rules.Client) (now : ℕ) → again_fault s ≡ None → sending c s now ≡ Some (update_from c s now s.number (unwrap_or s.flight []) s.sources)
resending_now c s now none =
    let f = resendable s none in
    ap (rules.sends_by c s now) f.joined ∙ by s.flight f.some
  where
    by : (f : Option (List Comp)) → flight_fault f ≡ None → rules.sends_flight c s now f s.pending ≡ Some (update_from c s now s.number (unwrap_or f []) s.sources)
    by None e = absurd (cc)
    by (Some []) e = absurd (cc)
    by (Some (x ∷ xs)) e = refl

pub may_resend : (j : List Entry) (seat : ℕ) (was : Numbered) → IsClientOf j was → again_fault was.now ≡ None → IsAllowed j seat (Sent (update_from was.client was.now (clock j) was.now.number (unwrap_or was.now.flight []) was.now.sources))
may_resend j seat was own none = ap (λ (s : rules.Client). sending was.client s (clock j)) (sym own) ∙ resending_now was.client was.now (clock j) none

-- the document of a client that is joined was made
pub own_doc : (j : List Entry) (was : Numbered) → IsLegal j → IsClientOf j was → was.now.state ≡ Joined → IsMade was.now.doc j
own_doc j was legal own joined =
    let alive = ap (λ (s : rules.Client). rules.is_alive s.state) (sym own) ∙ joined_alive was.now.state joined in
    subst (λ (s : rules.Client). IsMade s.doc j) (sym own) (shows was.client j legal alive).made

-- ---- messages
pub may_get : (j : List Entry) (seat c : ℕ) (m : Msg) (rest : List Msg) → mail c j ≡ m ∷ rest → IsAllowed j seat (Got c (brief_of m))
may_get j seat c m rest first = record { message = m; rest = rest; first = first; brief_is = refl }

-- ---- leaving
pub may_leave : (j : List Entry) (seat : ℕ) (was : Numbered) → IsClientOf j was → is_present was.now.state ≡ true → IsAllowed j seat (LeftAct was.client)
may_leave j seat was own present = subst (λ (s : rules.Client). (s.state ≡ Joined) ⊎ (s.state ≡ Stale)) own (by was.now.state present)
  where
    by : (st : ClientState) → is_present st ≡ true → (st ≡ Joined) ⊎ (st ≡ Stale)
    by Joined e = inl refl
    by Stale e = inr refl
    by Away e = absurd (cc)
    by Left e = absurd (cc)
