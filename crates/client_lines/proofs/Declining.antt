-- What a line of a client makes is what the rules say of it.
use Rattle.std.proofs.Common.{◌≡◌, ◌≢◌, ◌⊎◌, inl, inr, ℕ, ◌+◌, ◌<◌, List, [], ◌∷◌, length, Bool, true, false, not, ◌||◌, refl, sym, ap, ap₂, ◌∙◌, subst}
use Rattle.std.specs.Prelude.{slice_get, Result, Ok, Err, OnOk, Option, Some, None, nat_lt, unwrap_or, if◌then◌else◌}
use Rattle.std.proofs.lemmas.Bool.{le-ltb, lt-ltb, ltb-true, or_cases}
use Rattle.ot_op.specs.declared.comp.Comp.{Comp}
use Rattle.ot_op.specs.Compose.{appended}
use Rattle.ot_op.specs.declared.limits.TheConstants.{MAX_COMPONENTS, MAX_OPERATION_UNITS}
use Rattle.ot_op.specs.Operation.{total_units}
use Rattle.journal_entries.specs.declared.message.Msg.{Msg}
use Rattle.journal_entries.specs.declared.update.Update.{Update}
use Rattle.journal_entries.specs.declared.why.Why.{Why}
use Rattle.journal_entries.specs.declared.why.Why.TheVariants as why
use Rattle.journal_entries.specs.declared.act.Act.{Act}
use Rattle.journal_entries.specs.declared.act.Act.TheVariants.{Edited, Sent, Got, Left as LeftAct, Declined}
use Rattle.journal_entries.specs.declared.act.Entry.{Entry}
use Rattle.journal_rules.specs.declared.state.ClientState.{ClientState}
use Rattle.journal_rules.specs.declared.state.ClientState.TheVariants.{Away, Joined, Left, Stale}
use Rattle.journal_rules.specs.Client as rules
use Rattle.journal_rules.specs.Client.{client, sending, update_from}
use Rattle.journal_rules.specs.Legal.{brief_of}
use Rattle.journal_rules.specs.Locks.{clock}
use Rattle.journal_rules.specs.Documents.{version}
use Rattle.journal_rules.specs.Deciding.{greatest_age}
use Rattle.journal_rules.specs.Whys.{IsTooOld, IsWhy}
use Rattle.share_client.specs.Clients.{Numbered, again_fault, flight_fault, pending_fault, send_fault, told_send}
use Rattle.share_client.specs.Edits.{IsRefusal, edit_comp, edit_end, edit_fault, full_fault}
use Rattle.share_client.specs.declared.edit.Edit.{Edit}
use Rattle.share_client.specs.declared.edit.EditFault.{EditFault}
use Rattle.share_client.specs.declared.edit.EditFault.TheVariants as edit
use Rattle.share_client.specs.declared.send.SendFault.{SendFault}
use Rattle.share_client.specs.declared.send.SendFault.TheVariants as send
use Rattle.turn_rules.specs.Clients.{back_act, edit_act_of, got_act, is_joined, is_left, is_present, leave_act, rejoin_act, rejoin_act_of, resend_act, send_act, sent_or_nothing}
use Rattle.book.specs.Calls.{MayReturn}
use Rattle.book.specs.Roomed.{IsClientAfter, IsClientOf}
use Rattle.book.specs.Shown.{Shown, adds}
use Rattle.turn_rules.specs.Turns.{entry_by}
use Rattle.journal_rules.proofs.Pushing.{client-push}
use Rattle.journal_rules.proofs.Lists.{some_same}
use Rattle.book.proofs.Serving.{resending_now, sending_now}
use Rattle.share_client.proofs.Edits.{first_none, joined_if}
use Rattle.client_lines.specs.Refusals.{edit_why, send_why}

-- ---- edits
abbrev edit_act_by : ℕ → Act → Option EditFault → Act
edit_act_by session done None = done
edit_act_by session done (Some edit.NotJoined) = Declined session why.NotJoined
edit_act_by session done (Some (edit.PastEnd len)) = Declined session (why.PastEnd len)
edit_act_by session done (Some (edit.Full comps units)) = Declined session (why.Full comps units)
edit_act_by session done (Some edit.Memory) = done

by_test : {F : Type 0} (f : Option F → Act) (b : Bool) (x : F) (rest : Option F) → f (if b then Some x else rest) ≡ (if b then f (Some x) else f rest)
by_test f true x rest = refl
by_test f false x rest = refl

edit_act_is : (session : ℕ) (s : rules.Client) (e : Edit) → edit_act_of session s (edit_end e) (edit_comp s.text e) ≡ edit_act_by session (Edited session (edit_comp s.text e)) (edit_fault s e)
edit_act_is session s e =
    let comp = edit_comp s.text e in
    let p = appended s.pending comp in
    let f = edit_act_by session (Edited session comp) in
    let full = nat_lt MAX_COMPONENTS (length p) || nat_lt MAX_OPERATION_UNITS (total_units p) in
    sym (by_test f (not (is_joined s.state)) edit.NotJoined (if nat_lt (length s.text) (edit_end e) then Some (edit.PastEnd (length s.text)) else full_fault p)
    ∙ ap (λ (rest : Act). if not (is_joined s.state) then Declined session why.NotJoined else rest)
    (by_test f (nat_lt (length s.text) (edit_end e)) (edit.PastEnd (length s.text)) (full_fault p)
    ∙ ap (λ (rest : Act). if nat_lt (length s.text) (edit_end e) then Declined session (why.PastEnd (length s.text)) else rest) (by_test f full (edit.Full (length p) (total_units p)) None)))

pub edited_act : (session : ℕ) (s t : rules.Client) (e : Edit) → s ≡ t → edit_fault s e ≡ None → Edited session (edit_comp s.text e) ≡ edit_act_of session t (edit_end e) (edit_comp t.text e)
edited_act session s t e same none =
    sym (ap (λ (x : rules.Client). edit_act_of session x (edit_end e) (edit_comp x.text e)) (sym same) ∙ edit_act_is session s e ∙ ap (edit_act_by session (Edited session (edit_comp s.text e))) none)

pub declined_edit : (session : ℕ) (s t : rules.Client) (e : Edit) (f : EditFault) (y : Why) → s ≡ t → IsRefusal s e f → edit_why f ≡ Some y → Declined session y ≡ edit_act_of session t (edit_end e) (edit_comp t.text e)
declined_edit session s t e f y same refused is = by f refused is ∙ sym (edit_act_is session s e) ∙ ap (λ (x : rules.Client). edit_act_of session x (edit_end e) (edit_comp x.text e)) same
  where
    done : Act
    done = Edited session (edit_comp s.text e)

    by : (f : EditFault) → IsRefusal s e f → edit_why f ≡ Some y → Declined session y ≡ edit_act_by session (Edited session (edit_comp s.text e)) (edit_fault s e)
    by edit.NotJoined refused is = ap (Declined session) (some_same y why.NotJoined (sym is)) ∙ sym (ap (edit_act_by session (Edited session (edit_comp s.text e))) refused)
    by (edit.PastEnd len) refused is = ap (Declined session) (some_same y (why.PastEnd len) (sym is)) ∙ sym (ap (edit_act_by session (Edited session (edit_comp s.text e))) refused)
    by (edit.Full comps units) refused is = ap (Declined session) (some_same y (why.Full comps units) (sym is)) ∙ sym (ap (edit_act_by session (Edited session (edit_comp s.text e))) refused)
    by edit.Memory refused is = absurd (cc)

-- the cause holds
first_some : {F : Type 0} (b : Bool) (x f : F) (rest : Option F) → (if b then Some x else rest) ≡ Some f → ((b ≡ true) × (x ≡ f)) ⊎ ((b ≡ false) × (rest ≡ Some f))
first_some true x f rest is = inl (refl, some_same x f is)
first_some false x f rest is = inr (refl, is)

unjoined : (st : ClientState) → not (is_joined st) ≡ true → st ≢ Joined
unjoined st is at = let f : true ≡ false = sym is ∙ ap (λ x. not (is_joined x)) at in absurd (cc)

pub edit_refused : (j : List Entry) (seat c : ℕ) (s : rules.Client) (e : Edit) (f : EditFault) (y : Why) → s ≡ client c j → IsRefusal s e f → edit_why f ≡ Some y → IsWhy j seat c y
edit_refused j seat c s e f y same refused is = go f refused is
  where
    p : List Comp
    p = appended s.pending (edit_comp s.text e)

    state : (client c j).state ≡ s.state
    state = ap (λ (x : rules.Client). x.state) (sym same)

    why_is : (f : EditFault) → edit_fault s e ≡ Some f → edit_why f ≡ Some y → IsWhy j seat c y
    why_is f at is = first (first_some (not (is_joined s.state)) edit.NotJoined f _ at)
      where
        full : (f ≡ edit.Full (length p) (total_units p)) → (s.state ≡ Joined) → (MAX_COMPONENTS < length p) ⊎ (MAX_OPERATION_UNITS < total_units p) → IsWhy j seat c y
        full f_is at_joined big = subst (IsWhy j seat c) (some_same (why.Full (length p) (total_units p)) y (sym (ap edit_why f_is) ∙ is)) (record { joined = state ∙ at_joined; full = big })

        third : (s.state ≡ Joined) → ((nat_lt MAX_COMPONENTS (length p) || nat_lt MAX_OPERATION_UNITS (total_units p)) ≡ true) × (edit.Full (length p) (total_units p) ≡ f) ⊎ ((nat_lt MAX_COMPONENTS (length p) || nat_lt MAX_OPERATION_UNITS (total_units p)) ≡ false) × (None ≡ Some f) → IsWhy j seat c y
        third at_joined (inl t) = by (or_cases (nat_lt MAX_COMPONENTS (length p)) (nat_lt MAX_OPERATION_UNITS (total_units p)) t.0)
          where
            by : (nat_lt MAX_COMPONENTS (length p) ≡ true) ⊎ (nat_lt MAX_OPERATION_UNITS (total_units p) ≡ true) → IsWhy j seat c y
            by (inl a) = full (sym t.1) at_joined (inl (ltb-true MAX_COMPONENTS (length p) a))
            by (inr b) = full (sym t.1) at_joined (inr (ltb-true MAX_OPERATION_UNITS (total_units p) b))
        third at_joined (inr t) = let none = t.1 in absurd (cc)

        second : (s.state ≡ Joined) → ((nat_lt (length s.text) (edit_end e) ≡ true) × (edit.PastEnd (length s.text) ≡ f)) ⊎ ((nat_lt (length s.text) (edit_end e) ≡ false) × (full_fault p ≡ Some f)) → IsWhy j seat c y
        second at_joined (inl t) = subst (IsWhy j seat c) (some_same (why.PastEnd (length s.text)) y (ap edit_why t.1 ∙ is)) (record { joined = state ∙ at_joined; len_is = ap (λ (x : rules.Client). length x.text) same })
        second at_joined (inr t) = third at_joined (first_some (nat_lt MAX_COMPONENTS (length p) || nat_lt MAX_OPERATION_UNITS (total_units p)) (edit.Full (length p) (total_units p)) f None t.1)

        first : ((not (is_joined s.state) ≡ true) × (edit.NotJoined ≡ f)) ⊎ ((not (is_joined s.state) ≡ false) × ((if nat_lt (length s.text) (edit_end e) then Some (edit.PastEnd (length s.text)) else full_fault p) ≡ Some f)) → IsWhy j seat c y
        first (inl t) = subst (IsWhy j seat c) (some_same why.NotJoined y (ap edit_why t.1 ∙ is)) (λ at. unjoined s.state t.0 (sym state ∙ at))
        first (inr t) = second (joined_if s.state t.0) (first_some (nat_lt (length s.text) (edit_end e)) (edit.PastEnd (length s.text)) f (full_fault p) t.1)

    go : (f : EditFault) → IsRefusal s e f → edit_why f ≡ Some y → IsWhy j seat c y
    go edit.NotJoined refused is = why_is edit.NotJoined refused is
    go (edit.PastEnd len) refused is = why_is (edit.PastEnd len) refused is
    go (edit.Full comps n) refused is = why_is (edit.Full comps n) refused is
    go edit.Memory refused is = absurd (cc)

-- ---- sendings
pub sent_act : (c : ℕ) (j : List Entry) (s : rules.Client) → s ≡ client c j → send_fault s ≡ None → Sent (rules.update_from c s (clock j) (s.number + 1) s.pending []) ≡ send_act c j
sent_act c j s same none =
    let a = first_none (not (is_joined s.state)) send.NotJoined (if rules.has_flight s.flight then Some send.InFlight else pending_fault s.pending) none in
    let b = first_none (rules.has_flight s.flight) send.InFlight (pending_fault s.pending) a.1 in
    sym (ap (λ (x : rules.Client). if not (is_joined x.state) then Declined c why.NotJoined else if rules.has_flight x.flight then Declined c why.InFlight else sent_or_nothing c (sending c x (clock j))) (sym same)
    ∙ ap₂ (λ (p q : Bool). if p then Declined c why.NotJoined else if q then Declined c why.InFlight else sent_or_nothing c (sending c s (clock j))) a.0 b.0
    ∙ ap (sent_or_nothing c) (sending_now c s (clock j) none))

record Unsent (c : ℕ) (j : List Entry) (s : rules.Client) (y : Why) : Type 0 where
  act : (if not (is_joined s.state) then Declined c why.NotJoined else if rules.has_flight s.flight then Declined c why.InFlight else sent_or_nothing c (sending c s (clock j))) ≡ Declined c y
  holds : (seat : ℕ) → s ≡ client c j → IsWhy j seat c y

is_told : (f : SendFault) (y : Why) → send_why f ≡ Some y → told_send f ≡ Some f
is_told send.NotJoined y is = refl
is_told send.InFlight y is = refl
is_told send.Nothing y is = refl
is_told send.Memory y is = absurd (cc)

unsent : (c : ℕ) (j : List Entry) (s : rules.Client) (f : SendFault) (y : Why) → told_send f ≡ send_fault s → send_why f ≡ Some y → Unsent c j s y
unsent c j s f y told is = first (first_some (not (is_joined s.state)) send.NotJoined f _ (sym told ∙ is_told f y is))
  where
    nothing : (p : List Comp) → pending_fault p ≡ Some f → (p ≡ []) × (f ≡ send.Nothing)
    nothing [] at = (refl, some_same f send.Nothing (sym at))
    nothing (x ∷ xs) at = absurd (cc)

    no_flight : (o : Option (List Comp)) → rules.has_flight o ≡ false → o ≡ None
    no_flight None e = refl
    no_flight (Some op) e = absurd (cc)

    third : (not (is_joined s.state) ≡ false) → (rules.has_flight s.flight ≡ false) → pending_fault s.pending ≡ Some f → Unsent c j s y
    third a b at =
        let n = nothing s.pending at in
        let y_is : why.Nothing ≡ y = some_same why.Nothing y (sym (ap send_why n.1) ∙ is) in
        let none : sending c s (clock j) ≡ None = ap (rules.sends_by c s (clock j)) (joined_if s.state a) ∙ ap₂ (rules.sends_flight c s (clock j)) (no_flight s.flight b) n.0 in
        record {
          act = ap₂ (λ (p q : Bool). if p then Declined c why.NotJoined else if q then Declined c why.InFlight else sent_or_nothing c (sending c s (clock j))) a b ∙ ap (sent_or_nothing c) none ∙ ap (Declined c) y_is;
          holds = λ seat same. subst (IsWhy j seat c) y_is tt;
        }

    second : (not (is_joined s.state) ≡ false) → ((rules.has_flight s.flight ≡ true) × (send.InFlight ≡ f)) ⊎ ((rules.has_flight s.flight ≡ false) × (pending_fault s.pending ≡ Some f)) → Unsent c j s y
    second a (inl t) =
        let y_is : why.InFlight ≡ y = some_same why.InFlight y (ap send_why t.1 ∙ is) in
        record {
          act = ap₂ (λ (p q : Bool). if p then Declined c why.NotJoined else if q then Declined c why.InFlight else sent_or_nothing c (sending c s (clock j))) a t.0 ∙ ap (Declined c) y_is;
          holds = λ seat same. subst (IsWhy j seat c) y_is (record { joined = ap (λ (x : rules.Client). x.state) (sym same) ∙ joined_if s.state a; flies = ap (λ (x : rules.Client). rules.has_flight x.flight) (sym same) ∙ t.0 });
        }
    second a (inr t) = third a t.0 t.1

    first : ((not (is_joined s.state) ≡ true) × (send.NotJoined ≡ f)) ⊎ ((not (is_joined s.state) ≡ false) × ((if rules.has_flight s.flight then Some send.InFlight else pending_fault s.pending) ≡ Some f)) → Unsent c j s y
    first (inl t) =
        let y_is : why.NotJoined ≡ y = some_same why.NotJoined y (ap send_why t.1 ∙ is) in
        record {
          act = ap (λ (p : Bool). if p then Declined c why.NotJoined else if rules.has_flight s.flight then Declined c why.InFlight else sent_or_nothing c (sending c s (clock j))) t.0 ∙ ap (Declined c) y_is;
          holds = λ seat same. subst (IsWhy j seat c) y_is (λ at. unjoined s.state t.0 (ap (λ (x : rules.Client). x.state) same ∙ at));
        }
    first (inr t) = second t.0 (first_some (rules.has_flight s.flight) send.InFlight f (pending_fault s.pending) t.1)

pub declined_send : (c : ℕ) (j : List Entry) (s : rules.Client) (f : SendFault) (y : Why) → s ≡ client c j → told_send f ≡ send_fault s → send_why f ≡ Some y → Declined c y ≡ send_act c j
declined_send c j s f y same told is =
    sym (ap (λ (x : rules.Client). if not (is_joined x.state) then Declined c why.NotJoined else if rules.has_flight x.flight then Declined c why.InFlight else sent_or_nothing c (sending c x (clock j))) (sym same) ∙ (unsent c j s f y told is).act)

pub send_refused : (j : List Entry) (seat c : ℕ) (s : rules.Client) (f : SendFault) (y : Why) → s ≡ client c j → told_send f ≡ send_fault s → send_why f ≡ Some y → IsWhy j seat c y
send_refused j seat c s f y same told is = (unsent c j s f y told is).holds seat same

-- ---- sendings again
abbrev resend_act_by : ℕ → ClientState → Option (List Comp) → Option Update → Act
resend_act_by c st flight u = if not (is_joined st) then Declined c why.NotJoined else if rules.has_flight flight then sent_or_nothing c u else Declined c why.Nothing

pub resent_act : (c : ℕ) (j : List Entry) (s : rules.Client) → s ≡ client c j → again_fault s ≡ None → Sent (update_from c s (clock j) s.number (unwrap_or s.flight []) s.sources) ≡ resend_act c j
resent_act c j s same none =
    let a = first_none (not (is_joined s.state)) send.NotJoined (flight_fault s.flight) none in
    sym (ap (λ (x : rules.Client). resend_act_by c x.state x.flight (sending c x (clock j))) (sym same)
    ∙ ap₂ (λ (p q : Bool). if p then Declined c why.NotJoined else if q then sent_or_nothing c (sending c s (clock j)) else Declined c why.Nothing) a.0 (flies s.flight a.1)
    ∙ ap (sent_or_nothing c) (resending_now c s (clock j) none))
  where
    flies : (flight : Option (List Comp)) → flight_fault flight ≡ None → rules.has_flight flight ≡ true
    flies None e = absurd (cc)
    flies (Some op) e = refl

record UnsentAgain (c : ℕ) (st : ClientState) (flight : Option (List Comp)) (u : Option Update) (y : Why) : Type 0 where
  act : resend_act_by c st flight u ≡ Declined c y
  holds : (j : List Entry) (seat : ℕ) → st ≡ (client c j).state → IsWhy j seat c y

unsent_again : (c : ℕ) (s : rules.Client) (now : ℕ) (f : SendFault) (y : Why) → told_send f ≡ again_fault s → send_why f ≡ Some y → UnsentAgain c s.state s.flight (sending c s now) y
unsent_again c s now f y told is = first (first_some (not (is_joined s.state)) send.NotJoined f (flight_fault s.flight) (sym told ∙ is_told f y is))
  where
    nothing : (flight : Option (List Comp)) → flight_fault flight ≡ Some f → (resend_act_by c Joined flight (rules.sends_flight c s now flight s.pending) ≡ Declined c why.Nothing) × (f ≡ send.Nothing)
    nothing None at = (refl, some_same f send.Nothing (sym at))
    nothing (Some []) at = (refl, some_same f send.Nothing (sym at))
    nothing (Some (x ∷ xs)) at = absurd (cc)

    first : ((not (is_joined s.state) ≡ true) × (send.NotJoined ≡ f)) ⊎ ((not (is_joined s.state) ≡ false) × (flight_fault s.flight ≡ Some f)) → UnsentAgain c s.state s.flight (sending c s now) y
    first (inl t) =
        let y_is : why.NotJoined ≡ y = some_same why.NotJoined y (ap send_why t.1 ∙ is) in
        record {
          act = ap (λ (p : Bool). if p then Declined c why.NotJoined else if rules.has_flight s.flight then sent_or_nothing c (sending c s now) else Declined c why.Nothing) t.0 ∙ ap (Declined c) y_is;
          holds = λ j seat same. subst (IsWhy j seat c) y_is (λ at. unjoined s.state t.0 (same ∙ at));
        }
    first (inr t) =
        let n = nothing s.flight t.1 in
        let y_is : why.Nothing ≡ y = some_same why.Nothing y (sym (ap send_why n.1) ∙ is) in
        let at = joined_if s.state t.0 in
        record {
          act = ap₂ (λ (st : ClientState) (u : Option Update). resend_act_by c st s.flight u) at (ap (rules.sends_by c s now) at) ∙ n.0 ∙ ap (Declined c) y_is;
          holds = λ j seat same. subst (IsWhy j seat c) y_is tt;
        }

pub declined_resend : (c : ℕ) (j : List Entry) (s : rules.Client) (f : SendFault) (y : Why) → s ≡ client c j → told_send f ≡ again_fault s → send_why f ≡ Some y → Declined c y ≡ resend_act c j
declined_resend c j s f y same told is =
    sym (ap (λ (x : rules.Client). resend_act_by c x.state x.flight (sending c x (clock j))) (sym same) ∙ (unsent_again c s (clock j) f y told is).act)

pub resend_refused : (j : List Entry) (seat c : ℕ) (s : rules.Client) (f : SendFault) (y : Why) → s ≡ client c j → told_send f ≡ again_fault s → send_why f ≡ Some y → IsWhy j seat c y
resend_refused j seat c s f y same told is = (unsent_again c s 0 f y told is).holds j seat (ap (λ (x : rules.Client). x.state) same)

-- ---- leavings
pub left_act : (c : ℕ) (j : List Entry) (s : rules.Client) → s ≡ client c j → is_present s.state ≡ true → LeftAct c ≡ leave_act c j
left_act c j s same present = sym (ap (λ (x : rules.Client). if is_present x.state then LeftAct c else Declined c why.NotJoined) (sym same) ∙ ap (λ (b : Bool). if b then LeftAct c else Declined c why.NotJoined) present)

pub declined_leave : (c : ℕ) (j : List Entry) (s : rules.Client) → s ≡ client c j → is_present s.state ≡ false → Declined c why.NotJoined ≡ leave_act c j
declined_leave c j s same absent = sym (ap (λ (x : rules.Client). if is_present x.state then LeftAct c else Declined c why.NotJoined) (sym same) ∙ ap (λ (b : Bool). if b then LeftAct c else Declined c why.NotJoined) absent)

pub leave_refused : (j : List Entry) (c : ℕ) (s : rules.Client) → s ≡ client c j → is_present s.state ≡ false → (client c j).state ≢ Joined
leave_refused j c s same absent = λ at. let f : true ≡ false = sym (ap is_present (ap (λ (x : rules.Client). x.state) same ∙ at)) ∙ absent in absurd (cc)

-- ---- comings back
pub returned_act : (c : ℕ) (j : List Entry) (s : rules.Client) → s ≡ client c j → MayReturn s j → back_act c s j ≡ rejoin_act c j
returned_act c j s same may =
    sym (ap (λ (x : rules.Client). rejoin_act_of c x j) (sym same)
    ∙ ap₂ (λ (p q : Bool). if p then Declined c why.NotLeft else if q then Declined c (why.TooOld (version s.doc j)) else back_act c s j)
    (ap (λ (st : ClientState). not (is_left st)) may.0) (le-ltb (s.version + greatest_age) (version s.doc j) may.1))

pub declined_not_left : (c : ℕ) (j : List Entry) (s : rules.Client) → s ≡ client c j → s.state ≢ Left → Declined c why.NotLeft ≡ rejoin_act c j
declined_not_left c j s same apart =
    sym (ap (λ (x : rules.Client). rejoin_act_of c x j) (sym same)
    ∙ ap (λ (p : Bool). if p then Declined c why.NotLeft else if nat_lt (s.version + greatest_age) (version s.doc j) then Declined c (why.TooOld (version s.doc j)) else back_act c s j) (unleft s.state apart))
  where
    unleft : (st : ClientState) → st ≢ Left → not (is_left st) ≡ true
    unleft Away apart = refl
    unleft Joined apart = refl
    unleft Left apart = absurd (apart refl)
    unleft Stale apart = refl

pub declined_too_old : (c : ℕ) (j : List Entry) (s : rules.Client) (have : ℕ) → s ≡ client c j → s.state ≡ Left → s.version + greatest_age < have → have ≡ version s.doc j → Declined c (why.TooOld have) ≡ rejoin_act c j
declined_too_old c j s have same left old is =
    sym (ap (λ (x : rules.Client). rejoin_act_of c x j) (sym same)
    ∙ ap₂ (λ (p q : Bool). if p then Declined c why.NotLeft else if q then Declined c (why.TooOld (version s.doc j)) else back_act c s j)
    (ap (λ (st : ClientState). not (is_left st)) left) (lt-ltb (s.version + greatest_age) (version s.doc j) (subst (λ n. s.version + greatest_age < n) is old))
    ∙ ap (λ n. Declined c (why.TooOld n)) (sym is))

pub not_left_holds : (j : List Entry) (c : ℕ) (s : rules.Client) → s ≡ client c j → s.state ≢ Left → (client c j).state ≢ Left
not_left_holds j c s same apart = λ at. apart (ap (λ (x : rules.Client). x.state) same ∙ at)

pub too_old_holds : (j : List Entry) (c : ℕ) (s : rules.Client) (have : ℕ) → s ≡ client c j → s.state ≡ Left → s.version + greatest_age < have → have ≡ version s.doc j → IsTooOld j c have
too_old_holds j c s have same left old is = record {
  left = ap (λ (x : rules.Client). x.state) (sym same) ∙ left;
  have_is = is ∙ ap (λ (x : rules.Client). version x.doc j) same;
  too_old = subst (λ (x : rules.Client). x.version + greatest_age < have) same old;
}

-- ---- mail
pub got_first : (session : ℕ) (ms : List Msg) (m : Msg) → Some m ≡ slice_get ms 0 → Got session (brief_of m) ≡ got_act session ms
got_first session [] m is = absurd (cc)
got_first session (x ∷ xs) m is = ap (λ n. Got session (brief_of n)) (some_same m x is)

pub got_none : (ms : List Msg) → None ≡ slice_get ms 0 → ms ≡ []
got_none [] is = refl
got_none (x ∷ xs) is = absurd (cc)

-- ---- a client behind a line that was declined
pub on_ok : {T E A B : Type 0} (r : Result T E) → (A → B) → OnOk r A → OnOk r B
on_ok (Ok x) f a = f a
on_ok (Err e) f a = tt

pub declined_client : (left last : Shown) (seat : ℕ) (line : Option ℕ) (session : ℕ) (y : Why) (was now : Numbered) → IsClientOf left.journal was → now ≡ was → last ≡ adds left seat line (Declined session y ∷ []) → IsClientAfter last.journal was now
declined_client left last seat line session y was now own same is = record {
  client_is = ap (λ (x : Numbered). x.client) same;
  stands = ap (λ (x : Numbered). x.now) same ∙ own ∙ sym (client-push was.client left.journal (entry_by seat line (Declined session y))) ∙ ap (client was.client) (sym (ap (λ (b : Shown). b.journal) is)) ∙ ap (λ (x : Numbered). client x.client last.journal) (sym same);
}
