-- A client that catches up: it gets its mail, and sends.
use Rattle.std.proofs.Common.{◌≡◌, ℕ, ◌+◌, List, [], ◌∷◌, ◌++◌, Bor, true, false, not, true≢false, refl, sym, ap, ◌∙◌, subst, append-nil, eq-eqb}
use Rattle.std.specs.Option.{option_copied}
use Rattle.std.specs.Prelude.{is_some, Option, Some, None, Result, Ok, Err, IfErr, OnErr, OnOk, map, if◌then◌else◌}
use Rattle.ot_op.specs.declared.comp.Comp.{Comp}
use Rattle.journal_entries.specs.declared.update.Update.{Update}
use Rattle.journal_entries.specs.declared.act.Act.TheVariants.{Sent}
use Rattle.journal_entries.specs.declared.act.Entry.{Entry}
use Rattle.journal_rules.specs.declared.state.ClientState.{ClientState}
use Rattle.journal_rules.specs.declared.state.ClientState.TheVariants.{Away, Joined, Left, Stale}
use Rattle.journal_rules.specs.Client.{Client, client, has_flight, sending, sends_by, sends_flight, update_from}
use Rattle.journal_rules.specs.Locks.{clock}
use Rattle.share_client.specs.Clients.{again_fault, flight_fault, pending_fault, send_fault, told_send}
use Rattle.share_client.specs.declared.send.SendFault.{SendFault}
use Rattle.share_client.specs.declared.send.SendFault.TheVariants.{NotJoined, InFlight}
use Rattle.turn_rules.specs.Clients.{is_joined}
use Rattle.turn_rules.specs.Turns.{Alone}
use Rattle.run_rules.specs.Ending.{CatchesUp, CatchesUpIf, at_end, sending_acts, sent_acts}
use Rattle.run_rules.specs.Lines.{Gets}
use Rattle.book.specs.Shown.{Shown, adds}
use Rattle.script_driver.specs.Clients.{GoesQuietly, is_at_most}
use Rattle.journal_rules.proofs.Lists.{some_same}
use Rattle.script_driver.proofs.Quiet.{quiet_none, quiet_one}

-- ---- what a client sends, by its state, flight and pending
module _ (c : ℕ) (s : Client) (now : ℕ) where
  abbrev sends : ClientState → Option (List Comp) → List Comp → Option Update
  sends Joined flight pending = sends_flight c s now flight pending
  sends _ flight pending = None

  sends_is : (st : ClientState) → sends_by c s now st ≡ sends st s.flight s.pending
  sends_is Joined = refl
  sends_is _ = refl

  -- it is its own
  own_flight : (flight : Option (List Comp)) (pending : List Comp) (u : Update) → sends_flight c s now flight pending ≡ Some u → u.client ≡ Some c
  own_flight None [] u is = absurd (cc)
  own_flight None (p ∷ ps) u is = ap (λ (x : Update). x.client) (sym (some_same (update_from c s now (s.number + 1) (p ∷ ps) []) u is))
  own_flight (Some []) pending u is = absurd (cc)
  own_flight (Some (f ∷ fs)) pending u is = ap (λ (x : Update). x.client) (sym (some_same (update_from c s now s.number (f ∷ fs) s.sources) u is))

  own_sent : (u : Update) → sending c s now ≡ Some u → u.client ≡ Some c
  own_sent u is = by s.state (sym (sends_is s.state) ∙ is)
    where
      by : (st : ClientState) → sends st s.flight s.pending ≡ Some u → u.client ≡ Some c
      by Joined is = own_flight s.flight s.pending u is
      by Away is = absurd (cc)
      by Left is = absurd (cc)
      by Stale is = absurd (cc)

  -- where it is refused, there is nothing to send
  no_pending : (st : ClientState) (flight : Option (List Comp)) (pending : List Comp) (f : SendFault) → has_flight flight ≡ false → (if not (is_joined st) then Some NotJoined else if has_flight flight then Some InFlight else pending_fault pending) ≡ Some f → sends st flight pending ≡ None
  no_pending Joined None [] f none at = refl
  no_pending Joined None (p ∷ ps) f none at = absurd (cc)
  no_pending Joined (Some op) pending f none at = absurd (true≢false none)
  no_pending Away flight pending f none at = refl
  no_pending Left flight pending f none at = refl
  no_pending Stale flight pending f none at = refl

  no_flight : (st : ClientState) (flight : Option (List Comp)) (pending : List Comp) (f : SendFault) → has_flight flight ≡ true → (if not (is_joined st) then Some NotJoined else flight_fault flight) ≡ Some f → sends st flight pending ≡ None
  no_flight Joined (Some []) pending f some at = refl
  no_flight Joined (Some (x ∷ xs)) pending f some at = absurd (cc)
  no_flight Joined None pending f some at = absurd (true≢false (sym some))
  no_flight Away flight pending f some at = refl
  no_flight Left flight pending f some at = refl
  no_flight Stale flight pending f some at = refl

  pub unsent : (f : SendFault) → has_flight s.flight ≡ false → send_fault s ≡ Some f → sending c s now ≡ None
  unsent f none at = sends_is s.state ∙ no_pending s.state s.flight s.pending f none at

  pub unsent_again : (f : SendFault) → has_flight s.flight ≡ true → again_fault s ≡ Some f → sending c s now ≡ None
  unsent_again f some at = sends_is s.state ∙ no_flight s.state s.flight s.pending f some at

pub flies : (o : Option (Bor (List Comp))) (flight : Option (List Comp)) → option_copied o ≡ flight → is_some o ≡ has_flight flight
flies None flight is = ap has_flight is
flies (Some op) flight is = ap has_flight is

-- ---- its entry, where there is one
module _ (c : ℕ) (s : Client) (old new : Shown) (own : s ≡ client c old.journal) (fault : Option SendFault) (u : Update) (sent : fault ≡ None → sending c s (clock old.journal) ≡ Some u)
    (unsent : (f : SendFault) → fault ≡ Some f → sending c s (clock old.journal) ≡ None) where
  by_sending : (o : Option Update) → sending c s (clock old.journal) ≡ o → new.journal ≡ old.journal ++ map at_end (sent_acts o) → new.journal ≡ old.journal ++ map at_end (sending_acts c old.journal)
  by_sending o is at = at ∙ ap (λ (x : Option Update). old.journal ++ map at_end (sent_acts x)) (sym is ∙ ap (λ (t : Client). sending c t (clock old.journal)) own)

  pub sends_its : (A : Type 0) (r : Result ℕ SendFault) → IfErr r (λ f. told_send f ≡ Some f) → OnOk r ((fault ≡ None) × (new ≡ adds old 0 None (Sent u ∷ []))) → IfErr r (λ f. told_send f ≡ fault) → OnErr r ((new ≡ old) × A)
      → new.journal ≡ old.journal ++ map at_end (sending_acts c old.journal)
  sends_its A (Ok ticket) told ok refused kept = by_sending (Some u) (sent ok.0) (ap (λ (b : Shown). b.journal) ok.1)
  sends_its A (Err f) told ok refused kept = by_sending None (unsent f (sym refused ∙ told)) (ap (λ (b : Shown). b.journal) kept.0 ∙ sym (append-nil old.journal))

pub quiet_sent : (c : ℕ) (left last : List Entry) → last ≡ left ++ map at_end (sending_acts c left) → GoesQuietly c left last
quiet_sent c left last is = by (sending c (client c left) (clock left)) (own_sent c (client c left) (clock left)) is
  where
    by : (o : Option Update) → ((u : Update) → o ≡ Some u → u.client ≡ Some c) → last ≡ left ++ map at_end (sent_acts o) → GoesQuietly c left last
    by None own is = quiet_none c left last (is ∙ append-nil left)
    by (Some u) own is = quiet_one c left last (at_end (Sent u)) is (record { quiet = refl; its = ap (is_at_most c) (own u refl) ∙ eq-eqb c c refl })

-- ---- catching up
pub catches_up : (c : ℕ) (left mid last : List Entry) → is_joined (client c left).state ≡ true → Gets at_end Alone c left mid → last ≡ mid ++ map at_end (sending_acts c mid) → CatchesUp c left last
catches_up c left mid last joined gets is = subst (λ b. CatchesUpIf b c left last) (sym joined) (mid, gets, is)

pub stays_behind : (c : ℕ) (left last : List Entry) → is_joined (client c left).state ≡ false → last ≡ left → CatchesUp c left last
stays_behind c left last away is = subst (λ b. CatchesUpIf b c left last) (sym away) is
