-- A refused update of a client's operation in flight, sent under its present source: its mail has the refusal.
use Rattle.std.proofs.Common.{◌≡◌, ℕ, suc, zero, List, [], ◌∷◌, ◌++◌, length, Bool, true, false, true≢false, ◌&&◌, refl, sym, ap, ap₂, ◌∙◌, subst, inl, inr, ⊎_elim, arith, eqb, eq-eqb, append-nil, drop}
use Rattle.std.specs.Prelude.{Option, Some, None, if◌then◌else◌, option_map}
use Rattle.ot_op.specs.declared.comp.Comp.{Comp}
use Rattle.journal_entries.specs.declared.update.Update.{Update}
use Rattle.journal_entries.specs.declared.update.Cause.{Cause}
use Rattle.journal_entries.specs.declared.update.Outcome.{Outcome}
use Rattle.journal_entries.specs.declared.update.Outcome.TheVariants.{Refused}
use Rattle.journal_entries.specs.declared.message.Msg.{Msg}
use Rattle.journal_entries.specs.declared.message.Msg.TheVariants.{Op, Ack, Error}
use Rattle.journal_entries.specs.declared.message.Brief.{Brief}
use Rattle.journal_entries.specs.declared.act.Act.{Act}
use Rattle.journal_entries.specs.declared.act.Act.TheVariants.{Joined as JoinedAct, Edited, Sent, Got, Left as LeftAct, Committed}
use Rattle.journal_entries.specs.declared.act.Entry.{Entry}
use Rattle.journal_rules.specs.declared.state.ClientState.TheVariants.{Joined, Left, Stale}
use Rattle.journal_rules.specs.Documents.{update_of, update_at, ticket_of}
use Rattle.journal_rules.specs.Mail.{told_of, Outbox, outbox_by, outbox, posted_to, one_got, mail_in, mail}
use Rattle.journal_rules.specs.Client.{Client, client, client_by, has_flight, is_alive, is_of, joined_by, back_under, caught_up, items_between, edited_by, sent_by, got_by, left_by, delivered, given, stale}
use Rattle.journal_rules.specs.Legal.{IsAllowed, IsLegal}
use Rattle.journal_rules.proofs.Pushing.{client-push, outbox-push}
use Rattle.journal_rules.proofs.Legality.{by_last}
use Rattle.journal_rules.proofs.Waits.{waits_sent}
use Rattle.journal_rules.proofs.Fencing.{commit_or}
use Rattle.journal_rules.proofs.Lists.{AnyIn, any_in_left, any_in_last, some_same, drop_next, drop_front}
use Rattle.journal_laws.proofs.Alive.{Mine, OwnedBy}
use Rattle.journal_laws.proofs.Updates.{update_new, mine_below}
use Rattle.journal_laws.proofs.World.{IsWell, joined_alive}
use Rattle.journal_laws.proofs.ClientsOn.{if_true}
use Rattle.journal_laws.proofs.Everything.{world}
use Rattle.ending_rules.specs.Outcomes.{outcome_of, outcomes}
use Rattle.ending_rules.proofs.Answered.{outcomes-push, answer_stays, answered_once, Commits, gives_commits, new_open}
use Rattle.ending_rules.proofs.Apart.{Apart, Own, Joins, Edits, Sends, Gets, Leaves, apart_or, apart_client}
use Rattle.ending_rules.proofs.Given.{Leaving, leaving}

abbrev pub IsErrorOf : ℕ → Msg → Type 0
IsErrorOf n (Op v op source) = ⊥
IsErrorOf n (Ack v number) = ⊥
IsErrorOf n (Error number cause) = number ≡ n

abbrev pub Tells : ℕ → List Entry → Client → Type 0
Tells c j s = s.state ≡ Joined → has_flight s.flight ≡ true → (t : ℕ) (u : Update) (cause : Cause) → update_at j t ≡ Some u → u.client ≡ Some c → u.number ≡ s.number → u.source ≡ s.source → outcomes t j ≡ Refused cause ∷ [] → AnyIn (IsErrorOf s.number) (mail c j)

-- ---- mail behind one entry more
any_drop_more : {A : Type 0} (P : A → Type 0) (n : ℕ) (xs ys : List A) → AnyIn P (drop n xs) → AnyIn P (drop n (xs ++ ys))
any_drop_more P zero xs ys a = any_in_left P xs ys a
any_drop_more P (suc n) [] ys a = absurd a
any_drop_more P (suc n) (x ∷ xs) ys a = any_drop_more P n xs ys a

posted_more : (P : Msg → Type 0) (doc : ℕ) (h : List Entry) (ticket : ℕ) (outcome : Outcome) (r : Option Outbox) → AnyIn P (mail_in r) → AnyIn P (mail_in (option_map (posted_to doc h ticket outcome) r))
posted_more P doc h ticket outcome None a = a
posted_more P doc h ticket outcome (Some box) a = go (eqb doc box.doc)
  where
    go : (b : Bool) → AnyIn P (mail_in (Some (if b then record box { posted = box.posted ++ told_of box.source (update_at h ticket) outcome } else box)))
    go true = any_drop_more P box.got box.posted (told_of box.source (update_at h ticket) outcome) a
    go false = a

pub next_mail : (r : Option Outbox) (m : Msg) (ms : List Msg) → mail_in r ≡ m ∷ ms → mail_in (option_map one_got r) ≡ ms
next_mail None m ms e = absurd (cc)
next_mail (Some box) m ms e = drop_next box.got box.posted m ms e

pub got_mail : (c : ℕ) (h : List Entry) (e : Entry) (brief : Brief) (m : Msg) (ms : List Msg) → e.act ≡ Got c brief → mail c h ≡ m ∷ ms → mail c (h ++ e ∷ []) ≡ ms
got_mail c h e brief m ms is first =
    ap mail_in (outbox-push c h e ∙ ap (λ a. outbox_by c h a (outbox c h)) is ∙ if_true (eqb c c) (option_map one_got (outbox c h)) (outbox c h) (eq-eqb c c refl)) ∙ next_mail (outbox c h) m ms first

-- ---- an error of its flight makes a client stale
errs : (s : Client) (m : Msg) → is_alive s.state ≡ true → has_flight s.flight ≡ true → IsErrorOf s.number m → (delivered s m).state ≡ Joined → ⊥
errs s (Op v op source) lives flies e st = e
errs s (Ack v number) lives flies e st = e
errs s (Error number cause) lives flies e st =
    let a : delivered s (Error number cause) ≡ given s (Error number cause) = if_true (is_alive s.state) (given s (Error number cause)) s lives in
    let b : given s (Error number cause) ≡ stale s = ap₂ (λ x y. if x && y then stale s else s) flies (eq-eqb number s.number e) in
    let f : Stale ≡ Joined = sym (ap (λ (t : Client). t.state) (a ∙ b)) ∙ st in
    absurd (cc)

back_source : (source : ℕ) (s : Client) → (back_under source s).state ≡ Joined → (back_under source s).source ≡ source
back_source source s = go (is_alive s.state) refl
  where
    go : (b : Bool) → is_alive s.state ≡ b → (if b then record s { state = Joined; source = source } else s).state ≡ Joined → (if b then record s { state = Joined; source = source } else s).source ≡ source
    go true is st = refl
    go false is st = absurd (true≢false (sym (joined_alive s.state st) ∙ is))

module _ (c : ℕ) (h : List Entry) (e : Entry) (legal : IsLegal h) (may : IsAllowed h e.seat e.act) (p : Tells c h (client c h)) where
  old_update : ((u : Update) → update_of e.act ≡ Some u → u.client ≡ Some c → ⊥) → (t : ℕ) (u : Update) → update_at (h ++ e ∷ []) t ≡ Some u → u.client ≡ Some c → update_at h t ≡ Some u
  old_update unsent t u known mine = ⊎_elim {C = update_at h t ≡ Some u} (λ old. old) (λ new. absurd (unsent u new.1 mine)) (update_new h e t u known)

  nothing_sent : (a : Act) → e.act ≡ a → update_of a ≡ None → (u : Update) → update_of e.act ≡ Some u → u.client ≡ Some c → ⊥
  nothing_sent a is none u sent mine = let f : None ≡ Some u = sym none ∙ sym (ap update_of is) ∙ sent in cc

  no_ticket : (t : ℕ) (a : Act) → ticket_of a ≡ [] → outcome_of t a ≡ []
  no_ticket t (Committed doc token ticket outcome) none = absurd (cc)
  no_ticket t _ none = refl

  same_outcomes : (t : ℕ) → ticket_of e.act ≡ [] → outcomes t (h ++ e ∷ []) ≡ outcomes t h
  same_outcomes t none = outcomes-push t h e ∙ ap (λ l. outcomes t h ++ l) (no_ticket t e.act none) ∙ append-nil (outcomes t h)

  -- a refusal that this entry gives is told
  tell : (s : Client) → s ≡ client c h → s.state ≡ Joined → has_flight s.flight ≡ true → (t : ℕ) (u : Update) (cause : Cause) → update_at h t ≡ Some u → u.client ≡ Some c → u.number ≡ s.number → u.source ≡ s.source → Commits t (Refused cause) e.act → AnyIn (IsErrorOf s.number) (mail c (h ++ e ∷ []))
  tell s s_is st flies t u cause known mine number source k =
      let w = world h legal in
      let x : IsWell c h s = subst (IsWell c h) (sym s_is) (w.clients c (sym (ap (λ (y : Client). is_alive y.state) s_is) ∙ joined_alive s.state st)) in
      let q = x.posted st in
      let row : IsAllowed h e.seat (Committed k.doc k.token t (Refused cause)) = subst (λ a. IsAllowed h e.seat a) k.is may in
      let sent = waits_sent k.doc t h row.rest row.first in
      let doc_is : u.doc ≡ k.doc = ap (λ (y : Update). y.doc) (some_same u sent.0 (sym known ∙ sent.1)) ∙ sent.2 in
      let its_doc : u.doc ≡ s.doc = ⊎_elim {C = u.doc ≡ s.doc} (λ f. f.doc_is) (λ g. absurd (g.other flies number)) (x.alive.filed t u known mine) in
      let here : eqb k.doc q.place.doc ≡ true = eq-eqb k.doc q.place.doc (sym doc_is ∙ its_doc ∙ sym q.doc_is) in
      let message : told_of q.place.source (update_at h t) (Refused cause) ≡ Error u.number cause ∷ [] =
      ap (λ o. told_of q.place.source o (Refused cause)) known ∙ if_true (eqb u.source q.place.source) (Error u.number cause ∷ []) [] (eq-eqb u.source q.place.source (source ∙ sym q.source_is)) in
      let full : Outbox = record q.place { posted = q.place.posted ++ told_of q.place.source (update_at h t) (Refused cause) } in
      let after : outbox c (h ++ e ∷ []) ≡ Some full =
      outbox-push c h e ∙ ap (λ a. outbox_by c h a (outbox c h)) k.is ∙ ap (option_map (posted_to k.doc h t (Refused cause))) q.place_is ∙ ap (λ (y : Outbox). Some y) (if_true (eqb k.doc q.place.doc) full q.place here) in
      let letters : mail c (h ++ e ∷ []) ≡ drop q.place.got q.place.posted ++ Error u.number cause ∷ [] =
      ap mail_in after ∙ ap (λ l. drop q.place.got (q.place.posted ++ l)) message ∙ drop_front q.place.got q.place.posted (Error u.number cause ∷ []) q.within in
      subst (AnyIn (IsErrorOf s.number)) (sym letters) (any_in_last (IsErrorOf s.number) (drop q.place.got q.place.posted) (Error u.number cause) number)

  others : Apart c e.act → Tells c (h ++ e ∷ []) (client c h)
  others a st flies t u cause known mine number source out = ⊎_elim {C = AnyIn (IsErrorOf (client c h).number) (mail c (h ++ e ∷ []))}
      (λ commit. ⊎_elim {C = AnyIn (IsErrorOf (client c h).number) (mail c (h ++ e ∷ []))}
      (λ unclosed. tell (client c h) refl st flies t u cause old mine number source (gives_commits t (Refused cause) e.act (sym (ap (λ l. l ++ outcome_of t e.act) unclosed) ∙ sym (outcomes-push t h e) ∙ out)))
      (λ one.
      let same : outcomes t h ≡ Refused cause ∷ [] = one.1 ∙ sym (answer_stays t h e one.0 [] may one.1) ∙ out in
      let after : outbox c (h ++ e ∷ []) ≡ option_map (posted_to commit.0 h commit.2 commit.3) (outbox c h) = outbox-push c h e ∙ ap (λ b. outbox_by c h b (outbox c h)) commit.4 in
      subst (AnyIn (IsErrorOf (client c h).number)) (sym (ap mail_in after)) (posted_more (IsErrorOf (client c h).number) commit.0 h commit.2 commit.3 (outbox c h) (p st flies t u cause old mine number source same)))
      (answered_once t h legal))
      (λ quiet.
      let after : outbox c (h ++ e ∷ []) ≡ outbox c h = outbox-push c h e ∙ a.quiet h (outbox c h) quiet.ticket_none in
      subst (AnyIn (IsErrorOf (client c h).number)) (sym (ap mail_in after)) (p st flies t u cause old mine number source (sym (same_outcomes t quiet.ticket_none) ∙ out)))
      (commit_or e.act)
    where
      old : update_at h t ≡ Some u
      old = old_update a.unsent t u known mine

  -- the client's own
  after_own : (t : Client) → (a : Act) → e.act ≡ a → client_by c h a (client c h) ≡ t → Tells c (h ++ e ∷ []) t → Tells c (h ++ e ∷ []) (client c (h ++ e ∷ []))
  after_own t a is by tells = subst (Tells c (h ++ e ∷ [])) (sym (client-push c h e ∙ ap (λ b. client_by c h b (client c h)) is ∙ by)) tells

  joins : (doc : ℕ) (user : List ℕ) (track : Bool) (since : Option ℕ) (source v : ℕ) → e.act ≡ JoinedAct c doc user track since source v → Tells c (h ++ e ∷ []) (client c (h ++ e ∷ []))
  joins doc user track None source v is =
      after_own (joined_by (client c h) h doc user track None source v) (JoinedAct c doc user track None source v) is
      (if_true (eqb c c) (joined_by (client c h) h doc user track None source v) (client c h) (eq-eqb c c refl))
      (λ st flies t u cause known mine number source_is out. absurd (true≢false (sym flies)))
  joins doc user track (Some n) source v is =
      after_own (joined_by (client c h) h doc user track (Some n) source v) (JoinedAct c doc user track (Some n) source v) is
      (if_true (eqb c c) (joined_by (client c h) h doc user track (Some n) source v) (client c h) (eq-eqb c c refl))
      (λ st flies t u cause known mine number source_is out.
      let old : update_at h t ≡ Some u = old_update (nothing_sent (JoinedAct c doc user track (Some n) source v) is refl) t u known mine in
      let row : IsAllowed h e.seat (JoinedAct c doc user track (Some n) source v) = subst (λ a. IsAllowed h e.seat a) is may in
      let owned : Mine c h u.source = subst (λ o. OwnedBy h o u.source) mine ((world h legal).owned t u old) in
      let low = mine_below c h u.source owned in
      let new = back_source source (caught_up (client c h) (items_between doc n v h)) st in
      let at = row.source_is in
      absurd (omega (arith, low, new, at, source_is)))

  edits : (comp : Comp) → e.act ≡ Edited c comp → Tells c (h ++ e ∷ []) (client c (h ++ e ∷ []))
  edits comp is =
      after_own (edited_by (client c h) comp) (Edited c comp) is (if_true (eqb c c) (edited_by (client c h) comp) (client c h) (eq-eqb c c refl))
      (λ st flies t u cause known mine number source_is out.
      subst (AnyIn (IsErrorOf (client c h).number)) (sym (ap mail_in (outbox-push c h e ∙ ap (λ b. outbox_by c h b (outbox c h)) is)))
      (p st flies t u cause (old_update (nothing_sent (Edited c comp) is refl) t u known mine) mine number source_is (sym (same_outcomes t (ap ticket_of is)) ∙ out)))

  sends : (v : Update) → e.act ≡ Sent v → v.client ≡ Some c → Tells c (h ++ e ∷ []) (client c (h ++ e ∷ []))
  sends v is own =
      after_own (sent_by (client c h) (client c h).flight) (Sent v) is (if_true (is_of c v.client) (sent_by (client c h) (client c h).flight) (client c h) (ap (is_of c) own ∙ eq-eqb c c refl))
      (go (client c h).flight refl)
    where
      fresh : (t : ℕ) (u : Update) (cause : Cause) → (t ≡ length h) × (update_of e.act ≡ Some u) → outcomes t (h ++ e ∷ []) ≡ Refused cause ∷ [] → ⊥
      fresh t u cause new out = let f : [] ≡ Refused cause ∷ [] = sym (new_open h e u legal new.1) ∙ ap (λ n. outcomes n (h ++ e ∷ [])) (sym new.0) ∙ out in cc

      go : (f : Option (List Comp)) → (client c h).flight ≡ f → Tells c (h ++ e ∷ []) (sent_by (client c h) f)
      go None none st flies t u cause known mine number source_is out = ⊎_elim {C = AnyIn (IsErrorOf (sent_by (client c h) None).number) (mail c (h ++ e ∷ []))}
          (λ old. let n = ((world h legal).counted c t u old mine).0 in absurd (omega (arith, n, number)))
          (λ new. absurd (fresh t u cause new out))
          (update_new h e t u known)
      go (Some f) some st flies t u cause known mine number source_is out = ⊎_elim {C = AnyIn (IsErrorOf (client c h).number) (mail c (h ++ e ∷ []))}
          (λ old. subst (AnyIn (IsErrorOf (client c h).number)) (sym (ap mail_in (outbox-push c h e ∙ ap (λ b. outbox_by c h b (outbox c h)) is)))
          (p st (ap has_flight some) t u cause old mine number source_is (sym (same_outcomes t (ap ticket_of is)) ∙ out)))
          (λ new. absurd (fresh t u cause new out))
          (update_new h e t u known)

  gets : (brief : Brief) → e.act ≡ Got c brief → Tells c (h ++ e ∷ []) (client c (h ++ e ∷ []))
  gets brief is =
      let row : IsAllowed h e.seat (Got c brief) = subst (λ a. IsAllowed h e.seat a) is may in
      let by : client_by c h (Got c brief) (client c h) ≡ delivered (client c h) row.message = if_true (eqb c c) (got_by (client c h) (mail c h)) (client c h) (eq-eqb c c refl) ∙ ap (got_by (client c h)) row.first in
      after_own (delivered (client c h) row.message) (Got c brief) is by (get row.message row.rest row.first)
    where
      get : (m : Msg) (ms : List Msg) → mail c h ≡ m ∷ ms → Tells c (h ++ e ∷ []) (delivered (client c h) m)
      get m ms first st flies t u cause known mine number source_is out =
          let k : Leaving (client c h) (delivered (client c h) m) = leaving (client c h) m in
          let st0 : (client c h).state ≡ Joined = ⊎_elim {C = (client c h).state ≡ Joined} (λ same. sym same ∙ st) (λ gone. let f : Stale ≡ Joined = sym gone ∙ st in absurd (cc)) k.state_is in
          let there : AnyIn (IsErrorOf (client c h).number) (m ∷ ms) =
          subst (AnyIn (IsErrorOf (client c h).number)) first
          (p st0 (k.flight_from flies) t u cause (old_update (nothing_sent (Got c brief) is refl) t u known mine) mine (number ∙ k.number_is) (source_is ∙ k.source_is) (sym (same_outcomes t (ap ticket_of is)) ∙ out)) in
          subst (λ n. AnyIn (IsErrorOf n) (mail c (h ++ e ∷ []))) (sym k.number_is)
          (subst (AnyIn (IsErrorOf (client c h).number)) (sym (got_mail c h e brief m ms is first)) (later m ms st0 (k.flight_from flies) st there))
        where
          later : (m : Msg) (ms : List Msg) → (client c h).state ≡ Joined → has_flight (client c h).flight ≡ true → (delivered (client c h) m).state ≡ Joined → AnyIn (IsErrorOf (client c h).number) (m ∷ ms) → AnyIn (IsErrorOf (client c h).number) ms
          later m ms st0 flies st (inl err) = absurd (errs (client c h) m (joined_alive (client c h).state st0) flies err st)
          later m ms st0 flies st (inr rest) = rest

  leaves_it : e.act ≡ LeftAct c → Tells c (h ++ e ∷ []) (client c (h ++ e ∷ []))
  leaves_it is = after_own (left_by (client c h)) (LeftAct c) is (if_true (eqb c c) (left_by (client c h)) (client c h) (eq-eqb c c refl))
      (λ st flies t u cause known mine number source_is out. absurd (not_joined (is_alive (client c h).state) refl st))
    where
      not_joined : (b : Bool) → is_alive (client c h).state ≡ b → (if b then record (client c h) { state = Left } else client c h).state ≡ Joined → ⊥
      not_joined true is st = let f : Left ≡ Joined = st in cc
      not_joined false is st = true≢false (sym (joined_alive (client c h).state st) ∙ is)

  own_act : Own c e.act → Tells c (h ++ e ∷ []) (client c (h ++ e ∷ []))
  own_act (Joins doc user track since source v is) = joins doc user track since source v is
  own_act (Edits comp is) = edits comp is
  own_act (Sends u is own) = sends u is own
  own_act (Gets brief is) = gets brief is
  own_act (Leaves is) = leaves_it is

  tells_on : Tells c (h ++ e ∷ []) (client c (h ++ e ∷ []))
  tells_on = ⊎_elim {C = Tells c (h ++ e ∷ []) (client c (h ++ e ∷ []))} (λ a. subst (Tells c (h ++ e ∷ [])) (sym (apart_client c h e a)) (others a)) own_act (apart_or c e.act)

pub told_refusals : (c : ℕ) (j : List Entry) → IsLegal j → Tells c j (client c j)
told_refusals c = by_last (λ j. Tells c j (client c j))
    (λ st flies t u cause known mine number source out. (let f : None ≡ Some u = known in absurd (cc)))
    (λ h e legal may p. tells_on c h e legal may p)
