-- Where nobody came back, each flight was sent under its client's present source: so none is left behind the mail.
use Rattle.std.proofs.Common.{◌≡◌, ℕ, List, [], ◌∷◌, ◌++◌, length, Bool, true, false, true≢false, refl, sym, ap, ◌∙◌, subst, ⊎_elim, eqb, eq-eqb, All}
use Rattle.std.specs.Prelude.{Option, Some, None, if◌then◌else◌}
use Rattle.ot_op.specs.declared.comp.Comp.{Comp}
use Rattle.journal_entries.specs.declared.update.Update.{Update}
use Rattle.journal_entries.specs.declared.message.Msg.{Msg}
use Rattle.journal_entries.specs.declared.act.Act.{Act}
use Rattle.journal_entries.specs.declared.act.Act.TheVariants.{Joined as JoinedAct, Edited, Sent, Got, Left as LeftAct}
use Rattle.journal_entries.specs.declared.act.Entry.{Entry}
use Rattle.journal_rules.specs.declared.state.ClientState.TheVariants.{Joined, Left}
use Rattle.journal_rules.specs.Documents.{update_of, update_in, update_at}
use Rattle.journal_rules.specs.Locks.{clock}
use Rattle.journal_rules.specs.Mail.{mail}
use Rattle.journal_rules.specs.Client.{Client, client, client_by, joined_by, edited_by, sent_by, got_by, left_by, delivered, has_flight, is_alive, is_of}
use Rattle.journal_rules.specs.Legal.{IsAllowed, IsLegal}
use Rattle.journal_rules.proofs.Pushing.{client-push, client-none}
use Rattle.journal_rules.proofs.Legality.{seam}
use Rattle.journal_rules.proofs.Waits.{update_stays}
use Rattle.journal_laws.proofs.Updates.{Sends as IsSent, Fresh, Again}
use Rattle.journal_laws.proofs.World.{sent_by_client}
use Rattle.journal_laws.proofs.ClientsOn.{if_true}
use Rattle.journal_laws.proofs.Everything.{world}
use Rattle.ending_rules.specs.Rounds.{returns_not}
use Rattle.ending_rules.specs.Ended.{AreAnswered}
use Rattle.ending_rules.proofs.Apart.{Own, Joins, Edits, Sends, Gets, Leaves, apart_or, apart_client, goes_by}
use Rattle.ending_rules.proofs.Given.{Leaving, leaving}
use Rattle.ending_rules.proofs.Stages.{WasSent, not_sent_now}

abbrev IsSentNow : ℕ → List Entry → Client → Type 0
IsSentNow c j s = has_flight s.flight ≡ true → WasSent c j s

moved_on : (c : ℕ) (h : List Entry) (e : Entry) (s t : Client) → t.number ≡ s.number → t.source ≡ s.source → (has_flight t.flight ≡ true → has_flight s.flight ≡ true) → IsSentNow c h s → IsSentNow c (h ++ e ∷ []) t
moved_on c h e s t number source from was flies =
    let w = was (from flies) in
    record { t = w.t; u = w.u; known = update_stays h (e ∷ []) w.t w.u w.known; own = w.own; number_is = w.number_is ∙ sym number; source_is = w.source_is ∙ sym source }

module _ (c : ℕ) (h : List Entry) (e : Entry) (legal : IsLegal h) (may : IsAllowed h e.seat e.act) (was : IsSentNow c h (client c h)) where
  after : (a : Act) (t : Client) → e.act ≡ a → client_by c h a (client c h) ≡ t → IsSentNow c (h ++ e ∷ []) t → IsSentNow c (h ++ e ∷ []) (client c (h ++ e ∷ []))
  after a t is by now = subst (IsSentNow c (h ++ e ∷ [])) (sym (client-push c h e ∙ ap (λ b. client_by c h b (client c h)) is ∙ by)) now

  sends_now : (u : Update) → e.act ≡ Sent u → u.client ≡ Some c → IsSentNow c (h ++ e ∷ []) (sent_by (client c h) (client c h).flight)
  sends_now u is own flies = by (client c h) (sent_by_client h e legal may (world h legal) c u (ap update_of is) own).1
    where
      at : update_at (h ++ e ∷ []) (length h) ≡ Some u
      at = ap update_in (seam h e []) ∙ ap update_of is

      by : (s : Client) → IsSent c s (clock h) u → WasSent c (h ++ e ∷ []) (sent_by s s.flight)
      by s (Fresh none u_is) = subst (λ f. WasSent c (h ++ e ∷ []) (sent_by s f)) (sym none)
          (record { t = length h; u = u; known = at; own = own; number_is = ap (λ (x : Update). x.number) u_is; source_is = ap (λ (x : Update). x.source) u_is })
      by s (Again g some u_is) = subst (λ f. WasSent c (h ++ e ∷ []) (sent_by s f)) (sym some)
          (record { t = length h; u = u; known = at; own = own; number_is = ap (λ (x : Update). x.number) u_is; source_is = ap (λ (x : Update). x.source) u_is })

  own : Own c e.act → returns_not e.act ≡ true → IsSentNow c (h ++ e ∷ []) (client c (h ++ e ∷ []))
  own (Joins doc user track None source v is) first =
      after (JoinedAct c doc user track None source v) (joined_by (client c h) h doc user track None source v) is
      (if_true (eqb c c) (joined_by (client c h) h doc user track None source v) (client c h) (eq-eqb c c refl)) (λ flies. absurd (true≢false (sym flies)))
  own (Joins doc user track (Some n) source v is) first = absurd (true≢false (sym (sym (ap returns_not is) ∙ first)))
  own (Edits comp is) first =
      after (Edited c comp) (edited_by (client c h) comp) is (if_true (eqb c c) (edited_by (client c h) comp) (client c h) (eq-eqb c c refl))
      (moved_on c h e (client c h) (edited_by (client c h) comp) refl refl (λ f. f) was)
  own (Sends u is mine) first =
      after (Sent u) (sent_by (client c h) (client c h).flight) is
      (if_true (is_of c u.client) (sent_by (client c h) (client c h).flight) (client c h) (ap (is_of c) mine ∙ eq-eqb c c refl)) (sends_now u is mine)
  own (Gets brief is) first =
      after (Got c brief) (got_by (client c h) (mail c h)) is (if_true (eqb c c) (got_by (client c h) (mail c h)) (client c h) (eq-eqb c c refl)) (got (mail c h))
    where
      got : (ms : List Msg) → IsSentNow c (h ++ e ∷ []) (got_by (client c h) ms)
      got [] = moved_on c h e (client c h) (client c h) refl refl (λ f. f) was
      got (m ∷ ms) =
          let l : Leaving (client c h) (delivered (client c h) m) = leaving (client c h) m in
          moved_on c h e (client c h) (delivered (client c h) m) l.number_is l.source_is l.flight_from was
  own (Leaves is) first =
      after (LeftAct c) (left_by (client c h)) is (if_true (eqb c c) (left_by (client c h)) (client c h) (eq-eqb c c refl)) (leave (is_alive (client c h).state))
    where
      leave : (b : Bool) → IsSentNow c (h ++ e ∷ []) (if b then record (client c h) { state = Left } else client c h)
      leave true = moved_on c h e (client c h) (record (client c h) { state = Left }) refl refl (λ f. f) was
      leave false = moved_on c h e (client c h) (client c h) refl refl (λ f. f) was

  sent_on : returns_not e.act ≡ true → IsSentNow c (h ++ e ∷ []) (client c (h ++ e ∷ []))
  sent_on first = ⊎_elim {C = IsSentNow c (h ++ e ∷ []) (client c (h ++ e ∷ []))}
      (λ a. subst (IsSentNow c (h ++ e ∷ [])) (sym (apart_client c h e a)) (moved_on c h e (client c h) (client c h) refl refl (λ f. f) was))
      (λ o. own o first)
      (apart_or c e.act)

pub sent_now : (c : ℕ) (j : List Entry) → IsLegal j → All (λ e. returns_not e.act ≡ true) j → IsSentNow c j (client c j)
sent_now c j legal first = goes_by (λ e. returns_not e.act ≡ true) (λ h. IsSentNow c h (client c h)) (λ h e legal may is was. sent_on c h e legal may was is) j [] first legal
    (λ flies. absurd (true≢false (sym (sym (ap (λ (s : Client). has_flight s.flight) (client-none c)) ∙ flies))))

pub lands : (c : ℕ) (j : List Entry) → IsLegal j → All (λ e. returns_not e.act ≡ true) j → (client c j).state ≡ Joined → mail c j ≡ [] → AreAnswered c j → (client c j).flight ≡ None
lands c j legal first st none answered = go (client c j).flight refl
  where
    go : (f : Option (List Comp)) → (client c j).flight ≡ f → f ≡ None
    go None is = refl
    go (Some f) is = let flies : has_flight (client c j).flight ≡ true = ap has_flight is in absurd (not_sent_now c j legal st none answered flies (sent_now c j legal first flies))
