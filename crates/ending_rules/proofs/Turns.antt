-- A client's turn takes it one stage on, and leaves the other clients where they are.
use Rattle.std.proofs.Common.{◌≡◌, ◌≢◌, ℕ, ◌+◌, List, [], ◌∷◌, ◌++◌, length, true, refl, sym, ap, ◌∙◌, subst, inl, inr, ⊎_elim, eq-eqb, append-nil, append_assoc, All}
use Rattle.std.specs.Prelude.{Option, Some, None}
use Rattle.std.proofs.lemmas.List.Elements.{All-append}
use Rattle.ot_op.specs.declared.comp.Comp.{Comp}
use Rattle.journal_entries.specs.declared.update.Update.{Update}
use Rattle.journal_entries.specs.declared.message.Brief.{Brief}
use Rattle.journal_entries.specs.declared.act.Act.{Act}
use Rattle.journal_entries.specs.declared.act.Act.TheVariants.{Sent, Got}
use Rattle.journal_entries.specs.declared.act.Entry.{Entry}
use Rattle.journal_rules.specs.declared.state.ClientState.{ClientState}
use Rattle.journal_rules.specs.declared.state.ClientState.TheVariants.{Away, Joined, Left, Stale}
use Rattle.journal_rules.specs.Documents.{update_of, update_in, ticket_of, sends, waiting}
use Rattle.journal_rules.specs.Locks.{clock}
use Rattle.journal_rules.specs.Mail.{outbox_by, outbox, mail_in, mail}
use Rattle.journal_rules.specs.Client.{Client, client, client_by, has_flight, is_of, sent_by, sending, sends_by, sends_flight, update_from}
use Rattle.journal_rules.specs.Legal.{IsLegal}
use Rattle.journal_rules.proofs.Pushing.{client-push, outbox-push}
use Rattle.journal_rules.proofs.Legality.{legal_front, seam}
use Rattle.journal_rules.proofs.Waits.{all_map, all_none, all_one, one_if, committed_below, waiting-more}
use Rattle.journal_rules.proofs.Lists.{some_same}
use Rattle.journal_laws.proofs.Updates.{Sends, Fresh, Again, sending_is}
use Rattle.journal_laws.proofs.ClientsOn.{if_true}
use Rattle.ending_rules.proofs.Shapes.{is_got_by, IsSentOnce, HasItsTurn}
use Rattle.ending_rules.proofs.Apart.{Apart, goes_by, got_apart, sent_apart, got_is}
use Rattle.ending_rules.proofs.Stages.{Stage, NoTurn, OneTurn, TwoTurns, ThreeTurns, after, WasSent, MayFly, StageOf, StageAt, AllAnswered, answered_stay, stage_got, all_refused, not_sent_now}

-- ---- what another client's entry in its turn leaves
pub record Bystands (c : ℕ) (a : Act) : Type 0 where
  pub apart : Apart c a
  pub commits_not : ticket_of a ≡ []

pub mail_bystands : (c : ℕ) (h : List Entry) (e : Entry) → Bystands c e.act → mail c (h ++ e ∷ []) ≡ mail c h
mail_bystands c h e b = ap mail_in (outbox-push c h e ∙ b.apart.quiet h (outbox c h) b.commits_not)

client_of : (n : ℕ) (s : Client) (now : ℕ) (u : Update) → sending n s now ≡ Some u → u.client ≡ Some n
client_of n s now u e = by (sending_is n s now u e).1
  where
    by : Sends n s now u → u.client ≡ Some n
    by (Fresh f is) = ap (λ (x : Update). x.client) is
    by (Again g f is) = ap (λ (x : Update). x.client) is

-- the entries of one client's turn are nothing to another
pub turn_bystands : (c n : ℕ) (before es : List Entry) → n ≢ c → HasItsTurn n before es → All (λ e. Bystands c e.act) es
turn_bystands c n before es apart turn = subst (λ (l : List Entry). All (λ e. Bystands c e.act) l) (sym turn.cut)
    (All-append (λ (e : Entry). Bystands c e.act) turn.gets turn.sends
    (all_map (λ (e : Entry). is_got_by n e.act ≡ true) (λ (e : Entry). Bystands c e.act) turn.gets (λ e g. get e (got_is n e.act g)) turn.only)
    (sent (sending n (client n (before ++ turn.gets)) (clock (before ++ turn.gets))) refl turn.sends turn.sends_is))
  where
    get : (e : Entry) → (brief : Brief) × (e.act ≡ Got n brief) → Bystands c e.act
    get e g = subst (Bystands c) (sym g.1) (record { apart = got_apart c n g.0 apart; commits_not = refl })

    sent : (o : Option Update) → sending n (client n (before ++ turn.gets)) (clock (before ++ turn.gets)) ≡ o → (es : List Entry) → IsSentOnce o es → All (λ e. Bystands c e.act) es
    sent None is es none = subst (λ (l : List Entry). All (λ e. Bystands c e.act) l) (sym none) (all_none (λ (e : Entry). Bystands c e.act))
    sent (Some u) is es one =
        let mine : u.client ≡ Some n = client_of n (client n (before ++ turn.gets)) (clock (before ++ turn.gets)) u is in
        let b : Bystands c one.0.act = subst (Bystands c) (sym one.2) (record { apart = sent_apart c u (λ own. apart (some_same n c (sym mine ∙ own))); commits_not = refl }) in
        subst (λ (l : List Entry). All (λ e. Bystands c e.act) l) (sym one.1) (all_one (λ (e : Entry). Bystands c e.act) one.0 b)

-- ---- the client's own turn: it gets its mail
pub gets_on : (k : Stage) (c : ℕ) (h gets : List Entry) → IsLegal (h ++ gets) → All (λ e. is_got_by c e.act ≡ true) gets → StageAt k c h → AllAnswered c h → StageAt k c (h ++ gets) × AllAnswered c (h ++ gets)
gets_on k c h gets legal only at answered =
    goes_by (λ e. is_got_by c e.act ≡ true) (λ j. StageAt k c j × AllAnswered c j)
    (λ h e legal may got both.
    let g = got_is c e.act got in
    (stage_got k c h e g.0 legal may g.1 both.0, answered_stay c h e may (λ u sent mine. (let f : None ≡ Some u = sym (ap update_of g.1) ∙ sent in cc)) both.1))
    gets h only legal (at, answered)

-- ---- and then sends what it has to send
pub record Turned (k : Stage) (c : ℕ) (j es : List Entry) : Type 0 where
  pub stage : StageAt (after k) c j
  pub no_mail : mail c j ≡ []
  pub silent : k ≡ TwoTurns → es ≡ []

module _ (c : ℕ) (h : List Entry) (legal : IsLegal h) (none : mail c h ≡ []) (answered : AllAnswered c h) where
  module _ (k : Stage) (going : k ≢ ThreeTurns) (at : StageAt k c h) where
    nothing_sent : (es : List Entry) → es ≡ [] → StageAt (after k) c h → Turned k c (h ++ es) es
    nothing_sent es is stage =
        let same : h ++ es ≡ h = ap (λ l. h ++ l) is ∙ append-nil h in
        record { stage = subst (StageAt (after k) c) (sym same) stage; no_mail = ap (mail c) same ∙ none; silent = λ two. is }

    is_away : (es : List Entry) → ((client c h).state ≡ Joined → ⊥) → es ≡ [] → Turned k c (h ++ es) es
    is_away es not_joined is = nothing_sent es is (λ st. absurd (not_joined st))

    mail_sent : (e : Entry) (u : Update) → e.act ≡ Sent u → mail c (h ++ e ∷ []) ≡ []
    mail_sent e u is = ap mail_in (outbox-push c h e ∙ ap (λ a. outbox_by c h a (outbox c h)) is) ∙ none

    client_sent : (e : Entry) (u : Update) → e.act ≡ Sent u → u.client ≡ Some c → (f : Option (List Comp)) → (client c h).flight ≡ f → client c (h ++ e ∷ []) ≡ sent_by (client c h) f
    client_sent e u is own f f_is =
        client-push c h e ∙ ap (λ a. client_by c h a (client c h)) is
        ∙ if_true (is_of c u.client) (sent_by (client c h) (client c h).flight) (client c h) (ap (is_of c) own ∙ eq-eqb c c refl)
        ∙ ap (sent_by (client c h)) f_is

    -- the update that was just sent is one under the client's number and source
    just_sent : (e : Entry) (u : Update) (t : Client) → e.act ≡ Sent u → u.client ≡ Some c → u.number ≡ t.number → u.source ≡ t.source → WasSent c (h ++ e ∷ []) t
    just_sent e u t is own number source = record { t = length h; u = u; known = ap update_in (seam h e []) ∙ ap update_of is; own = own; number_is = number; source_is = source }

    sent_on : (es : List Entry) (e : Entry) (u : Update) (t : Client) → es ≡ e ∷ [] → e.act ≡ Sent u → client c (h ++ e ∷ []) ≡ t → StageOf (after k) c (h ++ e ∷ []) t → (k ≡ TwoTurns → ⊥) → Turned k c (h ++ es) es
    sent_on es e u t cut is t_is stage not_two =
        let at_end : StageAt (after k) c (h ++ e ∷ []) = λ st. subst (StageOf (after k) c (h ++ e ∷ [])) (sym t_is) stage in
        subst (λ (l : List Entry). Turned k c (h ++ l) l) (sym cut) (record { stage = at_end; no_mail = mail_sent e u is; silent = λ two. absurd (not_two two) })

    flown_again : (st : (client c h).state ≡ Joined) → has_flight (client c h).flight ≡ true → WasSent c h (client c h) → ⊥
    flown_again st flies w = not_sent_now c h legal st none answered flies w

    pub by_parts : (client c h).state ≡ Joined → (f : Option (List Comp)) (p : List Comp) → (client c h).flight ≡ f → (client c h).pending ≡ p → (es : List Entry) → IsSentOnce (sends_flight c (client c h) (clock h) f p) es → Turned k c (h ++ es) es
    by_parts st None [] f_is p_is es is = nothing_sent es is (λ st. inl (f_is, p_is))
    by_parts st None (p ∷ ps) f_is p_is es is =
        let u : Update = update_from c (client c h) (clock h) ((client c h).number + 1) (p ∷ ps) [] in
        let t : Client = sent_by (client c h) None in
        let w : WasSent c (h ++ is.0 ∷ []) t = just_sent is.0 u t is.2 refl refl refl in
        by k refl (at st) (client_sent is.0 u is.2 refl None f_is) w
      where
        by : (l : Stage) → k ≡ l → StageOf k c h (client c h) → client c (h ++ is.0 ∷ []) ≡ sent_by (client c h) None → WasSent c (h ++ is.0 ∷ []) (sent_by (client c h) None) → Turned k c (h ++ es) es
        by NoTurn l_is x t_is w = sent_on es is.0 (update_from c (client c h) (clock h) ((client c h).number + 1) (p ∷ ps) []) (sent_by (client c h) None) is.1 is.2 t_is
            (subst (λ l. StageOf (after l) c (h ++ is.0 ∷ []) (sent_by (client c h) None)) (sym l_is) (inr (inr w))) (λ two. let q : NoTurn ≡ TwoTurns = sym l_is ∙ two in absurd (cc))
        by OneTurn l_is x t_is w = sent_on es is.0 (update_from c (client c h) (clock h) ((client c h).number + 1) (p ∷ ps) []) (sent_by (client c h) None) is.1 is.2 t_is
            (subst (λ l. StageOf (after l) c (h ++ is.0 ∷ []) (sent_by (client c h) None)) (sym l_is) (inr (inr (w, refl)))) (λ two. let q : OneTurn ≡ TwoTurns = sym l_is ∙ two in absurd (cc))
        by TwoTurns l_is x t_is w = absurd (⊎_elim {C = ⊥}
            (λ silent. let q : [] ≡ p ∷ ps = sym silent.1 ∙ p_is in cc)
            (λ r. ⊎_elim {C = ⊥} (λ void. let q : Some [] ≡ None = sym void.0 ∙ f_is in cc) (λ m. let q : [] ≡ p ∷ ps = sym m.1 ∙ p_is in cc) r)
            (subst (λ l. StageOf l c h (client c h)) l_is x))
        by ThreeTurns l_is x t_is w = absurd (going l_is)
    by_parts st (Some []) p f_is p_is es is = nothing_sent es is (λ st. inr (inl (f_is, all_refused c h legal st none answered (ap has_flight f_is))))
    by_parts st (Some (f ∷ fs)) p f_is p_is es is =
        let u : Update = update_from c (client c h) (clock h) (client c h).number (f ∷ fs) (client c h).sources in
        let t : Client = sent_by (client c h) (Some (f ∷ fs)) in
        let w : WasSent c (h ++ is.0 ∷ []) t = just_sent is.0 u t is.2 refl refl refl in
        by k refl (at st) (client_sent is.0 u is.2 refl (Some (f ∷ fs)) f_is) w
      where
        grounded : (l : Stage) → (MayFly l c h (client c h) → WasSent c h (client c h)) → StageOf l c h (client c h) → ⊥
        grounded l sent x = ⊎_elim {C = ⊥}
            (λ silent. let q : None ≡ Some (f ∷ fs) = sym silent.0 ∙ f_is in cc)
            (λ r. ⊎_elim {C = ⊥}
            (λ void. let q : Some [] ≡ Some (f ∷ fs) = sym void.0 ∙ f_is in let z : [] ≡ f ∷ fs = some_same [] (f ∷ fs) q in cc)
            (λ m. flown_again st (ap has_flight f_is) (sent m)) r)
            x

        by : (l : Stage) → k ≡ l → StageOf k c h (client c h) → client c (h ++ is.0 ∷ []) ≡ sent_by (client c h) (Some (f ∷ fs)) → WasSent c (h ++ is.0 ∷ []) (sent_by (client c h) (Some (f ∷ fs))) → Turned k c (h ++ es) es
        by NoTurn l_is x t_is w = sent_on es is.0 (update_from c (client c h) (clock h) (client c h).number (f ∷ fs) (client c h).sources) (sent_by (client c h) (Some (f ∷ fs))) is.1 is.2 t_is
            (subst (λ l. StageOf (after l) c (h ++ is.0 ∷ []) (sent_by (client c h) (Some (f ∷ fs)))) (sym l_is) (inr (inr w))) (λ two. let q : NoTurn ≡ TwoTurns = sym l_is ∙ two in absurd (cc))
        by OneTurn l_is x t_is w = absurd (grounded OneTurn (λ m. m) (subst (λ l. StageOf l c h (client c h)) l_is x))
        by TwoTurns l_is x t_is w = absurd (grounded TwoTurns (λ m. m.0) (subst (λ l. StageOf l c h (client c h)) l_is x))
        by ThreeTurns l_is x t_is w = absurd (going l_is)

    pub tail_on : (es : List Entry) → IsSentOnce (sending c (client c h) (clock h)) es → Turned k c (h ++ es) es
    tail_on es = by_state (client c h).state refl
      where
        by_state : (st : ClientState) → (client c h).state ≡ st → IsSentOnce (sends_by c (client c h) (clock h) st) es → Turned k c (h ++ es) es
        by_state Joined st_is is = by_parts st_is (client c h).flight (client c h).pending refl refl es is
        by_state Away st_is is = is_away es (λ st. let f : Away ≡ Joined = sym st_is ∙ st in cc) is
        by_state Left st_is is = is_away es (λ st. let f : Left ≡ Joined = sym st_is ∙ st in cc) is
        by_state Stale st_is is = is_away es (λ st. let f : Stale ≡ Joined = sym st_is ∙ st in cc) is

-- the whole turn
pub turn_on : (k : Stage) (c : ℕ) (h es : List Entry) → k ≢ ThreeTurns → IsLegal (h ++ es) → HasItsTurn c h es → StageAt k c h → AllAnswered c h → StageAt (after k) c (h ++ es) × (mail c (h ++ es) ≡ []) × (k ≡ TwoTurns → All (λ e. is_got_by c e.act ≡ true) es)
turn_on k c h es going legal turn at answered =
    let again : (h ++ turn.gets) ++ turn.sends ≡ h ++ es = append_assoc h turn.gets turn.sends ∙ ap (λ l. h ++ l) (sym turn.cut) in
    let front : IsLegal (h ++ turn.gets) = legal_front (h ++ turn.gets) turn.sends (subst IsLegal (sym again) legal) in
    let got = gets_on k c h turn.gets front turn.only at answered in
    let out : Turned k c ((h ++ turn.gets) ++ turn.sends) turn.sends = tail_on c (h ++ turn.gets) front turn.emptied got.1 k going got.0 turn.sends turn.sends_is in (
      subst (StageAt (after k) c) again out.stage,
      ap (mail c) (sym again) ∙ out.no_mail,
      λ two. subst (λ (l : List Entry). All (λ e. is_got_by c e.act ≡ true) l) (sym (append-nil turn.gets) ∙ ap (λ l. turn.gets ++ l) (sym (out.silent two)) ∙ sym turn.cut) turn.only,
    )

-- what waits stays where a client gets its mail
pub gets_wait : (c d : ℕ) (h es : List Entry) → IsLegal (h ++ es) → All (λ e. is_got_by c e.act ≡ true) es → waiting d (h ++ es) ≡ waiting d h
gets_wait c d h es legal only = goes_by (λ e. is_got_by c e.act ≡ true) (λ j. waiting d j ≡ waiting d h)
    (λ j e legal may got same.
    let g = got_is c e.act got in
    waiting-more d j e (committed_below j legal) (ap ticket_of g.1) ∙ ap (λ b. waiting d j ++ one_if b (length j)) (ap (sends d) g.1) ∙ append-nil (waiting d j) ∙ same)
    es h only legal refl
