-- A client that never joined is away.
use Rattle.std.proofs.Common.{◌≡◌, ℕ, ◌≤◌, List, [], ◌∷◌, ◌++◌, true, false, refl, sym, ap, ◌∙◌, subst, ⊎_elim, arith, eqb, eq-eqb, append-nil, append_assoc, All}
use Rattle.std.specs.Prelude.{Option, Some, None, nat_lt}
use Rattle.std.proofs.lemmas.Bool.Decides.{nat_tests}
use Rattle.ot_op.specs.declared.comp.Comp.{Comp}
use Rattle.journal_entries.specs.declared.message.Msg.{Msg}
use Rattle.journal_entries.specs.declared.act.Act.{Act}
use Rattle.journal_entries.specs.declared.act.Act.TheVariants.{Edited, Sent, Got, Left as LeftAct}
use Rattle.journal_entries.specs.declared.act.Entry.{Entry}
use Rattle.journal_rules.specs.declared.state.ClientState.TheVariants.{Away, Joined, Left}
use Rattle.journal_rules.specs.Mail.{mail}
use Rattle.journal_rules.specs.Client.{Client, client, client_by, edited_by, sent_by, got_by, left_by, given, is_alive, is_of}
use Rattle.journal_rules.proofs.Pushing.{client-push, client-none}
use Rattle.journal_laws.proofs.ClientsOn.{if_true, if_false}
use Rattle.ending_rules.specs.Rounds.{AreClients, joins_below}
use Rattle.ending_rules.proofs.Apart.{Own, Joins, Edits, Sends, Gets, Leaves, apart_or, apart_client, all_first, all_later}

away_on : (n c : ℕ) (h : List Entry) (e : Entry) → n ≤ c → joins_below n e.act ≡ true → (client c h).state ≡ Away → (client c (h ++ e ∷ [])).state ≡ Away
away_on n c h e le below away = ⊎_elim {C = (client c (h ++ e ∷ [])).state ≡ Away} (λ a. ap (λ (s : Client). s.state) (apart_client c h e a) ∙ away) own (apart_or c e.act)
  where
    dead : is_alive (client c h).state ≡ false
    dead = ap is_alive away

    after : (a : Act) (t : Client) → e.act ≡ a → client_by c h a (client c h) ≡ t → t.state ≡ Away → (client c (h ++ e ∷ [])).state ≡ Away
    after a t is by st = ap (λ (s : Client). s.state) (client-push c h e ∙ ap (λ b. client_by c h b (client c h)) is ∙ by) ∙ st

    sent : (f : Option (List Comp)) → (sent_by (client c h) f).state ≡ Away
    sent None = away
    sent (Some f) = away

    got : (ms : List Msg) → (got_by (client c h) ms).state ≡ Away
    got [] = away
    got (m ∷ ms) = ap (λ (s : Client). s.state) (if_false (is_alive (client c h).state) (given (client c h) m) (client c h) dead) ∙ away

    too_high : nat_lt c n ≡ true → ⊥
    too_high lt = grind (arith, nat_tests)

    own : Own c e.act → (client c (h ++ e ∷ [])).state ≡ Away
    own (Joins doc user track since source v is) = absurd (too_high (ap (joins_below n) (sym is) ∙ below))
    own (Edits comp is) = after (Edited c comp) (edited_by (client c h) comp) is (if_true (eqb c c) (edited_by (client c h) comp) (client c h) (eq-eqb c c refl)) away
    own (Sends u is mine) =
        after (Sent u) (sent_by (client c h) (client c h).flight) is
        (if_true (is_of c u.client) (sent_by (client c h) (client c h).flight) (client c h) (ap (is_of c) mine ∙ eq-eqb c c refl)) (sent (client c h).flight)
    own (Gets brief is) = after (Got c brief) (got_by (client c h) (mail c h)) is (if_true (eqb c c) (got_by (client c h) (mail c h)) (client c h) (eq-eqb c c refl)) (got (mail c h))
    own (Leaves is) =
        after (LeftAct c) (left_by (client c h)) is (if_true (eqb c c) (left_by (client c h)) (client c h) (eq-eqb c c refl))
        (ap (λ (s : Client). s.state) (if_false (is_alive (client c h).state) (record (client c h) { state = Left }) (client c h) dead) ∙ away)

stays_away : (n c : ℕ) (es h : List Entry) → n ≤ c → All (λ e. joins_below n e.act ≡ true) es → (client c h).state ≡ Away → (client c (h ++ es)).state ≡ Away
stays_away n c [] h le all away = subst (λ (j : List Entry). (client c j).state ≡ Away) (sym (append-nil h)) away
stays_away n c (e ∷ es) h le all away =
    let Q : Entry → Type 0 = λ e. joins_below n e.act ≡ true in
    subst (λ (j : List Entry). (client c j).state ≡ Away) (append_assoc h (e ∷ []) es)
    (stays_away n c es (h ++ e ∷ []) le (all_later Q e es all) (away_on n c h e le (all_first Q e es all) away))

pub below_clients : (n : ℕ) (j : List Entry) → All (λ e. joins_below n e.act ≡ true) j → AreClients n j
below_clients n j all c le joined =
    let away : (client c j).state ≡ Away = stays_away n c j [] le all (ap (λ (s : Client). s.state) (client-none c)) in
    let f : Away ≡ Joined = sym away ∙ joined in
    cc
