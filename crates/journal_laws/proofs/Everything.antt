-- The induction: what is true of every legal journal.
use Rattle.std.proofs.Common.{◌≡◌, ◌≢◌, ℕ, ◌≤◌, List, [], ◌∷◌, ◌++◌, Bool, true, false, true≢false, refl, sym, ap, ◌∙◌, subst, ⊎_elim, arith, eqb, eq-eqb, ne_eqb, drop}
use Rattle.std.specs.Prelude.{Option, Some, None, if◌then◌else◌, option_map, is_some}
use Rattle.std.proofs.lemmas.Bool.{eqb-true}
use native.Mathlib.Decide.{ℕ_discrete}
use Rattle.ot_op.specs.declared.comp.Comp.{Comp}
use Rattle.ot_op.specs.Apply.{applied}
use Rattle.journal_entries.specs.declared.update.Update.{Update}
use Rattle.journal_entries.specs.declared.message.Msg.{Msg}
use Rattle.journal_entries.specs.declared.message.Brief.{Brief}
use Rattle.journal_entries.specs.declared.act.Act.{Act}
use Rattle.journal_entries.specs.declared.act.Act.TheVariants.{Joined as JoinedAct, Edited, Sent, Got, Left as LeftAct, Committed}
use Rattle.journal_entries.specs.declared.act.Entry.{Entry}
use Rattle.journal_rules.specs.declared.state.ClientState.TheVariants.{Joined, Left}
use Rattle.journal_rules.specs.Documents.{Item, items_by, update_of, update_at}
use Rattle.journal_rules.specs.Mail.{Outbox, outbox_by, outbox, one_got, mail_in, mail}
use Rattle.journal_rules.specs.Client.{Client, client, client_by, sent_by, is_alive, is_of, given, delivered, joined_by, edited_by, got_by, left_by}
use Rattle.journal_rules.specs.Legal.{IsAllowed, IsLegal}
use Rattle.journal_rules.proofs.Pushing.{client-push, outbox-push, client-none, applied_list-none}
use Rattle.journal_rules.proofs.Legality.{Keeps, by_last}
use Rattle.journal_rules.proofs.Lists.{Each}
use Rattle.journal_laws.proofs.Alive.{IsItem, start, start_by, start-push, start-none}
use Rattle.journal_rules.specs.Locks.{clock}
use Rattle.journal_laws.proofs.Updates.{Sends}
use Rattle.journal_laws.proofs.Mailing.{Delivers}
use Rattle.journal_laws.proofs.World.{IsWell, World, sent_by_client, joined_alive, owned_on, started_on, unmade_on, counted_on, paired_on, is_of_same}
use Rattle.journal_laws.proofs.ItemsOn.{items_on}
use Rattle.journal_laws.proofs.ClientsOn.{alive_states, if_true, if_false, untouched, committed_well, typed_well, left_well, got_well, delivered_is, delivered_alive}
use Rattle.journal_laws.proofs.Joins.{sent_well, anew_well, back_well}

is_of_true : (c : ℕ) (o : Option ℕ) → is_of c o ≡ true → o ≡ Some c
is_of_true c None e = absurd (true≢false (sym e))
is_of_true c (Some k) e = ap (λ (n : ℕ). Some n) (eqb-true k c e)

module _ (h : List Entry) (e : Entry) (legal : IsLegal h) (may : IsAllowed h e.seat e.act) (w : World h) (c : ℕ) where
  -- an act that is nothing of the client's own
  other : (s : Client) (a : Act) → e.act ≡ a → (is_alive s.state ≡ true → IsWell c h s) → ((u : Update) → update_of a ≡ Some u → u.client ≡ Some c → ⊥) → ((n : ℕ) → start_by c a n ≡ n) → ((d : ℕ) → items_by d h a ≡ []) → ((r : Option Outbox) → outbox_by c h a r ≡ r)
      → client_by c h a s ≡ s → is_alive (client_by c h a s).state ≡ true → IsWell c (h ++ e ∷ []) (client_by c h a s)
  other s a is x unsent st nothing quiet same alive =
      let lives : is_alive s.state ≡ true = sym (ap (λ (t : Client). is_alive t.state) same) ∙ alive in
      subst (IsWell c (h ++ e ∷ [])) (sym same) (untouched h e legal may w c s (x lives)
      (λ u sent own. unsent u (sym (ap update_of is) ∙ sent) own)
      (ap (λ b. start_by c b (start c h)) is ∙ st (start c h))
      (ap (items_by s.doc h) is ∙ nothing s.doc)
      (ap (λ b. outbox_by c h b (outbox c h)) is ∙ quiet (outbox c h)))

  of_none : (a : Act) → update_of a ≡ None → (u : Update) → update_of a ≡ Some u → u.client ≡ Some c → ⊥
  of_none a none u sent own = let f : None ≡ Some u = sym none ∙ sent in cc

  joins : (s : Client) → s ≡ client c h → (client doc : ℕ) (user : List ℕ) (track : Bool) (since : Option ℕ) (source v : ℕ) → e.act ≡ JoinedAct client doc user track since source v
      → is_alive (client_by c h (JoinedAct client doc user track since source v) s).state ≡ true → IsWell c (h ++ e ∷ []) (client_by c h (JoinedAct client doc user track since source v) s)
  joins s s_is client doc user track since source v is alive = go (ℕ_discrete client c)
    where
      mine : client ≡ c → (since' : Option ℕ) → since ≡ since' → e.act ≡ JoinedAct c doc user track since' source v → is_alive (joined_by s h doc user track since' source v).state ≡ true → IsWell c (h ++ e ∷ []) (joined_by s h doc user track since' source v)
      mine same None none here a =
          let row : IsAllowed h e.seat (JoinedAct c doc user track None source v) = subst (λ b. IsAllowed h e.seat b) here may in
          let new : outbox c (h ++ e ∷ []) ≡ Some (record { doc = doc; source = source; posted = []; got = 0 }) =
          outbox-push c h e ∙ ap (λ b. outbox_by c h b (outbox c h)) here ∙ if_true (eqb c c) (Some (record { doc = doc; source = source; posted = []; got = 0 })) (outbox c h) (eq-eqb c c refl) in
          let starts : start c (h ++ e ∷ []) ≡ source = start-push c h e ∙ ap (λ b. start_by c b (start c h)) here ∙ if_true (eqb c c) source (start c h) (eq-eqb c c refl) in
          anew_well h e legal may w c (λ d. ap (items_by d h) here) doc user track source v None here row.source_is row.v_is new row.made starts s
      mine same (Some n) some_n here a =
          let row : IsAllowed h e.seat (JoinedAct c doc user track (Some n) source v) = subst (λ b. IsAllowed h e.seat b) here may in
          let new : outbox c (h ++ e ∷ []) ≡ Some (record { doc = doc; source = source; posted = []; got = 0 }) =
          outbox-push c h e ∙ ap (λ b. outbox_by c h b (outbox c h)) here ∙ if_true (eqb c c) (Some (record { doc = doc; source = source; posted = []; got = 0 })) (outbox c h) (eq-eqb c c refl) in
          let st : s.state ≡ Left = ap (λ (t : Client). t.state) s_is ∙ row.left in
          let x : IsWell c h s = subst (IsWell c h) (sym s_is) (w.clients c (sym (ap (λ (t : Client). is_alive t.state) s_is) ∙ ap is_alive st)) in
          back_well h e legal may w c (λ d. ap (items_by d h) here) doc user track source v (Some n) here row.source_is row.v_is new s x n
          (ap (λ (t : Client). t.version) s_is ∙ row.since_is) (ap (λ (t : Client). t.doc) s_is ∙ row.doc_is) (ap (λ b. start_by c b (start c h)) here) a

      start_other : (client ≢ c) → (since : Option ℕ) → (n : ℕ) → start_by c (JoinedAct client doc user track since source v) n ≡ n
      start_other apart None n = if_false (eqb client c) source n (ne_eqb client c apart)
      start_other apart (Some m) n = refl

      go : Dec (client ≡ c) → IsWell c (h ++ e ∷ []) (client_by c h (JoinedAct client doc user track since source v) s)
      go (yes same) =
          let own : client_by c h (JoinedAct client doc user track since source v) s ≡ joined_by s h doc user track since source v = if_true (eqb client c) (joined_by s h doc user track since source v) s (eq-eqb client c same) in
          subst (IsWell c (h ++ e ∷ [])) (sym own) (mine same since refl (is ∙ ap (λ n. JoinedAct n doc user track since source v) same) (sym (ap (λ (t : Client). is_alive t.state) own) ∙ alive))
      go (no apart) =
          other s (JoinedAct client doc user track since source v) is (λ l. subst (IsWell c h) (sym s_is) (w.clients c (sym (ap (λ (t : Client). is_alive t.state) s_is) ∙ l)))
          (of_none (JoinedAct client doc user track since source v) refl) (start_other apart since) (λ d. refl)
          (λ r. if_false (eqb client c) (Some (record { doc = doc; source = source; posted = []; got = 0 })) r (ne_eqb client c apart))
          (if_false (eqb client c) (joined_by s h doc user track since source v) s (ne_eqb client c apart)) alive

  types : (s : Client) → s ≡ client c h → (client : ℕ) (comp : Comp) → e.act ≡ Edited client comp → is_alive (client_by c h (Edited client comp) s).state ≡ true → IsWell c (h ++ e ∷ []) (client_by c h (Edited client comp) s)
  types s s_is client comp is alive = go (ℕ_discrete client c)
    where
      x : is_alive s.state ≡ true → IsWell c h s
      x l = subst (IsWell c h) (sym s_is) (w.clients c (sym (ap (λ (t : Client). is_alive t.state) s_is) ∙ l))

      go : Dec (client ≡ c) → IsWell c (h ++ e ∷ []) (client_by c h (Edited client comp) s)
      go (yes same) =
          let here : e.act ≡ Edited c comp = is ∙ ap (λ n. Edited n comp) same in
          let row : IsAllowed h e.seat (Edited c comp) = subst (λ b. IsAllowed h e.seat b) here may in
          let own : client_by c h (Edited client comp) s ≡ edited_by s comp = if_true (eqb client c) (edited_by s comp) s (eq-eqb client c same) in
          subst (IsWell c (h ++ e ∷ [])) (sym own) (typed_well h e legal may w c (λ d. ap (items_by d h) here) s (x (joined_alive s.state (ap (λ (t : Client). t.state) s_is ∙ row.joined))) comp
          (ap (λ (t : Client). is_some (applied t.text comp)) s_is ∙ row.applies)
          (λ u sent mine. of_none (Edited c comp) refl u (sym (ap update_of here) ∙ sent) mine)
          (ap (λ b. start_by c b (start c h)) here) (ap (λ b. outbox_by c h b (outbox c h)) here))
      go (no apart) = other s (Edited client comp) is x (of_none (Edited client comp) refl) (λ n. refl) (λ d. refl) (λ r. refl) (if_false (eqb client c) (edited_by s comp) s (ne_eqb client c apart)) alive

  sends_it : (s : Client) → s ≡ client c h → (u : Update) → e.act ≡ Sent u → is_alive (client_by c h (Sent u) s).state ≡ true → IsWell c (h ++ e ∷ []) (client_by c h (Sent u) s)
  sends_it s s_is u is alive = go (is_of c u.client) refl
    where
      x : is_alive s.state ≡ true → IsWell c h s
      x l = subst (IsWell c h) (sym s_is) (w.clients c (sym (ap (λ (t : Client). is_alive t.state) s_is) ∙ l))

      go : (b : Bool) → is_of c u.client ≡ b → IsWell c (h ++ e ∷ []) (client_by c h (Sent u) s)
      go true yes_it =
          let own : u.client ≡ Some c = is_of_true c u.client yes_it in
          let sent : update_of e.act ≡ Some u = ap update_of is in
          let r = sent_by_client h e legal may w c u sent own in
          let by : client_by c h (Sent u) s ≡ sent_by s s.flight = if_true (is_of c u.client) (sent_by s s.flight) s yes_it in
          subst (IsWell c (h ++ e ∷ [])) (sym by) (sent_well h e legal may w c (λ d. ap (items_by d h) is) s (x (joined_alive s.state (ap (λ (t : Client). t.state) s_is ∙ r.0))) u sent own
          (start-push c h e ∙ ap (λ b. start_by c b (start c h)) is) (outbox-push c h e ∙ ap (λ b. outbox_by c h b (outbox c h)) is)
          (λ t v at mine. subst (λ (z : Client). v.number ≤ z.number) (sym s_is) (w.counted c t v at mine).0)
          (subst (λ (z : Client). Sends c z (clock h) u) (sym s_is) r.1))
      go false not_it =
          other s (Sent u) is x
          (λ v sent mine. let same : u ≡ v = cc in true≢false (sym (is_of_same c u.client (ap (λ (y : Update). y.client) same ∙ mine)) ∙ not_it))
          (λ n. refl) (λ d. refl) (λ r. refl) (if_false (is_of c u.client) (sent_by s s.flight) s not_it) alive

  gets : (s : Client) → s ≡ client c h → (client : ℕ) (brief : Brief) → e.act ≡ Got client brief → is_alive (client_by c h (Got client brief) s).state ≡ true → IsWell c (h ++ e ∷ []) (client_by c h (Got client brief) s)
  gets s s_is client brief is alive = go (ℕ_discrete client c)
    where
      x : is_alive s.state ≡ true → IsWell c h s
      x l = subst (IsWell c h) (sym s_is) (w.clients c (sym (ap (λ (t : Client). is_alive t.state) s_is) ∙ l))

      go : Dec (client ≡ c) → IsWell c (h ++ e ∷ []) (client_by c h (Got client brief) s)
      go (yes same) =
          let here : e.act ≡ Got c brief = is ∙ ap (λ n. Got n brief) same in
          let row : IsAllowed h e.seat (Got c brief) = subst (λ b. IsAllowed h e.seat b) here may in
          let own : client_by c h (Got client brief) s ≡ delivered s row.message = if_true (eqb client c) (got_by s (mail c h)) s (eq-eqb client c same) ∙ ap (got_by s) row.first in
          let alive' : is_alive (delivered s row.message).state ≡ true = sym (ap (λ (t : Client). is_alive t.state) own) ∙ alive in
          let lives : is_alive s.state ≡ true = delivered_alive s row.message alive' in
          let by : delivered s row.message ≡ given s row.message = delivered_is s row.message lives in
          let unsent : (u : Update) → update_of e.act ≡ Some u → u.client ≡ Some c → ⊥ = λ u sent mine. of_none (Got c brief) refl u (sym (ap update_of here) ∙ sent) mine in
          let xs : IsWell c h s = x lives in
          subst (IsWell c (h ++ e ∷ [])) (sym (own ∙ by)) (⊎_elim {C = IsWell c (h ++ e ∷ []) (given s row.message)}
          (λ (st : s.state ≡ Joined).
          let p = xs.posted st in
          let first : drop p.place.got p.place.posted ≡ row.message ∷ row.rest = sym (ap mail_in p.place_is) ∙ row.first in
          got_well h e legal may w c (λ d. ap (items_by d h) here) s xs st unsent (ap (λ b. start_by c b (start c h)) here)
          (ap (λ b. outbox_by c h b (outbox c h)) here ∙ if_true (eqb c c) (option_map one_got (outbox c h)) (outbox c h) (eq-eqb c c refl))
          row.message row.rest first (subst (λ (l : List Msg). Delivers s.source s.version xs.ahead l) first p.delivers) (sym (ap (λ (t : Client). is_alive t.state) by) ∙ alive'))
          (λ (st : s.state ≡ Left). let empty : [] ≡ row.message ∷ row.rest = sym (ap mail_in (xs.gone st)) ∙ row.first in absurd (cc))
          (alive_states s.state lives))
      go (no apart) =
          other s (Got client brief) is x (of_none (Got client brief) refl) (λ n. refl) (λ d. refl)
          (λ r. if_false (eqb client c) (option_map one_got r) r (ne_eqb client c apart)) (if_false (eqb client c) (got_by s (mail c h)) s (ne_eqb client c apart)) alive

  leaves : (s : Client) → s ≡ client c h → (client : ℕ) → e.act ≡ LeftAct client → is_alive (client_by c h (LeftAct client) s).state ≡ true → IsWell c (h ++ e ∷ []) (client_by c h (LeftAct client) s)
  leaves s s_is client is alive = go (ℕ_discrete client c)
    where
      x : is_alive s.state ≡ true → IsWell c h s
      x l = subst (IsWell c h) (sym s_is) (w.clients c (sym (ap (λ (t : Client). is_alive t.state) s_is) ∙ l))

      by_life : (b : Bool) → is_alive s.state ≡ b → e.act ≡ LeftAct c → is_alive (if b then record s { state = Left } else s).state ≡ true → IsWell c (h ++ e ∷ []) (if b then record s { state = Left } else s)
      by_life true l here a = left_well h e legal may w c (λ d. ap (items_by d h) here) s (x l) (λ u sent mine. of_none (LeftAct c) refl u (sym (ap update_of here) ∙ sent) mine)
          (ap (λ b. start_by c b (start c h)) here) (ap (λ b. outbox_by c h b (outbox c h)) here ∙ if_true (eqb c c) None (outbox c h) (eq-eqb c c refl))
      by_life false l here a = absurd (true≢false (sym a ∙ l))

      go : Dec (client ≡ c) → IsWell c (h ++ e ∷ []) (client_by c h (LeftAct client) s)
      go (yes same) =
          let own : client_by c h (LeftAct client) s ≡ left_by s = if_true (eqb client c) (left_by s) s (eq-eqb client c same) in
          subst (IsWell c (h ++ e ∷ [])) (sym own) (by_life (is_alive s.state) refl (is ∙ ap (λ n. LeftAct n) same) (sym (ap (λ (t : Client). is_alive t.state) own) ∙ alive))
      go (no apart) =
          other s (LeftAct client) is x (of_none (LeftAct client) refl) (λ n. refl) (λ d. refl)
          (λ r. if_false (eqb client c) None r (ne_eqb client c apart)) (if_false (eqb client c) (left_by s) s (ne_eqb client c apart)) alive

  by_act : (s : Client) → s ≡ client c h → (a : Act) → e.act ≡ a → is_alive (client_by c h a s).state ≡ true → IsWell c (h ++ e ∷ []) (client_by c h a s)
  by_act s s_is (JoinedAct client doc user track since source v) is alive = joins s s_is client doc user track since source v is alive
  by_act s s_is (Edited client comp) is alive = types s s_is client comp is alive
  by_act s s_is (Sent u) is alive = sends_it s s_is u is alive
  by_act s s_is (Got client brief) is alive = gets s s_is client brief is alive
  by_act s s_is (LeftAct client) is alive = leaves s s_is client is alive
  by_act s s_is (Committed doc token ticket outcome) is alive = committed_well h e legal may w c doc token ticket outcome is s (subst (IsWell c h) (sym s_is) (w.clients c (sym (ap (λ (t : Client). is_alive t.state) s_is) ∙ alive)))
  by_act s s_is a is alive = other s a is (λ l. subst (IsWell c h) (sym s_is) (w.clients c (sym (ap (λ (t : Client). is_alive t.state) s_is) ∙ l))) (of_none a refl) (λ n. refl) (λ d. refl) (λ r. refl) refl alive

  clients_on : is_alive (client c (h ++ e ∷ [])).state ≡ true → IsWell c (h ++ e ∷ []) (client c (h ++ e ∷ []))
  clients_on alive =
      let p : client c (h ++ e ∷ []) ≡ client_by c h e.act (client c h) = client-push c h e in
      subst (IsWell c (h ++ e ∷ [])) (sym p) (by_act (client c h) refl e.act refl (sym (ap (λ (t : Client). is_alive t.state) p) ∙ alive))

world_on : Keeps World
world_on h e legal may w = record {
  owned = owned_on h e legal may w;
  started = started_on h e legal may w;
  unmade = unmade_on h e legal may w;
  items = items_on h e legal may w;
  counted = counted_on h e legal may w;
  paired = paired_on h e legal may w;
  clients = λ c alive. clients_on h e legal may w c alive;
}

pub nothing_sent : {A : Type 0} (t : ℕ) (u : Update) → update_at [] t ≡ Some u → A
nothing_sent t u e = let f : None ≡ Some u = e in absurd (cc)

world_none : World []
world_none = record {
  owned = λ t u e. nothing_sent t u e;
  started = λ c. let s = start-none c in omega (arith, s);
  unmade = λ d le. applied_list-none d;
  items = λ d made. subst (λ (l : List Item). Each (IsItem d []) [] l) (sym (applied_list-none d)) tt;
  counted = λ c t u e own. nothing_sent t u e;
  paired = λ c t t' u u' e e' own own' same lt. nothing_sent t u e;
  clients = λ c alive. absurd (true≢false (sym alive ∙ ap (λ (s : Client). is_alive s.state) (client-none c)));
}

pub world : (j : List Entry) → IsLegal j → World j
world = by_last World world_none world_on
