-- Acts that are nothing of a client's own, and the client's own; and lists of entries, entry by entry.
use Rattle.std.proofs.Common.{◌≡◌, ◌≢◌, ◌⊎◌, ℕ, suc, List, [], ◌∷◌, ◌++◌, Bool, true, false, true≢false, refl, sym, ap, ◌∙◌, subst, inl, inr, arith, eqb, ne_eqb, append-nil, append_assoc, All}
use Rattle.std.specs.Prelude.{Option, Some, None, option_map}
use Rattle.std.proofs.lemmas.Bool.{eqb-true}
use native.Mathlib.Decide.{ℕ_discrete}
use Rattle.ot_op.specs.declared.comp.Comp.{Comp}
use Rattle.journal_entries.specs.declared.update.Update.{Update}
use Rattle.journal_entries.specs.declared.message.Brief.{Brief}
use Rattle.journal_entries.specs.declared.act.Act.{Act}
use Rattle.journal_entries.specs.declared.act.Act.TheVariants.{Joined as JoinedAct, Edited, Sent, Got, Left as LeftAct, Committed, Acquired, Loaded, LoadFailed, LoadDiffers, Released}
use Rattle.journal_entries.specs.declared.act.Entry.{Entry}
use Rattle.journal_rules.specs.Documents.{update_of, ticket_of}
use Rattle.journal_rules.specs.Mail.{Outbox, outbox_by, one_got}
use Rattle.journal_rules.specs.Client.{Client, client, client_by, sent_by, edited_by, joined_by, got_by, left_by, is_of}
use Rattle.journal_rules.specs.Mail.{mail}
use Rattle.journal_rules.specs.Legal.{IsAllowed, IsLegal}
use Rattle.journal_rules.proofs.Pushing.{client-push}
use Rattle.journal_rules.proofs.Legality.{legal_front, allowed_next}
use Rattle.journal_rules.proofs.Lists.{some_same}
use Rattle.journal_laws.proofs.ClientsOn.{if_false}
use Rattle.turn_rules.proofs.Owning.{other_client}
use Rattle.ending_rules.proofs.Shapes.{is_of_drain, is_got_by}

-- ---- by the entries of a list that all have something
pub all_first : {A : Type 0} (P : A → Type 0) (x : A) (xs : List A) → All P (x ∷ xs) → P x
all_first P x xs all = all 0 x (omega arith)

pub all_later : {A : Type 0} (P : A → Type 0) (x : A) (xs : List A) → All P (x ∷ xs) → All P xs
all_later P x xs all = λ k d h. all (suc k) d (omega arith)

pub goes_by : (Q : Entry → Type 0) (P : List Entry → Type 0) → ((h : List Entry) (e : Entry) → IsLegal h → IsAllowed h e.seat e.act → Q e → P h → P (h ++ e ∷ [])) → (es h : List Entry) → All Q es → IsLegal (h ++ es) → P h → P (h ++ es)
goes_by Q P step [] h all legal p = subst P (sym (append-nil h)) p
goes_by Q P step (e ∷ es) h all legal p =
    let again : (h ++ e ∷ []) ++ es ≡ h ++ e ∷ es = append_assoc h (e ∷ []) es in
    subst P again (goes_by Q P step es (h ++ e ∷ []) (all_later Q e es all) (subst IsLegal (sym again) legal)
    (step h e (legal_front h (e ∷ es) legal) (allowed_next h e es legal) (all_first Q e es all) p))

-- ---- nothing of the client's own
pub record Apart (c : ℕ) (a : Act) : Type 0 where
  pub same : (h : List Entry) (s : Client) → client_by c h a s ≡ s
  pub unsent : (u : Update) → update_of a ≡ Some u → u.client ≡ Some c → ⊥
  pub quiet : (h : List Entry) (r : Option Outbox) → ticket_of a ≡ [] → outbox_by c h a r ≡ r

pub data Own (c : ℕ) (a : Act) : Type 0 where
  Joins : (doc : ℕ) (user : List ℕ) (track : Bool) (since : Option ℕ) (source v : ℕ) → a ≡ JoinedAct c doc user track since source v → Own c a
  Edits : (comp : Comp) → a ≡ Edited c comp → Own c a
  Sends : (u : Update) → a ≡ Sent u → u.client ≡ Some c → Own c a
  Gets : (brief : Brief) → a ≡ Got c brief → Own c a
  Leaves : a ≡ LeftAct c → Own c a

not_sent : (c : ℕ) (a : Act) → update_of a ≡ None → (u : Update) → update_of a ≡ Some u → u.client ≡ Some c → ⊥
not_sent c a none u sent own = let f : None ≡ Some u = sym none ∙ sent in cc

-- what the acts of a drain are to a client
pub drain_apart : (c d : ℕ) (a : Act) → is_of_drain d a ≡ true → Apart c a
drain_apart c d (Acquired doc token until) e = record { same = λ h s. refl; unsent = not_sent c (Acquired doc token until) refl; quiet = λ h r n. refl }
drain_apart c d (Loaded doc token v) e = record { same = λ h s. refl; unsent = not_sent c (Loaded doc token v) refl; quiet = λ h r n. refl }
drain_apart c d (LoadFailed doc token from to) e = record { same = λ h s. refl; unsent = not_sent c (LoadFailed doc token from to) refl; quiet = λ h r n. refl }
drain_apart c d (LoadDiffers doc token had got) e = record { same = λ h s. refl; unsent = not_sent c (LoadDiffers doc token had got) refl; quiet = λ h r n. refl }
drain_apart c d (Committed doc token ticket outcome) e = record { same = λ h s. refl; unsent = not_sent c (Committed doc token ticket outcome) refl; quiet = λ h r n. absurd (cc) }
drain_apart c d (Released doc token) e = record { same = λ h s. refl; unsent = not_sent c (Released doc token) refl; quiet = λ h r n. refl }
drain_apart c d _ e = absurd (true≢false (sym e))

pub got_apart : (c k : ℕ) (brief : Brief) → k ≢ c → Apart c (Got k brief)
got_apart c k brief apart = record {
  same = λ h s. if_false (eqb k c) (got_by s (mail c h)) s (ne_eqb k c apart);
  unsent = not_sent c (Got k brief) refl;
  quiet = λ h r n. if_false (eqb k c) (option_map one_got r) r (ne_eqb k c apart);
}

pub sent_apart : (c : ℕ) (u : Update) → (u.client ≡ Some c → ⊥) → Apart c (Sent u)
sent_apart c u apart = record {
  same = λ h s. if_false (is_of c u.client) (sent_by s s.flight) s (other_client c u.client apart);
  unsent = λ v sent own. apart (ap (λ (x : Update). x.client) (some_same u v sent) ∙ own);
  quiet = λ h r n. refl;
}

pub decide_client : (c : ℕ) (o : Option ℕ) → Dec (o ≡ Some c)
decide_client c None = no (λ q. absurd (cc))
decide_client c (Some k) = go (ℕ_discrete k c)
  where
    go : Dec (k ≡ c) → Dec (Some k ≡ Some c)
    go (yes q) = yes (ap (λ (n : ℕ). Some n) q)
    go (no q) = no (λ r. q (some_same k c r))

pub apart_or : (c : ℕ) (a : Act) → Apart c a ⊎ Own c a
apart_or c (JoinedAct k doc user track since source v) = go (ℕ_discrete k c)
  where
    go : Dec (k ≡ c) → Apart c (JoinedAct k doc user track since source v) ⊎ Own c (JoinedAct k doc user track since source v)
    go (yes mine) = inr (Joins doc user track since source v (ap (λ n. JoinedAct n doc user track since source v) mine))
    go (no apart) = inl (record {
      same = λ h s. if_false (eqb k c) (joined_by s h doc user track since source v) s (ne_eqb k c apart);
      unsent = not_sent c (JoinedAct k doc user track since source v) refl;
      quiet = λ h r n. if_false (eqb k c) (Some (record { doc = doc; source = source; posted = []; got = 0 })) r (ne_eqb k c apart);
    })
apart_or c (Edited k comp) = go (ℕ_discrete k c)
  where
    go : Dec (k ≡ c) → Apart c (Edited k comp) ⊎ Own c (Edited k comp)
    go (yes mine) = inr (Edits comp (ap (λ n. Edited n comp) mine))
    go (no apart) = inl (record { same = λ h s. if_false (eqb k c) (edited_by s comp) s (ne_eqb k c apart); unsent = not_sent c (Edited k comp) refl; quiet = λ h r n. refl })
apart_or c (Sent u) = go (decide_client c u.client)
  where
    go : Dec (u.client ≡ Some c) → Apart c (Sent u) ⊎ Own c (Sent u)
    go (yes mine) = inr (Sends u refl mine)
    go (no apart) = inl (sent_apart c u apart)
apart_or c (Got k brief) = go (ℕ_discrete k c)
  where
    go : Dec (k ≡ c) → Apart c (Got k brief) ⊎ Own c (Got k brief)
    go (yes mine) = inr (Gets brief (ap (λ n. Got n brief) mine))
    go (no apart) = inl (got_apart c k brief apart)
apart_or c (LeftAct k) = go (ℕ_discrete k c)
  where
    go : Dec (k ≡ c) → Apart c (LeftAct k) ⊎ Own c (LeftAct k)
    go (yes mine) = inr (Leaves (ap (λ n. LeftAct n) mine))
    go (no apart) = inl (record {
      same = λ h s. if_false (eqb k c) (left_by s) s (ne_eqb k c apart);
      unsent = not_sent c (LeftAct k) refl;
      quiet = λ h r n. if_false (eqb k c) None r (ne_eqb k c apart);
    })
apart_or c (Committed doc token ticket outcome) = inl (record { same = λ h s. refl; unsent = not_sent c (Committed doc token ticket outcome) refl; quiet = λ h r n. absurd (cc) })
apart_or c a = inl (record { same = λ h s. refl; unsent = not_sent c a refl; quiet = λ h r n. refl })

pub apart_client : (c : ℕ) (h : List Entry) (e : Entry) → Apart c e.act → client c (h ++ e ∷ []) ≡ client c h
apart_client c h e a = client-push c h e ∙ a.same h (client c h)

-- an act that one client gets
pub got_is : (c : ℕ) (a : Act) → is_got_by c a ≡ true → (brief : Brief) × (a ≡ Got c brief)
got_is c (Got k brief) e = (brief, ap (λ n. Got n brief) (eqb-true k c e))
got_is c _ e = absurd (true≢false (sym e))
