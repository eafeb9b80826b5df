-- The clients of sessions behind entries that aren't theirs, and behind their own lines.
use Rattle.std.proofs.Common.{◌≡◌, ◌≢◌, ◌⊎◌, inl, inr, ℕ, zero, suc, ◌<◌, List, [], ◌∷◌, ◌++◌, length, slice_set, Bool, true, false, true≢false, refl, sym, ap, ◌∙◌, subst, arith, eqb, eqb-true, ne_eqb}
use Rattle.std.specs.Prelude.{slice_get, Option, Some, None, if◌then◌else◌}
use Rattle.std.proofs.lemmas.Bool.Decides.{eqb_tells}
use Rattle.journal_entries.specs.declared.act.Act.{Act}
use Rattle.journal_entries.specs.declared.act.Act.TheVariants.{Joined, Edited, Sent, Got, Left}
use Rattle.journal_entries.specs.declared.act.Entry.{Entry}
use Rattle.journal_rules.specs.Client.{Client, away, client, client_by, is_of, joined_by, edited_by, sent_by, got_by, left_by}
use Rattle.journal_rules.specs.Mail.{mail}
use Rattle.journal_rules.proofs.Pushing.{client-none, client-push}
use Rattle.book.specs.Roomed.{IsClientAfter, IsClientOf}
use Rattle.project_histories.proofs.Lists.{same_item, set_elsewhere, set_here}
use Rattle.share_client.specs.Clients.{Numbered}
use Rattle.book.specs.Shown.{Shown, adds}
use Rattle.turn_rules.specs.Turns.{entry_by}
use Rattle.turn_rules.specs.Owning.{client_owner}
use Rattle.script_driver.specs.Clients.{AreClientsOf, AreOwnClientsOf, StayAll, StayOthers, is_at_most, is_clientless, is_of_none, is_of_session}

-- ---- an entry of no client
no_client : (c : ℕ) (o : Option ℕ) → is_clientless o ≡ true → is_of c o ≡ false
no_client c None is = refl
no_client c (Some k) is = absurd (cc)

kept_by : (c : ℕ) (j : List Entry) (a : Act) (s : Client) → is_of_none a ≡ true → client_by c j a s ≡ s
kept_by c j (Joined k doc user track since source v) s is = absurd (true≢false (sym is))
kept_by c j (Edited k comp) s is = absurd (true≢false (sym is))
kept_by c j (Sent u) s is = ap (λ b. if b then sent_by s s.flight else s) (no_client c u.client is)
kept_by c j (Got k brief) s is = absurd (true≢false (sym is))
kept_by c j (Left k) s is = absurd (true≢false (sym is))
kept_by c j _ s is = refl

pub one_stays : (j : List Entry) (e : Entry) → is_of_none e.act ≡ true → StayAll j (j ++ e ∷ [])
one_stays j e is c = client-push c j e ∙ kept_by c j e.act (client c j) is

-- ---- an entry of one client
not_this : (c session k : ℕ) → (eqb k session) ≡ true → c ≢ session → eqb k c ≡ false
not_this c session k is apart = ne_eqb k c (λ same. apart (sym same ∙ eqb-true k session is))

not_its : (c session : ℕ) (o : Option ℕ) → is_at_most session o ≡ true → c ≢ session → is_of c o ≡ false
not_its c session None is apart = refl
not_its c session (Some k) is apart = not_this c session k is apart

other_by : (c session : ℕ) (j : List Entry) (a : Act) (s : Client) → is_of_session session a ≡ true → c ≢ session → client_by c j a s ≡ s
other_by c session j (Joined k doc user track since source v) s is apart = ap (λ b. if b then joined_by s j doc user track since source v else s) (not_this c session k is apart)
other_by c session j (Edited k comp) s is apart = ap (λ b. if b then edited_by s comp else s) (not_this c session k is apart)
other_by c session j (Sent u) s is apart = ap (λ b. if b then sent_by s s.flight else s) (not_its c session u.client is apart)
other_by c session j (Got k brief) s is apart = ap (λ b. if b then got_by s (mail c j) else s) (not_this c session k is apart)
other_by c session j (Left k) s is apart = ap (λ b. if b then left_by s else s) (not_this c session k is apart)
other_by c session j _ s is apart = refl

pub others_stay : (session : ℕ) (j : List Entry) (e : Entry) → is_of_session session e.act ≡ true → StayOthers session j (j ++ e ∷ [])
others_stay session j e is c apart = client-push c j e ∙ other_by c session j e.act (client c j) is apart

-- ---- those that a seat owns
module _ (drivers seat : ℕ) where
  pub own_stay : (clients : List Numbered) (j k : List Entry) → StayAll j k → AreOwnClientsOf drivers seat clients j → AreOwnClientsOf drivers seat clients k
  own_stay clients j k stay are = record { each = λ c s at. (let was = are.each c s at in (was.0, λ own. was.1 own ∙ sym (stay s.client))) }

  pub own_moves : (clients : List Numbered) (session : ℕ) (was now : Numbered) (j k : List Entry) → slice_get clients session ≡ Some was → IsClientAfter k was now → StayOthers session j k → AreOwnClientsOf drivers seat clients j → AreOwnClientsOf drivers seat (slice_set clients session now) k
  own_moves clients session was now j k at after stay are = record { each = λ c s here. by c s here (eqb_tells c session) }
    where
      by : (c : ℕ) (s : Numbered) → slice_get (slice_set clients session now) c ≡ Some s → ((eqb c session ≡ true) × (c ≡ session)) ⊎ ((eqb c session ≡ false) × (c ≢ session)) → (s.client ≡ c) × (client_owner drivers c ≡ seat → IsClientOf k s)
      by c s here (inl t) =
          let is : s ≡ now = set_here clients session now s (subst (λ n. slice_get (slice_set clients session now) n ≡ Some s) t.1 here) in
          let own = are.each session was at in
          (ap (λ (x : Numbered). x.client) is ∙ after.client_is ∙ own.0 ∙ sym t.1, λ mine. subst (IsClientOf k) (sym is) after.stands)
      by c s here (inr t) =
          let was_there = are.each c s (set_elsewhere clients session c now s t.1 here) in
          (was_there.0, λ mine. was_there.1 mine ∙ sym (stay s.client (λ same. t.1 (sym was_there.0 ∙ same))))

-- on one thread seat 0 owns all
pub own_all : (drivers seat : ℕ) (clients : List Numbered) (j : List Entry) → drivers ≡ 0 → seat ≡ 0 → AreOwnClientsOf drivers seat clients j → AreClientsOf clients j
own_all drivers seat clients j alone first are = record { each = λ c s at. (let was = are.each c s at in (was.0, was.1 (ap (λ d. client_owner d c) alone ∙ sym first))) }

all_own : (clients : List Numbered) (j : List Entry) → AreClientsOf clients j → AreOwnClientsOf 0 0 clients j
all_own clients j are = record { each = λ c s at. (let was = are.each c s at in (was.0, λ mine. was.1)) }

-- ---- all of them
pub all_stay : (clients : List Numbered) (j k : List Entry) → StayAll j k → AreClientsOf clients j → AreClientsOf clients k
all_stay clients j k stay are = own_all 0 0 clients k refl refl (own_stay 0 0 clients j k stay (all_own clients j are))

pub one_moves : (clients : List Numbered) (session : ℕ) (was now : Numbered) (j k : List Entry) → slice_get clients session ≡ Some was → IsClientAfter k was now → StayOthers session j k → AreClientsOf clients j → AreClientsOf (slice_set clients session now) k
one_moves clients session was now j k at after stay are = own_all 0 0 (slice_set clients session now) k refl refl (own_moves 0 0 clients session was now j k at after stay (all_own clients j are))

-- ---- a book with an entry more of no client
pub stays_on : (left mid last : List Entry) → StayAll left mid → StayAll mid last → StayAll left last
stays_on left mid last one two c = two c ∙ one c

pub added_stays : (left last : Shown) (seat : ℕ) (line : Option ℕ) (act : Act) → last ≡ adds left seat line (act ∷ []) → is_of_none act ≡ true → StayAll left.journal last.journal
added_stays left last seat line act is none c = ap (λ (b : Shown). client c b.journal) is ∙ one_stays left.journal (entry_by seat line act) none c
