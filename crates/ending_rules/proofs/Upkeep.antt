-- What holds behind the rounds holds behind the flushes too.
use Rattle.std.proofs.Common.{◌≡◌, ◌⊎◌, ℕ, ◌+◌, List, [], ◌∷◌, ◌++◌, length, map, true, false, true≢false, refl, sym, ap, ap₂, ◌∙◌, subst, inl, inr, ⊎_elim, append-nil, All}
use Rattle.std.specs.Prelude.{Option, Some, None, slice_get}
use Rattle.journal_rules.proofs.Waits.{waits_still}
use Rattle.journal_entries.specs.declared.update.Update.{Update}
use Rattle.journal_entries.specs.declared.update.Outcome.TheVariants.{Refused}
use Rattle.journal_entries.specs.declared.act.Act.{Act}
use Rattle.journal_entries.specs.declared.act.Act.TheVariants.{Ticked, Malformed, Acquired, Loaded, LoadFailed, LoadDiffers, Released, Flushed, FlushFailed, Unloaded, Handed, Declined, Closed}
use Rattle.journal_entries.specs.declared.act.Entry.{Entry}
use Rattle.journal_rules.specs.Documents.{Making, making_of, makings, base_in, first_in, Item, items_by, applied_list, replayed, update_of, update_at, sends, ticket_of}
use Rattle.journal_rules.specs.Mail.{Outbox, outbox_by, outbox, mail_in, mail}
use Rattle.journal_rules.specs.Client.{Client, client, client_by}
use Rattle.journal_rules.specs.Legal.{IsAllowed, IsLegal}
use Rattle.journal_rules.proofs.Pushing.{makings-push, applied_list-push, outbox-push, client-push}
use Rattle.journal_laws.proofs.Updates.{update_new}
use Rattle.ending_rules.specs.Ended.{AreRefused, IsDone, IsStuck, Rests, HasEnded}
use Rattle.ending_rules.specs.Upkeep.{is_upkeep}
use Rattle.ending_rules.proofs.Answered.{answer_stays}
use Rattle.ending_rules.proofs.Apart.{goes_by}

record Upkeep (a : Act) : Type 0 where
  makes_not : making_of a ≡ []
  commits_not : ticket_of a ≡ []
  updates_not : update_of a ≡ None
  sends_not : (d : ℕ) → sends d a ≡ false
  items_not : (d : ℕ) (h : List Entry) → items_by d h a ≡ []
  posts_not : (c : ℕ) (h : List Entry) (r : Option Outbox) → outbox_by c h a r ≡ r
  client_is : (c : ℕ) (h : List Entry) (s : Client) → client_by c h a s ≡ s

upkeep : (a : Act) → is_upkeep a ≡ true → Upkeep a
upkeep (Ticked ms) e = record { makes_not = refl; commits_not = refl; updates_not = refl; sends_not = λ d. refl; items_not = λ d h. refl; posts_not = λ c h r. refl; client_is = λ c h s. refl }
upkeep (Malformed doc fault) e = record { makes_not = refl; commits_not = refl; updates_not = refl; sends_not = λ d. refl; items_not = λ d h. refl; posts_not = λ c h r. refl; client_is = λ c h s. refl }
upkeep (Acquired doc token until) e = record { makes_not = refl; commits_not = refl; updates_not = refl; sends_not = λ d. refl; items_not = λ d h. refl; posts_not = λ c h r. refl; client_is = λ c h s. refl }
upkeep (Loaded doc token v) e = record { makes_not = refl; commits_not = refl; updates_not = refl; sends_not = λ d. refl; items_not = λ d h. refl; posts_not = λ c h r. refl; client_is = λ c h s. refl }
upkeep (LoadFailed doc token from to) e = record { makes_not = refl; commits_not = refl; updates_not = refl; sends_not = λ d. refl; items_not = λ d h. refl; posts_not = λ c h r. refl; client_is = λ c h s. refl }
upkeep (LoadDiffers doc token had got) e = record { makes_not = refl; commits_not = refl; updates_not = refl; sends_not = λ d. refl; items_not = λ d h. refl; posts_not = λ c h r. refl; client_is = λ c h s. refl }
upkeep (Released doc token) e = record { makes_not = refl; commits_not = refl; updates_not = refl; sends_not = λ d. refl; items_not = λ d h. refl; posts_not = λ c h r. refl; client_is = λ c h s. refl }
upkeep (Flushed doc token v) e = record { makes_not = refl; commits_not = refl; updates_not = refl; sends_not = λ d. refl; items_not = λ d h. refl; posts_not = λ c h r. refl; client_is = λ c h s. refl }
upkeep (FlushFailed doc token from to) e = record { makes_not = refl; commits_not = refl; updates_not = refl; sends_not = λ d. refl; items_not = λ d h. refl; posts_not = λ c h r. refl; client_is = λ c h s. refl }
upkeep (Unloaded doc token) e = record { makes_not = refl; commits_not = refl; updates_not = refl; sends_not = λ d. refl; items_not = λ d h. refl; posts_not = λ c h r. refl; client_is = λ c h s. refl }
upkeep (Handed project count) e = record { makes_not = refl; commits_not = refl; updates_not = refl; sends_not = λ d. refl; items_not = λ d h. refl; posts_not = λ c h r. refl; client_is = λ c h s. refl }
upkeep (Declined session why) e = record { makes_not = refl; commits_not = refl; updates_not = refl; sends_not = λ d. refl; items_not = λ d h. refl; posts_not = λ c h r. refl; client_is = λ c h s. refl }
upkeep (Closed driver) e = record { makes_not = refl; commits_not = refl; updates_not = refl; sends_not = λ d. refl; items_not = λ d h. refl; posts_not = λ c h r. refl; client_is = λ c h s. refl }
upkeep _ e = absurd (true≢false (sym e))

module _ (h : List Entry) (e : Entry) (legal : IsLegal h) (may : IsAllowed h e.seat e.act) (x : Upkeep e.act) (was : HasEnded h) where
  same_client : (c : ℕ) → client c (h ++ e ∷ []) ≡ client c h
  same_client c = client-push c h e ∙ x.client_is c h (client c h)

  same_mail : (c : ℕ) → mail c (h ++ e ∷ []) ≡ mail c h
  same_mail c = ap mail_in (outbox-push c h e ∙ x.posts_not c h (outbox c h))

  same_made : makings (h ++ e ∷ []) ≡ makings h
  same_made = makings-push h e ∙ ap (λ m. makings h ++ m) x.makes_not ∙ append-nil (makings h)

  same_items : (d : ℕ) → applied_list d (h ++ e ∷ []) ≡ applied_list d h
  same_items d = applied_list-push d h e ∙ ap (λ l. applied_list d h ++ l) (x.items_not d h) ∙ append-nil (applied_list d h)

  old : (t : ℕ) (u : Update) → update_at (h ++ e ∷ []) t ≡ Some u → update_at h t ≡ Some u
  old t u known = ⊎_elim {C = update_at h t ≡ Some u} (λ was. was) (λ new. let f : None ≡ Some u = sym x.updates_not ∙ new.1 in absurd (cc)) (update_new h e t u known)

  still_refused : (c n : ℕ) → AreRefused c n h → AreRefused c n (h ++ e ∷ [])
  still_refused c n all t u known own number = let r = all t u (old t u known) own number in (r.0, answer_stays t h e (Refused r.0) [] may r.1)

  still_rests : (c : ℕ) (s : Client) → Rests c h s → Rests c (h ++ e ∷ []) s
  still_rests c s r = record {
    no_mail = same_mail c ∙ r.no_mail;
    at = r.at ∙ sym (ap₂ (λ (m : List Making) (l : List Item). base_in (slice_get m s.doc) + length l) same_made (same_items s.doc));
    here = r.here;
    here_is = ap₂ (λ (m : List Making) (l : List Item). replayed (first_in (slice_get m s.doc)) (map (λ (y : Item). y.op) l)) same_made (same_items s.doc) ∙ r.here_is;
    rests = ⊎_elim {C = IsDone r.here s ⊎ IsStuck c (h ++ e ∷ []) r.here s}
        (λ done. inl done)
        (λ stuck. inr (record {
          empty_flight = stuck.empty_flight;
          refused = still_refused c s.number stuck.refused;
          elsewhere = λ t u known own number. stuck.elsewhere t u (old t u known) own number;
          text_is = stuck.text_is;
        }))
        r.rests;
  }

  still_ended : HasEnded (h ++ e ∷ [])
  still_ended = record {
    answered = λ t u known. (let a = was.answered t u (old t u known) in (a.0, answer_stays t h e a.0 [] may a.1));
    settled = λ d. waits_still d h e legal x.commits_not (x.sends_not d) ∙ was.settled d;
    clients = λ c st. subst (Rests c (h ++ e ∷ [])) (sym (same_client c)) (still_rests c (client c h) (was.clients c (sym (ap (λ (s : Client). s.state) (same_client c)) ∙ st)));
  }

pub stays_ended : (j es : List Entry) → IsLegal (j ++ es) → All (λ e. is_upkeep e.act ≡ true) es → HasEnded j → HasEnded (j ++ es)
stays_ended j es legal all was = goes_by (λ e. is_upkeep e.act ≡ true) HasEnded (λ h e legal may is was. still_ended h e legal may (upkeep e.act is) was) es j all legal was
