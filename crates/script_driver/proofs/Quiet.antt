-- What entries of a session's client leave as it was.
use Rattle.std.proofs.Common.{◌≡◌, ◌≢◌, ℕ, List, [], ◌∷◌, ◌++◌, Bool, true, false, true≢false, refl, sym, ap, ap₂, ◌∙◌, subst, append_assoc, append-nil, All}
use Rattle.std.specs.Prelude.{Option, Some, None}
use Rattle.std.proofs.lemmas.List.Elements.{All-append, All-nil, All-cons}
use Rattle.expiring_lock.specs.declared.refusal.Busy.{Busy}
use Rattle.journal_entries.specs.declared.act.Act.{Act}
use Rattle.journal_entries.specs.declared.act.Act.TheVariants.{Joined, Edited, Sent, Got, Left, Declined}
use Rattle.journal_entries.specs.declared.act.Entry.{Entry}
use Rattle.journal_rules.specs.Client.{client}
use Rattle.journal_rules.specs.Documents.{is_in, makings, making_of}
use Rattle.journal_rules.specs.Keeping.{cached_by}
use Rattle.journal_rules.specs.Legal.{closed, closed_by}
use Rattle.journal_rules.specs.Locks.{Acquiring, acquired_by, clock, last_acquiring, released, released_by, ticked, used_by}
use Rattle.journal_rules.proofs.Pushing.{closed-push, clock-push, last_acquiring-push, makings-push, released-push}
use Rattle.ending_rules.proofs.Apart.{all_first, all_later}
use Rattle.turn_rules.specs.Locking.{busy}
use Rattle.book.specs.declared.faults.Prepared.{Prepared}
use Rattle.script_driver.specs.Clients.{GoesQuietly, IsQuietOf, StayOthers, is_of_session, is_quiet}
use Rattle.script_driver.specs.Holding.{AreHeld}
use Rattle.script_driver.proofs.Clients.{others_stay}
use Rattle.script_driver.proofs.Holding.{behind_one}

record Facts (seat : ℕ) (a : Act) : Type 0 where
  makes : making_of a ≡ []
  ticks : (now : ℕ) → ticked a now ≡ now
  closes : closed_by a ≡ []
  caches : (d : ℕ) → cached_by d a true ≡ true
  uses : (t : ℕ) → is_in t (used_by a) ≡ false
  acquires : (d : ℕ) (o : Option Acquiring) → acquired_by d seat a o ≡ o
  releases : released_by a ≡ []

facts : (seat : ℕ) (a : Act) → is_quiet a ≡ true → Facts seat a
facts seat (Joined c doc user track since source v) is = record { makes = refl; ticks = λ n. refl; closes = refl; caches = λ d. refl; uses = λ t. refl; acquires = λ d o. refl; releases = refl }
facts seat (Edited c comp) is = record { makes = refl; ticks = λ n. refl; closes = refl; caches = λ d. refl; uses = λ t. refl; acquires = λ d o. refl; releases = refl }
facts seat (Sent u) is = record { makes = refl; ticks = λ n. refl; closes = refl; caches = λ d. refl; uses = λ t. refl; acquires = λ d o. refl; releases = refl }
facts seat (Got c brief) is = record { makes = refl; ticks = λ n. refl; closes = refl; caches = λ d. refl; uses = λ t. refl; acquires = λ d o. refl; releases = refl }
facts seat (Left c) is = record { makes = refl; ticks = λ n. refl; closes = refl; caches = λ d. refl; uses = λ t. refl; acquires = λ d o. refl; releases = refl }
facts seat (Declined session why) is = record { makes = refl; ticks = λ n. refl; closes = refl; caches = λ d. refl; uses = λ t. refl; acquires = λ d o. refl; releases = refl }
facts seat _ is = absurd (true≢false (sym is))

-- ---- what stays behind each such entry stays behind all
module _ (session : ℕ) (P : List Entry → Type 0) (step : (j : List Entry) (e : Entry) → IsQuietOf session e → P j → P (j ++ e ∷ [])) where
  along : (es j : List Entry) → All (IsQuietOf session) es → P j → P (j ++ es)
  along [] j all p = subst P (sym (append-nil j)) p
  along (e ∷ es) j all p = subst P (append_assoc j (e ∷ []) es) (along es (j ++ e ∷ []) (all_later (IsQuietOf session) e es all) (step j e (all_first (IsQuietOf session) e es all) p))

  pub stays : (left last : List Entry) → GoesQuietly session left last → P left → P last
  stays left last g p = subst P (sym g.last_is) (along g.more left g.all p)

module _ (session : ℕ) (left last : List Entry) (g : GoesQuietly session left last) where
  pub quiet_makings : makings last ≡ makings left
  quiet_makings = stays session (λ j. makings j ≡ makings left) (λ j e is same. makings-push j e ∙ ap (λ ms. makings j ++ ms) (facts e.seat e.act is.quiet).makes ∙ append-nil (makings j) ∙ same) left last g refl

  pub quiet_clock : clock last ≡ clock left
  quiet_clock = stays session (λ j. clock j ≡ clock left) (λ j e is same. clock-push j e ∙ (facts e.seat e.act is.quiet).ticks (clock j) ∙ same) left last g refl

  pub quiet_closed : closed last ≡ closed left
  quiet_closed = stays session (λ j. closed j ≡ closed left) (λ j e is same. closed-push j e ∙ ap (λ ds. closed j ++ ds) (facts e.seat e.act is.quiet).closes ∙ append-nil (closed j) ∙ same) left last g refl

  pub quiet_others : StayOthers session left last
  quiet_others c apart = stays session (λ j. client c j ≡ client c left) (λ j e is same. others_stay session j e is.its c apart ∙ same) left last g refl

  pub quiet_acquiring : (d : ℕ) → last_acquiring d last ≡ last_acquiring d left
  quiet_acquiring d = stays session (λ j. last_acquiring d j ≡ last_acquiring d left) (λ j e is same. last_acquiring-push d j e ∙ (facts e.seat e.act is.quiet).acquires d (last_acquiring d j) ∙ same) left last g refl

  pub quiet_released : released last ≡ released left
  quiet_released = stays session (λ j. released j ≡ released left) (λ j e is same. released-push j e ∙ ap (λ ts. released j ++ ts) (facts e.seat e.act is.quiet).releases ∙ append-nil (released j) ∙ same) left last g refl

  pub quiet_held : {seat : ℕ} (holds : List (Option Prepared)) → AreHeld seat holds left → AreHeld seat holds last
  quiet_held {seat} holds held = stays session (AreHeld seat holds) (λ j e is was. behind_one holds j (j ++ e ∷ []) e refl (facts e.seat e.act is.quiet).uses was) left last g held

-- ---- going on
pub quiet_none : (session : ℕ) (left last : List Entry) → last ≡ left → GoesQuietly session left last
quiet_none session left last same = record { more = []; last_is = same ∙ sym (append-nil left); all = All-nil (IsQuietOf session) }

pub quiet_one : (session : ℕ) (left last : List Entry) (e : Entry) → last ≡ left ++ e ∷ [] → IsQuietOf session e → GoesQuietly session left last
quiet_one session left last e is quiet = record { more = e ∷ []; last_is = is; all = All-cons (IsQuietOf session) e [] quiet (All-nil (IsQuietOf session)) }

pub quiet_on : (session : ℕ) (a b c : List Entry) → GoesQuietly session a b → GoesQuietly session b c → GoesQuietly session a c
quiet_on session a b c x y = record {
  more = x.more ++ y.more;
  last_is = y.last_is ∙ ap (λ (j : List Entry). j ++ y.more) x.last_is ∙ append_assoc a x.more y.more;
  all = All-append (IsQuietOf session) x.more y.more x.all y.all;
}
