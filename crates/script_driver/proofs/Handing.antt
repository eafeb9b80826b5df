-- What was handed out, behind entries that hand nothing out, and behind a `hand`.
use Rattle.std.proofs.Common.{◌≡◌, ℕ, ◌+◌, List, [], ◌∷◌, ◌++◌, length, map, min, take, Bool, true, false, true≢false, refl, sym, ap, ◌∙◌, arith, append-nil}
use Rattle.std.specs.Prelude.{Option, if◌then◌else◌}
use Rattle.std.proofs.lemmas.List.{take_min}
use Rattle.history_queue.specs.declared.item.Item.{Item}
use Rattle.journal_entries.specs.declared.act.Act.{Act}
use Rattle.journal_entries.specs.declared.act.Act.TheVariants.{Handed, Declined}
use Rattle.journal_entries.specs.declared.act.Entry.{Entry}
use Rattle.journal_entries.specs.declared.why.Why.TheVariants.{NoProject}
use Rattle.journal_rules.specs.Documents.{makings, making_of}
use Rattle.journal_rules.specs.History.{history}
use Rattle.journal_rules.specs.Legal.{closed, closed_by, is_project}
use Rattle.journal_rules.specs.Locks.{clock, ticked}
use Rattle.journal_rules.proofs.Pushing.{clock-push, closed-push, gathered-push, makings_still}
use Rattle.turn_rules.specs.Turns.{entry_by}
use Rattle.run_rules.specs.Plain.{hand_act}
use Rattle.project_histories.specs.Handing.{items_of, shown_item}
use Rattle.session_lines.specs.declared.line.Line.TheVariants.{Hand}
use Rattle.book.specs.Shown.{Shown, adds}
use Rattle.script_driver.specs.Apart.{GoesApart, IsBehind, is_apart}
use Rattle.script_driver.specs.Clients.{GoesQuietly, is_quiet}
use Rattle.script_driver.specs.Handing.{items_handed_by}
use Rattle.script_driver.proofs.Apart.{stays as stays_apart}
use Rattle.script_driver.proofs.Quiet.{stays as stays_quiet}

-- ---- what one's own entries handed out
module _ (is_own : Entry → Bool) where
  pub handed_by-none : items_handed_by is_own [] ≡ []
  unfolding items_handed_by
  handed_by-none = refl

  pub handed_by-push : (j : List Entry) (e : Entry) → items_handed_by is_own (j ++ e ∷ []) ≡ items_handed_by is_own j ++ (if is_own e then items_of j e.act else [])
  unfolding items_handed_by
  handed_by-push j e = gathered-push (λ before e. if is_own e then items_of before e.act else []) j e

  -- ---- entries that hand nothing out
  abbrev pub HandsNone : List Entry → List Entry → Type 0
  HandsNone left last = items_handed_by is_own last ≡ items_handed_by is_own left

  none_if : (b : Bool) (xs : List Item) → xs ≡ [] → (if b then xs else []) ≡ []
  none_if true xs none = none
  none_if false xs none = refl

  pub one_hands_none : (j : List Entry) (e : Entry) → items_of j e.act ≡ [] → HandsNone j (j ++ e ∷ [])
  one_hands_none j e none = handed_by-push j e ∙ ap (λ xs. items_handed_by is_own j ++ xs) (none_if (is_own e) (items_of j e.act) none) ∙ append-nil (items_handed_by is_own j)

  pub added_hands_none : (left last : Shown) (seat : ℕ) (line : Option ℕ) (act : Act) → last ≡ adds left seat line (act ∷ []) → items_of left.journal act ≡ [] → HandsNone left.journal last.journal
  added_hands_none left last seat line act is none = ap (λ (b : Shown). items_handed_by is_own b.journal) is ∙ one_hands_none left.journal (entry_by seat line act) none

  apart_act : (from : ℕ) (j : List Entry) (a : Act) → is_apart from a ≡ true → items_of j a ≡ []
  apart_act from j (Handed project count) e = absurd (true≢false (sym e))
  apart_act from j _ e = refl

  quiet_act : (j : List Entry) (a : Act) → is_quiet a ≡ true → items_of j a ≡ []
  quiet_act j (Handed project count) e = absurd (true≢false (sym e))
  quiet_act j _ e = refl

  pub apart_hands_none : (from : ℕ) (left last : List Entry) → GoesApart from left last → HandsNone left last
  apart_hands_none from left last g = stays_apart from (HandsNone left) (λ j e is same. one_hands_none j e (apart_act from j e.act is.apart) ∙ same) left last g refl

  pub quiet_hands_none : (session : ℕ) (left last : List Entry) → GoesQuietly session left last → HandsNone left last
  quiet_hands_none session left last g = stays_quiet session (HandsNone left) (λ j e is same. one_hands_none j e (quiet_act j e.act is.quiet) ∙ same) left last g refl

-- ---- a `hand`
module _ (session n : ℕ) (project : List ℕ) (j : List Entry) where
  abbrev pub hands : Act
  hands = Handed project (min n (length (history project j)))

  pub hand_known : is_project project j ≡ true → hand_act session project n j ≡ hands
  hand_known known = ap (λ b. if b then hands else Declined session NoProject) known

  pub hand_unknown : is_project project j ≡ false → hand_act session project n j ≡ Declined session NoProject
  hand_unknown unknown = ap (λ b. if b then hands else Declined session NoProject) unknown

  pub either_hand : (P : Act → Type 0) → P hands → P (Declined session NoProject) → P (hand_act session project n j)
  either_hand P handed declined = by (is_project project j)
    where
      by : (b : Bool) → P (if b then hands else Declined session NoProject)
      by true = handed
      by false = declined

  pub items_of_hand : items_of j hands ≡ map shown_item (take n (history project j))
  items_of_hand = ap (map shown_item) (take_min n (history project j))

  pub hand_behind : (seat : ℕ) (line : Option ℕ) (last : List Entry) → last ≡ j ++ entry_by seat line (hand_act session project n j) ∷ [] → IsBehind (Hand session project n) j last
  hand_behind seat line last is =
      let e = entry_by seat line (hand_act session project n j) in
      let c = ap clock is ∙ clock-push j e ∙ either_hand (λ a. ticked a (clock j) ≡ clock j) refl refl in
      record {
        makings_are = ap makings is ∙ makings_still j e (either_hand (λ a. making_of a ≡ []) refl refl);
        clock_is = let same : clock last ≡ clock j + 0 = omega (arith, c) in same;
        closed_is = ap closed is ∙ closed-push j e ∙ ap (λ ds. closed j ++ ds) (either_hand (λ a. closed_by a ≡ []) refl refl) ∙ append-nil (closed j);
      }
