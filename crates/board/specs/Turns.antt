-- What the calls of a board tell.
use Rattle.std.specs.Prelude.{◌≡◌, ◌≢◌, ℕ, ◌%◌, ◌<◌, true, false, List, [], ◌∷◌, ◌++◌, All, Option, None}
use Rattle.atomic_table.specs.Table.{Me}
use Rattle.atomic_table.specs.Seated.{TableId}
use Rattle.journal_entries.specs.declared.act.Entry.{Entry}
use Rattle.board.specs.declared.view.Start.{Start}
use Rattle.board.specs.declared.view.View.{View}
use Rattle.board.specs.declared.held.Held.{Held}
use Rattle.board.specs.Views.{Begins, SawAll, made_by, saw, with_found}
use Rattle.board.specs.Rule.{Wins, Differ}

-- which board a seat is of, and what it knows
pub record Sitting : Type 0 where
  pub board : TableId
  pub view : View

-- a seat's numbers are those of its view, and the slot is out with it in its turn alone
pub record IsTied {B : Type 0} (number count : ℕ) (m : Me (Option B) View) : Type 0 where
  pub live_is : m.0.live ≡ true
  pub number_is : number ≡ m.0.number
  pub count_is : count ≡ m.0.count
  pub in_turn : m.0.holds ≡ true → m.1 ≡ (0, None) ∷ []
  pub own_is : m.0.holds ≡ true → made_by m.0.number m.0.seen ≡ m.0.made
  pub between : m.0.holds ≡ false → m.1 ≡ []

-- the words that a seat found where it was refused: one that is odd, or an even one and then another
pub record Finds (v w : View) (h : Held) : Type 0 where
  pub odd : h.loaded % 2 ≡ 1 → (h.found ≡ h.loaded) × (w ≡ saw v h.loaded)
  pub even : h.loaded % 2 ≡ 0 → (h.found ≢ h.loaded) × (w ≡ saw (saw v h.loaded) h.found)

-- a turn was taken, after one load
abbrev pub Takes : {B : Type 0} → (B → List Entry) → (B → ℕ) → (B → Start) → View → View → B → Type 0
Takes journal drivers start v w value = (word : ℕ) × Wins journal drivers start (saw v word) w value

-- a turn was taken, after some words
abbrev pub TakesLate : {B : Type 0} → (B → List Entry) → (B → ℕ) → (B → Start) → View → View → B → Type 0
TakesLate journal drivers start v w value = (words : List ℕ) × Wins journal drivers start (with_found v words) w value

-- the journal is longer by entries of this seat alone
abbrev pub Extends : {B : Type 0} → (B → List Entry) → View → B → Type 0
Extends journal v value = (own : List Entry) × (journal value ≡ v.seen ++ own) × All (λ e. e.seat ≡ v.number) own

-- what seat 0 knows of the value of a board that was closed
pub record Ends {B : Type 0} (journal : B → List Entry) (drivers : B → ℕ) (start : B → Start) (v : View) (value : B) : Type 0 where
  pub seen_is : Begins v.seen (journal value)
  pub made_is : made_by v.number (journal value) ≡ v.made
  pub drivers_is : drivers value ≡ v.drivers
  pub start_is : start value ≡ v.start
  pub given : All (λ e. e.seat < v.count) (journal value)
  pub joined_is : All (SawAll (journal value)) v.joined
  pub joined_differ : Differ v.joined
  pub joined_within : All (λ x. (x.0 ≢ 0) × (x.0 < v.count)) v.joined
