-- The rule of a board: its word, its slot, and what the seats know.
use Rattle.std.specs.Prelude.{◌≡◌, ◌≢◌, ℕ, ◌+◌, ◌*◌, ◌%◌, ◌<◌, ◌⊎◌, ◌==◌, true, false, List, [], ◌∷◌, length, All, Option, Some, MatchBool}
use Rattle.std.specs.List.{AllPairs}
use mathlib.Core.Option.{some, none}
use Rattle.atomic_table.specs.Table.{State, Me}
use Rattle.journal_entries.specs.declared.act.Entry.{Entry}
use Rattle.board.specs.declared.view.Start.{Start}
use Rattle.board.specs.declared.view.View.{View}
use Rattle.board.specs.Views.{At, Begins, SawAll, made_by, alive, saw, took, gave}

-- no two joined numbers are the same
abbrev pub Differ : List (ℕ × List Entry) → Type 0
Differ joined = AllPairs (λ x y. x.0 ≢ y.0) joined

-- what one live view knows of the journal and of the seats
pub record Fits (log : List Entry) (count drivers : ℕ) (start : Start) (v : View) : Type 0 where
  pub seen_is : Begins v.seen log
  pub made_is : made_by v.number log ≡ v.made
  pub number_is : v.number < count
  pub drivers_is : v.drivers ≡ drivers
  pub start_is : v.start ≡ start
  pub count_is : v.number ≡ 0 → v.count ≡ count
  pub own_is : v.number ≢ 0 → made_by v.number v.seen ≡ v.made
  pub joined_is : v.number ≡ 0 → All (SawAll log) v.joined
  pub joined_below : v.number ≡ 0 → All (λ x. x.0 < count) v.joined
  pub joined_differ : v.number ≡ 0 → Differ v.joined

module _ {B : Type 0} (journal : B → List Entry) (drivers : B → ℕ) (start : B → Start) where
  -- nobody holds the turn, and the value is in the slot
  pub record IsHome (log : List Entry) (d : ℕ) (t : Start) (s : State (Option B) View) : Type 0 where
    pub value : B
    pub words_is : s.words ≡ (2 * length log) ∷ []
    pub homes_is : s.homes ≡ some (Some value) ∷ []
    pub journal_is : journal value ≡ log
    pub drivers_is : drivers value ≡ d
    pub start_is : start value ≡ t
    pub none_holds : (k : ℕ) (v : View) → At s.views k v → v.holds ≡ false

  -- one seat holds the turn, and has seen the whole journal
  pub record IsOut (log : List Entry) (s : State (Option B) View) : Type 0 where
    pub seat : ℕ
    pub view : View
    pub words_is : s.words ≡ (2 * length log + 1) ∷ []
    pub homes_is : s.homes ≡ none ∷ []
    pub here : At s.views seat view
    pub holds_is : view.holds ≡ true
    pub live_is : view.live ≡ true
    pub one_holds : (k : ℕ) (v : View) → At s.views k v → v.holds ≡ true → (k ≡ seat) × (v.seen ≡ log)

  -- the rule: at each moment there are a journal, a count of the numbers given, a number of drivers and
  -- a start that all live views agree with
  pub record IsRuled (s : State (Option B) View) : Type 0 where
    pub log : List Entry
    pub count : ℕ
    pub d : ℕ
    pub t : Start
    pub turn : IsHome log d t s ⊎ IsOut log s
    pub fits : (k : ℕ) (v : View) → At s.views k v → v.live ≡ true → Fits log count d t v
    -- numbers of live seats differ, also from those that were joined
    pub apart : (i j : ℕ) (v w : View) → At s.views i v → At s.views j w → v.live ≡ true → w.live ≡ true → v.number ≡ w.number → i ≡ j
    pub unjoined : (i j : ℕ) (v w : View) → At s.views i v → At s.views j w → v.live ≡ true → w.live ≡ true → v.number ≡ 0 → All (λ x. x.0 ≢ w.number) v.joined
    -- no entry has a number that wasn't given
    pub given : All (λ e. e.seat < count) log
    -- seats that are there and numbers that were joined are all that were given
    pub tally : (k : ℕ) (v : View) → At s.views k v → v.live ≡ true → v.number ≡ 0 → alive s.views + length v.joined ≡ count

  -- what taking the turn tells
  pub record Wins (v w : View) (value : B) : Type 0 where
    pub view_is : w ≡ took v (journal value)
    pub seen_is : Begins v.seen (journal value)
    pub made_is : made_by v.number (journal value) ≡ v.made
    pub drivers_is : drivers value ≡ v.drivers
    pub start_is : start value ≡ v.start
    pub others : v.number ≢ 0 → SawAll (journal value) (v.number, v.seen)
    pub joined_is : v.number ≡ 0 → All (SawAll (journal value)) v.joined
    pub joined_differ : v.number ≡ 0 → Differ v.joined

  -- an exchange of the word: won, it takes the turn with the value; lost, it finds one word more
  abbrev pub Tries : ℕ → Me (Option B) View → ℕ → Me (Option B) View → Type 0
  Tries old m found n =
      MatchBool (found == old)
      ((value : B) × Wins m.0 n.0 value × (n.1 ≡ (0, Some value) ∷ []))
      (n ≡ (saw m.0 found, m.1))

-- the swap of the word: it gives the turn back with the value that was put into the slot
abbrev pub Gives : {B : Type 0} → (B → List Entry) → Me (Option B) View → Me (Option B) View → Type 0
Gives journal m n = (value : _) → m.1 ≡ (0, Some value) ∷ [] → n ≡ (gave m.0 (journal value), [])

-- a load of the word: one word more is found, which is odd where this seat holds the turn
abbrev pub Looks : {B : Type 0} → Me (Option B) View → ℕ → Me (Option B) View → Type 0
Looks m found n = (n ≡ (saw m.0 found, m.1)) × (m.0.holds ≡ true → found % 2 ≡ 1)
