-- What seats know, and how it changes.
use Rattle.std.specs.Prelude.{◌≡◌, ℕ, ◌+◌, ◌==◌, true, false, List, [], ◌∷◌, ◌++◌, length, filter, if◌then◌else◌, nat_le}
use mathlib.Core.Option.{some}
use lib.ListN.{get_elem?}
use Rattle.journal_entries.specs.declared.act.Entry.{Entry}
use Rattle.board.specs.declared.view.Start.{Start}
use Rattle.board.specs.declared.view.View.{View}

-- the entries that bear a seat's number
abbrev pub made_by : ℕ → List Entry → List Entry
made_by number entries = filter (λ e. e.seat == number) entries

-- the whole begins with what was seen
abbrev pub Begins : List Entry → List Entry → Type 0
Begins seen whole = (more : List Entry) × (whole ≡ seen ++ more)

-- what a seat of this number saw last is a beginning, and has all entries that bear the number
abbrev pub SawAll : List Entry → ℕ × List Entry → Type 0
SawAll log x = Begins x.1 log × (made_by x.0 log ≡ made_by x.0 x.1)

-- what seat 0 knows of a new board
abbrev pub opened : List Entry → ℕ → Start → View
opened log drivers start = record { live = true; number = 0; holds = false; seen = log; made = made_by 0 log; found = []; count = 1; joined = []; drivers = drivers; start = start }

-- what is left behind of a seat that was joined
abbrev pub spent : View
spent = record { live = false; number = 0; holds = false; seen = []; made = []; found = []; count = 0; joined = []; drivers = 0; start = record { faults = 0; documents = [] } }

-- one more found word
abbrev pub saw : View → ℕ → View
saw v word = record v { found = v.found ++ word ∷ [] }

abbrev pub with_found : View → List ℕ → View
with_found v words = record v { found = v.found ++ words }

-- the turn was taken
abbrev pub took : View → List Entry → View
took v log = record v { holds = true; seen = log }

-- the turn was given back
abbrev pub gave : View → List Entry → View
gave v log = record v { holds = false; seen = log; made = made_by v.number log }

-- seat 0 made a seat more, and what the new one knows
abbrev pub counted : View → View
counted v = record v { count = v.count + 1 }

abbrev pub newcomer : View → View
newcomer v = record { live = true; number = v.count; holds = false; seen = v.seen; made = []; found = []; count = 0; joined = []; drivers = v.drivers; start = v.start }

abbrev pub longer : List Entry → List Entry → List Entry
longer xs ys = if nat_le (length ys) (length xs) then xs else ys

-- seat 0 joined another seat: it keeps that seat's number with what that seat saw last
abbrev pub taken_in : View → View → View
taken_in v w = record v { seen = if v.holds then v.seen else longer v.seen w.seen; joined = v.joined ++ (w.number, w.seen) ∷ [] }

-- how many of these aren't spent
abbrev pub one : View → ℕ
one v = if v.live then 1 else 0

abbrev pub alive : List View → ℕ
alive [] = 0
alive (v ∷ vs) = one v + alive vs

-- the view at a place
abbrev pub At : List View → ℕ → View → Type 0
At views k v = get_elem? views k ≡ some v
