-- Cells of a document in one flat row.
use Rattle.std.specs.Prelude.{ℕ, zero, suc, ◌+◌, Bool, true, false, not, List, [], ◌∷◌, ◌++◌, length, map, filter, Option, None, ◌==◌, if◌then◌else◌}
use Rattle.std.specs.List.{list_any}
use Rattle.ranges_tracker.specs.declared.mark.Mark.{Mark}
use Rattle.ranges_tracker.specs.Cells.{Live as LiveUnit, Gone as GoneUnit, Thread, Row}

-- a unit of the text with its mark or none, a unit that was taken out, the start of a thread, and its end
pub data Cell : Type 0 where
  Live : ℕ → Option Mark → Cell
  Gone : ℕ → Mark → Cell
  Start : ℕ → Cell
  End : ℕ → Cell

-- the cells in their order, and beside them the threads in the order in which they were first set
pub record FlatRow : Type 0 where
  pub cells : List Cell
  pub threads : List ℕ

abbrev pub is_live : Cell → Bool
is_live (Live u o) = true
is_live (Gone u m) = false
is_live (Start t) = false
is_live (End t) = false

abbrev pub is_gone : Cell → Bool
is_gone (Live u o) = false
is_gone (Gone u m) = true
is_gone (Start t) = false
is_gone (End t) = false

abbrev pub is_start : ℕ → Cell → Bool
is_start t (Live u o) = false
is_start t (Gone u m) = false
is_start t (Start s) = s == t
is_start t (End s) = false

abbrev pub is_end : ℕ → Cell → Bool
is_end t (Live u o) = false
is_end t (Gone u m) = false
is_end t (Start s) = false
is_end t (End s) = s == t

-- the live cells in their order: their units are the text
abbrev pub lives_of : List Cell → List LiveUnit
lives_of [] = []
lives_of (Live u o ∷ cs) = record { unit = u; mark = o } ∷ lives_of cs
lives_of (Gone u m ∷ cs) = lives_of cs
lives_of (Start t ∷ cs) = lives_of cs
lives_of (End t ∷ cs) = lives_of cs

-- Gap p is what stands between the live cells number p - 1 and number p. What stands before it:
abbrev pub before : ℕ → List Cell → List Cell
before zero cells = []
before (suc p) [] = []
before (suc p) (Live u o ∷ cs) = Live u o ∷ before p cs
before (suc p) (Gone u m ∷ cs) = Gone u m ∷ before (suc p) cs
before (suc p) (Start t ∷ cs) = Start t ∷ before (suc p) cs
before (suc p) (End t ∷ cs) = End t ∷ before (suc p) cs

-- gap p, and what stands behind it
abbrev pub from_gap : ℕ → List Cell → List Cell
from_gap zero cells = cells
from_gap (suc p) [] = []
from_gap (suc p) (Live u o ∷ cs) = from_gap p cs
from_gap (suc p) (Gone u m ∷ cs) = from_gap (suc p) cs
from_gap (suc p) (Start t ∷ cs) = from_gap (suc p) cs
from_gap (suc p) (End t ∷ cs) = from_gap (suc p) cs

-- the first gap, and so many live cells more with the gaps behind them
abbrev pub gaps : ℕ → List Cell → List Cell
gaps n [] = []
gaps zero (Live u o ∷ cs) = []
gaps (suc n) (Live u o ∷ cs) = Live u o ∷ gaps n cs
gaps n (Gone u m ∷ cs) = Gone u m ∷ gaps n cs
gaps n (Start t ∷ cs) = Start t ∷ gaps n cs
gaps n (End t ∷ cs) = End t ∷ gaps n cs

-- what stands behind these
abbrev pub behind : ℕ → List Cell → List Cell
behind n [] = []
behind zero (Live u o ∷ cs) = Live u o ∷ cs
behind (suc n) (Live u o ∷ cs) = behind n cs
behind n (Gone u m ∷ cs) = behind n cs
behind n (Start t ∷ cs) = behind n cs
behind n (End t ∷ cs) = behind n cs

-- the end of a thread that begins before the gap in which it ends
abbrev pub ends_earlier : List Cell → Cell → Bool
ends_earlier front (Live u o) = false
ends_earlier front (Gone u m) = false
ends_earlier front (Start t) = false
ends_earlier front (End t) = list_any (is_start t) front

abbrev pub earlier_ends : List Cell → List Cell → List Cell
earlier_ends front cells = filter (ends_earlier front) cells

abbrev pub without_earlier_ends : List Cell → List Cell → List Cell
without_earlier_ends front cells = filter (λ (c : Cell). not (ends_earlier front c)) cells

-- those that pass a test, then the others, each in their order
abbrev pub sorted_by : (Cell → Bool) → List Cell → List Cell
sorted_by test cells = filter test cells ++ filter (λ (c : Cell). not (test c)) cells

-- the three groups of a gap behind `front`: the ends of threads begun in earlier gaps, the gone cells, the other starts and ends
abbrev pub grouped : List Cell → List Cell → List Cell
grouped front cells = earlier_ends front cells ++ sorted_by is_gone (without_earlier_ends front cells)

-- the cells up to the first that passes a test, and those behind it
abbrev pub until : (Cell → Bool) → List Cell → List Cell
until test [] = []
until test (c ∷ cs) = if test c then [] else c ∷ until test cs

abbrev pub past_first : (Cell → Bool) → List Cell → List Cell
past_first test [] = []
past_first test (c ∷ cs) = if test c then cs else past_first test cs

-- the gap in which a cell stands: the number of live cells before it
abbrev pub gap_of : (Cell → Bool) → List Cell → ℕ
gap_of test cells = length (lives_of (until test cells))

-- the gone cells with their gaps, where the first gap has this number
abbrev pub gone_from : ℕ → List Cell → List GoneUnit
gone_from at [] = []
gone_from at (Live u o ∷ cs) = gone_from (at + 1) cs
gone_from at (Gone u m ∷ cs) = record { gap = at; unit = u; mark = m } ∷ gone_from at cs
gone_from at (Start t ∷ cs) = gone_from at cs
gone_from at (End t ∷ cs) = gone_from at cs

abbrev pub thread_of : List Cell → ℕ → Thread
thread_of cells t = record { thread = t; from = gap_of (is_start t) cells; to = gap_of (is_end t) cells }

-- the same cells in coordinates, by counting live cells
abbrev pub row_of : FlatRow → Row
row_of row = record { lives = lives_of row.cells; gone = gone_from 0 row.cells; threads = map (thread_of row.cells) row.threads }

-- a text without marks and threads
abbrev pub plain_flat : List ℕ → FlatRow
plain_flat text = record { cells = map (λ (u : ℕ). Live u None) text; threads = [] }
