-- The rows that steps keep, what the steps of such a row show, and the room that they need.
use Rattle.std.specs.Prelude.{◌≡◌, ℕ, ◌+◌, ◌*◌, ◌^◌, ◌<◌, ◌≤◌, false, List, [], ◌∷◌, length, Option, Some, None}
use Rattle.ot_op.specs.declared.comp.Comp.{Comp}
use Rattle.ot_op.specs.Operation.{units_of}
use Rattle.ot_op.specs.Apply.{applied, applied_all}
use Rattle.ranges_tracker.specs.Cells.{Mark, Live, Gone, Stamp, Thread, Row, same_mark, text_of, step, steps}
use Rattle.ranges_tracker.specs.declared.change.Change.{Change}
use Rattle.ranges_tracker.specs.declared.comment.Comment.{Comment}
use Rattle.ranges_tracker.specs.Shown.{mark_of, packed, gone_cells, shown}

-- the gone cells stand in the order of their gaps
abbrev pub RisingGone : ℕ → List Gone → Type 0
RisingGone at [] = Unit {0}
RisingGone at (g ∷ gs) = (at ≤ g.gap) × RisingGone g.gap gs

-- gaps within the text
abbrev pub GapsWithin : ℕ → List Gone → Type 0
GapsWithin m [] = Unit {0}
GapsWithin m (g ∷ gs) = (g.gap ≤ m) × GapsWithin m gs

-- each thread starts before it ends, within the text
abbrev pub Within : ℕ → List Thread → Type 0
Within n [] = Unit {0}
Within n (t ∷ ts) = (t.from ≤ t.to) × (t.to ≤ n) × (Within n ts)

-- marks stay older than the next fresh one
abbrev pub OlderMark : ℕ → ℕ → Option Mark → Type 0
OlderMark v k None = Unit {0}
OlderMark v k (Some m) = (m.version ≤ v) × (m.version ≡ v → m.k < k)

abbrev pub OlderLives : ℕ → ℕ → List Live → Type 0
OlderLives v k [] = Unit {0}
OlderLives v k (l ∷ ls) = OlderMark v k l.mark × OlderLives v k ls

-- no two changes bear one mark
abbrev pub NoMark : Mark → List Change → Type 0
NoMark m [] = Unit {0}
NoMark m (c ∷ cs) = (same_mark m (mark_of c) ≡ false) × NoMark m cs

abbrev pub Distinct : List Change → Type 0
Distinct [] = Unit {0}
Distinct (c ∷ cs) = NoMark (mark_of c) cs × Distinct cs

-- gone cells with older marks
abbrev pub OlderGone : ℕ → ℕ → List Gone → Type 0
OlderGone v k [] = Unit {0}
OlderGone v k (g ∷ gs) = (g.mark.version ≤ v) × (g.mark.version ≡ v → g.mark.k < k) × (OlderGone v k gs)

-- what a step needs of a row, and what it keeps
pub record Steady (row : Row) (stamp : Stamp) (k : ℕ) : Type 0 where
  pub rises : RisingGone 0 row.gone
  pub gaps : GapsWithin (length row.lives) row.gone
  pub distinct : Distinct (packed (gone_cells row.gone))
  pub lives : OlderLives stamp.version k row.lives
  pub gone : OlderGone stamp.version k row.gone
  pub threads : Within (length row.lives) row.threads

-- ranges and a count of marks are those of the step of each row that shows the ranges before
abbrev pub IsStepOf : List Change × List Comment → Comp → Stamp → ℕ → List Change × List Comment → ℕ → Type 0
IsStepOf ranges comp stamp k next marks = (row : Row) (text : List ℕ) → Steady row stamp k → shown row ≡ ranges → applied (text_of row.lives) comp ≡ Some text →
    (shown (step row comp stamp k).row ≡ next) × ((step row comp stamp k).marks ≡ marks)

abbrev pub units_all : List Comp → ℕ
units_all [] = 0
units_all (c ∷ cs) = units_of c + units_all cs

-- these are the ranges of the steps of each row that shows the ranges before
abbrev pub IsStepsOf : List Change × List Comment → List Comp → Stamp → List Change × List Comment → Type 0
IsStepsOf ranges op stamp next = (row : Row) (text : List ℕ) → Steady row stamp 0 → shown row ≡ ranges → applied_all (text_of row.lives) op ≡ Some text → shown (steps row op stamp 0).row ≡ next
