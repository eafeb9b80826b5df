-- The step of a component on a flat row.
use Rattle.std.specs.Prelude.{ℕ, zero, suc, ◌+◌, not, List, [], ◌∷◌, ◌++◌, length, map, filter, Option, Some, None, ◌&&◌, ◌||◌, ◌==◌, if◌then◌else◌}
use Rattle.std.specs.List.{flat_map}
use Rattle.ot_op.specs.declared.comp.Comp.{Comp}
use Rattle.ot_op.specs.declared.comp.Comp.TheVariants.{Ins, Del, Com}
use Rattle.ranges_tracker.specs.declared.mark.Mark.{Mark}
use Rattle.ranges_tracker.specs.declared.stamp.Stamp.{Stamp}
use Rattle.ranges_tracker.specs.Cells.{same_mark, mark_at, mark_before, chosen, torn, renewed, exchanged, count, fresh_mark, some_unmarked}
use Rattle.flat_cells.specs.Row.{Cell, Live, Gone, Start, End, FlatRow, is_live, is_start, is_end, lives_of, before, from_gap, gaps, behind, earlier_ends, without_earlier_ends, grouped}

-- a cell that bears the old mark gets the new one
abbrev pub exchanged_cell : Mark → Mark → Cell → Cell
exchanged_cell old new (Live u o) = Live u (exchanged old new o)
exchanged_cell old new (Gone u m) = Gone u (if same_mark m old then new else m)
exchanged_cell old new (Start t) = Start t
exchanged_cell old new (End t) = End t

-- all cells of the torn mark get one fresh mark with its user and moment
abbrev pub remarked_cells : Option Mark → Stamp → ℕ → List Cell → List Cell
remarked_cells None stamp k cells = cells
remarked_cells (Some old) stamp k cells = map (exchanged_cell old (renewed old stamp k)) cells

abbrev pub new_cells : List ℕ → Option Mark → List Cell
new_cells units mark = map (λ (u : ℕ). Live u mark) units

-- a flat row after a component, and the count of fresh marks then
pub record FlatStepped : Type 0 where
  pub row : FlatRow
  pub marks : ℕ

-- The new cells stand right behind their gap's ends of threads begun in earlier gaps.
abbrev pub flat_inserted : FlatRow → ℕ → List ℕ → Stamp → ℕ → FlatStepped
flat_inserted row at part stamp k =
    let left = mark_before (lives_of row.cells) at in
    let right = mark_at (lives_of row.cells) at in
    let by = chosen left right stamp k in
    let old = torn left right by.mark in
    let front = before at row.cells in
    let rest = from_gap at row.cells in
    let gap = gaps 0 rest in
    record {
      row = record {
        cells = front ++ (earlier_ends front gap ++ (new_cells part by.mark ++ remarked_cells old stamp (k + by.fresh) (without_earlier_ends front gap ++ behind 0 rest)));
        threads = row.threads;
      };
      marks = k + by.fresh + count old;
    }

-- what becomes of a cell that is taken out under a fresh mark: marked live ones go, the mark takes over the gone ones
abbrev pub taken_out : Mark → Cell → List Cell
taken_out new (Live u None) = Gone u new ∷ []
taken_out new (Live u (Some m)) = []
taken_out new (Gone u m) = Gone u new ∷ []
taken_out new (Start t) = Start t ∷ []
taken_out new (End t) = End t ∷ []

-- What stands in the gaps `at` to `at + n` without its live cells, as one gap. Tracked, where some of these live cells bears no mark, all that is gone comes under one fresh mark.
abbrev pub flat_deleted : FlatRow → ℕ → ℕ → Stamp → ℕ → FlatStepped
flat_deleted row at n stamp k =
    let front = before at row.cells in
    let rest = from_gap at row.cells in
    let out = gaps n rest in
    let fresh = stamp.track && some_unmarked (lives_of out) in
    let left = if fresh then flat_map (taken_out (fresh_mark stamp k)) out else filter (λ (c : Cell). not (is_live c)) out in
    record {
      row = record { cells = front ++ (grouped front left ++ behind n rest); threads = row.threads };
      marks = if fresh then k + 1 else k;
    }

-- cells without the start and the end of a thread
abbrev pub unthreaded : ℕ → List Cell → List Cell
unthreaded t cells = filter (λ (c : Cell). not (is_start t c || is_end t c)) cells

-- The start of a thread stands last in its gap; the end last among the ends, in its gap, of threads begun in earlier gaps; of an empty thread both stand last in their gap.
abbrev pub with_start : ℕ → ℕ → List Cell → List Cell
with_start t at cells = let rest = from_gap at cells in before at cells ++ (gaps 0 rest ++ (Start t ∷ behind 0 rest))

abbrev pub with_end : ℕ → ℕ → List Cell → List Cell
with_end t at cells =
    let front = before at cells in
    let rest = from_gap at cells in
    let gap = gaps 0 rest in
    front ++ (earlier_ends front gap ++ (End t ∷ (without_earlier_ends front gap ++ behind 0 rest)))

abbrev pub with_empty : ℕ → ℕ → List Cell → List Cell
with_empty t at cells = let rest = from_gap at cells in before at cells ++ (gaps 0 rest ++ (Start t ∷ (End t ∷ behind 0 rest)))

abbrev pub threaded : ℕ → ℕ → ℕ → List Cell → List Cell
threaded t at zero cells = with_empty t at cells
threaded t at (suc n) cells = with_end t (at + suc n) (with_start t at cells)

-- a thread that isn't in the list goes last in it
abbrev pub listed : ℕ → List ℕ → List ℕ
listed t [] = t ∷ []
listed t (s ∷ ss) = if s == t then s ∷ ss else s ∷ listed t ss

-- a flat row after one component of an update, where k counts the update's fresh marks
abbrev pub flat_step : FlatRow → Comp → Stamp → ℕ → FlatStepped
flat_step row (Ins at part) stamp k = flat_inserted row at part stamp k
flat_step row (Del at part) stamp k = flat_deleted row at (length part) stamp k
flat_step row (Com at part t) stamp k = record { row = record { cells = threaded t at (length part) (unthreaded t row.cells); threads = listed t row.threads }; marks = k }

-- and after an operation
abbrev pub flat_steps : FlatRow → List Comp → Stamp → ℕ → FlatStepped
flat_steps row [] stamp k = record { row = row; marks = k }
flat_steps row (c ∷ cs) stamp k = let next = flat_step row c stamp k in flat_steps next.row cs stamp next.marks
