-- What a flat row shows, and which flat rows are well formed.
use Rattle.std.specs.Prelude.{ℕ, ◌+◌, List, [], ◌∷◌, map, Some, None, if◌then◌else◌}
use Rattle.ranges_tracker.specs.Cells.{text_of}
use Rattle.flat_cells.specs.Row.{Cell, Live, Gone, Start, End, FlatRow, is_start, is_end, lives_of, until, past_first, gap_of}
use Rattle.ranges_tracker.specs.declared.change.Change.{Change}
use Rattle.ranges_tracker.specs.declared.comment.Comment.{Comment}
use Rattle.ranges_tracker.specs.declared.change.ChangeKind.TheVariants.{Inserted, Deleted}
use Rattle.ranges_tracker.specs.Shown.{change, meets, fused}

-- a cell's change, grown by the change of cells behind it that goes on with it: live cells of one mark that follow each other, or gone cells of one mark in one gap
abbrev pub grown : Change → List Change → Change
grown c [] = c
grown c (d ∷ ds) = if meets c d then fused c d else grown c ds

-- the changes behind it that are left
abbrev pub others : Change → List Change → List Change
others c [] = []
others c (d ∷ ds) = if meets c d then ds else d ∷ others c ds

abbrev pub in_front : Change → List Change → List Change
in_front c cs = grown c cs ∷ others c cs

-- the changes in the order of their first cells, where the first gap has this number
abbrev pub flat_changes : ℕ → List Cell → List Change
flat_changes at [] = []
flat_changes at (Live u None ∷ cs) = flat_changes (at + 1) cs
flat_changes at (Live u (Some m) ∷ cs) = in_front (change Inserted at (u ∷ []) m) (flat_changes (at + 1) cs)
flat_changes at (Gone u m ∷ cs) = in_front (change Deleted at (u ∷ []) m) (flat_changes at cs)
flat_changes at (Start t ∷ cs) = flat_changes at cs
flat_changes at (End t ∷ cs) = flat_changes at cs

-- a thread: its place is the number of live cells before its start, its text the live cells between start and end
abbrev pub flat_comment : List Cell → ℕ → Comment
flat_comment cells t = record { thread = t; at = gap_of (is_start t) cells; text = text_of (lives_of (until (is_end t) (past_first (is_start t) cells))) }

abbrev pub flat_shown : FlatRow → List Change × List Comment
flat_shown row = (flat_changes 0 row.cells, map (flat_comment row.cells) row.threads)
