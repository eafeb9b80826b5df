-- Ranges as they are shown.
use Rattle.std.specs.Prelude.{ℕ, ◌+◌, ◌-◌, Bool, true, false, List, [], ◌∷◌, ◌++◌, length, take, drop, map, Option, Some, None, ◌&&◌, ◌==◌, nat_le, if◌then◌else◌}
use Rattle.ranges_tracker.specs.Cells.{Mark, Live, Gone, Thread, Row, same_mark, text_of}
use Rattle.ranges_tracker.specs.declared.change.Change.{Change}
use Rattle.ranges_tracker.specs.declared.comment.Comment.{Comment}
use Rattle.ranges_tracker.specs.declared.change.ChangeKind.{ChangeKind}
use Rattle.ranges_tracker.specs.declared.change.ChangeKind.TheVariants.{Inserted, Deleted}

abbrev pub change : ChangeKind → ℕ → List ℕ → Mark → Change
change kind at text m = record { version = m.version; k = m.k; at = at; kind = kind; text = text; user = m.user; ms = m.ms }

abbrev pub mark_of : Change → Mark
mark_of c = record { version = c.version; k = c.k; user = c.user; ms = c.ms }

-- the gap in which the next change of the same cells would stand
abbrev pub reach_of : ChangeKind → ℕ → ℕ → ℕ
reach_of Inserted at n = at + n
reach_of Deleted at n = at

abbrev pub reach : Change → ℕ
reach c = reach_of c.kind c.at (length c.text)

abbrev pub same_kind : ChangeKind → ChangeKind → Bool
same_kind Inserted Inserted = true
same_kind Inserted Deleted = false
same_kind Deleted Inserted = false
same_kind Deleted Deleted = true

abbrev pub meets : Change → Change → Bool
meets c d = same_kind c.kind d.kind && ((reach c == d.at) && same_mark (mark_of c) (mark_of d))

abbrev pub fused : Change → Change → Change
fused c d = record { version = c.version; k = c.k; at = c.at; kind = c.kind; text = c.text ++ d.text; user = c.user; ms = c.ms }

-- a change before others: neighbours of one mark are one change
abbrev pub touch : Change → List Change → List Change
touch c [] = c ∷ []
touch c (d ∷ ds) = if meets c d then fused c d ∷ ds else c ∷ d ∷ ds

abbrev pub packed : List Change → List Change
packed [] = []
packed (c ∷ cs) = touch c (packed cs)

-- each marked live cell, and each gone cell, as a change of one unit
abbrev pub live_cell : ℕ → ℕ → Option Mark → List Change
live_cell at u None = []
live_cell at u (Some m) = change Inserted at (u ∷ []) m ∷ []

abbrev pub live_cells : ℕ → List Live → List Change
live_cells at [] = []
live_cells at (l ∷ ls) = live_cell at l.unit l.mark ++ live_cells (at + 1) ls

abbrev pub gone_cells : List Gone → List Change
gone_cells gone = map (λ (g : Gone). change Deleted g.gap (g.unit ∷ []) g.mark) gone

-- of deletes in order, those up to a place, and the others
abbrev pub up_to : ℕ → List Change → List Change
up_to at [] = []
up_to at (d ∷ ds) = if nat_le d.at at then d ∷ up_to at ds else []

abbrev pub past : ℕ → List Change → List Change
past at [] = []
past at (d ∷ ds) = if nat_le d.at at then past at ds else d ∷ ds

-- inserts and deletes by their places, at one place the deletes first
abbrev pub merged : List Change → List Change → List Change
merged [] ds = ds
merged (i ∷ is) ds = up_to i.at ds ++ (i ∷ merged is (past i.at ds))

abbrev pub shown_changes : Row → List Change
shown_changes row = merged (packed (live_cells 0 row.lives)) (packed (gone_cells row.gone))

abbrev pub shown_comments : Row → List Comment
shown_comments row = map (λ (t : Thread). record { thread = t.thread; at = t.from; text = take (t.to - t.from) (drop t.from (text_of row.lives)) }) row.threads

-- changes and comments
abbrev pub shown : Row → List Change × List Comment
shown row = (shown_changes row, shown_comments row)
