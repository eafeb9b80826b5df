-- worked rows, computed on flat rows
use Rattle.std.proofs.Common.{◌≡◌, ℕ, true, false, List, [], ◌∷◌, refl, None}
use Rattle.ot_op.specs.declared.comp.Comp.TheVariants.{Ins, Del, Com}
use Rattle.ranges_tracker.specs.declared.mark.Mark.{Mark}
use Rattle.ranges_tracker.specs.declared.stamp.Stamp.{Stamp}
use Rattle.ranges_tracker.specs.Cells.{text_of}
use Rattle.flat_cells.specs.Row.{Live, Gone, Start, End, FlatRow, lives_of, plain_flat}
use Rattle.flat_cells.specs.Step.{flat_step}
use Rattle.flat_cells.specs.Shown.{flat_shown}
use Rattle.ranges_tracker.specs.declared.change.ChangeKind.TheVariants.{Inserted, Deleted}
use Rattle.ranges_tracker.specs.Shown.{change}
use Rattle.ranges_tracker.specs.Commented.{comment_of}

abbrev alice : List ℕ
alice = 1 ∷ []

abbrev bob : List ℕ
bob = 2 ∷ []

abbrev tracked : ℕ → List ℕ → Stamp
tracked v user = record { version = v; user = user; ms = 0; track = true }

abbrev untracked : ℕ → List ℕ → Stamp
untracked v user = record { version = v; user = user; ms = 0; track = false }

abbrev mark : ℕ → ℕ → List ℕ → Mark
mark v k user = record { version = v; k = k; user = user; ms = 0 }

-- `ab`; alice inserts `XZ` at 1; bob inserts `Y` at 2
abbrev row_one : FlatRow
row_one = (flat_step (flat_step (plain_flat (97 ∷ 98 ∷ [])) (Ins 1 (88 ∷ 90 ∷ [])) (tracked 0 alice) 0).row (Ins 2 (89 ∷ [])) (tracked 1 bob) 0).row

one_text : text_of (lives_of row_one.cells) ≡ 97 ∷ 88 ∷ 89 ∷ 90 ∷ 98 ∷ []
one_text = refl

one_shown : flat_shown row_one ≡
    (change Inserted 1 (88 ∷ []) (mark 0 0 alice) ∷ change Inserted 2 (89 ∷ []) (mark 1 0 bob) ∷ change Inserted 3 (90 ∷ []) (mark 1 1 alice) ∷ [], [])
one_shown = refl

-- `abc`; alice inserts `X` at 1, then `Y` at 2
abbrev row_two : FlatRow
row_two = (flat_step (flat_step (plain_flat (97 ∷ 98 ∷ 99 ∷ [])) (Ins 1 (88 ∷ [])) (tracked 0 alice) 0).row (Ins 2 (89 ∷ [])) (tracked 1 alice) 0).row

two_shown : flat_shown row_two ≡ (change Inserted 1 (88 ∷ 89 ∷ []) (mark 0 0 alice) ∷ [], [])
two_shown = refl

-- `abcd`; alice deletes `b` at 1, then `ac` at 0
abbrev row_three : FlatRow
row_three = (flat_step (flat_step (plain_flat (97 ∷ 98 ∷ 99 ∷ 100 ∷ [])) (Del 1 (98 ∷ [])) (tracked 0 alice) 0).row (Del 0 (97 ∷ 99 ∷ [])) (tracked 1 alice) 0).row

three_cells : row_three.cells ≡ Gone 97 (mark 1 0 alice) ∷ Gone 98 (mark 1 0 alice) ∷ Gone 99 (mark 1 0 alice) ∷ Live 100 None ∷ []
three_cells = refl

three_shown : flat_shown row_three ≡ (change Deleted 0 (97 ∷ 98 ∷ 99 ∷ []) (mark 1 0 alice) ∷ [], [])
three_shown = refl

-- the empty text; alice inserts `abcd` tracked; bob inserts `X` at 2 untracked; bob deletes all tracked
abbrev row_torn : FlatRow
row_torn = (flat_step (flat_step (plain_flat []) (Ins 0 (97 ∷ 98 ∷ 99 ∷ 100 ∷ [])) (tracked 0 alice) 0).row (Ins 2 (88 ∷ [])) (untracked 1 bob) 0).row

torn_text : text_of (lives_of row_torn.cells) ≡ 97 ∷ 98 ∷ 88 ∷ 99 ∷ 100 ∷ []
torn_text = refl

torn_shown : flat_shown row_torn ≡ (change Inserted 0 (97 ∷ 98 ∷ []) (mark 0 0 alice) ∷ change Inserted 3 (99 ∷ 100 ∷ []) (mark 1 0 alice) ∷ [], [])
torn_shown = refl

abbrev row_gone : FlatRow
row_gone = (flat_step row_torn (Del 0 (97 ∷ 98 ∷ 88 ∷ 99 ∷ 100 ∷ [])) (tracked 2 bob) 0).row

gone_cells : row_gone.cells ≡ Gone 88 (mark 2 0 bob) ∷ []
gone_cells = refl

gone_shown : flat_shown row_gone ≡ (change Deleted 0 (88 ∷ []) (mark 2 0 bob) ∷ [], [])
gone_shown = refl

-- `abcde`; a comment on `bcd` at 1, `X` put in at 2, all deleted
abbrev row_comment : FlatRow
row_comment = (flat_step (flat_step (plain_flat (97 ∷ 98 ∷ 99 ∷ 100 ∷ 101 ∷ [])) (Com 1 (98 ∷ 99 ∷ 100 ∷ []) 7) (untracked 0 alice) 0).row (Ins 2 (88 ∷ [])) (untracked 1 alice) 0).row

comment_cells : row_comment.cells ≡ Live 97 None ∷ Start 7 ∷ Live 98 None ∷ Live 88 None ∷ Live 99 None ∷ Live 100 None ∷ End 7 ∷ Live 101 None ∷ []
comment_cells = refl

comment_shown : flat_shown row_comment ≡ ([], comment_of 7 1 (98 ∷ 88 ∷ 99 ∷ 100 ∷ []) ∷ [])
comment_shown = refl

comment_empty : flat_shown (flat_step row_comment (Del 0 (97 ∷ 98 ∷ 88 ∷ 99 ∷ 100 ∷ 101 ∷ [])) (untracked 2 alice) 0).row ≡ ([], comment_of 7 0 [] ∷ [])
comment_empty = refl

-- `abc`; a comment on `a`, bob deletes `b` tracked, a comment on `c`: gap 1 has an end, a gone cell and a start
abbrev row_grouped : FlatRow
row_grouped = (flat_step (flat_step (flat_step (plain_flat (97 ∷ 98 ∷ 99 ∷ [])) (Com 0 (97 ∷ []) 1) (untracked 0 alice) 0).row (Del 1 (98 ∷ [])) (tracked 1 bob) 0).row (Com 1 (99 ∷ []) 2) (untracked 2 alice) 0).row

grouped_cells : row_grouped.cells ≡ Start 1 ∷ Live 97 None ∷ End 1 ∷ Gone 98 (mark 1 0 bob) ∷ Start 2 ∷ Live 99 None ∷ End 2 ∷ []
grouped_cells = refl

-- `X` put in at 1 stands behind the end and before the gone cell
grouped_inserted : (flat_step row_grouped (Ins 1 (88 ∷ [])) (untracked 3 alice) 0).row.cells ≡ Start 1 ∷ Live 97 None ∷ End 1 ∷ Live 88 None ∷ Gone 98 (mark 1 0 bob) ∷ Start 2 ∷ Live 99 None ∷ End 2 ∷ []
grouped_inserted = refl

-- all deleted: both threads are empty behind the gone cell
grouped_deleted : (flat_step row_grouped (Del 0 (97 ∷ 99 ∷ [])) (untracked 3 alice) 0).row.cells ≡ Gone 98 (mark 1 0 bob) ∷ Start 1 ∷ End 1 ∷ Start 2 ∷ End 2 ∷ []
grouped_deleted = refl

-- a comment set again keeps its place in the list, and an end comes last among the ends of its gap
grouped_again : (flat_step row_grouped (Com 0 (97 ∷ []) 2) (untracked 3 alice) 0).row ≡ record { cells = Start 1 ∷ Start 2 ∷ Live 97 None ∷ End 1 ∷ End 2 ∷ Gone 98 (mark 1 0 bob) ∷ Live 99 None ∷ []; threads = 1 ∷ 2 ∷ [] }
grouped_again = refl
