-- worked rows, computed
use Rattle.std.proofs.Common.{◌≡◌, ℕ, true, false, List, [], ◌∷◌, refl}
use Rattle.ot_op.specs.declared.comp.Comp.TheVariants.{Ins, Del, Com}
use Rattle.ranges_tracker.specs.Cells.{Mark, Stamp, Row, step, plain_row, text_of}
use Rattle.ranges_tracker.specs.declared.change.ChangeKind.TheVariants.{Inserted, Deleted}
use Rattle.ranges_tracker.specs.Shown.{change, shown_changes, shown_comments}
use Rattle.ranges_tracker.specs.Commented.{comment_of}

alice : List ℕ
alice = 1 ∷ []

abbrev stamp : ℕ → List ℕ → Stamp
stamp v user = record { version = v; user = user; ms = 0; track = true }

abbrev mark : ℕ → ℕ → List ℕ → Mark
mark v k user = record { version = v; k = k; user = user; ms = 0 }

-- `ab`; alice inserts `XZ` at 1; bob inserts `Y` at 2
abbrev row_one : Row
row_one = (step (step (plain_row (97 ∷ 98 ∷ [])) (Ins 1 (88 ∷ 90 ∷ [])) (stamp 0 (1 ∷ [])) 0).row (Ins 2 (89 ∷ [])) (stamp 1 (2 ∷ [])) 0).row

one_text : text_of row_one.lives ≡ 97 ∷ 88 ∷ 89 ∷ 90 ∷ 98 ∷ []
one_text = refl

one_changes : shown_changes row_one ≡
    change Inserted 1 (88 ∷ []) (mark 0 0 (1 ∷ [])) ∷
    change Inserted 2 (89 ∷ []) (mark 1 0 (2 ∷ [])) ∷
    change Inserted 3 (90 ∷ []) (mark 1 1 (1 ∷ [])) ∷ []
one_changes = refl

-- `abcd`; u deletes `b` at 1, then `ac` at 0
abbrev row_three : Row
row_three = (step (step (plain_row (97 ∷ 98 ∷ 99 ∷ 100 ∷ [])) (Del 1 (98 ∷ [])) (stamp 0 (1 ∷ [])) 0).row (Del 0 (97 ∷ 99 ∷ [])) (stamp 1 (1 ∷ [])) 0).row

three_changes : shown_changes row_three ≡ change Deleted 0 (97 ∷ 98 ∷ 99 ∷ []) (mark 1 0 (1 ∷ [])) ∷ []
three_changes = refl

-- `abc`; alice inserts `X` at 1, then `Y` at 2
abbrev row_two : Row
row_two = (step (step (plain_row (97 ∷ 98 ∷ 99 ∷ [])) (Ins 1 (88 ∷ [])) (stamp 0 (1 ∷ [])) 0).row (Ins 2 (89 ∷ [])) (stamp 1 (1 ∷ [])) 0).row

two_changes : shown_changes row_two ≡ change Inserted 1 (88 ∷ 89 ∷ []) (mark 0 0 (1 ∷ [])) ∷ []
two_changes = refl

abbrev untracked : ℕ → List ℕ → Stamp
untracked v user = record { version = v; user = user; ms = 0; track = false }

-- the empty text; alice inserts `abcd` tracked; bob inserts `X` at 2 untracked; bob deletes all tracked
abbrev row_torn : Row
row_torn = (step (step (plain_row []) (Ins 0 (97 ∷ 98 ∷ 99 ∷ 100 ∷ [])) (stamp 0 (1 ∷ [])) 0).row (Ins 2 (88 ∷ [])) (untracked 1 (2 ∷ [])) 0).row

torn_changes : shown_changes row_torn ≡
    change Inserted 0 (97 ∷ 98 ∷ []) (mark 0 0 (1 ∷ [])) ∷
    change Inserted 3 (99 ∷ 100 ∷ []) (mark 1 0 (1 ∷ [])) ∷ []
torn_changes = refl

all_gone : shown_changes (step row_torn (Del 0 (97 ∷ 98 ∷ 88 ∷ 99 ∷ 100 ∷ [])) (stamp 2 (2 ∷ [])) 0).row ≡ change Deleted 0 (88 ∷ []) (mark 2 0 (2 ∷ [])) ∷ []
all_gone = refl

-- `abcde`; a comment on `bcd` at 1, `X` put in at 2, all deleted
abbrev row_comment : Row
row_comment = (step (step (plain_row (97 ∷ 98 ∷ 99 ∷ 100 ∷ 101 ∷ [])) (Com 1 (98 ∷ 99 ∷ 100 ∷ []) 7) (untracked 0 (1 ∷ [])) 0).row (Ins 2 (88 ∷ [])) (untracked 1 (1 ∷ [])) 0).row

comment_shown : shown_comments row_comment ≡ comment_of 7 1 (98 ∷ 88 ∷ 99 ∷ 100 ∷ []) ∷ []
comment_shown = refl

comment_empty : shown_comments (step row_comment (Del 0 (97 ∷ 98 ∷ 88 ∷ 99 ∷ 100 ∷ 101 ∷ [])) (untracked 2 (1 ∷ [])) 0).row ≡ comment_of 7 0 ([]) ∷ []
comment_empty = refl
