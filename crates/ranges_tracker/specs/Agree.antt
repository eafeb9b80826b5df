-- Ranges that agree with a text: by cells, and by the ranges alone.
use Rattle.std.specs.Prelude.{◌≡◌, ◌↔◌, ℕ, ◌+◌, ◌<◌, ◌≤◌, true, false, List, length, ◌==◌}
use Rattle.std.specs.List.{All, AllPairs}
use Rattle.ot_op.specs.Apply.{stands}
use Rattle.ranges_tracker.specs.Cells.{Row, text_of}
use Rattle.ranges_tracker.specs.declared.change.Change.{Change}
use Rattle.ranges_tracker.specs.declared.change.ChangeKind.{ChangeKind}
use Rattle.ranges_tracker.specs.declared.change.ChangeKind.TheVariants.{Inserted, Deleted}
use Rattle.ranges_tracker.specs.declared.comment.Comment.{Comment}
use Rattle.ranges_tracker.specs.Shown.{mark_of, shown}
use Rattle.ranges_tracker.specs.WellFormed.{same_id, IsWellFormed}

-- ranges are what is shown of some well-formed row, whose live cells are the text
pub record Agree (ranges : List Change × List Comment) (text : List ℕ) : Type 0 where
  pub row : Row
  pub well_formed : IsWellFormed row
  pub text_is : text_of row.lives ≡ text
  pub is : shown row ≡ ranges

-- the first place at which a change of the second kind may stand behind one of the first:
-- places don't fall, no delete stands behind an insert of its place, and inserts don't overlap
abbrev pub first_behind : ChangeKind → ℕ → ℕ → ChangeKind → ℕ
first_behind Deleted at len kind = at
first_behind Inserted at len Deleted = at + 1
first_behind Inserted at len Inserted = at + len

abbrev pub IsBehind : Change → Change → Type 0
IsBehind c d = first_behind c.kind c.at (length c.text) d.kind ≤ d.at

-- no two changes have one id
abbrev pub IdsDiffer : Change → Change → Type 0
IdsDiffer c d = same_id (mark_of c) (mark_of d) ≡ false

-- an insert's units stand in the text at its place, and a delete's place is within the text
abbrev pub StandsAs : List ℕ → ChangeKind → ℕ → List ℕ → Type 0
StandsAs text Inserted at part = stands text at part ≡ true
StandsAs text Deleted at part = at ≤ length text

abbrev pub StandsIn : List ℕ → Change → Type 0
StandsIn text c = StandsAs text c.kind c.at c.text

abbrev pub ThreadsDiffer : Comment → Comment → Type 0
ThreadsDiffer c d = (c.thread == d.thread) ≡ false

pub record IsKeptForm (ranges : List Change × List Comment) (text : List ℕ) : Type 0 where
  pub filled : All (λ (c : Change). 0 < length c.text) ranges.0
  pub ids : AllPairs IdsDiffer ranges.0
  pub places : AllPairs IsBehind ranges.0
  pub changes : All (StandsIn text) ranges.0
  pub threads : AllPairs ThreadsDiffer ranges.1
  pub comments : All (λ (c : Comment). stands text c.at c.text ≡ true) ranges.1

abbrev pub RangesAgree : Type 0
RangesAgree = (ranges : List Change × List Comment) (text : List ℕ) → Agree ranges text ↔ IsKeptForm ranges text

-- the version in each change's id is below this one
abbrev pub IsSince : ℕ → List Change → Type 0
IsSince version changes = All (λ (c : Change). c.version < version) changes
