-- The laws between flat rows and rows in coordinates.
use Rattle.std.specs.Prelude.{◌≡◌, ◌<◌, ◌↔◌, ℕ, List, Some}
use Rattle.ot_op.specs.declared.comp.Comp.{Comp}
use Rattle.ot_op.specs.Apply.{applied, applied_all}
use Rattle.ranges_tracker.specs.declared.stamp.Stamp.{Stamp}
use Rattle.ranges_tracker.specs.Cells.{Row, text_of, plain_row, step, steps}
use Rattle.ranges_tracker.specs.declared.change.Change.{Change}
use Rattle.ranges_tracker.specs.declared.comment.Comment.{Comment}
use Rattle.ranges_tracker.specs.Shown.{shown}
use Rattle.ranges_tracker.specs.WellFormed.{IsWellFormed, IsBefore}
use Rattle.ranges_tracker.specs.Agree.{Agree}
use Rattle.flat_cells.specs.Row.{Cell, FlatRow, lives_of, plain_flat, row_of}
use Rattle.flat_cells.specs.Step.{flat_step, flat_steps}
use Rattle.flat_cells.specs.Shown.{flat_shown}
use Rattle.flat_cells.specs.Form.{IsWellFormedFlat, AreOlder}

-- a plain text's flat row is well formed, has no mark, and counts to the plain row
abbrev pub PlainAgrees : Type 0
PlainAgrees = (text : List ℕ) → IsWellFormedFlat (plain_flat text) × ((stamp : Stamp) → AreOlder (plain_flat text).cells stamp 0) × (row_of (plain_flat text) ≡ plain_row text)

-- a step of a well-formed flat row is the step of its coordinates, with as many fresh marks
abbrev pub StepAgrees : Type 0
StepAgrees = (row : FlatRow) (comp : Comp) (stamp : Stamp) (k : ℕ) (next : List ℕ) → IsWellFormedFlat row → applied (text_of (lives_of row.cells)) comp ≡ Some next →
    (row_of (flat_step row comp stamp k).row ≡ (step (row_of row) comp stamp k).row) × ((flat_step row comp stamp k).marks ≡ (step (row_of row) comp stamp k).marks)

-- a well-formed flat row shows what its coordinates show
abbrev pub ShownAgrees : Type 0
ShownAgrees = (row : FlatRow) → IsWellFormedFlat row → flat_shown row ≡ shown (row_of row)

-- the coordinates of a well-formed flat row are well formed, and its marks are older than the fresh ones exactly where theirs are
abbrev pub FormAgrees : Type 0
FormAgrees = (row : FlatRow) → IsWellFormedFlat row → IsWellFormed (row_of row) × ((stamp : Stamp) (k : ℕ) → AreOlder row.cells stamp k ↔ IsBefore (row_of row) stamp k)

-- each well-formed row in coordinates is that of some well-formed flat row
abbrev pub EachIsLaid : Type 0
EachIsLaid = (row : Row) → IsWellFormed row → (flat : FlatRow) × IsWellFormedFlat flat × (row_of flat ≡ row)

-- ranges are what some well-formed flat row shows, whose live units are the text
pub record AgreeFlat (ranges : List Change × List Comment) (text : List ℕ) : Type 0 where
  pub row : FlatRow
  pub well_formed : IsWellFormedFlat row
  pub text_is : text_of (lives_of row.cells) ≡ text
  pub is : flat_shown row ≡ ranges

abbrev pub AgreementAgrees : Type 0
AgreementAgrees = (ranges : List Change × List Comment) (text : List ℕ) → AgreeFlat ranges text ↔ Agree ranges text

-- a step keeps a flat row well formed where its fresh marks are new, which they then are again; the live cells are then the text after the component
abbrev pub StepStaysWellFormed : Type 0
StepStaysWellFormed = (row : FlatRow) (comp : Comp) (stamp : Stamp) (k : ℕ) (next : List ℕ) → IsWellFormedFlat row → AreOlder row.cells stamp k → applied (text_of (lives_of row.cells)) comp ≡ Some next →
    let after = flat_step row comp stamp k in IsWellFormedFlat after.row × AreOlder after.row.cells stamp after.marks × (text_of (lives_of after.row.cells) ≡ next)

-- the fresh marks of each later version are new
abbrev pub LaterAreNew : Type 0
LaterAreNew = (cells : List Cell) (stamp later : Stamp) (k : ℕ) → stamp.version < later.version → AreOlder cells stamp k → AreOlder cells later 0

-- what an operation makes of a well-formed flat row, its fresh marks being new: a well-formed row of the text after the operation, whose coordinates are those of the operation's steps
pub record OpAgrees (row : FlatRow) (op : List Comp) (stamp : Stamp) (k : ℕ) (next : List ℕ) : Type 0 where
  pub form : IsWellFormedFlat (flat_steps row op stamp k).row
  pub older : AreOlder (flat_steps row op stamp k).row.cells stamp (flat_steps row op stamp k).marks
  pub text : text_of (lives_of (flat_steps row op stamp k).row.cells) ≡ next
  pub coordinates : row_of (flat_steps row op stamp k).row ≡ (steps (row_of row) op stamp k).row
  pub marks : (flat_steps row op stamp k).marks ≡ (steps (row_of row) op stamp k).marks

abbrev pub StepsAgree : Type 0
StepsAgree = (row : FlatRow) (op : List Comp) (stamp : Stamp) (k : ℕ) (next : List ℕ) → IsWellFormedFlat row → AreOlder row.cells stamp k → applied_all (text_of (lives_of row.cells)) op ≡ Some next → OpAgrees row op stamp k next
