-- What tracking an update asks of a document's ranges, and cells that show them.
use Rattle.std.specs.Prelude.{◌≡◌, ℕ, ◌+◌, ◌*◌, ◌^◌, ◌<◌, ◌≤◌, List, length, Some}
use Rattle.std.specs.List.{All}
use Rattle.ot_op.specs.declared.comp.Comp.{Comp}
use Rattle.ot_op.specs.Operation.{units_of}
use Rattle.ot_op.specs.Apply.{applied, applied_all}
use Rattle.ranges_tracker.specs.Cells.{Stamp, Row, text_of}
use Rattle.ranges_tracker.specs.declared.change.Change.{Change}
use Rattle.ranges_tracker.specs.declared.comment.Comment.{Comment}
use Rattle.ranges_tracker.specs.Shown.{shown}
use Rattle.ranges_tracker.specs.Steady.{OlderLives, OlderGone, units_all}
use Rattle.ranges_tracker.specs.WellFormed.{IsWellFormed}
use Rattle.ranges_tracker.specs.Agree.{Agree, IsSince}

-- ranges agree with a text, and each of their changes was made before this version
pub record AreRangesAt (ranges : List Change × List Comment) (text : List ℕ) (version : ℕ) : Type 0 where
  pub agree : Agree ranges text
  pub since : IsSince version ranges.0

-- well-formed cells that show ranges over a text, with the marks of lower versions than this
pub record IsTracked (row : Row) (text : List ℕ) (ranges : List Change × List Comment) (version : ℕ) : Type 0 where
  pub well_formed : IsWellFormed row
  pub older_lives : OlderLives version 0 row.lives
  pub older_gone : OlderGone version 0 row.gone
  pub text_is : text_of row.lives ≡ text
  pub ranges_are : shown row ≡ ranges

-- a change is of a lower version than an update's, or of the same with a lower number than its next fresh mark
abbrev pub IsOlder : ℕ → ℕ → Change → Type 0
IsOlder version k c = (c.version ≤ version) × (c.version ≡ version → c.k < k)

-- ranges of an update in the midst: they agree with a text, and its next fresh mark is new
pub record AreRangesIn (ranges : List Change × List Comment) (text : List ℕ) (stamp : Stamp) (k : ℕ) : Type 0 where
  pub agree : Agree ranges text
  pub older : All (IsOlder stamp.version k) ranges.0

-- a component applies to a text of these ranges within the bounds
pub record IsFitStep (ranges : List Change × List Comment) (comp : Comp) (stamp : Stamp) (k : ℕ) : Type 0 where
  pub text : List ℕ
  pub next : List ℕ
  pub of : AreRangesIn ranges text stamp k
  pub applies : applied text comp ≡ Some next
  pub room : length text + units_of comp < 2 ^ 32
  pub few : k + 2 < 2 ^ 32

-- an operation applies to a text of these ranges within the bounds
pub record IsFit (ranges : List Change × List Comment) (op : List Comp) (stamp : Stamp) : Type 0 where
  pub text : List ℕ
  pub next : List ℕ
  pub of : AreRangesAt ranges text stamp.version
  pub applies : applied_all text op ≡ Some next
  pub room : length text + units_all op < 2 ^ 32
  pub few : 2 * length op < 2 ^ 32

-- these are ranges of each text that the component makes of one with the ranges before, and the next fresh mark is new
abbrev pub StaysInStep : List Change × List Comment → Comp → Stamp → ℕ → List Change × List Comment → ℕ → Type 0
StaysInStep ranges comp stamp k made marks = (text next : List ℕ) → AreRangesIn ranges text stamp k → applied text comp ≡ Some next → AreRangesIn made next stamp marks

-- these are ranges of each text that the operation makes of one with the ranges before, one version on
abbrev pub StayWithText : List Change × List Comment → List Comp → Stamp → List Change × List Comment → Type 0
StayWithText ranges op stamp made = (text next : List ℕ) → AreRangesAt ranges text stamp.version → applied_all text op ≡ Some next → AreRangesAt made next (stamp.version + 1)
