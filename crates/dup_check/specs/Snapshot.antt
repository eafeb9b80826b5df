-- What a decision is made from, and what it comes to.
use Rattle.std.specs.Prelude.{◌≡◌, ◌≢◌, ℕ, ◌+◌, ◌≤◌, ⊤, List, [], ◌∷◌, length, map, Some}
use Rattle.ot_op.specs.declared.comp.Comp.{Comp}
use Rattle.ot_op.specs.Apply.{applied_all, replayed}
use Rattle.ot_transform.specs.Room.{FitsAll}
use Rattle.ot_transform.specs.Size.{edit_units_in, comments_in}
use Rattle.ranges_tracker.specs.declared.stamp.Stamp.{Stamp}
use Rattle.ranges_tracker.specs.declared.change.Change.{Change}
use Rattle.ranges_tracker.specs.declared.comment.Comment.{Comment}
use Rattle.ranges_tracker.specs.Steady.{IsStepsOf}
use Rattle.ranges_tracker.specs.Trackable.{AreRangesAt}
use Rattle.journal_entries.specs.declared.update.Cause.TheVariants.{Mismatch}
use Rattle.journal_entries.specs.declared.update.Outcome.{Outcome}
use Rattle.journal_entries.specs.declared.update.Outcome.TheVariants as outcome
use Rattle.journal_rules.specs.Deciding.{Passed, longest, greatest_age}
use Rattle.dup_check.specs.declared.past.Past.{Past}
use Rattle.dup_check.specs.declared.snapshot.Snapshot.{Snapshot}
use Rattle.dup_check.specs.declared.snapshot.Decision.{Decision}
use Rattle.dup_check.specs.declared.snapshot.Decision.TheVariants.{Apply, Dup, Refuse}
use Rattle.ot_op.specs.declared.limits.TheConstants.{MAX_COMPONENTS, MAX_OPERATION_UNITS}

-- ---- what is looked at
abbrev pub operations : List Past → List (List Comp)
operations past = map (λ (x : Past). x.op) past

-- operations with their versions, of which this is the first
abbrev pub numbered : ℕ → List Past → List Passed
numbered v [] = []
numbered v (x ∷ xs) = record { v = v; source = x.source; op = x.op } ∷ numbered (v + 1) xs

-- what the update says of the changes that it makes at the document's version
abbrev pub stamp_of : Snapshot → Stamp
stamp_of look = record { version = look.version; user = look.update.user; ms = look.update.ms; track = look.update.track }

-- the ranges agree with the text, and each change is of a version below the document's
abbrev pub Agrees : Snapshot → Type 0
Agrees look = AreRangesAt look.ranges look.text look.version

-- the update is for a version from the first to the present one, and not too old
pub record InReach (look : Snapshot) : Type 0 where
  pub made : look.base ≤ look.update.v
  pub present : look.update.v ≤ look.version
  pub young : look.version ≤ look.update.v + greatest_age

-- the most units of an operation's inserts and deletes, and the most comments
pub record IsSmall (op : List Comp) : Type 0 where
  pub units : edit_units_in op ≤ MAX_OPERATION_UNITS
  pub comments : comments_in op ≤ MAX_COMPONENTS

-- what is there of the past, and whether there is room to move the update's operation past it
pub record IsReady (look : Snapshot) : Type 0 where
  pub whole : look.update.v + length look.past.items ≡ look.version
  pub small : IsSmall look.update.op
  pub room : FitsAll look.update.op (operations look.past.items)

-- ---- what is decided
abbrev pub outcome_of : ℕ → Decision → Outcome
outcome_of v (Apply op text ranges) = outcome.Applied v op
outcome_of v (Dup w) = outcome.Dup w
outcome_of v (Refuse cause) = outcome.Refused cause

-- an operation makes this text and these ranges
pub record IsApplied (look : Snapshot) (op : List Comp) (text : List ℕ) (ranges : List Change × List Comment) : Type 0 where
  pub applies : applied_all look.text op ≡ Some text
  pub short : length text ≤ longest
  pub tracked : IsStepsOf look.ranges op (stamp_of look) ranges
  pub agree : AreRangesAt ranges text (look.version + 1)
  pub small : IsSmall op

abbrev pub Applies : Snapshot → Decision → Type 0
Applies look (Apply op text ranges) = IsApplied look op text ranges
Applies look (Dup v) = ⊤
Applies look (Refuse cause) = ⊤

-- where the update's operation applies to a text of which the past made the present one, it isn't
-- refused as one that doesn't apply
abbrev pub Keeps : Snapshot → Decision → Type 0
Keeps look d = (before edited : List ℕ) → applied_all before look.update.op ≡ Some edited
    → replayed before (operations look.past.items) ≡ Some look.text → d ≢ Refuse Mismatch
