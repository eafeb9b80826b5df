-- What becomes of an update.
use Rattle.std.specs.Prelude.{ℕ, ◌+◌, ◌-◌, nat_lt, ◌||◌, List, [], ◌∷◌, length, map, drop, Option, Some, None, if◌then◌else◌}
use Rattle.std.specs.Option.{option_and_then}
use Rattle.ot_op.specs.declared.comp.Comp.{Comp}
use Rattle.ot_op.specs.Apply.{applied_all}
use Rattle.ot_transform.specs.Crossing.{Crossed, crossed}
use Rattle.journal_entries.specs.declared.update.Update.{Update}
use Rattle.journal_entries.specs.declared.update.Outcome.{Outcome}
use Rattle.journal_entries.specs.declared.update.Outcome.TheVariants.{Applied, Dup, Refused}
use Rattle.journal_entries.specs.declared.update.Cause.TheVariants.{Future, TooOld, Mismatch, TooLong}
use Rattle.journal_entries.specs.declared.act.Entry.{Entry}
use Rattle.journal_rules.specs.Documents.{Item, applied_list, base, version, text, is_in}
use Rattle.ot_op.specs.declared.limits.TheConstants.{MAX_TEXT_UNITS}
use Rattle.journal_entries.specs.declared.limits.TheConstants.{MAX_AGE}

-- an operation that was applied: its version, the source of its update, and itself
pub record Passed : Type 0 where
  pub v : ℕ
  pub source : ℕ
  pub op : List Comp

abbrev pub passed_of : Item → Passed
passed_of x = record { v = x.v; source = x.update.source; op = x.op }

-- what the operations from the update's version on make of its own: one of them was sent under a source of its list, or one can't be crossed with it, or it has become this
pub data Scan : Type 0 where
  Twin : ℕ → Scan
  Stuck : Scan
  Moved : List Comp → Scan

abbrev pub moved_on : Crossed → (List Comp → Scan) → Scan
moved_on None goes_on = Stuck
moved_on (Some both) goes_on = goes_on both.0

abbrev pub scanned : List ℕ → List Comp → List Passed → Scan
scanned dup op [] = Moved op
scanned dup op (x ∷ xs) = if is_in x.source dup then Twin x.v else moved_on (crossed op x.op) (λ next. scanned dup next xs)

-- the greatest length of a document's text in units, and the greatest age of an update in versions
abbrev pub longest : ℕ
longest = MAX_TEXT_UNITS

abbrev pub greatest_age : ℕ
greatest_age = MAX_AGE

-- an operation fits where it applies and the text is not too long then
abbrev pub fitted : ℕ → List Comp → Option (List ℕ) → Outcome
fitted have op None = Refused Mismatch
fitted have op (Some next) = if nat_lt longest (length next) then Refused (TooLong (length next)) else Applied have op

abbrev pub concluded : ℕ → Option (List ℕ) → Scan → Outcome
concluded have here (Twin v) = Dup v
concluded have here Stuck = Refused Mismatch
concluded have here (Moved op) = fitted have op (option_and_then (λ now. applied_all now op) here)

-- the decision on an update by a document's base, its version, its text there, and the operations from the update's version on: the first that holds
abbrev pub decided_of : ℕ → ℕ → Option (List ℕ) → Update → List Passed → Outcome
decided_of base have here u past =
    if nat_lt have u.v then Refused (Future have)
    else if nat_lt u.v base || nat_lt (u.v + greatest_age) have then Refused (TooOld have)
    else concluded have here (scanned u.dup u.op past)

-- the operations of a document from a version on
abbrev pub passed_since : ℕ → ℕ → List Entry → List Passed
passed_since d v journal = map passed_of (drop (v - base d journal) (applied_list d journal))

-- the decision on an update by the journal
abbrev pub decided : List Entry → ℕ → Update → Outcome
decided journal d u = decided_of (base d journal) (version d journal) (text d journal) u (passed_since d u.v journal)
