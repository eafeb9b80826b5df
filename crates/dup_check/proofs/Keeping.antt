-- What an update's operation has become: it is as small, and where the update's applied to its own text this one applies.
use Rattle.std.proofs.Common.{◌≡◌, ℕ, Bool, true, false, List, ap, sym, ◌∙◌, arith, length, Option, Some, None, subst}
use Rattle.std.specs.Prelude.{Result, Ok, Err, IfOk, IsSomeAnd, nat_lt, if◌then◌else◌}
use Rattle.ot_op.specs.declared.comp.Comp.{Comp}
use Rattle.ot_op.specs.Apply.{applied_all, replayed}
use Rattle.ot_transform.specs.Crossing.{through}
use Rattle.ot_transform.specs.Room.{new_units_of_all}
use Rattle.ot_transform.specs.Size.{NoLarger}
use Rattle.ot_transform.proofs.Converging.{given_at}
use Rattle.ot_transform.proofs.Following.{follows, through_no_larger}
use Rattle.journal_entries.specs.declared.update.Outcome.TheVariants.{Applied, Refused}
use Rattle.journal_entries.specs.declared.update.Cause.TheVariants.{Mismatch, TooLong}
use Rattle.journal_rules.specs.Deciding.{Scan, Stuck, Moved, scanned, longest, fitted}
use Rattle.dup_check.specs.declared.snapshot.Snapshot.{Snapshot}
use Rattle.dup_check.specs.declared.snapshot.Decision.{Decision}
use Rattle.dup_check.specs.Snapshot.{operations, numbered, outcome_of, IsSmall, Keeps}
use Rattle.dup_check.proofs.Scanning.{IsThrough, scan_through}

-- what the operations from its version on make of a look's update
abbrev pub scan_in : Snapshot → Scan
scan_in look = scanned look.update.dup look.update.op (numbered look.update.v look.past.items)

moved_is : (look : Snapshot) (made : List Comp) → scan_in look ≡ Moved made → through look.update.op (operations look.past.items) ≡ Some made
moved_is look made is = subst (λ (s : Scan). IsThrough s (through look.update.op (operations look.past.items))) is (scan_through look.update.dup look.update.op look.update.v look.past.items)

pub moved_small : (look : Snapshot) (made : List Comp) → scan_in look ≡ Moved made → IsSmall look.update.op → IsSmall made
moved_small look made is small =
    let past : List (List Comp) = operations look.past.items in
    let less : NoLarger look.update.op (new_units_of_all past) made = given_at (NoLarger look.update.op (new_units_of_all past)) (through look.update.op past) made (moved_is look made is) (through_no_larger look.update.op past) in
    record { units = omega (arith, less.units, small.units); comments = omega (arith, less.comments, small.comments) }

-- where one can't be crossed, the update's operation didn't apply
pub kept_stuck : (look : Snapshot) (d : Decision) → scan_in look ≡ Stuck → Keeps look d
kept_stuck look d is before edited applied past =
    let none : through look.update.op (operations look.past.items) ≡ None = subst (λ (s : Scan). IsThrough s (through look.update.op (operations look.past.items))) is (scan_through look.update.dup look.update.op look.update.v look.past.items) in
    absurd (subst (λ (o : Option (List Comp)). IsSomeAnd o (λ moved. (to : List ℕ) × (applied_all look.text moved ≡ Some to))) none (follows look.update.op (operations look.past.items) before edited look.text applied past))

applies_now : (look : Snapshot) (made : List Comp) (before edited : List ℕ) → scan_in look ≡ Moved made → applied_all before look.update.op ≡ Some edited → replayed before (operations look.past.items) ≡ Some look.text → (to : List ℕ) × (applied_all look.text made ≡ Some to)
applies_now look made before edited is applied past =
    subst (λ (o : Option (List Comp)). IsSomeAnd o (λ moved. (to : List ℕ) × (applied_all look.text moved ≡ Some to))) (moved_is look made is) (follows look.update.op (operations look.past.items) before edited look.text applied past)

-- what applies isn't refused as a mismatch
not_mismatch : (have : ℕ) (made : List Comp) (to : List ℕ) (made_of : Option (List ℕ)) → made_of ≡ Some to → Refused Mismatch ≡ fitted have made made_of → ⊥
not_mismatch have made to made_of is e = go (nat_lt longest (length to)) (e ∙ ap (fitted have made) is)
  where
    go : (b : Bool) → Refused Mismatch ≡ (if b then Refused (TooLong (length to)) else Applied have made) → ⊥
    go true e = cc
    go false e = cc

keeps_moved : (look : Snapshot) (made : List Comp) (d : Decision) → scan_in look ≡ Moved made → outcome_of look.version d ≡ fitted look.version made (applied_all look.text made) → Keeps look d
keeps_moved look made d is e before edited applied past refused =
    let now = applies_now look made before edited is applied past in
    not_mismatch look.version made now.0 (applied_all look.text made) now.1 (ap (outcome_of look.version) (sym refused) ∙ e)

pub kept_moved : {E : Type 0} (look : Snapshot) (made : List Comp) (r : Result Decision E) → scan_in look ≡ Moved made → IfOk r (λ d. outcome_of look.version d ≡ fitted look.version made (applied_all look.text made)) → IfOk r (λ d. Keeps look d)
kept_moved look made (Err x) is e = tt
kept_moved look made (Ok d) is e = keeps_moved look made d is e
