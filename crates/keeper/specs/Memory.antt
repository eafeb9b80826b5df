-- What the keeper in memory is, to a caller.
use Rattle.std.specs.Prelude.{ℕ, ◌+◌, ◌-◌, ◌^◌, min, List, Result, Ok, Err}
use Rattle.ranges_tracker.specs.Kept.{Kept}
use Rattle.keeper.specs.declared.keeper.KeepFault.{KeepFault}
use Rattle.keeper.specs.declared.keeper.KeepFault.TheVariants.{Failed, Memory as NoMemory}

-- calls of one kind: the numbers of those that fail, counted from 1, and how many there were
pub record Calls : Type 0 where
  pub fails : List ℕ
  pub calls : ℕ

-- one call more. The count stops at 2^64 - 1
abbrev pub called : Calls → Calls
called c = record { fails = c.fails; calls = min (c.calls + 1) (2 ^ 64 - 1) }

-- the count of faults behind a call with this answer: only a failure is a fault
abbrev pub faults_after : {T : Type 0} → ℕ → Result T KeepFault → ℕ
faults_after before (Ok _) = before
faults_after before (Err Failed) = min (before + 1) (2 ^ 64 - 1)
faults_after before (Err NoMemory) = before

pub record Memory : Type 0 where
  pub documents : List (List ℕ × Kept)
  pub gets : Calls
  pub puts : Calls
  pub faults : ℕ
