-- When a fault of the outside may be answered: a count of faults has risen.
use Rattle.std.specs.Prelude.{ℕ, ◌+◌, ◌-◌, ◌^◌, ◌≤◌, min, Result, OnErr, IsErrOf}

-- the count rose during a call, or stands at the last value of its type
abbrev pub Rose : ℕ → ℕ → Type 0
Rose before now = min (before + 1) (2 ^ 64 - 1) ≤ now

-- the count never falls, and an answer other than `Ok` comes only where it rose
pub record HasCause {T E : Type 0} (before now : ℕ) (result : Result T E) : Type 0 where
  pub later : before ≤ now
  pub failed : OnErr result (Rose before now)

-- the count never falls, and this error comes only where it rose
pub record HasCauseOf {T E : Type 0} (before now : ℕ) (result : Result T E) (error : E) : Type 0 where
  pub later : before ≤ now
  pub failed : IsErrOf result error → Rose before now
