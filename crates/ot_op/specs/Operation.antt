-- What operations are.
use Rattle.std.specs.Prelude.{◌≡◌, ℕ, ◌≤◌, Bool, false, List, length, ◌==◌, sum_by}
use Rattle.std.specs.List.{All}
use Rattle.ot_op.specs.declared.comp.Comp.{Comp}
use Rattle.ot_op.specs.declared.comp.Comp.TheVariants.{Ins, Del, Com}
use Rattle.ot_op.specs.declared.limits.TheConstants.{MAX_COMPONENTS, MAX_OPERATION_UNITS, MAX_PLACE}

-- an insert or delete of the empty text
abbrev pub is_void : Comp → Bool
is_void (Ins at part) = length part == 0
is_void (Del at part) = length part == 0
is_void (Com at part thread) = false

-- the components of an operation: no insert or delete is empty
abbrev pub IsOp : List Comp → Type 0
IsOp comps = All (λ c. is_void c ≡ false) comps

-- the place of a component
abbrev pub place : Comp → ℕ
place (Ins at part) = at
place (Del at part) = at
place (Com at part thread) = at

-- the length of a component's text
abbrev pub units_of : Comp → ℕ
units_of (Ins at part) = length part
units_of (Del at part) = length part
units_of (Com at part thread) = length part

abbrev pub total_units : List Comp → ℕ
total_units comps = sum_by units_of comps

-- no component stands farther than a client may send it
abbrev pub AreInReach : List Comp → Type 0
AreInReach comps = All (λ c. place c ≤ MAX_PLACE) comps

-- a client may send the operation
pub record IsWithinLimits (comps : List Comp) : Type 0 where
  pub in_reach : AreInReach comps
  pub few : length comps ≤ MAX_COMPONENTS
  pub short : total_units comps ≤ MAX_OPERATION_UNITS
