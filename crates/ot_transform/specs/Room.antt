-- Room for places: a component moves behind by the units that the other side inserts.
use Rattle.std.specs.Prelude.{ℕ, ◌+◌, ◌^◌, ◌<◌, List, [], ◌∷◌, length}
use Rattle.std.specs.List.{All}
use Rattle.ot_op.specs.Operation.{place}
use Rattle.ot_op.specs.declared.comp.Comp.{Comp}
use Rattle.ot_op.specs.declared.comp.Comp.TheVariants.{Ins, Del, Com}

-- how many units are inserted
abbrev pub new_units : List Comp → ℕ
new_units [] = 0
new_units (Ins at part ∷ cs) = length part + new_units cs
new_units (Del at part ∷ cs) = new_units cs
new_units (Com at part thread ∷ cs) = new_units cs

-- each place may grow by n and stay below `top`
abbrev pub RoomBelow : ℕ → ℕ → List Comp → Type 0
RoomBelow top n [] = Unit {0}
RoomBelow top n (c ∷ cs) = (place c + n < top) × RoomBelow top n cs

-- each place may grow by n and is a place still
abbrev pub Room : ℕ → List Comp → Type 0
Room n cs = RoomBelow (2 ^ 32) n cs

-- each list may move past the other
abbrev pub Fits : List Comp → List Comp → Type 0
Fits ls rs = Room (new_units rs) ls × Room (new_units ls) rs

-- how many units all of the operations insert
abbrev pub new_units_of_all : List (List Comp) → ℕ
new_units_of_all [] = 0
new_units_of_all (op ∷ ops) = new_units op + new_units_of_all ops

-- an operation may move past each of the others in turn
abbrev pub FitsAll : List Comp → List (List Comp) → Type 0
FitsAll op past = Room (new_units_of_all past) op × All (λ other. Room (new_units op) other) past
