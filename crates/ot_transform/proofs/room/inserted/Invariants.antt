use Rattle.std.proofs.Common.{◌≡◌, ◌-◌, ◌^◌, take, min}
use Rattle.ot_transform.specs.Room.{new_units}
use Rattle.ot_transform.proofs.room.inserted.Given as goal

-- the units so far
abbrev pub invariant-loop-comp : goal.invariant-loop-comp
invariant-loop-comp l = l.units ≡ min (new_units (take l.comp-index l.comps)) (2 ^ 64 - 1)
