use Rattle.std.proofs.Common.{◌≡◌, ◌-◌, ◌^◌, take, min, sum_by}
use Rattle.ot_op.specs.Operation.{units_of}
use Rattle.share_client.proofs.edit.units.Given as goal

abbrev pub invariant-loop-comp : goal.invariant-loop-comp
invariant-loop-comp l = l.count ≡ min (sum_by units_of (take l.comp-index l.comps)) (2 ^ 64 - 1)
