use Rattle.std.proofs.Common.{◌≡◌, ◌+◌, drop}
use Rattle.ot_op.specs.Operation.{total_units}
use Rattle.ot_json.proofs.read.count_units.Given as goal

-- the units so far and those of the rest are all
abbrev pub invariant-loop-comp : goal.invariant-loop-comp
invariant-loop-comp l = l.units + total_units (drop l.comp-index l.comps) ≡ total_units l.comps
