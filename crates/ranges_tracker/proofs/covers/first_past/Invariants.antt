use Rattle.std.proofs.Common.{◌≡◌, ◌-◌, ◌≤◌, length, drop}
use Rattle.ranges_tracker.specs.Ordered.{ending_past}
use Rattle.ranges_tracker.proofs.covers.first_past.Given as goal

abbrev pub invariant-turns : goal.invariant-turns
invariant-turns l = record { within : l.k ≤ length l.inserts; rest : ending_past l.i (drop l.k l.inserts) ≡ ending_past l.i (drop l.from l.inserts) }

abbrev pub decreases-turns : goal.decreases-turns
decreases-turns l = length l.inserts - l.k
