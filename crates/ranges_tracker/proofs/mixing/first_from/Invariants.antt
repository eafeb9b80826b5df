use Rattle.std.proofs.Common.{◌≡◌, ◌-◌, ◌≤◌, length, drop}
use Rattle.ranges_tracker.specs.Ordered.{from_gap}
use Rattle.ranges_tracker.proofs.mixing.first_from.Given as goal

abbrev pub invariant-turns : goal.invariant-turns
invariant-turns l = record { within : l.k ≤ length l.deletes; rest : from_gap l.at (drop l.k l.deletes) ≡ from_gap l.at l.deletes }

abbrev pub decreases-turns : goal.decreases-turns
decreases-turns l = length l.deletes - l.k
