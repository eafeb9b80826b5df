use Rattle.std.proofs.Common.{◌≡◌, ◌-◌, ◌++◌, drop, map}
use Rattle.std.specs.Prelude.{nat_lt}
use Rattle.ranges_tracker.specs.Tracked.{kept, placed}
use Rattle.ranges_tracker.proofs.deletes.push_above.Given as goal

abbrev pub invariant-loop-d : goal.invariant-loop-d
invariant-loop-d l = l.made.items ++ map (placed (λ x. x - l.len)) (kept (λ x. nat_lt l.end x) (drop l.d-index l.deletes)) ≡ l.initial.made.items ++ map (placed (λ x. x - l.len)) (kept (λ x. nat_lt l.end x) l.deletes)
