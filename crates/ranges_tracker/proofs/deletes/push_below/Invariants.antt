use Rattle.std.proofs.Common.{◌≡◌, ◌++◌, drop}
use Rattle.std.specs.Prelude.{nat_lt}
use Rattle.ranges_tracker.specs.Tracked.{kept}
use Rattle.ranges_tracker.proofs.deletes.push_below.Given as goal

abbrev pub invariant-loop-d : goal.invariant-loop-d
invariant-loop-d l = l.made.items ++ kept (λ x. nat_lt x l.at) (drop l.d-index l.deletes) ≡ l.initial.made.items ++ kept (λ x. nat_lt x l.at) l.deletes
