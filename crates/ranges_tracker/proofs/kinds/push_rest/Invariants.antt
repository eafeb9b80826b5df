use Rattle.std.proofs.Common.{◌≡◌, ◌++◌, drop}
use Rattle.ranges_tracker.proofs.kinds.push_rest.Given as goal

abbrev pub invariant-loop-d : goal.invariant-loop-d
invariant-loop-d l = l.made.items ++ drop l.d-index l.deletes ≡ l.initial.made.items ++ l.deletes
