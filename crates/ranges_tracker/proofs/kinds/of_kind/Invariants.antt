use Rattle.std.proofs.Common.{◌≡◌, ◌++◌, drop}
use Rattle.std.specs.Prelude.{filter}
use Rattle.ranges_tracker.specs.Shown.{same_kind}
use Rattle.ranges_tracker.proofs.kinds.of_kind.Given as goal

abbrev pub invariant-loop-c : goal.invariant-loop-c
invariant-loop-c l = l.made.items ++ filter (λ c. same_kind c.kind l.kind) (drop l.c-index l.changes) ≡ filter (λ c. same_kind c.kind l.kind) l.changes
