use Rattle.std.proofs.Common.{◌+◌, ◌<◌, ◌≤◌, length, take}
use Rattle.std.specs.List.{All}
use Rattle.ot_op.specs.Operation.{place, units_of}
use Rattle.dup_check.proofs.tests.deciding.are_low.Given as goal

abbrev pub invariant-loop-before : goal.invariant-loop-before
invariant-loop-before l = All (λ x. (length x.op ≤ 1) × All (λ c. place c + units_of c < 1000) x.op) (take l.before-index l.past)
