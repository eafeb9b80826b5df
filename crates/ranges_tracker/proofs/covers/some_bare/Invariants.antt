use Rattle.std.proofs.Common.{◌≡◌, ◌+◌, ◌≤◌, length, drop}
use Rattle.ranges_tracker.specs.Tracked.{some_bare}
use Rattle.ranges_tracker.proofs.covers.some_bare.Given as goal

abbrev pub invariant-loop-j : goal.invariant-loop-j
invariant-loop-j l = record { within : l.first ≤ length l.inserts; rest : some_bare l.at l.part l.inserts ≡ some_bare (l.at + l.j) (drop l.j l.part) (drop l.first l.inserts) }
