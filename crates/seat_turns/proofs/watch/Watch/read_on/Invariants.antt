use Rattle.std.proofs.Common.{◌-◌}
use Rattle.seat_turns.specs.Closings.{IsEachClosed}
use Rattle.seat_turns.proofs.watch.Watch.read_on.Given as goal

abbrev pub invariant-loop-self : goal.invariant-loop-self
invariant-loop-self l = IsEachClosed l.self-inside.known l.entries

abbrev pub decreases-loop-self : goal.decreases-loop-self
decreases-loop-self l = l.drivers - l.self-inside.known
