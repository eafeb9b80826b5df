use Rattle.std.proofs.Common.{◌≡◌, take}
use Rattle.ranges_tracker.proofs.lines.Lines.copy.Given as goal

abbrev pub invariant-loop-line : goal.invariant-loop-line
invariant-loop-line l = l.lines.items ≡ take l.line-index l.self
