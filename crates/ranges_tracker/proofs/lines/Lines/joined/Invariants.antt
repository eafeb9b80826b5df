use Rattle.std.proofs.Common.{◌≡◌, ◌++◌, drop}
use Rattle.ot_parts.specs.Lines.{joined_lines}
use Rattle.ranges_tracker.proofs.Joining.{fed}
use Rattle.ranges_tracker.proofs.lines.Lines.joined.Given as goal

abbrev pub invariant-loop-line : goal.invariant-loop-line
invariant-loop-line l = l.text ++ fed (drop l.line-index (drop 1 l.self)) ≡ joined_lines l.self
