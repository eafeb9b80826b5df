use Rattle.std.proofs.Common.{◌≡◌, ◌++◌}
use Rattle.std.specs.List.{All}
use Rattle.ot_parts.specs.Lines.{lines_of}
use Rattle.ot_units.specs.Text.{IsText}
use Rattle.ranges_tracker.proofs.lines.Lines.of.Given as goal

abbrev pub invariant-loop-line : goal.invariant-loop-line
invariant-loop-line l = record { made : l.lines.items ++ l.line-iterator ≡ lines_of l.text; texts : All IsText l.line-iterator }
