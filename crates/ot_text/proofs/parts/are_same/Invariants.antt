use Rattle.std.proofs.Common.{◌≡◌, ◌↔◌, length}
use Rattle.ot_text.specs.Lists.{joined}
use Rattle.ot_text.proofs.parts.are_same.Given as goal

abbrev pub invariant-loop-part : goal.invariant-loop-part
invariant-loop-part l = record { long : length (joined l.left) ≡ length l.rest; rest : (l.units ≡ joined l.initial.left) ↔ (l.rest ≡ joined l.left) }

abbrev pub decreases-loop-part : goal.decreases-loop-part
decreases-loop-part l = length l.left
