use Rattle.std.proofs.Common.{◌≡◌, ◌++◌, length}
use Rattle.ot_text.specs.Lists.{joined}
use Rattle.ot_text.proofs.parts.gather.Given as goal

abbrev pub invariant-loop-part : goal.invariant-loop-part
invariant-loop-part l = l.made.items ++ joined l.left ≡ joined l.initial.left

abbrev pub decreases-loop-part : goal.decreases-loop-part
decreases-loop-part l = length l.left
