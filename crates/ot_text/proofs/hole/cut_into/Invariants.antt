use Rattle.std.proofs.Common.{◌≡◌, ℕ, ◌≤◌, ◌++◌, length}
use Rattle.std.specs.List.{All}
use Rattle.ot_text.specs.Lists.{joined}
use Rattle.ot_text.specs.Chunks.{IsBig}
use Rattle.ot_text.proofs.hole.cut_into.Given as goal

abbrev pub invariant-loop-rest : goal.invariant-loop-rest
invariant-loop-rest l = record { cut : joined l.made.items ++ l.rest ≡ l.units; big : All IsBig l.made.items; enough : l.last ≤ length l.rest }

abbrev pub decreases-loop-rest : goal.decreases-loop-rest
decreases-loop-rest l = length l.rest
