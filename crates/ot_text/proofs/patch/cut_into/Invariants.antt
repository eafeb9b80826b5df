use Rattle.std.proofs.Common.{◌≡◌, ◌++◌, length}
use Rattle.std.specs.List.{All}
use Rattle.ot_text.specs.Lists.{joined}
use Rattle.ot_text.specs.Chunks.{IsBlock}
use Rattle.ot_text.proofs.patch.cut_into.Given as goal

abbrev pub invariant-loop-rest : goal.invariant-loop-rest
invariant-loop-rest l = record { cut : joined l.made.items ++ l.rest ≡ l.chunks; each : All IsBlock l.made.items }

abbrev pub decreases-loop-rest : goal.decreases-loop-rest
decreases-loop-rest l = length l.rest
