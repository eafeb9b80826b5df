use Rattle.std.proofs.Common.{◌≡◌, length, take}
use Rattle.ot_text.specs.Lists.{joined}
use Rattle.ot_text.proofs.block.total_length.Given as goal

abbrev pub invariant-loop-chunk : goal.invariant-loop-chunk
invariant-loop-chunk l = length (joined (take l.chunk-index l.chunks)) ≡ l.total
