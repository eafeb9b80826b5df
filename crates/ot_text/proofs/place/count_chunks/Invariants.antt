use Rattle.std.proofs.Common.{◌≡◌, length, take}
use Rattle.ot_text.specs.Lists.{joined}
use Rattle.ot_text.proofs.place.count_chunks.Given as goal

abbrev pub invariant-loop-block : goal.invariant-loop-block
invariant-loop-block l = length (joined (take l.block-index l.blocks)) ≡ l.count
