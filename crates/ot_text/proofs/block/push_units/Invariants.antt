use Rattle.std.proofs.Common.{◌≡◌, ◌++◌, take}
use Rattle.ot_text.specs.Lists.{joined}
use Rattle.ot_text.proofs.block.push_units.Given as goal

abbrev pub invariant-loop-chunk : goal.invariant-loop-chunk
invariant-loop-chunk l = l.made.items ≡ l.initial.made.items ++ joined (take l.chunk-index l.chunks)
