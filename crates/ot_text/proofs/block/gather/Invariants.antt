use Rattle.std.proofs.Common.{◌≡◌, take}
use Rattle.ot_text.specs.Lists.{joined}
use Rattle.ot_text.proofs.block.gather.Given as goal

abbrev pub invariant-loop-block : goal.invariant-loop-block
invariant-loop-block l = l.made.items ≡ joined (joined (take l.block-index l.blocks))
