use Rattle.std.proofs.Common.{◌≡◌, take}
use Rattle.ot_text.proofs.block.share_all.Given as goal

abbrev pub invariant-loop-block : goal.invariant-loop-block
invariant-loop-block l = l.made.items ≡ take l.block-index l.blocks
