use Rattle.std.proofs.Common.{◌∙◌}
use Rattle.ot_text.proofs.Joining.{patch_joined}
use Rattle.ot_text.proofs.patch.block_patch.Goals as goal

pub returns-clause-chunks : goal.returns-clause-chunks
returns-clause-chunks c =
    patch_joined c.args.blocks.now c.in_ok-new.new.items c.in_ok-hole-2.hole.from c.in_ok-hole-2.hole.to c.in_ok-hole-2.hole.chunks.items c.in_ok-new.ensures.joined ∙ c.in_ok-hole-2.ensures.same ∙ c.in_ok-hole.ensures.filled
