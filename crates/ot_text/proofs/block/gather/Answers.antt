use Rattle.ot_text.proofs.Blocking.{gather_step}
use Rattle.ot_text.proofs.block.gather.Goals as goal

pub loop-block-preserved : goal.loop-block-preserved
loop-block-preserved c = gather_step c.args.blocks.now c.loop-block.block-index c.block-item.result _ _ _ c.loop-block-test.true c.block-item.is c.as_slice.ensures c.loop-block.invariant c.in_ok-push_units.ensures
