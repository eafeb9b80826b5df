use Rattle.ot_text.proofs.Blocking.{push_units_step}
use Rattle.ot_text.proofs.block.push_units.Goals as goal

pub loop-chunk-preserved : goal.loop-chunk-preserved
loop-chunk-preserved c = push_units_step c.args.chunks.now c.loop-chunk.chunk-index c.chunk-item.result _ _ _ _ c.loop-chunk-test.true c.chunk-item.is c.as_slice.ensures c.loop-chunk.invariant c.in_ok-extend_from_slice.ensures.items
