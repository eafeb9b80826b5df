use Rattle.std.proofs.Common.{arith, ◌<◌}
use Rattle.ot_text.proofs.Splices.{few_below}
use Rattle.ot_text.proofs.parts.part_in.Goals as goal

pub part_of-requires-clause-few : goal.part_of-requires-clause-few
part_of-requires-clause-few c = few_below c.args.blocks.now c.args.total _ c.requires.kept (omega (arith, c.ranges))
