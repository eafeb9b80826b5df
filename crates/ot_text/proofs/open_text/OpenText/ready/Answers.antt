use Rattle.std.proofs.Common.{arith, ◌<◌}
use Rattle.ot_text.proofs.Splices.{few_below}
use Rattle.ot_text.proofs.open_text.OpenText.ready.Goals as goal

pub cut_patch-requires-clause-few : goal.cut_patch-requires-clause-few
cut_patch-requires-clause-few c = few_below c.self.inside.blocks.items c.self.inside.len _ c.self.invariant.kept (omega (arith, c.self.ranges))
