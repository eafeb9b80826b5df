use Rattle.std.proofs.Common.{◌≡◌}
use Rattle.ot_text.specs.Lists.{joined}
use Rattle.ot_text.proofs.Splices.{part_text}
use Rattle.ot_text.proofs.text.Text.part.Goals as goal

pub units_of-requires : goal.units_of-requires
units_of-requires c = part_text (joined (joined c.self.inside.blocks.items)) _ c.args.at c.args.len c.self.invariant.text (rw c.as_slice.ensures.value at c.in-Some.ensures.part)
