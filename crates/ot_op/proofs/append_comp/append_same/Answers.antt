use Rattle.ot_op.proofs.Merging.{does_both}
use Rattle.ot_op.proofs.append_comp.append_same.Goals as goal

pub returns : goal.returns
returns c = does_both
