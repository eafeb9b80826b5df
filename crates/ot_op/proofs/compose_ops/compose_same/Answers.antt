use Rattle.ot_op.proofs.Merging.{does_in_turn}
use Rattle.ot_op.proofs.compose_ops.compose_same.Goals as goal

pub returns : goal.returns
returns c = does_in_turn
