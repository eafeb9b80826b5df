use Rattle.ot_op.proofs.Undoing.{inverted_undoes}
use Rattle.ot_op.proofs.invert_op.invert_undoes.Goals as goal

pub returns : goal.returns
returns c = inverted_undoes
