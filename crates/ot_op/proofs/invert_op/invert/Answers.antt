use Rattle.ot_op.proofs.Undoing.{undoes_on}
use Rattle.ot_op.proofs.invert_op.invert.Goals as goal

pub returns-clause-undoes : goal.returns-clause-undoes
returns-clause-undoes c = undoes_on _ _ (rw c.comps.ensures.value at c.undo_all.ensures)
