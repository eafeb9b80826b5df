use Rattle.flat_cells.proofs.Folding.{flat_keeps, flat_op, later_new}
use Rattle.flat_cells.proofs.flat_rows_stay_well_formed.Goals as goal

pub returns-clause-step : goal.returns-clause-step
returns-clause-step c = flat_keeps

pub returns-clause-steps : goal.returns-clause-steps
returns-clause-steps c = λ row op. flat_op op row

pub returns-clause-later : goal.returns-clause-later
returns-clause-later c = later_new
