use Rattle.flat_cells.proofs.Plain.{plain_form, plain_older, plain_agrees}
use Rattle.flat_cells.proofs.Forms.{form_agrees}
use Rattle.flat_cells.proofs.Agreeing.{agreement, each_laid, older_both}
use Rattle.flat_cells.proofs.Stepping.{step_agrees}
use Rattle.flat_cells.proofs.Showing.{shown_agree}
use Rattle.flat_cells.proofs.flat_rows_agree.Goals as goal

pub returns-clause-plain : goal.returns-clause-plain
returns-clause-plain c = λ text. (plain_form text, plain_older text, plain_agrees text)

pub returns-clause-form : goal.returns-clause-form
returns-clause-form c = λ row h. (form_agrees row h, older_both row)

pub returns-clause-laid : goal.returns-clause-laid
returns-clause-laid c = each_laid

pub returns-clause-step : goal.returns-clause-step
returns-clause-step c = step_agrees

pub returns-clause-shown : goal.returns-clause-shown
returns-clause-shown c = shown_agree

pub returns-clause-agreement : goal.returns-clause-agreement
returns-clause-agreement c = agreement
