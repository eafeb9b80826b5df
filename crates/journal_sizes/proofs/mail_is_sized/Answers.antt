use Rattle.journal_sizes.proofs.Mail.{mail_sized}
use Rattle.journal_sizes.proofs.mail_is_sized.Goals as goal

pub returns : goal.returns
returns c = λ client journal legal few lives msg rest is. mail_sized client journal msg rest legal few lives is
