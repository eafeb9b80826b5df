use Rattle.mail_places.proofs.Committing.{placed-committed}
use Rattle.mail_places.proofs.commits_told.Goals as goal

pub returns : goal.returns
returns c = placed-committed
