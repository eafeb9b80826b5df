use Rattle.mail_places.proofs.Telling.{mail_at_places}
use Rattle.mail_places.proofs.mail_at_places.Goals as goal

pub returns : goal.returns
returns c = mail_at_places
