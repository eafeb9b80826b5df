use Rattle.mail_places.proofs.Placing.{placed-push}
use Rattle.mail_places.proofs.places_go_on.Goals as goal

pub returns : goal.returns
returns c = placed-push
