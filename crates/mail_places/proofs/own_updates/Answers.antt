use Rattle.mail_places.proofs.Sources.{own_update}
use Rattle.mail_places.proofs.own_updates.Goals as goal

pub returns : goal.returns
returns c = own_update
