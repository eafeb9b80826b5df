use Rattle.mail_places.proofs.Rooming.{roomed}
use Rattle.mail_places.proofs.clients_roomed.Goals as goal

pub returns : goal.returns
returns c = roomed
