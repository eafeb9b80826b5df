use Rattle.book.proofs.Fenced.{stays}
use Rattle.book.proofs.laws.look_stays.Goals as goal

pub returns : goal.returns
returns c = stays
