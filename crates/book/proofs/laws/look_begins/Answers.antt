use Rattle.book.proofs.Fenced.{begins}
use Rattle.book.proofs.laws.look_begins.Goals as goal

pub returns : goal.returns
returns c = begins
