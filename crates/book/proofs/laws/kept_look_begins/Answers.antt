use Rattle.book.proofs.Putting.{prepared_at_once}
use Rattle.book.proofs.laws.kept_look_begins.Goals as goal

pub returns : goal.returns
returns c = prepared_at_once
