use Rattle.book.proofs.Fenced.{since_of}
use Rattle.book.proofs.laws.look_was.Goals as goal

pub returns : goal.returns
returns c = since_of
