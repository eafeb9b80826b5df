use Rattle.book.proofs.Fenced.{may_refuse}
use Rattle.book.proofs.laws.look_may_be_refused.Goals as goal

pub returns : goal.returns
returns c = may_refuse
