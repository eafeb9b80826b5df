use Rattle.std.proofs.Common.{◌++◌}
use Rattle.book.proofs.Fenced.{since_more, token_holds}
use Rattle.book.proofs.laws.token_holds.Goals as goal

pub returns : goal.returns
returns c = λ look journal more since legal stands. token_holds look (journal ++ more) legal (since_more look journal more since) stands
