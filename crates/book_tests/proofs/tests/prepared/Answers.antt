use Rattle.book.proofs.Fenced.{begins}
use Rattle.book_tests.proofs.tests.prepared.Goals as goal

pub returns-clause-looks : goal.returns-clause-looks
returns-clause-looks c = begins c.in-Ok.look c.acquire.new.self.journal c.in-Ok.ensures.looks.0
