use Rattle.std.proofs.Common.{arith}
use Rattle.book_tests.proofs.tests.taken_over.Goals as goal

pub settled-stale-requires-clause-apart : goal.settled-stale-requires-clause-apart
settled-stale-requires-clause-apart c e = let one = c.requires.seat in let two = c.in_ok-second.ensures.seat in omega (arith, e, one, two)
