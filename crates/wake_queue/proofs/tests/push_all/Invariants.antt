use Rattle.std.proofs.Common.{◌≡◌}
use Rattle.wake_queue.proofs.tests.push_all.Given as goal

abbrev pub invariant-loop-doc : goal.invariant-loop-doc
invariant-loop-doc g l = l.pass.queue ≡ l.queue
