use Rattle.wake_queue.proofs.Turns.{pushing}
use Rattle.wake_queue.proofs.queue.WakeQueue.push.Goals as goal

pub push_as-requires-clause-rule : goal.push_as-requires-clause-rule
push_as-requires-clause-rule g c n = pushing _ n _ _ _ c.pass.invariant.1
