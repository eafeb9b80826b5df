use Rattle.wake_queue.proofs.Turns.{begins}
use Rattle.wake_queue.proofs.queue.WakeQueue.new.Goals as goal

pub with_rule-requires : goal.with_rule-requires
with_rule-requires g c = begins g.N.QueuePast.past g.met.N.Beginning.first
