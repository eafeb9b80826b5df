use Rattle.source_sink.proofs.Delivering.{Delivered-moved}
use Rattle.source_sink.proofs.buffer.WriteBuffer.flush.Goals as goal

pub returns-clause-delivered : goal.returns-clause-delivered
returns-clause-delivered g c = λ start text before.
    rw c.remove_front.ensures (Delivered-moved start _ _ c.args.self.now text c.write_front-count.result.0
    (rw (← c.self.view_is, ← c.deref.ensures.value) c.write_front-count.ensures.written) before)
