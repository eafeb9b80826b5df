use Rattle.wake_queue.proofs.Unseen.{never_empty}
use Rattle.wake_queue.proofs.laws.empty_must_be_seen.Goals as goal

pub returns : goal.returns
returns c = never_empty
