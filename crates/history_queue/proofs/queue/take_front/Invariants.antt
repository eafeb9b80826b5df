use Rattle.std.proofs.Common.{◌≡◌, ◌≤◌, ◌-◌, ◌++◌, length, vec_capacity}
use Rattle.std.specs.VecDeque.{deque_capacity}
use Rattle.history_queue.proofs.queue.take_front.Given as goal

abbrev pub invariant-taking : goal.invariant-taking
invariant-taking l =
    (l.taken.items ++ l.items.items ≡ l.initial.items.items) × (length l.taken.items ≤ l.count)
    × (l.count ≤ vec_capacity l.taken) × (deque_capacity l.items ≡ deque_capacity l.initial.items)

abbrev pub decreases-taking : goal.decreases-taking
decreases-taking l = l.count - length l.taken.items
