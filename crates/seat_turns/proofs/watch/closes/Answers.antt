use Rattle.seat_turns.proofs.Watching.{closed_where}
use Rattle.seat_turns.proofs.watch.closes.Goals as goal

pub returns-then-closes_at : goal.returns-then-closes_at
returns-then-closes_at c = λ yes. closed_where c.args.driver c.args.entries.now _ c.if-closes_at.ensures
