use Rattle.seat_turns.proofs.Boards.{wins_among}
use Rattle.seat_turns.proofs.turns.take.Goals as goal

pub returns-clause-among : goal.returns-clause-among
returns-clause-among g c = wins_among _ _ _ _ _ _ c.requires.idle.2 c.take.ensures.taken
