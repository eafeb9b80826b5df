use Rattle.std.proofs.Common.{◌∙◌}
use Rattle.board.proofs.board.Board.take.Goals as goal

pub try_take-requires : goal.try_take-requires
try_take-requires g c = record { board = c.loop.invariant.0 ∙ c.requires.board }
