use Rattle.board.proofs.Closing.{opens}
use Rattle.board.proofs.board.Board.new.Goals as goal

pub new-requires : goal.new-requires
new-requires g c = rw (c.push_reserved.ensures.items, c.in-Ok.ensures.items, c.of-key.ensures, c.length-first.ensures.is) (opens _ _ _ c.args.value c.requires)
