use Rattle.ot_parts.specs.Parts.{joined}
use Rattle.ot_parts.proofs.PiecesLemmas.{empty_by_length}
use Rattle.ot_parts.proofs.pieces.Pieces.is_empty.Goals as goal

pub returns : goal.returns
returns c = rw c.len.ensures (empty_by_length (joined c.args.self.now))
