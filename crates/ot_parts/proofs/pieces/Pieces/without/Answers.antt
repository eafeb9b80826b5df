use Rattle.std.proofs.Common.{arith}
use Rattle.std.proofs.lemmas.List.{take_rest}
use Rattle.ot_parts.proofs.PiecesLemmas.{cut_second, cut_both}
use Rattle.ot_parts.proofs.pieces.Pieces.without.Goals as goal

pub returns-then-middle-from-clause-value : goal.returns-then-middle-from-clause-value
returns-then-middle-from-clause-value c =
    let first = c.self.inside.first.now in
    let second = c.self.inside.second.now in
    rw (← c.self.view_is, ← cut_second first second c.args.from c.args.to c.requires.ordered c.if-middle-from.true)
    (rw take_rest at c.in_two_slices-then-middle-from.ensures.value)

pub returns-else-middle-from-clause-value : goal.returns-else-middle-from-clause-value
returns-else-middle-from-clause-value c =
    rw (← c.self.view_is, take_rest) (cut_both c.self.inside.first.now c.self.inside.second.now c.args.from c.args.to (omega arith) (omega arith))
