use Rattle.ot_parts.proofs.PiecesLemmas.{same_after_prefix, same_no_prefix}
use Rattle.ot_parts.proofs.pieces.Pieces.same.Goals as goal

pub returns-then-eq : goal.returns-then-eq
returns-then-eq c = rw (← c.self.view_is) (same_after_prefix _ _ c.args.other.now _ _ c.if-eq.true (rw c.in-Some.ensures.cases.1 at c.eq.ensures) (rw c.in-Some.ensures.cases.2 at c.eq-then-eq.ensures))

pub returns-else-eq : goal.returns-else-eq
returns-else-eq c = rw (← c.self.view_is) (same_no_prefix _ c.self.inside.second.now c.args.other.now _ c.if-eq.false (rw c.in-Some.ensures.cases.1 at c.eq.ensures))
