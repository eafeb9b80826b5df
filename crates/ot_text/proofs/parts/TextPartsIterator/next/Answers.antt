use Rattle.std.proofs.Common.{List, ℕ, subst}
use Rattle.std.specs.List.{All}
use Rattle.std.proofs.lemmas.List.Elements.{All-tail}
use Rattle.ot_text.specs.Chunks.{IsBlock}
use Rattle.ot_text.proofs.parts.TextPartsIterator.next.Goals as goal

pub invariant_of-self-in-Some-split_first : goal.invariant_of-self-in-Some-split_first
invariant_of-self-in-Some-split_first c = All-tail IsBlock c.in-Some-split_first.block.now c.in-Some-split_first.behind.now (subst (λ (x : List (List (List ℕ))). All IsBlock x) c.in-Some-split_first.ensures.cases.0 c.self.invariant)
