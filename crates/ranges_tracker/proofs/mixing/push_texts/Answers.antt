use Rattle.std.proofs.Common.{◌∙◌, ◌++◌, List, ℕ, sym, ap, append-nil}
use Rattle.ranges_tracker.proofs.Walking.{none_here}
use Rattle.ranges_tracker.proofs.mixing.push_texts.Goals as goal

pub returns-then-d-gap-clause-text : goal.returns-then-d-gap-clause-text
returns-then-d-gap-clause-text c =
    sym (append-nil c.turns.text)
    ∙ ap (λ (x : List ℕ). c.turns.text ++ x) (sym (none_here c.args.gap c.turns.k c.args.deletes.now c.index-deletes-k.result c.turns-test.true c.index-deletes-k.is c.if-d-gap.true c.turns.invariant.rising))
    ∙ c.turns.invariant.made
