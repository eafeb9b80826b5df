use Rattle.std.proofs.Common.{◌≡◌, Some, take}
use Rattle.ot_op.specs.Apply.{applied_all}
use Rattle.ot_op.proofs.apply_op.apply.Given as goal

-- the components so far made the text
abbrev pub invariant-loop-k : goal.invariant-loop-k
invariant-loop-k g l = applied_all (g.T.TextLike.text l.initial.text) (take l.k l.comp-items) ≡ Some (g.T.TextLike.text l.text)
