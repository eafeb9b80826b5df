use Rattle.std.proofs.Common.{◌≡◌, map}
use Rattle.std.specs.List.{flat_map}
use Rattle.ot_op.specs.Invert.{undoing}
use Rattle.ot_op.proofs.invert_op.undo_all.Given as goal

-- the components so far are undone
abbrev pub invariant-loop-comp : goal.invariant-loop-comp
invariant-loop-comp l = l.made ≡ flat_map undoing (map (λ comp. comp.now) l.yielded)
