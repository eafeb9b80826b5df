use Rattle.std.proofs.Common.{◌≡◌, ◌≤◌, ◌+◌, ◌*◌, drop, length, [], ◌∷◌}
use Rattle.ot_op.specs.Operation.{IsOp}
use Rattle.ot_transform.specs.Room.{Fits}
use Rattle.ot_transform.specs.Crossing.{crossed_by, crossed, inserts}
use Rattle.ot_transform.proofs.Turns.{Walked}
use Rattle.ot_transform.proofs.cross_ops.+cross.Given as goal

-- the inserts that are left to the left
abbrev pub decreases-cross_lists : goal.decreases-cross_lists
decreases-cross_lists l = 3 * inserts l.left.now + 2

abbrev pub decreases-walk : goal.decreases-walk
decreases-walk l = 3 * inserts l.left.now + 1

abbrev pub decreases-cross_rest : goal.decreases-cross_rest
decreases-cross_rest l = 3 * inserts l.rest.now + 3

abbrev pub invariant-cross_lists-loop-comp : goal.invariant-cross_lists-loop-comp
invariant-cross_lists-loop-comp l = record {
  few : inserts l.current ≤ inserts l.left;
  fits : Fits l.current (drop l.comp-index l.right);
  same : crossed_by crossed l.current l.done (drop l.comp-index l.right) ≡ crossed_by crossed l.left [] l.right;
}

abbrev pub invariant-walk-turns : goal.invariant-walk-turns
invariant-walk-turns l = record {
  far : Walked l.fn.first l.left l.next l.hand l.rest;
  solid : IsOp l.rest;
  fits : Fits l.rest (l.hand ∷ []);
}

abbrev pub decreases-walk-turns : goal.decreases-walk-turns
decreases-walk-turns l = length l.rest
