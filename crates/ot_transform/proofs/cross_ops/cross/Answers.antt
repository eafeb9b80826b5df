use Rattle.std.proofs.Common.{◌≡◌, List, Result, Ok, Err}
use Rattle.std.specs.Prelude.{IfOk}
use Rattle.std.specs.declared.alloc.AllocError.{AllocError}
use Rattle.ot_op.specs.declared.comp.Comp.{Comp}
use Rattle.ot_transform.specs.Crossing.{Crossed, crossed}
use Rattle.ot_transform.specs.Convergence.{Converges}
use Rattle.ot_transform.proofs.Cases.{converges}
use Rattle.ot_transform.proofs.Following.{no_larger_on}
use Rattle.ot_transform.proofs.cross_ops.cross.Goals as goal

converge_ok : (ls rs : List Comp) (r : Result Crossed AllocError) → IfOk r (λ both. both ≡ crossed ls rs) → IfOk r (λ both. Converges ls rs both)
converge_ok ls rs (Ok both) e = converges ls rs both e
converge_ok ls rs (Err x) e = tt

pub returns-clause-converges : goal.returns-clause-converges
returns-clause-converges c = rw (← c.comps.ensures.value, ← c.comps-2.ensures.value) (converge_ok _ _ _ c.cross_lists.ensures)

pub returns-clause-no_larger : goal.returns-clause-no_larger
returns-clause-no_larger c = rw (← c.comps.ensures.value, ← c.comps-2.ensures.value) (no_larger_on _ _ _ c.cross_lists.ensures)
