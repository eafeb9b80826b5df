use Rattle.std.proofs.Common.{◌≡◌, ◌++◌, ◌-◌, ◌≤◌, length, drop}
use Rattle.ranges_tracker.specs.Shown.{past}
use Rattle.ranges_tracker.specs.Ordered.{Rising}
use Rattle.ranges_tracker.specs.Tracked.{texts_in}
use Rattle.ranges_tracker.proofs.mixing.push_texts.Given as goal

abbrev pub invariant-turns : goal.invariant-turns
invariant-turns l = record {
  within : l.k ≤ length l.deletes;
  rising : Rising l.gap (drop l.k l.deletes);
  made : l.text ++ texts_in l.gap (drop l.k l.deletes) ≡ l.initial.text ++ texts_in l.gap (drop l.from l.deletes);
  rest : past l.gap (drop l.k l.deletes) ≡ past l.gap (drop l.from l.deletes);
}

abbrev pub decreases-turns : goal.decreases-turns
decreases-turns l = length l.deletes - l.k
