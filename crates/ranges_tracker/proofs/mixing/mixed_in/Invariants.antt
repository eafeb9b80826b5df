use Rattle.std.proofs.Common.{◌≡◌, ◌+◌, ◌++◌, ◌≤◌, length, drop}
use Rattle.ranges_tracker.specs.Ordered.{Rising}
use Rattle.ranges_tracker.specs.Tracked.{mixed_in}
use Rattle.ranges_tracker.proofs.mixing.mixed_in.Given as goal

abbrev pub invariant-loop-j : goal.invariant-loop-j
invariant-loop-j l = record {
  firsts : l.first ≤ length l.inserts;
  nexts : l.next ≤ length l.deletes;
  rising : Rising (l.at + l.j) (drop l.next l.deletes);
  made : l.text ++ mixed_in (l.at + l.j) (drop l.j l.part) (drop l.first l.inserts) (drop l.next l.deletes) ≡ mixed_in l.at l.part l.inserts l.deletes;
}
