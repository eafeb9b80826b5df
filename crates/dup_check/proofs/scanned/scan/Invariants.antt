use Rattle.std.proofs.Common.{◌≡◌, ◌+◌, drop}
use Rattle.ot_transform.specs.Room.{FitsAll}
use Rattle.journal_rules.specs.Deciding.{scanned}
use Rattle.dup_check.specs.Snapshot.{operations, numbered}
use Rattle.dup_check.proofs.scanned.scan.Given as goal

-- what is left of the way is left of the whole
abbrev pub invariant-loop-k : goal.invariant-loop-k
invariant-loop-k l = record {
  fits : FitsAll l.moved (operations (drop l.k l.past));
  same : scanned l.update.dup l.moved (numbered (l.update.v + l.k) (drop l.k l.past)) ≡ scanned l.update.dup l.update.op (numbered l.update.v l.past);
}
