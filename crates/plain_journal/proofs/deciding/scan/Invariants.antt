use Rattle.std.proofs.Common.{◌≡◌, drop, map}
use Rattle.ot_transform.specs.Room.{FitsAll}
use Rattle.journal_rules.specs.Deciding.{scanned}
use Rattle.plain_journal.specs.Answers.{operations, passed_as}
use Rattle.plain_journal.proofs.deciding.scan.Given as goal

-- what is left of the way is left of the whole
abbrev pub invariant-loop-item : goal.invariant-loop-item
invariant-loop-item l = record {
  fits : FitsAll l.moved (operations (drop l.item-index l.past));
  same : scanned l.update.dup l.moved (map passed_as (drop l.item-index l.past)) ≡ scanned l.update.dup l.update.op (map passed_as l.past);
}
