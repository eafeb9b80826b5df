use Rattle.std.proofs.Common.{◌≡◌, ◌≤◌, take, length}
use Rattle.journal_rules.specs.Locks.{acquirings}
use Rattle.plain_journal.proofs.locks.next_token.Given as goal

abbrev pub invariant-loop-entry : goal.invariant-loop-entry
invariant-loop-entry l = record {
  counted : l.taken ≡ length (acquirings (take l.entry-index l.journal));
  few : l.taken ≤ l.entry-index;
}
