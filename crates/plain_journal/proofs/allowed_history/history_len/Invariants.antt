use Rattle.std.proofs.Common.{◌≡◌, ◌≤◌, take, length}
use Rattle.journal_rules.specs.History.{history}
use Rattle.plain_journal.proofs.allowed_history.history_len.Given as goal

abbrev pub invariant-loop-n : goal.invariant-loop-n
invariant-loop-n l = record {
  left_is : l.left ≡ length (history l.project (take l.n l.journal));
  few : l.left ≤ l.n;
}
