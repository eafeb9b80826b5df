use Rattle.std.proofs.Common.{◌≡◌, ◌≤◌, take, option_map}
use Rattle.std.specs.Prelude.{IfSome}
use Rattle.journal_rules.specs.Mail.{outbox}
use Rattle.plain_journal.specs.Answers.{outbox_as}
use Rattle.plain_journal.proofs.mail.outbox_of.Given as goal

abbrev pub invariant-loop-n : goal.invariant-loop-n
invariant-loop-n l = record {
  found_is : option_map outbox_as l.found ≡ outbox l.client (take l.n l.journal);
  few : IfSome l.found (λ outbox. outbox.got ≤ l.n);
}
