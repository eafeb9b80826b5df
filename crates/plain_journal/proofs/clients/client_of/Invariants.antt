use Rattle.std.proofs.Common.{◌≡◌, take}
use Rattle.journal_rules.specs.Client.{client}
use Rattle.plain_journal.specs.Answers.{client_as}
use Rattle.plain_journal.proofs.clients.client_of.Given as goal

abbrev pub invariant-loop-n : goal.invariant-loop-n
invariant-loop-n l = client_as l.now ≡ client l.client (take l.n l.journal)
