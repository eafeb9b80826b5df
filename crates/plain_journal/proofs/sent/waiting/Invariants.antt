use Rattle.std.proofs.Common.{◌≡◌, take, filter}
use Rattle.std.specs.Prelude.{not}
use Rattle.journal_rules.specs.Documents.{sent, committed, is_in}
use Rattle.plain_journal.proofs.sent.waiting.Given as goal

abbrev pub invariant-loop-n : goal.invariant-loop-n
invariant-loop-n l = l.tickets.items ≡ filter (λ t. not (is_in t (committed l.journal))) (sent l.doc (take l.n l.journal))
