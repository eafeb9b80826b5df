use Rattle.std.proofs.Common.{take}
use Rattle.journal_rules.specs.Legal.{IsLegal}
use Rattle.plain_journal.proofs.legal.is_legal.Given as goal

abbrev pub invariant-loop-n : goal.invariant-loop-n
invariant-loop-n l = IsLegal (take l.n l.journal)
