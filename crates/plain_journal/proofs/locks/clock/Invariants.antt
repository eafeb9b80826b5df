use Rattle.std.proofs.Common.{◌≡◌, take}
use Rattle.journal_rules.specs.Locks.{clock}
use Rattle.plain_journal.proofs.locks.clock.Given as goal

abbrev pub invariant-loop-entry : goal.invariant-loop-entry
invariant-loop-entry l = l.now ≡ clock (take l.entry-index l.journal)
