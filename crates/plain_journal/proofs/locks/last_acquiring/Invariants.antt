use Rattle.std.proofs.Common.{◌≡◌, take, option_map}
use Rattle.journal_rules.specs.Locks.{last_acquiring}
use Rattle.plain_journal.specs.Answers.{acquiring_as}
use Rattle.plain_journal.proofs.locks.last_acquiring.Given as goal

abbrev pub invariant-loop-entry : goal.invariant-loop-entry
invariant-loop-entry l = option_map acquiring_as l.last ≡ last_acquiring l.doc (take l.entry-index l.journal)
