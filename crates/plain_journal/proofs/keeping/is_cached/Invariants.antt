use Rattle.std.proofs.Common.{◌≡◌, take}
use Rattle.journal_rules.specs.Keeping.{cached}
use Rattle.plain_journal.proofs.keeping.is_cached.Given as goal

abbrev pub invariant-loop-entry : goal.invariant-loop-entry
invariant-loop-entry l = l.cached ≡ cached l.doc (take l.entry-index l.journal)
