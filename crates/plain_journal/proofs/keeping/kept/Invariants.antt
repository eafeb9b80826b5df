use Rattle.std.proofs.Common.{◌≡◌, take}
use Rattle.journal_rules.specs.Keeping.{kept}
use Rattle.plain_journal.proofs.keeping.kept.Given as goal

abbrev pub invariant-loop-entry : goal.invariant-loop-entry
invariant-loop-entry l = l.version ≡ kept l.doc (take l.entry-index l.journal)
