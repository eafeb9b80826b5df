use Rattle.std.proofs.Common.{◌≡◌, map, take}
use Rattle.journal_rules.specs.Documents.{makings}
use Rattle.plain_journal.specs.Answers.{making_as}
use Rattle.plain_journal.proofs.documents.makings.Given as goal

abbrev pub invariant-loop-entry : goal.invariant-loop-entry
invariant-loop-entry l = map making_as l.made.items ≡ makings (take l.entry-index l.journal)
