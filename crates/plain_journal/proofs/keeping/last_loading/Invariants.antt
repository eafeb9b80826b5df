use Rattle.std.proofs.Common.{◌≡◌, take}
use Rattle.journal_rules.specs.Keeping.{loading}
use Rattle.plain_journal.specs.Answers.{loading_as}
use Rattle.plain_journal.proofs.keeping.last_loading.Given as goal

abbrev pub invariant-loop-entry : goal.invariant-loop-entry
invariant-loop-entry l = loading_as l.last ≡ loading l.doc (take l.entry-index l.journal)
