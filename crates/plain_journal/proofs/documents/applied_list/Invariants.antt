use Rattle.std.proofs.Common.{◌≡◌, map, take}
use Rattle.journal_rules.specs.Documents.{applied_list}
use Rattle.plain_journal.specs.Answers.{item_as}
use Rattle.plain_journal.proofs.documents.applied_list.Given as goal

abbrev pub invariant-loop-n : goal.invariant-loop-n
invariant-loop-n l = map item_as l.items.items ≡ applied_list l.doc (take l.n l.journal)
