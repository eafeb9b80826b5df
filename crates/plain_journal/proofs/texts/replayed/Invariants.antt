use Rattle.std.proofs.Common.{◌≡◌, drop}
use Rattle.journal_rules.specs.Documents as rules
use Rattle.plain_journal.specs.Answers.{operations}
use Rattle.plain_journal.proofs.texts.replayed.Given as goal

-- what is left makes of the text what the whole makes of the first
abbrev pub invariant-loop-item : goal.invariant-loop-item
invariant-loop-item l = rules.replayed l.text (operations (drop l.item-index l.items)) ≡ rules.replayed l.initial.text (operations l.items)
