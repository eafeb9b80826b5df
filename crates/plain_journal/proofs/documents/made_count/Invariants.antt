use Rattle.std.proofs.Common.{◌≡◌, ◌≤◌, ◌^◌, length, take}
use Rattle.journal_rules.specs.Documents.{makings}
use Rattle.journal_rules.specs.Legal.{IsLegal}
use Rattle.plain_journal.proofs.documents.made_count.Given as goal

abbrev pub invariant-loop-entry : goal.invariant-loop-entry
invariant-loop-entry l = record {
  counted : l.count ≡ length (makings (take l.entry-index l.journal));
  few : l.count ≤ l.entry-index;
  numbered : IsLegal l.journal → l.count ≤ 2 ^ 32;
}
