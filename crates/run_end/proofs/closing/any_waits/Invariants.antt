use Rattle.std.proofs.Common.{◌≡◌, false}
use Rattle.journal_rules.specs.Documents.{waiting}
use Rattle.ending_rules.specs.Rounds.{any_below, has_any}
use Rattle.run_end.proofs.closing.any_waits.Given as goal

-- none of the documents so far has an update that waits
abbrev pub invariant-loop-doc : goal.invariant-loop-doc
invariant-loop-doc g l = any_below (λ d. has_any (waiting d l.book.journal)) l.doc ≡ false
