use Rattle.std.proofs.Common.{◌≡◌, false}
use Rattle.ending_rules.specs.Rounds.{any_below, is_unfinished}
use Rattle.run_end.proofs.closing.any_unfinished.Given as goal

-- none of the clients so far is unfinished
abbrev pub invariant-loop-client : goal.invariant-loop-client
invariant-loop-client g l = any_below (λ c. is_unfinished c l.book.journal) l.client-index ≡ false
