use Rattle.std.proofs.Common.{◌≡◌, take}
use Rattle.plain_journal.proofs.allowed_updates.are_same_comps.Given as goal

abbrev pub invariant-loop-k : goal.invariant-loop-k
invariant-loop-k l = take l.k l.ones ≡ take l.k l.others
