use Rattle.std.proofs.Common.{◌≡◌, ℕ, ◌+◌, length, take}
use Rattle.ot_text.specs.Lists.{joined}
use Rattle.ot_text.proofs.place.block_of.Given as goal

-- the chunks of the blocks so far, and the rest, are the place
abbrev pub invariant-loop-i : goal.invariant-loop-i
invariant-loop-i l = length (joined (take l.i l.blocks)) + l.rest ≡ l.number
