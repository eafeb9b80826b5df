use Rattle.std.proofs.Common.{◌≡◌, ℕ, ◌+◌, length, take}
use Rattle.ot_text.specs.Lists.{joined}
use Rattle.ot_text.proofs.place.find_chunk.Given as goal

-- the units of the chunks so far, and the rest, are the place
abbrev pub invariant-loop-i : goal.invariant-loop-i
invariant-loop-i l = length (joined (take l.i l.chunks)) + l.rest ≡ l.at
