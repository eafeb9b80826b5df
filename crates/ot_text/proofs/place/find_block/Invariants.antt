use Rattle.std.proofs.Common.{◌≡◌, ℕ, ◌+◌, length, take}
use Rattle.ot_text.specs.Lists.{joined}
use Rattle.ot_text.proofs.place.find_block.Given as goal

-- the units of the blocks so far, and the rest, are the place
abbrev pub invariant-loop-i : goal.invariant-loop-i
invariant-loop-i l = record { units : length (joined (joined (take l.i l.blocks))) + l.rest ≡ l.at; chunks : length (joined (take l.i l.blocks)) ≡ l.before }
