use Rattle.std.proofs.Common.{◌≡◌, true}
use Rattle.std.specs.List.{list_all}
use Rattle.ot_units.specs.Text.{IsText, is_basic}
use Rattle.ot_units.proofs.units.Units.exact.Given as goal

-- the units are the characters so far, and all are basic
abbrev pub invariant-loop-c : goal.invariant-loop-c
invariant-loop-c l = record { made : l.units.items ≡ l.yielded; text : IsText l.units.items; basic : list_all is_basic l.yielded ≡ true }
