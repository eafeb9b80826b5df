use Rattle.std.proofs.Common.{◌≡◌}
use Rattle.std.specs.List.{flat_map}
use Rattle.ot_units.specs.Text.{IsText}
use Rattle.ot_units.proofs.Sanitized.{sanitized_char}
use Rattle.ot_units.proofs.units.Units.sanitized.Given as goal

-- what the characters so far give, and it is a text
abbrev pub invariant-loop-c : goal.invariant-loop-c
invariant-loop-c l = record { made : l.units.items ≡ flat_map sanitized_char l.yielded; text : IsText l.units.items }
