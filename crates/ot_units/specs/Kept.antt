-- Where a name keeps its bytes. No public clause cites this module.
use Rattle.std.specs.Prelude.{ℕ, List, string_bytes}
use Rattle.ot_units.specs.declared.name.Kept.{Kept}
use Rattle.ot_units.specs.declared.name.Kept.TheVariants.{Short, Long}

abbrev pub kept_bytes : Kept → List ℕ
kept_bytes (Short s) = s.bytes
kept_bytes (Long s) = string_bytes s
