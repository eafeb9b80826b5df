use Rattle.std.proofs.Common.{◌≡◌, map, take}
use Rattle.serde_json.specs.Data.{number, unsigned}
use Rattle.serde_json.specs.View.{view}
use Rattle.report_text.proofs.values.numbers_value.Given as goal

abbrev pub invariant-loop-n : goal.invariant-loop-n
invariant-loop-n l = map view l.items.items ≡ map (λ n. number (unsigned n)) (take l.n-index l.numbers)
