use Rattle.std.proofs.Common.{◌≡◌, ◌++◌, drop, option_map}
use Rattle.serde_json.specs.View.{items_view}
use Rattle.session_lines.specs.Fields.{numbers_of}
use Rattle.session_lines.proofs.object.read_numbers.Given as goal

abbrev pub invariant-loop-item : goal.invariant-loop-item
invariant-loop-item l = numbers_of (items_view l.items) ≡ option_map (λ ns. l.sources ++ ns) (numbers_of (items_view (drop l.item-index l.items)))
