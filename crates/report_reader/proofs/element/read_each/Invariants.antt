use Rattle.std.proofs.Common.{◌≡◌, ◌++◌, drop, option_map}
use Rattle.serde_json.specs.View.{items_view}
use Rattle.report_reader.specs.Fields.{each_of}
use Rattle.report_reader.proofs.element.read_each.Given as goal

abbrev pub invariant-loop-value : goal.invariant-loop-value
invariant-loop-value g l =
    each_of g.T.Element.meaning (items_view l.values) ≡ option_map (λ xs. l.made.items ++ xs) (each_of g.T.Element.meaning (items_view (drop l.value-index l.values)))
