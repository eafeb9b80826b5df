use Rattle.std.proofs.Common.{◌≡◌, drop, map}
use Rattle.serde_json.specs.View.{items_of}
use Rattle.ot_json.specs.Grammar.{components_or_fault, readings}
use Rattle.ot_json.proofs.Elements.{with_rest}
use Rattle.ot_json.proofs.read.read_elements.Given as goal

abbrev pub invariant-loop-k : goal.invariant-loop-k
invariant-loop-k g l =
    components_or_fault (readings l.grammar (items_of (map g.E.Element.value l.elements)))
    ≡ with_rest l.op l.supplementary l.k (readings l.grammar (items_of (map g.E.Element.value (drop l.k l.elements))))
