use Rattle.std.proofs.Common.{◌≡◌, map, take}
use Rattle.std.specs.List.{All}
use Rattle.serde_json.specs.View.{view}
use Rattle.ot_json.specs.Grammar.{IsComponent, component_data}
use Rattle.ot_json.proofs.write.write_comps.Given as goal

abbrev pub invariant-loop-comp : goal.invariant-loop-comp
invariant-loop-comp l = record {
  written : map view l.elements.items ≡ map component_data (take l.comp-index l.comps);
  typed : All IsComponent (take l.comp-index l.comps);
}
