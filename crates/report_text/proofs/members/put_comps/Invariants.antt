use Rattle.std.proofs.Common.{map, take}
use Rattle.ot_json.specs.Grammar.{component_data}
use Rattle.line_writer.specs.Puts.{PutsElements, elements_before}
use Rattle.report_text.proofs.members.put_comps.Given as goal

abbrev pub invariant-loop-comp : goal.invariant-loop-comp
invariant-loop-comp l = PutsElements l.initial.line l.line (elements_before (map component_data (take l.comp-index l.comps)))
