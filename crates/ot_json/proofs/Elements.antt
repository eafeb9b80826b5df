-- Reading an operation's elements from the front.
use Rattle.std.proofs.Common.{ℕ, List, ◌++◌, Option, Result}
use Rattle.std.specs.Prelude.{filter_map}
use Rattle.std.specs.List.{position_from}
use Rattle.std.specs.Option.{option_or}
use Rattle.ot_op.specs.declared.comp.Comp.{Comp}
use Rattle.ot_op.specs.declared.fault.FormFault.{FormFault}
use Rattle.ot_json.specs.declared.reading.Reading.{Reading}
use Rattle.ot_json.specs.Grammar.{kept, is_out_of_form, is_supplementary, unless_faulty}

-- what is read in all, where these components were kept and this element was the first supplementary one, before element k
abbrev pub with_rest : List Comp → Option ℕ → ℕ → List Reading → Result (List Comp) FormFault
with_rest comps supplementary k rs =
    unless_faulty (position_from is_out_of_form k rs) (option_or supplementary (position_from is_supplementary k rs)) (comps ++ filter_map kept rs)
