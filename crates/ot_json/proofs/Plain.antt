-- No float stands in what is written of an operation.
use Rattle.std.proofs.Common.{◌≡◌, List, [], ◌∷◌, false, refl}
use Rattle.serde_json.specs.Written.{has_float}
use Rattle.ot_op.specs.declared.comp.Comp.{Comp}
use Rattle.ot_op.specs.declared.comp.Comp.TheVariants.{Ins, Del, Com}
use Rattle.ot_json.specs.Grammar.{component_data, operation_data}

component_plain : (c : Comp) → has_float (component_data c) ≡ false
component_plain (Ins p us) = refl
component_plain (Del p us) = refl
component_plain (Com p us t) = refl

pub operation_plain : (cs : List Comp) → has_float (operation_data cs) ≡ false
operation_plain [] = refl
operation_plain (c ∷ cs) = rw (component_plain c) (operation_plain cs)
