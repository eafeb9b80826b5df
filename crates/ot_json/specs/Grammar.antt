-- The grammar of operations: the operation that a JSON value is, or its fault, and the value that is written for one.
use Rattle.std.specs.Prelude.{◌≡◌, ◌≤◌, ℕ, nat_le, ◌&&◌, List, length, map, filter_map, [], ◌∷◌, codes, Bool, true, false, Option, Some, None, Result, Ok, Err, if◌then◌else◌, ⊤}
use Rattle.std.specs.List.{All, position_from}
use Rattle.json_lines.specs.Object.{units_data}
use Rattle.serde_json.specs.Data.{Data, number, unsigned, array, object, Items, no_items, item, no_members, member}
use Rattle.serde_json.specs.Find.{as_array}
use Rattle.serde_json.specs.View.{items_of}
use Rattle.ot_units.specs.Text.{IsText}
use Rattle.ot_op.specs.declared.comp.Comp.{Comp}
use Rattle.ot_op.specs.declared.comp.Comp.TheVariants.{Ins, Del, Com}
use Rattle.ot_op.specs.declared.fault.FormFault.{FormFault}
use Rattle.ot_op.specs.declared.fault.FormFault.TheVariants as fault
use Rattle.ot_op.specs.Operation.{total_units}
use Rattle.ot_json.specs.declared.fault.OpFault.{OpFault}
use Rattle.ot_json.specs.declared.fault.OpFault.TheVariants.{Bad, Memory}
use Rattle.ot_json.specs.declared.reading.Grammar.{Grammar}
use Rattle.ot_json.specs.declared.reading.Grammar.TheVariants.{Sent, Stored}
use Rattle.ot_json.specs.declared.reading.Reading.{Reading}
use Rattle.ot_json.specs.declared.reading.Reading.TheVariants.{Kept, Dropped, Supplementary, OutOfForm}
use Rattle.ot_json.specs.Form.{max_thread, written_of}
use Rattle.ot_op.specs.declared.limits.TheConstants.{MAX_COMPONENTS, MAX_OPERATION_UNITS}
use Rattle.ot_json.specs.Reading.{reading_of}

-- ---- reading

abbrev pub is_out_of_form : Reading → Bool
is_out_of_form (Kept c) = false
is_out_of_form Dropped = false
is_out_of_form Supplementary = false
is_out_of_form OutOfForm = true

abbrev pub is_supplementary : Reading → Bool
is_supplementary (Kept c) = false
is_supplementary Dropped = false
is_supplementary Supplementary = true
is_supplementary OutOfForm = false

abbrev pub kept : Reading → Option Comp
kept (Kept c) = Some c
kept Dropped = None
kept Supplementary = None
kept OutOfForm = None

abbrev pub readings : Grammar → Items → List Reading
readings grammar no_items = []
readings grammar (item d ds) = reading_of grammar (written_of d) ∷ readings grammar ds

-- the components that stay, unless an element is out of form or, after that, has a supplementary character
abbrev pub unless_faulty : Option ℕ → Option ℕ → List Comp → Result (List Comp) FormFault
unless_faulty (Some k) supplementary comps = Err (fault.Form k)
unless_faulty None (Some k) comps = Err (fault.Supplementary k)
unless_faulty None None comps = Ok comps

abbrev pub components_or_fault : List Reading → Result (List Comp) FormFault
components_or_fault rs = unless_faulty (position_from is_out_of_form 0 rs) (position_from is_supplementary 0 rs) (filter_map kept rs)

abbrev pub array_or_fault : Grammar → Option Items → Result (List Comp) FormFault
array_or_fault grammar None = Err (fault.Form 0)
array_or_fault grammar (Some ds) = components_or_fault (readings grammar ds)

-- ---- how large an operation may be

abbrev pub unless_large : Result (List Comp) FormFault → Result (List Comp) FormFault
unless_large (Err f) = Err f
unless_large (Ok comps) =
    if nat_le (length comps) MAX_COMPONENTS && nat_le (total_units comps) MAX_OPERATION_UNITS then Ok comps
    else Err (fault.TooLarge (length comps) (total_units comps))

-- ---- the two grammars

-- the operation that a client sent
abbrev pub operation_of : Data → Result (List Comp) FormFault
operation_of d = unless_large (array_or_fault Sent (as_array d))

-- the operation that was written
abbrev pub long_operation_of : Data → Result (List Comp) FormFault
long_operation_of d = array_or_fault Stored (as_array d)

-- a fault that is answered where this was to be read
abbrev pub IsFaultOf : Result (List Comp) FormFault → OpFault → Type 0
IsFaultOf read (Bad f) = read ≡ Err f
IsFaultOf read Memory = ⊤

-- ---- writing

abbrev pub component_data : Comp → Data
component_data (Ins p us) = object (member (codes "i") (units_data us) (member (codes "p") (number (unsigned p)) no_members))
component_data (Del p us) = object (member (codes "d") (units_data us) (member (codes "p") (number (unsigned p)) no_members))
component_data (Com p us t) = object (member (codes "c") (units_data us) (member (codes "p") (number (unsigned p)) (member (codes "t") (number (unsigned t)) no_members)))

abbrev pub operation_data : List Comp → Data
operation_data comps = array (items_of (map component_data comps))

-- what the types of its fields say of a component: its text has no surrogates, and its thread has 32 bits
abbrev pub IsComponent : Comp → Type 0
IsComponent (Ins p us) = IsText us
IsComponent (Del p us) = IsText us
IsComponent (Com p us t) = IsText us × (t ≤ max_thread)
