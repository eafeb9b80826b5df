-- Edits are no numbers.
use Rattle.std.proofs.Common.{◌≡◌, ◌<◌, List, [], ◌∷◌, length, map, None, refl, arith}
use Rattle.serde_json.specs.View.{items_of}
use Rattle.line_reader.specs.Fields.{edit_data}
use Rattle.line_reader.specs.declared.edit.Edit.{Edit}
use Rattle.session_lines.specs.Fields.{numbers_of}

pub no_number : (es : List Edit) → 0 < length es → numbers_of (items_of (map edit_data es)) ≡ None
no_number [] some = let never : ⊥ = omega (arith, some) in absurd never
no_number (e ∷ es) some = refl
