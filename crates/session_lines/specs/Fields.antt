-- The fields of a line by their kinds.
use Rattle.std.specs.Prelude.{ℕ, nat_le, List, [], ◌∷◌, length, Bool, false, Option, Some, None, option_map, option_and_then, if◌then◌else◌}
use Rattle.serde_json.specs.Data.{Data, Items, no_items, item}
use Rattle.serde_json.specs.Find.{as_number, as_u64}
use Rattle.ot_units.specs.Text.{name_of, sanitized_units}
use Rattle.json_lines.specs.Reading.{array_at, flag_at, has_key, text_at, whole_at}

abbrev pub name_at : List ℕ → Data → Option (List ℕ)
name_at k d = option_and_then name_of (text_at k d)

-- the text at a key, each surrogate replaced
abbrev pub units_at : List ℕ → Data → Option (List ℕ)
units_at k d = option_map sanitized_units (text_at k d)

abbrev pub u32_at : List ℕ → Data → Option ℕ
u32_at k d = whole_at 4294967295 k d

abbrev pub number_or_zero : ℕ → List ℕ → Data → Option ℕ
number_or_zero max k d = if has_key k d then whole_at max k d else Some 0

abbrev pub flag_or_false : List ℕ → Data → Option Bool
flag_or_false k d = if has_key k d then flag_at k d else Some false

-- the numbers of an array, where each element is one
abbrev pub numbers_of : Items → Option (List ℕ)
numbers_of no_items = Some []
numbers_of (item d ds) = option_and_then (λ n. option_map (λ ns. n ∷ ns) (numbers_of ds)) (option_and_then as_u64 (as_number d))

abbrev pub at_most : ℕ → List ℕ → Option (List ℕ)
at_most max ns = if nat_le (length ns) max then Some ns else None

-- at most 100 sources
abbrev pub sources_at : List ℕ → Data → Option (List ℕ)
sources_at k d = option_and_then (at_most 100) (option_and_then numbers_of (array_at k d))

abbrev pub sources_or_none : List ℕ → Data → Option (List ℕ)
sources_or_none k d = if has_key k d then sources_at k d else Some []
