-- The fields of a line by their kinds.
use Rattle.std.specs.Prelude.{ℕ, List, [], ◌∷◌, Option, Some, None, option_map}
use Rattle.std.specs.Result.{result_ok}
use Rattle.serde_json.specs.Data.{Data, null, boolean, number, string, array, object, Items, no_items, item}
use Rattle.serde_json.specs.Find.{as_number, as_str, as_u64, get}
pub use Rattle.json_lines.specs.Reading.{and_then}
use Rattle.json_lines.specs.Reading.{array_at, text_at, whole_at, within}
use Rattle.ot_op.specs.declared.comp.Comp.{Comp}
use Rattle.ot_json.specs.Grammar.{long_operation_of}
use Rattle.ot_units.specs.Text.{exact_units, name_of}

abbrev pub max_u32 : ℕ
max_u32 = 4294967295

abbrev pub u32_at : List ℕ → Data → Option ℕ
u32_at k d = whole_at max_u32 k d

abbrev pub name_at : List ℕ → Data → Option (List ℕ)
name_at k d = and_then (text_at k d) name_of

-- a text without supplementary characters, as its units
abbrev pub units_at : List ℕ → Data → Option (List ℕ)
units_at k d = and_then (text_at k d) exact_units

abbrev pub operation_at : List ℕ → Data → Option (List Comp)
operation_at k d = and_then (get k d) (λ op. result_ok (long_operation_of op))

abbrev pub number_of : Data → Option ℕ
number_of d = and_then (as_number d) as_u64

-- what a value is, or `null` for none
abbrev pub or_null : {A : Type 0} → (Data → Option A) → Data → Option (Option A)
or_null read null = Some None
or_null read (boolean b) = option_map Some (read (boolean b))
or_null read (number n) = option_map Some (read (number n))
or_null read (string s) = option_map Some (read (string s))
or_null read (array ds) = option_map Some (read (array ds))
or_null read (object ms) = option_map Some (read (object ms))

abbrev pub number_or_null_at : List ℕ → Data → Option (Option ℕ)
number_or_null_at k d = and_then (get k d) (or_null number_of)

-- none, or a number below 2^32
abbrev pub small_or_none : Option ℕ → Option (Option ℕ)
small_or_none None = Some None
small_or_none (Some n) = option_map Some (within max_u32 n)

abbrev pub u32_or_null_at : List ℕ → Data → Option (Option ℕ)
u32_or_null_at k d = and_then (number_or_null_at k d) small_or_none

abbrev pub operation_or_null_at : List ℕ → Data → Option (Option (List Comp))
operation_or_null_at k d = and_then (get k d) (or_null (λ op. result_ok (long_operation_of op)))

abbrev pub units_or_null_at : List ℕ → Data → Option (Option (List ℕ))
units_or_null_at k d = and_then (get k d) (or_null (λ text. and_then (as_str text) exact_units))

-- what each element of an array is
abbrev pub each_of : {A : Type 0} → (Data → Option A) → Items → Option (List A)
each_of read no_items = Some []
each_of read (item d ds) = and_then (read d) (λ x. option_map (λ xs. x ∷ xs) (each_of read ds))

abbrev pub each_at : {A : Type 0} → (Data → Option A) → List ℕ → Data → Option (List A)
each_at read k d = and_then (array_at k d) (each_of read)
