-- The members of a value, by their keys.
use Rattle.std.specs.Prelude.{ℕ, nat_le, List, Bool, Option, Some, None, is_some, option_and_then, if◌then◌else◌}
use Rattle.serde_json.specs.Data.{Data, Items, Members}
use Rattle.serde_json.specs.Events.{members_len}
use Rattle.serde_json.specs.Find.{get, as_array, as_bool, as_number, as_object, as_str, as_u64}

abbrev pub count_keys : Option Members → ℕ
count_keys None = 0
count_keys (Some ms) = members_len ms

-- what is found, read on
abbrev pub and_then : {A B : Type 0} → Option A → (A → Option B) → Option B
and_then o f = option_and_then f o

-- how many keys an object has, and 0 for any other value
abbrev pub key_count : Data → ℕ
key_count d = count_keys (as_object d)

abbrev pub has_key : List ℕ → Data → Bool
has_key k d = is_some (get k d)

-- the bytes of the text at a key
abbrev pub text_at : List ℕ → Data → Option (List ℕ)
text_at k d = option_and_then as_str (get k d)

abbrev pub number_at : List ℕ → Data → Option ℕ
number_at k d = option_and_then as_u64 (option_and_then as_number (get k d))

abbrev pub within : ℕ → ℕ → Option ℕ
within max n = if nat_le n max then Some n else None

-- the whole number at a key, where it is at most max
abbrev pub whole_at : ℕ → List ℕ → Data → Option ℕ
whole_at max k d = option_and_then (within max) (number_at k d)

abbrev pub flag_at : List ℕ → Data → Option Bool
flag_at k d = option_and_then as_bool (get k d)

abbrev pub array_at : List ℕ → Data → Option Items
array_at k d = option_and_then as_array (get k d)
