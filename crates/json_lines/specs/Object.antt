-- An object as data, by its members.
use Rattle.std.specs.Prelude.{◌≡◌, ◌<◌, ℕ, List, [], ◌∷◌, ◌++◌, Bool, Option, Some, None}
use Rattle.std.specs.Str.{encode_utf8_all}
use Rattle.serde_json.specs.Data.{Data, null, boolean, number, string, object, unsigned, Members, members_depth, put}
use Rattle.serde_json.specs.Read.{max_depth}
use Rattle.serde_json.specs.View.{members_view}
use Rattle.serde_json.specs.Written.{compact_text}
use Rattle.json_lines.specs.Lines.{value_of}
use Rattle.json_lines.specs.declared.object.Object.{Object}

-- the members with one more: each key once, in byte order
unfoldable pub with_member : List ℕ → Data → Members → Members
with_member = put

abbrev pub with_number : List ℕ → ℕ → Members → Members
with_number k n = with_member k (number (unsigned n))

abbrev pub with_text : List ℕ → List ℕ → Members → Members
with_text k s = with_member k (string s)

abbrev pub with_flag : List ℕ → Bool → Members → Members
with_flag k b = with_member k (boolean b)

-- the text of these UTF-16 code units, none of them a surrogate
abbrev pub units_data : List ℕ → Data
units_data us = string (encode_utf8_all us)

abbrev pub with_units : List ℕ → List ℕ → Members → Members
with_units k us = with_member k (units_data us)

abbrev pub optional : Option ℕ → Data
optional None = null
optional (Some n) = number (unsigned n)

abbrev pub members_of : Object → Members
members_of o = members_view o.map.entries

-- the object on a line of its own
abbrev pub line_of : Members → List ℕ
line_of ms = compact_text (object ms) ++ 10 ∷ []

-- the object's text is read as this object, unless it nests too deep
abbrev pub ReadsAs : Members → Type 0
ReadsAs ms = members_depth ms < max_depth → value_of (compact_text (object ms)) ≡ Some (object ms)
