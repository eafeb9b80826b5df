-- Values that several lines of a report have: numbers, lists of numbers, and optional numbers.
use Rattle.std.specs.Prelude.{ℕ, List, map, Option}
use Rattle.serde_json.specs.Data.{Data, number, unsigned, array, Members}
use Rattle.serde_json.specs.View.{items_of}
use Rattle.json_lines.specs.Object.{with_member, optional}

-- a list of whole numbers
abbrev pub numbers_data : List ℕ → Data
numbers_data ns = array (items_of (map (λ n. number (unsigned n)) ns))

abbrev pub with_numbers : List ℕ → List ℕ → Members → Members
with_numbers k ns = with_member k (numbers_data ns)

-- a whole number, or null
abbrev pub with_optional : List ℕ → Option ℕ → Members → Members
with_optional k n = with_member k (optional n)
