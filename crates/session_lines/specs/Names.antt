-- Names in the order in which they first appear.
use Rattle.std.specs.Prelude.{ℕ, List, Bool, nat_eq}
use Rattle.std.specs.List.{position_or_len}
use Rattle.std.specs.Cmp.Lexicographic.{pointwise}
use Rattle.indexmap.specs.IndexSet.{insert_key}

abbrev pub same_name : List ℕ → List ℕ → Bool
same_name = pointwise nat_eq

-- the number of a name: its place, or the next one where it's new
abbrev pub number_of_name : List (List ℕ) → List ℕ → ℕ
number_of_name names name = position_or_len (same_name name) names

-- the names with this one, behind the others where it's new
abbrev pub with_name : List (List ℕ) → List ℕ → List (List ℕ)
with_name names name = insert_key same_name names name
