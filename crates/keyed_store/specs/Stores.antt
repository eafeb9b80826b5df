-- Values by name, in the order in which they were added.
use Rattle.std.specs.Prelude.{ℕ, List, map, position, slice_get, Option, Some, None}
use Rattle.std.specs.Str.{bytes_eq}
pub use Rattle.indexmap.specs.IndexMap.{set_value_at}
use Rattle.keyed_store.specs.declared.store.AddFault.{AddFault}
use Rattle.keyed_store.specs.declared.store.AddFault.TheVariants.{Exists, Memory}

module _ {S : Type 0} where
  abbrev pub names_of : List (List ℕ × S) → List (List ℕ)
  names_of pairs = map (λ p. p.0) pairs

  abbrev pub values_of : List (List ℕ × S) → List S
  values_of pairs = map (λ p. p.1) pairs

  -- the number of a name
  abbrev pub place_of : List ℕ → List (List ℕ × S) → Option ℕ
  place_of name pairs = position (bytes_eq name) (names_of pairs)

  -- the value with a number
  abbrev pub value_at : List (List ℕ × S) → ℕ → Option S
  value_at pairs at = slice_get (values_of pairs) at

-- the number that a name has already, or none where memory was wanting
abbrev pub existing : AddFault → Option ℕ
existing (Exists at) = Some at
existing Memory = None
