-- Lists of lists: units in chunks, and chunks in blocks.
use Rattle.std.specs.Prelude.{◌≡◌, ℕ, ◌≤◌, ◌<◌, ◌+◌, List, [], ◌∷◌, ◌++◌, length, take, drop, slice_index_or}

-- the list that the lists are, one behind the other
abbrev pub joined : {A : Type 0} → List (List A) → List A
joined [] = []
joined (c ∷ cs) = c ++ joined cs

-- the list of a number
abbrev pub list_at : {A : Type 0} → List (List A) → ℕ → List A
list_at cs i = slice_index_or cs i []

-- item number `at` of the joined list is item number k of list number i
abbrev pub IsItemPlace : {A : Type 0} → List (List A) → ℕ → ℕ → ℕ → Type 0
IsItemPlace cs at i k = (i < length cs) × (length (joined (take i cs)) + k ≡ at) × (k < length (list_at cs i))

-- the place before item number `at` of the joined list is the place before item number k of list number i, or its end
abbrev pub IsEdgePlace : {A : Type 0} → List (List A) → ℕ → ℕ → ℕ → Type 0
IsEdgePlace cs at i k = (i < length cs) × (length (joined (take i cs)) + k ≡ at) × (k ≤ length (list_at cs i))

-- the lists from number `from` up to `to` become the items, and all are joined
abbrev pub filled : {A : Type 0} → List (List A) → ℕ → ℕ → List A → List A
filled cs from to items = joined (take from cs) ++ items ++ joined (drop to cs)

-- the items from number `from` up to `to` become new ones
abbrev pub patched : {A : Type 0} → List A → ℕ → ℕ → List A → List A
patched cs from to new = take from cs ++ new ++ drop to cs
