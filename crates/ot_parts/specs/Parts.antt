-- Parts of a list of units, and a list that stands in two slices.
use Rattle.std.specs.Prelude.{ℕ, ◌<◌, ◌⊎◌, List, ◌++◌, length, take, drop}

-- a list in two slices, either of which may be empty
pub record Slices : Type 0 where
  pub first : List ℕ
  pub second : List ℕ

-- the list that the slices are
abbrev pub joined : Slices → List ℕ
joined pieces = pieces.first ++ pieces.second

-- the list with the units from place `from` up to place `to` cut out
abbrev pub without_cut : List ℕ → ℕ → ℕ → List ℕ
without_cut units from to = take from units ++ drop to units

-- the cut takes something out of the middle of the slice that begins at `start` and ends at `end`,
-- and leaves something of that slice on either side
abbrev pub IsInside : ℕ → ℕ → ℕ → ℕ → Type 0
IsInside start end from to = (start < from) × ((from < to) × (to < end))

-- three slices that aren't empty stay: the cut lies inside one slice, and the other isn't empty
abbrev pub NeedsThree : Slices → ℕ → ℕ → Type 0
NeedsThree pieces from to =
    (IsInside 0 (length pieces.first) from to × (0 < length pieces.second))
    ⊎ ((0 < length pieces.first) × IsInside (length pieces.first) (length (joined pieces)) from to)
