-- Changes in the order of their places.
use Rattle.std.specs.Prelude.{ℕ, ◌+◌, ◌<◌, ◌≤◌, Bool, false, List, [], ◌∷◌, length, nat_le, nat_lt, if◌then◌else◌}
use Rattle.ranges_tracker.specs.declared.change.Change.{Change}

-- inserts in order that don't overlap, from a place on
abbrev pub Lined : ℕ → List Change → Type 0
Lined at [] = Unit {0}
Lined at (c ∷ cs) = (at ≤ c.at) × (0 < length c.text) × (Lined (c.at + length c.text) cs)

-- deletes in order, from a place on
abbrev pub Rising : ℕ → List Change → Type 0
Rising at [] = Unit {0}
Rising at (c ∷ cs) = (at ≤ c.at) × Rising c.at cs

-- the inserts from the first on that ends behind a place
abbrev pub ending_past : ℕ → List Change → List Change
ending_past i [] = []
ending_past i (c ∷ cs) = if nat_le (c.at + length c.text) i then ending_past i cs else c ∷ cs

-- the deletes from the first on that doesn't stand before a place
abbrev pub from_gap : ℕ → List Change → List Change
from_gap at [] = []
from_gap at (d ∷ ds) = if nat_lt d.at at then from_gap at ds else d ∷ ds

-- whether the first of some deletes stands up to a place
abbrev pub starts_by : ℕ → List Change → Bool
starts_by at [] = false
starts_by at (d ∷ ds) = nat_le d.at at
