-- The slices of a part of a text.
use Rattle.std.specs.Prelude.{ℕ, ◌-◌, List, [], ◌∷◌, ◌++◌, take, length, All}
use Rattle.std.proofs.Common.{zero, suc}
use Rattle.ot_text.specs.Lists.{joined}
use Rattle.ot_text.specs.Chunks.{IsBlock}
use Rattle.ot_text.specs.declared.parts.TextParts.TheInside.{Inside}

-- so many units of the first slice and of the chunks behind it, slice by slice
abbrev pub slices_of : List ℕ → List (List ℕ) → ℕ → List (List ℕ)
slices_of first cs zero = []
slices_of first [] (suc n) = take (suc n) first ∷ []
slices_of first (c ∷ cs) (suc n) = take (suc n) first ∷ slices_of c cs (suc n - length first)

-- the slices that an iterator has left
abbrev pub slices_left : Inside → List (List ℕ)
slices_left parts = slices_of parts.first.now (parts.chunks.now ++ joined parts.blocks.now) parts.len

abbrev pub IsSliced : Inside → Type 0
IsSliced parts = All IsBlock parts.blocks.now
