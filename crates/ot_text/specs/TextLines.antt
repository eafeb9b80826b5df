-- The lines of a text that an iterator has left.
use Rattle.std.specs.Prelude.{◌≡◌, ℕ, ◌≤◌, Bool, true, false, List, [], ◌∷◌, All, drop, Option, MatchOption, if◌then◌else◌}
use Rattle.ot_parts.specs.Lines.{lines_of}
use Rattle.ot_text.specs.Lists.{joined}
use Rattle.ot_text.specs.Chunks.{IsChunk}
use Rattle.ot_text.specs.Texts.{IsKept}
use Rattle.ot_text.specs.declared.lines.TextLines.TheInside.{Inside}

abbrev pub lines_left : Inside → List (List ℕ)
lines_left lines = if lines.more then lines_of (drop lines.at (joined (joined lines.blocks.now))) else []

pub record IsWithin (lines : Inside) : Type 0 where
  pub kept : IsKept lines.blocks.now lines.total
  pub inside : lines.at ≤ lines.total

-- the first of the lines left comes, in slices of 1 to 1,024 units
abbrev pub YieldsLine : List (List ℕ) → Option (List (List ℕ)) → List (List ℕ) → Type 0
YieldsLine lines given left = MatchOption given ((lines ≡ []) × (left ≡ [])) (λ parts. (lines ≡ joined parts ∷ left) × All IsChunk parts)
