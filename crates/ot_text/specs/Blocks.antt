-- Places in blocks of chunks, and patches of them.
use Rattle.std.specs.Prelude.{◌≡◌, ℕ, ◌≤◌, ◌<◌, ◌+◌, ◌-◌, List, length, take}
use Rattle.ot_text.specs.Lists.{joined, list_at, patched}
use Rattle.ot_text.specs.Chunks.{AreBlocks}

-- unit number `at` is unit number `rest` of block number b, and so many chunks stand before that block
abbrev pub IsBlockPlace : List (List (List ℕ)) → ℕ → ℕ → ℕ → ℕ → Type 0
IsBlockPlace bs at b before rest = (b < length bs) × (length (joined (take b bs)) ≡ before) × (length (joined (joined (take b bs))) + rest ≡ at) × (rest < length (joined (list_at bs b)))

-- what a patch of the blocks keeps, where their list has so much room
pub record IsBlockPatch (bs : List (List (List ℕ))) (room from to : ℕ) (new : List (List (List ℕ))) : Type 0 where
  pub ordered : from ≤ to
  pub inside : to ≤ length bs
  pub fits : length new ≤ room + (to - from)
  pub blocks : AreBlocks (patched bs from to new)
