-- Texts in chunks.
use Rattle.std.specs.Prelude.{◌≡◌, ℕ, ◌≤◌, ◌+◌, List, [], ◌∷◌, length, take, drop, All, ◌⊎◌}
use Rattle.ot_text.specs.Lists.{joined, patched}

-- a chunk has 1 to 1,024 units
abbrev pub IsChunk : List ℕ → Type 0
IsChunk c = (1 ≤ length c) × (length c ≤ 1024)

-- the units of the first and of the last chunk; where there is none, enough for any neighbour
abbrev pub first_length : List (List ℕ) → ℕ
first_length [] = 513
first_length (c ∷ cs) = length c

abbrev pub last_length : List (List ℕ) → ℕ
last_length [] = 513
last_length (c ∷ []) = length c
last_length (c ∷ d ∷ ds) = last_length (d ∷ ds)

-- two neighbours have at least 513 units together
abbrev pub Chain : List (List ℕ) → Type 0
Chain [] = Unit {0}
Chain (c ∷ cs) = (513 ≤ length c + first_length cs) × Chain cs

-- the units may stand between the chunks before `from` and those from `to` on
abbrev pub Joins : List (List ℕ) → ℕ → ℕ → List ℕ → Type 0
Joins cs from to units = (513 ≤ last_length (take from cs) + length units) × (513 ≤ length units + first_length (drop to cs))

-- half a chunk or more: it may stand beside any chunk
abbrev pub IsBig : List ℕ → Type 0
IsBig c = (512 ≤ length c) × (length c ≤ 1024)

-- the chunks are right: each has 1 to 1,024 units, and two neighbours at least 513 together
pub record AreChunks (cs : List (List ℕ)) : Type 0 where
  pub sizes : All IsChunk cs
  pub joints : Chain cs

-- the chunks that units were cut into, and why they may stand beside what the units could
abbrev pub IsCutUp : List ℕ → List (List ℕ) → Type 0
IsCutUp units made =
    ((units ≡ []) × (made ≡ [])) ⊎ ((made ≡ units ∷ []) × (1 ≤ length units)) ⊎ ((512 ≤ first_length made) × (512 ≤ last_length made))

-- a block has at least one chunk
abbrev pub IsBlock : List (List ℕ) → Type 0
IsBlock b = 1 ≤ length b

-- the blocks of a text: none is empty, and their chunks are right
pub record AreBlocks (bs : List (List (List ℕ))) : Type 0 where
  pub each : All IsBlock bs
  pub chunks : AreChunks (joined bs)

-- what a patch of the chunks keeps
pub record IsChunkPatch (cs : List (List ℕ)) (from to : ℕ) (new : List (List ℕ)) : Type 0 where
  pub ordered : from ≤ to
  pub inside : to ≤ length cs
  pub chunks : AreChunks (patched cs from to new)

-- so many chunks with so many units
abbrev pub IsCounted : List (List ℕ) → ℕ → ℕ → Type 0
IsCounted cs count len = (count ≡ length cs) × (len ≡ length (joined cs))
