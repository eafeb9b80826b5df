-- Texts in chunks as contracts see them.
use Rattle.std.specs.Prelude.{◌≡◌, ℕ, ◌≤◌, ◌+◌, ◌-◌, List, length, Option, Some, None, vec_len, vec_capacity}
use Rattle.std.specs.Option.{option_map}
use Rattle.ot_units.specs.Text.{IsText, cut_at}
use Rattle.ot_text.specs.Lists.{joined, patched}
use Rattle.ot_text.specs.Chunks.{AreBlocks}
use Rattle.ot_text.specs.Blocks.{IsBlockPatch}
use Rattle.ot_text.specs.declared.open_text.Cut.{Cut}
use Rattle.ot_text.specs.declared.open_text.OpenText.TheInside.{Inside}

-- blocks whose units are a text of so many units
pub record IsKept (bs : List (List (List ℕ))) (len : ℕ) : Type 0 where
  pub blocks : AreBlocks bs
  pub text : IsText (joined (joined bs))
  pub counted : len ≡ length (joined (joined bs))

-- the units of a text that is edited, and the place and length of the part that can be removed without memory
pub record Seen : Type 0 where
  pub units : List ℕ
  pub ready : Option (ℕ × ℕ)

abbrev pub place_of : Cut → ℕ × ℕ
place_of cut = (cut.at, cut.len)

abbrev pub seen : Inside → Seen
seen t = record { units = joined (joined t.blocks.items); ready = option_map place_of t.cut }

-- the cut that was made ready is a patch of these blocks, and takes out the part
pub record IsReady (bs : List (List (List ℕ))) (room : ℕ) (cut : Cut) : Type 0 where
  pub patch : IsBlockPatch bs room cut.from cut.to cut.new.items
  pub inside : cut.at + cut.len ≤ length (joined (joined bs))
  pub cuts : joined (joined (patched bs cut.from cut.to cut.new.items)) ≡ cut_at (joined (joined bs)) cut.at cut.len

abbrev pub IsReadyIfAny : List (List (List ℕ)) → ℕ → Option Cut → Type 0
IsReadyIfAny bs room None = Unit {0}
IsReadyIfAny bs room (Some cut) = IsReady bs room cut

pub record IsOpen (t : Inside) : Type 0 where
  pub kept : IsKept t.blocks.items t.len
  pub cut : IsReadyIfAny t.blocks.items (vec_capacity t.blocks - vec_len t.blocks) t.cut
