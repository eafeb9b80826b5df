-- How large an operation is that was applied, over every keeper.
use Rattle.std.specs.Prelude.{ℕ, ⊤, List}
use Rattle.ot_op.specs.declared.comp.Comp.{Comp}
use Rattle.ot_transform.specs.Size.{Within}
use Rattle.journal_entries.specs.declared.update.Outcome.{Outcome}
use Rattle.journal_entries.specs.declared.update.Outcome.TheVariants.{Applied, Dup, Refused}
use Rattle.journal_sizes.specs.Sizes.{IsLight}

-- the greatest place of an operation that was applied: behind the longest text, and the most units that an operation puts in
abbrev pub farthest : ℕ
farthest = 2162688

-- at most 65,536 units in inserts and deletes, at most 1,000 comments, and near places
pub record IsPassable (op : List Comp) : Type 0 where
  pub light : IsLight op
  pub near : Within farthest op

-- so is the operation that an outcome applies
abbrev pub AppliesPassable : Outcome → Type 0
AppliesPassable (Applied v op) = IsPassable op
AppliesPassable (Dup v) = ⊤
AppliesPassable (Refused cause) = ⊤
