-- How large operations are, and how far their places reach.
use Rattle.std.specs.Prelude.{ℕ, ◌≤◌, ◌+◌, List, length, sum_by}
use Rattle.std.specs.List.{All}
use Rattle.ot_op.specs.Operation.{place}
use Rattle.ot_op.specs.declared.comp.Comp.{Comp}
use Rattle.ot_op.specs.declared.comp.Comp.TheVariants.{Ins, Del, Com}
use Rattle.ot_transform.specs.Room.{new_units}

-- the units that a component edits
abbrev pub edit_units : Comp → ℕ
edit_units (Ins at part) = length part
edit_units (Del at part) = length part
edit_units (Com at part thread) = 0

-- the units of an operation's inserts and deletes
abbrev pub edit_units_in : List Comp → ℕ
edit_units_in comps = sum_by edit_units comps

-- one for a comment
abbrev pub comment_count : Comp → ℕ
comment_count (Ins at part) = 0
comment_count (Del at part) = 0
comment_count (Com at part thread) = 1

-- how many comments an operation has
abbrev pub comments_in : List Comp → ℕ
comments_in comps = sum_by comment_count comps

-- no place is greater
abbrev pub Within : ℕ → List Comp → Type 0
Within most comps = All (λ c. place c ≤ most) comps

-- what an operation becomes has no more units to edit and no more comments, and each place of it
-- is at most so many units further on
pub record NoLarger (op : List Comp) (further : ℕ) (made : List Comp) : Type 0 where
  pub units : edit_units_in made ≤ edit_units_in op
  pub comments : comments_in made ≤ comments_in op
  pub places : (most : ℕ) → Within most op → Within (most + further) made

-- what two operations become past each other is no larger, and its places are at most so many
-- units further on as the other one inserts
abbrev pub BothNoLarger : List Comp → List Comp → (List Comp × List Comp) → Type 0
BothNoLarger left right both = NoLarger left (new_units right) both.0 × NoLarger right (new_units left) both.1
