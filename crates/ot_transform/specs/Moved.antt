-- What a component has become, as a list.
use Rattle.std.specs.Prelude.{List, [], ◌∷◌, Option}
use Rattle.std.specs.Option.{option_map}
use Rattle.smallvec.specs.SmallVec.{SmallVec}
use Rattle.ot_op.specs.declared.comp.Comp.{Comp}
use Rattle.ot_transform.specs.declared.moved.Moved.{Moved}
use Rattle.ot_transform.specs.declared.moved.Moved.TheVariants.{Nothing, One, Two}
use Rattle.ot_transform.specs.Crossing.{Crossed}

abbrev pub moved_list : Moved → List Comp
moved_list Nothing = []
moved_list (One c) = c ∷ []
moved_list (Two c d) = c ∷ d ∷ []

-- the same where there may be none
abbrev pub moved_lists : Option Moved → Option (List Comp)
moved_lists o = option_map moved_list o

-- a new left list and what is in hand, as two lists
abbrev pub walk_lists : Option (List Comp × SmallVec Comp) → Crossed
walk_lists o = option_map (λ walk. (walk.0, walk.1.items)) o
