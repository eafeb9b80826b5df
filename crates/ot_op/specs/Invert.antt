-- The operation that undoes another.
use Rattle.std.specs.Prelude.{◌≡◌, ℕ, List, [], ◌∷◌, Option, Some, None, reverse}
use Rattle.std.specs.List.{flat_map}
use Rattle.ot_op.specs.declared.comp.Comp.{Comp}
use Rattle.ot_op.specs.declared.comp.Comp.TheVariants.{Ins, Del, Com}
use Rattle.ot_op.specs.Apply.{applied_all}

-- what undoes a component: a comment changes no text
abbrev pub undoing : Comp → List Comp
undoing (Ins at part) = Del at part ∷ []
undoing (Del at part) = Ins at part ∷ []
undoing (Com at part thread) = []

-- each component undone, the last one first
abbrev pub inverted : List Comp → List Comp
inverted comps = flat_map undoing (reverse comps)

-- wherever the components make one text of another, `made` makes that one again
abbrev pub Undoes : List Comp → List Comp → Type 0
Undoes comps made = (text to : List ℕ) → applied_all text comps ≡ Some to → applied_all to made ≡ Some text

-- inverting undoes
abbrev pub InvertUndoes : Type 0
InvertUndoes = (comps : List Comp) → Undoes comps (inverted comps)

-- the list that an optional component is
abbrev pub one_or_none : Option Comp → List Comp
one_or_none None = []
one_or_none (Some c) = c ∷ []
