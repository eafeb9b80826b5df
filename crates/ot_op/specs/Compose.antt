-- A component behind an operation, and an operation behind another.
use Rattle.std.specs.Prelude.{◌≡◌, ℕ, ◌+◌, ◌-◌, false, List, [], ◌∷◌, length, Some, ◌&&◌, nat_le, if◌then◌else◌}
use Rattle.std.specs.Option.{option_and_then}
use Rattle.ot_units.specs.Text.{put_at}
use Rattle.ot_op.specs.declared.comp.Comp.{Comp}
use Rattle.ot_op.specs.declared.comp.Comp.TheVariants.{Ins, Del}
use Rattle.ot_op.specs.Operation.{is_void, IsOp}
use Rattle.ot_op.specs.Apply.{applied, applied_all}

-- the last component and one behind it: an insert into or beside an insert's text joins it, a
-- delete around or beside a delete's place takes it in, and other two stay two
abbrev pub joined : Comp → Comp → List Comp
joined (Ins p s) (Ins q u) = if nat_le p q && nat_le q (p + length s) then Ins p (put_at s (q - p) u) ∷ [] else Ins p s ∷ Ins q u ∷ []
joined (Del p s) (Del q u) = if nat_le q p && nat_le p (q + length u) then Del q (put_at u (p - q) s) ∷ [] else Del p s ∷ Del q u ∷ []
joined l c = l ∷ c ∷ []

-- a component behind the others
abbrev pub behind : List Comp → Comp → List Comp
behind [] c = c ∷ []
behind (l ∷ []) c = joined l c
behind (l ∷ m ∷ ls) c = l ∷ behind (m ∷ ls) c

-- the same, with an empty insert or delete dropped
abbrev pub appended : List Comp → Comp → List Comp
appended comps c = if is_void c then comps else behind comps c

-- the second operation behind the first, component by component
abbrev pub composed : List Comp → List Comp → List Comp
composed comps [] = comps
composed comps (c ∷ cs) = composed (appended comps c) cs

-- `made` does to any text what the components and then `c` do, and applies exactly where they do;
-- where `c` is an empty insert or delete it may apply more often
pub record DoesBoth (comps : List Comp) (c : Comp) (made : List Comp) : Type 0 where
  pub solid : is_void c ≡ false → (text : List ℕ) → applied_all text made ≡ option_and_then (λ next. applied next c) (applied_all text comps)
  pub any : (text to : List ℕ) → option_and_then (λ next. applied next c) (applied_all text comps) ≡ Some to → applied_all text made ≡ Some to

-- `made` does to any text what the first operation and then the second do
abbrev pub DoesInTurn : List Comp → List Comp → List Comp → Type 0
DoesInTurn first second made = (text : List ℕ) → applied_all text made ≡ option_and_then (λ next. applied_all next second) (applied_all text first)

-- appending a component does what the operation and then the component do
abbrev pub AppendsAlike : Type 0
AppendsAlike = (comps : List Comp) (c : Comp) → DoesBoth comps c (appended comps c)

-- composing two operations does what the first and then the second do
abbrev pub ComposesAlike : Type 0
ComposesAlike = (first second : List Comp) → IsOp second → DoesInTurn first second (composed first second)
