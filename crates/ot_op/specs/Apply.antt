-- What operations do to a text.
use Rattle.std.specs.Prelude.{◌≡◌, ℕ, ◌<◌, ◌≤◌, Bool, List, [], ◌∷◌, length, take, drop, Option, Some, None, ◌&&◌, nat_le, if◌then◌else◌}
use Rattle.std.specs.Option.{option_and_then}
use Rattle.std.specs.Str.{bytes_eq}
use Rattle.ot_units.specs.Text.{put_at, cut_at, part_at}
use Rattle.ot_op.specs.declared.comp.Comp.{Comp}
use Rattle.ot_op.specs.declared.comp.Comp.TheVariants.{Ins, Del, Com}
use Rattle.ot_op.specs.declared.fault.ApplyFault.{ApplyFault}
use Rattle.ot_op.specs.declared.fault.ApplyFault.TheVariants.{Mismatch, Memory}

-- whether the part stands at a place, and for the empty part whether the place is in the text
abbrev pub stands : List ℕ → ℕ → List ℕ → Bool
stands text at part = nat_le at (length text) && bytes_eq part (part_at text at (length part))

-- what a component makes of a text, where it applies
abbrev pub applied : List ℕ → Comp → Option (List ℕ)
applied text (Ins at part) = if nat_le at (length text) then Some (put_at text at part) else None
applied text (Del at part) = if stands text at part then Some (cut_at text at (length part)) else None
applied text (Com at part thread) = if stands text at part then Some text else None

-- the components in order, each to what those before it left
abbrev pub applied_all : List ℕ → List Comp → Option (List ℕ)
applied_all text [] = Some text
applied_all text (c ∷ cs) = option_and_then (λ next. applied_all next cs) (applied text c)

-- operations, each applied to what those before it left
abbrev pub replayed : List ℕ → List (List Comp) → Option (List ℕ)
replayed text [] = Some text
replayed text (op ∷ ops) = option_and_then (λ next. replayed next ops) (applied_all text op)

-- the first k components made the text `left`, to which the next one does not apply
abbrev pub IsFailing : List ℕ → List Comp → List ℕ → ℕ → Type 0
IsFailing text comps left k = (k < length comps) × (applied_all text (take k comps) ≡ Some left) × (applied_all left (take 1 (drop k comps)) ≡ None)

-- some of the first components made the text `left`
abbrev pub IsPartly : List ℕ → List Comp → List ℕ → Type 0
IsPartly text comps left = (k : ℕ) × (k ≤ length comps) × (applied_all text (take k comps) ≡ Some left)

-- why an operation was not applied whole, and the text that is left
abbrev pub IsFault : List ℕ → List Comp → List ℕ → ApplyFault → Type 0
IsFault text comps left (Mismatch k) = IsFailing text comps left k
IsFault text comps left Memory = IsPartly text comps left
