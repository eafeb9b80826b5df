-- Crossing two operations on one text.
use Rattle.std.specs.Prelude.{ℕ, zero, suc, ◌+◌, ◌-◌, Bool, true, false, List, [], ◌∷◌, ◌++◌, length, take, drop, Option, Some, None, ◌&&◌, ◌||◌, nat_le, nat_lt, ◌==◌, max, min, if◌then◌else◌}
use Rattle.std.specs.Option.{option_and_then, option_map}
use Rattle.std.specs.Str.{bytes_eq}
use Rattle.ot_units.specs.Text.{put_at, part_at}
use Rattle.ot_op.specs.Compose.{composed}
use Rattle.ot_op.specs.declared.comp.Comp.{Comp}
use Rattle.ot_op.specs.declared.comp.Comp.TheVariants.{Ins, Del, Com}

-- a place past a component; where `after` is true it goes behind an insert at the same place
abbrev pub moved_place : ℕ → Comp → Bool → ℕ
moved_place place (Ins at part) after = if nat_lt at place || (at == place && after) then place + length part else place
moved_place place (Del at part) after = if nat_le place at then place else if nat_le place (at + length part) then at else place - length part
moved_place place (Com at part thread) after = place

-- a delete of `part` at `place` past an insert at `at` of so many units: what stands before it, and what stands behind it
abbrev pub deleted_before : ℕ → List ℕ → ℕ → List Comp
deleted_before place part at = if nat_lt place at then Del place (take (at - place) part) ∷ [] else []

abbrev pub deleted_behind : ℕ → List ℕ → ℕ → ℕ → List Comp
deleted_behind place part at len = if length (drop (at - place) part) == 0 then [] else Del (place + len) (drop (at - place) part) ∷ []

-- what of the part at `place` is left where the part at `at` of so many units is taken out
abbrev pub left_of : ℕ → List ℕ → ℕ → ℕ → List ℕ
left_of place part at len = take (at - place) part ++ drop (at + len - place) part

-- the part's units that stand from `from` up to `to`, where the part stands at `place`
abbrev pub common_of : ℕ → List ℕ → ℕ → ℕ → List ℕ
common_of place part from to = part_at part (from - place) (to - from)

-- whether two parts that overlap have the same units where they do
abbrev pub agree : ℕ → List ℕ → ℕ → List ℕ → Bool
agree p s q u =
    let from = max p q in
    let to = min (p + length s) (q + length u) in
    bytes_eq (common_of p s from to) (common_of q u from to)

abbrev pub delete_if_any : ℕ → List ℕ → List Comp
delete_if_any at part = if length part == 0 then [] else Del at part ∷ []

-- what a component becomes past another one on the same text: of two inserts at one place the one
-- that goes right comes behind the other. None where the two say that different texts stand at one
-- place. A part that stands wholly behind the other one is tried first, then one wholly before it
abbrev pub moved_component : Comp → Comp → Bool → Option (List Comp)
moved_component (Ins p s) (Ins q u) right = Some (Ins (moved_place p (Ins q u) right) s ∷ [])
moved_component (Ins p s) (Del q u) right = Some (Ins (moved_place p (Del q u) right) s ∷ [])
moved_component (Ins p s) (Com q u t) right = Some (Ins p s ∷ [])
moved_component (Del p s) (Ins q u) right = Some (deleted_before p s q ++ deleted_behind p s q (length u))
moved_component (Del p s) (Del q u) right =
    if nat_le (q + length u) p then Some (Del (p - length u) s ∷ [])
    else if nat_le (p + length s) q then Some (Del p s ∷ [])
    else if agree p s q u then Some (delete_if_any (moved_place p (Del q u) false) (left_of p s q (length u)))
    else None
moved_component (Del p s) (Com q u t) right = Some (Del p s ∷ [])
moved_component (Com p s t) (Ins q u) right =
    if nat_lt p q && nat_lt q (p + length s) then Some (Com p (put_at s (q - p) u) t ∷ [])
    else Some (Com (moved_place p (Ins q u) true) s t ∷ [])
moved_component (Com p s t) (Del q u) right =
    if nat_le (q + length u) p then Some (Com (p - length u) s t ∷ [])
    else if nat_le (p + length s) q then Some (Com p s t ∷ [])
    else if agree p s q u then Some (Com (moved_place p (Del q u) false) (left_of p s q (length u)) t ∷ [])
    else None
moved_component (Com p s t) (Com q u v) right = Some (Com p s t ∷ [])

-- two lists that were crossed: the left one past the right one, and the right one past the left one
abbrev pub Crossed : Type 0
Crossed = Option (List Comp × List Comp)

-- by what is in hand: nothing, one component, or several
abbrev pub by_hand : List Comp → Crossed → (Comp → Crossed) → (List Comp → Crossed) → Crossed
by_hand [] empty one several = empty
by_hand (r ∷ []) empty one several = one r
by_hand (r ∷ s ∷ rs) empty one several = several (r ∷ s ∷ rs)

-- a right component meets a left one: the new left list with what the left one became behind it, and what is in hand then
abbrev pub met : List Comp → Comp → Comp → Crossed
met next r l = option_and_then (λ left. option_map (λ hand. (composed next left, hand)) (moved_component r l true)) (moved_component l r false)

module _ (cross : List Comp → List Comp → Crossed) where
  -- a left list is walked with one right component in hand; `next` is the new left list so far
  abbrev pub walked : List Comp → Comp → List Comp → Crossed
  walked next r [] = Some (next, r ∷ [])
  walked next r (l ∷ ls) =
      option_and_then (λ at. by_hand at.1
      (Some (composed at.0 ls, []))
      (λ one. walked at.0 one ls)
      (λ several. option_map (λ both. (composed at.0 both.0, both.1)) (cross ls several)))
      (met next r l)

  -- the same behind a meeting, which left `at`
  abbrev pub after_meeting : List Comp × List Comp → List Comp → Crossed
  after_meeting at ls = by_hand at.1
      (Some (composed at.0 ls, []))
      (λ one. walked at.0 one ls)
      (λ several. option_map (λ both. (composed at.0 both.0, both.1)) (cross ls several))

  -- the right list's components in turn; `done` is the new right list so far
  abbrev pub crossed_by : List Comp → List Comp → List Comp → Crossed
  crossed_by left done [] = Some (left, done)
  crossed_by left done (r ∷ rs) = option_and_then (λ both. crossed_by both.0 (composed done both.1) rs) (walked [] r left)

-- at most so deep
abbrev pub crossed_within : ℕ → List Comp → List Comp → Crossed
crossed_within zero left right = None
crossed_within (suc n) left right = crossed_by (crossed_within n) left [] right

-- how many inserts there are; only an insert leaves several components in hand
abbrev pub inserts : List Comp → ℕ
inserts [] = 0
inserts (Ins at part ∷ cs) = inserts cs + 1
inserts (Del at part ∷ cs) = inserts cs
inserts (Com at part thread ∷ cs) = inserts cs

unfoldable pub crossed : List Comp → List Comp → Crossed
crossed left right = crossed_within (suc (inserts left)) left right

-- an operation past each of a list in turn, on their left
abbrev pub through : List Comp → List (List Comp) → Option (List Comp)
through op [] = Some op
through op (past ∷ rest) = option_and_then (λ both. through both.0 rest) (crossed op past)
