-- Crossing keeps room for places.
use Rattle.std.proofs.Common.{◌≡◌, Some, ℕ, zero, suc, ◌+◌, ◌-◌, ◌^◌, ◌<◌, ◌≤◌, Bool, true, false, List, [], ◌∷◌, ◌++◌, refl, ap, take, drop, length, arith, length-append, length-take, length-drop, subst}
use Rattle.std.specs.Prelude.{nat_le, nat_lt, ◌==◌, ◌&&◌, if◌then◌else◌}
use Rattle.std.proofs.lemmas.Bool.Decides.{nat_tests}
use Rattle.ot_units.specs.Text.{put_at}
use Rattle.ot_op.specs.Operation.{is_void, place}
use Rattle.ot_op.specs.Compose.{joined, behind, appended, composed}
use Rattle.ot_op.specs.declared.comp.Comp.{Comp}
use Rattle.ot_op.specs.declared.comp.Comp.TheVariants.{Ins, Del, Com}
use Rattle.ot_transform.specs.Room.{new_units, RoomBelow, Room, Fits}
use Rattle.ot_transform.specs.Crossing.{moved_component, moved_place, deleted_before, deleted_behind, left_of, agree, Crossed, by_hand, met, walked, crossed_by, crossed_within, crossed, inserts}
use Rattle.ot_transform.proofs.Converging.{given_at}
use Rattle.ot_transform.proofs.Depth.{IfGiven, given_if, given_then, given_weaker, given_map, given_both, given_any}

abbrev U : List Comp → ℕ
U = new_units

pub units-append : (xs ys : List Comp) → new_units (xs ++ ys) ≡ new_units xs + new_units ys
units-append [] ys = omega arith
units-append (Ins p s ∷ xs) ys = omega (arith, units-append xs ys)
units-append (Del p s ∷ xs) ys = omega (arith, units-append xs ys)
units-append (Com p s t ∷ xs) ys = omega (arith, units-append xs ys)

units_if : (b : Bool) (xs ys : List Comp) (n : ℕ) → new_units xs ≤ n → new_units ys ≤ n → new_units (if b then xs else ys) ≤ n
units_if true xs ys n h k = h
units_if false xs ys n h k = k

pub units-cons : (c : Comp) (cs : List Comp) → new_units (c ∷ cs) ≡ new_units (c ∷ []) + new_units cs
units-cons c cs = units-append (c ∷ []) cs

pub length-put : (text : List ℕ) (at : ℕ) (part : List ℕ) → length (put_at text at part) ≡ length text + length part
length-put text at part = omega (arith, length-append (take at text ++ part) (drop at text), length-append (take at text) part, length-take at text, length-drop at text)

units-joined : (l c : Comp) → new_units (joined l c) ≤ new_units (l ∷ []) + new_units (c ∷ [])
units-joined (Ins p s) (Ins q u) = units_if (nat_le p q && nat_le q (p + length s)) _ _ _ (omega (arith, length-put s (q - p) u)) (omega arith)
units-joined (Ins p s) (Del q u) = omega arith
units-joined (Ins p s) (Com q u t) = omega arith
units-joined (Del p s) (Ins q u) = omega arith
units-joined (Del p s) (Del q u) = units_if (nat_le q p && nat_le p (q + length u)) _ _ _ (omega arith) (omega arith)
units-joined (Del p s) (Com q u t) = omega arith
units-joined (Com p s t) c = omega (arith, units-cons (Com p s t) (c ∷ []))

units-behind : (cs : List Comp) (c : Comp) → new_units (behind cs c) ≤ new_units cs + new_units (c ∷ [])
units-behind [] c = omega arith
units-behind (l ∷ []) c = units-joined l c
units-behind (l ∷ m ∷ ls) c = omega (arith, units-behind (m ∷ ls) c, units-cons l (behind (m ∷ ls) c), units-cons l (m ∷ ls))

pub units-appended : (cs : List Comp) (c : Comp) → new_units (appended cs c) ≤ new_units cs + new_units (c ∷ [])
units-appended cs c = units_if (is_void c) cs (behind cs c) _ (omega arith) (units-behind cs c)

pub units-composed : (cs ds : List Comp) → new_units (composed cs ds) ≤ new_units cs + new_units ds
units-composed cs [] = omega arith
units-composed cs (d ∷ ds) = omega (arith, units-composed (appended cs d) ds, units-appended cs d, units-cons d ds)

pub units-moved_component : (c o : Comp) (right : Bool) → IfGiven (moved_component c o right) (λ cs. new_units cs ≤ new_units (c ∷ []))
units-moved_component (Ins p s) (Ins q u) right = omega arith
units-moved_component (Ins p s) (Del q u) right = omega arith
units-moved_component (Ins p s) (Com q u t) right = omega arith
units-moved_component (Del p s) (Ins q u) right =
    omega (arith, units-append (deleted_before p s q) (deleted_behind p s q (length u)), units_if (nat_lt p q) (Del p (take (q - p) s) ∷ []) [] 0 (omega arith) (omega arith), units_if (length (drop (q - p) s) == 0) [] (Del (p + length u) (drop (q - p) s) ∷ []) 0 (omega arith) (omega arith))
units-moved_component (Del p s) (Del q u) right =
    let P : List Comp → Type 0 = λ cs. new_units cs ≤ 0 in
    given_if P (nat_le (q + length u) p) _ _ (omega arith) (given_if P (nat_le (p + length s) q) _ _ (omega arith) (given_if P (agree p s q u) _ _ (units_if (length (left_of p s q (length u)) == 0) _ _ 0 (omega arith) (omega arith)) tt))
units-moved_component (Del p s) (Com q u t) right = omega arith
units-moved_component (Com p s t) (Ins q u) right =
    let P : List Comp → Type 0 = λ cs. new_units cs ≤ 0 in
    given_if P (nat_lt p q && nat_lt q (p + length s)) _ _ (omega arith) (omega arith)
units-moved_component (Com p s t) (Del q u) right =
    let P : List Comp → Type 0 = λ cs. new_units cs ≤ 0 in
    given_if P (nat_le (q + length u) p) _ _ (omega arith) (given_if P (nat_le (p + length s) q) _ _ (omega arith) (given_if P (agree p s q u) _ _ (omega arith) tt))
units-moved_component (Com p s t) (Com q u v) right = omega arith

moved_most : (p : ℕ) (o : Comp) (after : Bool) → moved_place p o after ≤ p + new_units (o ∷ [])
moved_most p (Ins q u) after = grind (arith, nat_tests)
moved_most p (Del q u) after = grind (arith, nat_tests)
moved_most p (Com q u t) after = omega arith

pub hand_cases : (P : (List Comp × List Comp) → Type 0) (hand : List Comp) (empty : Crossed) (one : Comp → Crossed) (several : List Comp → Crossed) → IfGiven empty P → ((c : Comp) → hand ≡ c ∷ [] → IfGiven (one c) P) → IfGiven (several hand) P → IfGiven (by_hand hand empty one several) P
hand_cases P [] empty one several a b c = a
hand_cases P (r ∷ []) empty one several a b c = b r refl
hand_cases P (r ∷ s ∷ rs) empty one several a b c = c

-- ---- room
module _ (top : ℕ) where
  pub room_less : (m n : ℕ) (cs : List Comp) → m ≤ n → RoomBelow top n cs → RoomBelow top m cs
  room_less m n [] h r = tt
  room_less m n (c ∷ cs) h r = (omega (arith, r.0), room_less m n cs h r.1)

  room-append : (n : ℕ) (xs ys : List Comp) → RoomBelow top n xs → RoomBelow top n ys → RoomBelow top n (xs ++ ys)
  room-append n [] ys a b = b
  room-append n (x ∷ xs) ys a b = (a.0, room-append n xs ys a.1 b)

  room_if : (n : ℕ) (b : Bool) (xs ys : List Comp) → RoomBelow top n xs → RoomBelow top n ys → RoomBelow top n (if b then xs else ys)
  room_if n true xs ys h k = h
  room_if n false xs ys h k = k

  room-joined : (n : ℕ) (l c : Comp) → place l + n < top → place c + n < top → RoomBelow top n (joined l c)
  room-joined n (Ins p s) (Ins q u) a b = room_if n (nat_le p q && nat_le q (p + length s)) _ _ (a, tt) (a, (b, tt))
  room-joined n (Ins p s) (Del q u) a b = (a, (b, tt))
  room-joined n (Ins p s) (Com q u t) a b = (a, (b, tt))
  room-joined n (Del p s) (Ins q u) a b = (a, (b, tt))
  room-joined n (Del p s) (Del q u) a b = room_if n (nat_le q p && nat_le p (q + length u)) _ _ (b, tt) (a, (b, tt))
  room-joined n (Del p s) (Com q u t) a b = (a, (b, tt))
  room-joined n (Com p s t) c a b = (a, (b, tt))

  room-behind : (n : ℕ) (cs : List Comp) (c : Comp) → RoomBelow top n cs → place c + n < top → RoomBelow top n (behind cs c)
  room-behind n [] c a b = (b, tt)
  room-behind n (l ∷ []) c a b = room-joined n l c a.0 b
  room-behind n (l ∷ m ∷ ls) c a b = (a.0, room-behind n (m ∷ ls) c a.1 b)

  pub room-composed : (n : ℕ) (cs ds : List Comp) → RoomBelow top n cs → RoomBelow top n ds → RoomBelow top n (composed cs ds)
  room-composed n cs [] a b = a
  room-composed n cs (d ∷ ds) a b = room-composed n (appended cs d) ds (room_if n (is_void d) cs (behind cs d) a (room-behind n cs d a b.0)) b.1

  room-moved_component : (c o : Comp) (right : Bool) (k : ℕ) → place c + new_units (o ∷ []) + k < top → IfGiven (moved_component c o right) (RoomBelow top k)
  room-moved_component (Ins p s) (Ins q u) right k h = (omega (arith, moved_most p (Ins q u) right), tt)
  room-moved_component (Ins p s) (Del q u) right k h = (omega (arith, moved_most p (Del q u) right), tt)
  room-moved_component (Ins p s) (Com q u t) right k h = (omega arith, tt)
  room-moved_component (Del p s) (Ins q u) right k h =
      room-append k (deleted_before p s q) (deleted_behind p s q (length u)) (room_if k (nat_lt p q) _ _ (omega arith, tt) tt) (room_if k (length (drop (q - p) s) == 0) _ _ tt (omega arith, tt))
  room-moved_component (Del p s) (Del q u) right k h =
      given_if (RoomBelow top k) (nat_le (q + length u) p) _ _ (omega arith, tt) (given_if (RoomBelow top k) (nat_le (p + length s) q) _ _ (omega arith, tt)
      (given_if (RoomBelow top k) (agree p s q u) _ _ (room_if k (length (left_of p s q (length u)) == 0) _ _ tt (omega (arith, moved_most p (Del q u) false), tt)) tt))
  room-moved_component (Del p s) (Com q u t) right k h = (omega arith, tt)
  room-moved_component (Com p s t) (Ins q u) right k h =
      given_if (RoomBelow top k) (nat_lt p q && nat_lt q (p + length s)) _ _ (omega arith, tt) (omega (arith, moved_most p (Ins q u) true), tt)
  room-moved_component (Com p s t) (Del q u) right k h =
      given_if (RoomBelow top k) (nat_le (q + length u) p) _ _ (omega arith, tt) (given_if (RoomBelow top k) (nat_le (p + length s) q) _ _ (omega arith, tt)
      (given_if (RoomBelow top k) (agree p s q u) _ _ (omega (arith, moved_most p (Del q u) false), tt) tt))
  room-moved_component (Com p s t) (Com q u v) right k h = (omega arith, tt)

-- ---- crossing: the left list stays below `top`, the right one below `high`
module _ (top high : ℕ) where
  -- a round of the walk
  met_room : (next : List Comp) (r l : Comp) (k j : ℕ) → RoomBelow top k next → place l + new_units (r ∷ []) + k < top → place r + new_units (l ∷ []) + j < high
      → IfGiven (met next r l) (λ at. ((new_units at.0 ≤ new_units next + new_units (l ∷ [])) × (new_units at.1 ≤ new_units (r ∷ []))) × (RoomBelow top k at.0 × RoomBelow high j at.1))
  met_room next r l k j room a b =
      let Q : (List Comp × List Comp) → Type 0 = λ at. ((new_units at.0 ≤ new_units next + new_units (l ∷ [])) × (new_units at.1 ≤ new_units (r ∷ []))) × (RoomBelow top k at.0 × RoomBelow high j at.1) in
      given_then (λ cs. (new_units cs ≤ new_units (l ∷ [])) × RoomBelow top k cs) Q _ (moved_component l r false) (given_both (λ cs. new_units cs ≤ new_units (l ∷ [])) (RoomBelow top k) (moved_component l r false) (units-moved_component l r false) (room-moved_component top l r false k a))
      (λ left fits. given_map (λ cs. (new_units cs ≤ new_units (r ∷ [])) × RoomBelow high j cs) Q _ (moved_component r l true) (given_both (λ cs. new_units cs ≤ new_units (r ∷ [])) (RoomBelow high j) (moved_component r l true) (units-moved_component r l true) (room-moved_component high r l true j b))
      (λ hand h. ((omega (arith, units-composed next left, fits.0), h.0), (room-composed top k next left room fits.1, h.1))))

  -- what crossing keeps: no side inserts more, and the sides have room for k and j more
  abbrev pub Kept : ℕ → ℕ → List Comp → List Comp → (List Comp × List Comp) → Type 0
  Kept k j ls rs both = (new_units both.0 ≤ new_units ls) × (new_units both.1 ≤ new_units rs) × RoomBelow top k both.0 × RoomBelow high j both.1

  abbrev pub Roomy : (List Comp → List Comp → Crossed) → Type 0
  Roomy cross = (k j : ℕ) (ls rs : List Comp) → RoomBelow top (new_units rs + k) ls → RoomBelow high (new_units ls + j) rs → IfGiven (cross ls rs) (Kept k j ls rs)

  pub walked_room : (cross : List Comp → List Comp → Crossed) → Roomy cross → (k j : ℕ) (next : List Comp) (r : Comp) (ls : List Comp) → RoomBelow top k next → RoomBelow top (new_units (r ∷ []) + k) ls → place r + (new_units ls + j) < high → IfGiven (walked cross next r ls) (Kept k j (next ++ ls) (r ∷ []))
  walked_room cross roomy k j next r [] room left right = (omega (arith, units-append next []), omega arith, room, (omega (arith, right), tt))
  walked_room cross roomy k j next r (l ∷ ls) room left right =
      let Q : (List Comp × List Comp) → Type 0 = Kept k j (next ++ (l ∷ ls)) (r ∷ []) in
      let n = units-append next (l ∷ ls) in
      let m = units-cons l ls in
      given_then (λ at. ((new_units at.0 ≤ new_units next + new_units (l ∷ [])) × (new_units at.1 ≤ new_units (r ∷ []))) × (RoomBelow top k at.0 × RoomBelow high (new_units ls + j) at.1)) Q _ (met next r l)
      (met_room next r l k (new_units ls + j) room (omega (arith, left.0)) (omega arith))
      (λ at h. hand_cases Q at.1 _ _ _
      (omega (arith, h.0, units-composed at.0 ls), omega arith, room-composed top k at.0 ls h.1.0 (room_less top k (new_units (r ∷ []) + k) ls (omega arith) left.1), tt)
      (λ one e.
      let u : new_units at.1 ≡ new_units (one ∷ []) = ap new_units e in
      let p : RoomBelow high (new_units ls + j) (one ∷ []) = subst (RoomBelow high (new_units ls + j)) e h.1.1 in
      given_weaker (Kept k j (at.0 ++ ls) (one ∷ [])) Q _ (λ both x. (omega (arith, h.0, x.0, units-append at.0 ls), omega (arith, h.0, x.1), x.2, x.3))
      (walked_room cross roomy k j at.0 one ls h.1.0 (room_less top _ (new_units (r ∷ []) + k) ls (omega (arith, h.0)) left.1) p.0))
      (given_map (Kept k j ls at.1) Q _ (cross ls at.1) (roomy k j ls at.1 (room_less top _ (new_units (r ∷ []) + k) ls (omega (arith, h.0)) left.1) h.1.1)
      (λ both x. (omega (arith, h.0, x.0, units-composed at.0 both.0), omega (arith, h.0, x.1), room-composed top k at.0 both.0 h.1.0 x.2, x.3))))

  pub crossed_by_room : (cross : List Comp → List Comp → Crossed) → Roomy cross → (k j : ℕ) (ls done rs : List Comp) → RoomBelow top (new_units rs + k) ls → RoomBelow high (new_units ls + j) rs → RoomBelow high j done
      → IfGiven (crossed_by cross ls done rs) (λ both. (new_units both.0 ≤ new_units ls) × (new_units both.1 ≤ new_units done + new_units rs) × RoomBelow top k both.0 × RoomBelow high j both.1)
  crossed_by_room cross roomy k j ls done [] left right so_far = (omega arith, omega arith, room_less top k (0 + k) ls (omega arith) left, so_far)
  crossed_by_room cross roomy k j ls done (r ∷ rs) left right so_far =
      let Q : (List Comp × List Comp) → Type 0 = λ both. (new_units both.0 ≤ new_units ls) × (new_units both.1 ≤ new_units done + new_units (r ∷ rs)) × RoomBelow top k both.0 × RoomBelow high j both.1 in
      let m = units-cons r rs in
      given_then (Kept (new_units rs + k) j ([] ++ ls) (r ∷ [])) Q _ (walked cross [] r ls) (walked_room cross roomy (new_units rs + k) j [] r ls tt (room_less top _ (new_units (r ∷ rs) + k) ls (omega arith) left) right.0)
      (λ both h. given_weaker (λ w. (new_units w.0 ≤ new_units both.0) × (new_units w.1 ≤ new_units (composed done both.1) + new_units rs) × RoomBelow top k w.0 × RoomBelow high j w.1) Q _
      (λ w x. (omega (arith, h.0, x.0), omega (arith, h.1, x.1, units-composed done both.1), x.2, x.3))
      (crossed_by_room cross roomy k j both.0 (composed done both.1) rs h.2 (room_less high _ (new_units ls + j) rs (omega (arith, h.0)) right.1) (room-composed high j done both.1 so_far h.3)))

  within_roomy : (n : ℕ) → Roomy (crossed_within n)
  within_roomy zero k j ls rs left right = tt
  within_roomy (suc n) k j ls rs left right =
      given_weaker (λ both. (new_units both.0 ≤ new_units ls) × (new_units both.1 ≤ 0 + new_units rs) × RoomBelow top k both.0 × RoomBelow high j both.1) (Kept k j ls rs) _ (λ both x. (x.0, omega (arith, x.1), x.2, x.3)) (crossed_by_room (crossed_within n) (within_roomy n) k j ls [] rs left right tt)

  pub crossed_roomy : Roomy crossed
  unfolding crossed
  crossed_roomy k j ls rs left right = within_roomy (suc (inserts ls)) k j ls rs left right

-- ---- what the loops of the code need at each turn
abbrev Top : ℕ
Top = 2 ^ 32

hand_room : (next : List Comp) (r l : Comp) (j : ℕ) → place r + new_units (l ∷ []) + j < 2 ^ 32 → IfGiven (met next r l) (λ at. (new_units at.1 ≤ new_units (r ∷ [])) × Room j at.1)
hand_room next r l j b =
    let Q : (List Comp × List Comp) → Type 0 = λ at. (new_units at.1 ≤ new_units (r ∷ [])) × Room j at.1 in
    given_then (λ _. Unit {0}) Q _ (moved_component l r false) (given_any (moved_component l r false))
    (λ left _. given_map (λ cs. (new_units cs ≤ new_units (r ∷ [])) × Room j cs) Q _ (moved_component r l true) (given_both (λ cs. new_units cs ≤ new_units (r ∷ [])) (Room j) (moved_component r l true) (units-moved_component r l true) (room-moved_component Top r l true j b)) (λ hand h. h))

-- the next component to the left may be met
pub fits_meeting : (ls : List Comp) (r l : Comp) → Fits (l ∷ ls) (r ∷ []) → (place l + new_units (r ∷ []) < 2 ^ 32) × (place r + new_units (l ∷ []) < 2 ^ 32)
fits_meeting ls r l f = (f.0.0, omega (arith, f.1.0, units-cons l ls))

-- what is left behind a meeting fits with what is in hand
pub fits_tail : (next next' hand ls : List Comp) (r l : Comp) → Fits (l ∷ ls) (r ∷ []) → met next r l ≡ Some (next', hand) → Fits ls hand
fits_tail next next' hand ls r l f given =
    let h = given_at (λ (at : List Comp × List Comp). (new_units at.1 ≤ new_units (r ∷ [])) × Room (new_units ls) at.1) (met next r l) (next', hand) given (hand_room next r l (new_units ls) (omega (arith, f.1.0, units-cons l ls))) in
    (room_less Top (new_units hand) (new_units (r ∷ [])) ls h.0 f.0.1, h.1)

-- the first component to the right may walk
pub fits_first : (ls rs : List Comp) (r : Comp) → Fits ls (r ∷ rs) → Fits ls (r ∷ [])
fits_first ls rs r f = (room_less Top (new_units (r ∷ [])) (new_units (r ∷ rs)) ls (omega (arith, units-cons r rs)) f.0, (f.1.0, tt))

-- what it leaves fits with the rest to the right
pub fits_next : (ls rs a b : List Comp) (r : Comp) → Fits ls (r ∷ rs) → walked crossed [] r ls ≡ Some (a, b) → Fits a rs
fits_next ls rs a b r f given =
    let h : Kept Top Top (new_units rs) 0 ([] ++ ls) (r ∷ []) (a, b) = given_at (Kept Top Top (new_units rs) 0 ([] ++ ls) (r ∷ [])) (walked crossed [] r ls) (a, b) given
    (walked_room Top Top crossed (crossed_roomy Top Top) (new_units rs) 0 [] r ls tt (room_less Top _ (new_units (r ∷ rs)) ls (omega (arith, units-cons r rs)) f.0) (omega (arith, f.1.0))) in
    (h.2, room_less Top (new_units a) (new_units ls) rs h.0 f.1.1)
