-- What crossing never adds to: a weight that neither joining nor moving a component raises.
use Rattle.std.proofs.Common.{◌≡◌, ℕ, zero, suc, ◌+◌, ◌-◌, ◌≤◌, Bool, true, false, List, [], ◌∷◌, ap, ◌∙◌, take, drop, length, arith, length-append, length-take, length-drop}
use Rattle.std.specs.Prelude.{sum_by, nat_le, nat_lt, ◌==◌, ◌&&◌, if◌then◌else◌}
use Rattle.std.proofs.lemmas.List.Sums.{sum_by-cons, sum_by-append}
use Rattle.ot_op.specs.Operation.{is_void}
use Rattle.ot_op.specs.Compose.{joined, behind, appended, composed}
use Rattle.ot_op.specs.declared.comp.Comp.{Comp}
use Rattle.ot_op.specs.declared.comp.Comp.TheVariants.{Ins, Del, Com}
use Rattle.ot_transform.specs.Crossing.{moved_component, deleted_before, deleted_behind, left_of, agree, Crossed, met, walked, crossed_by, crossed_within, crossed, inserts}
use Rattle.ot_transform.specs.Size.{edit_units, comment_count}
use Rattle.ot_transform.proofs.Depth.{IfGiven, given_if, given_then, given_weaker, given_map}
use Rattle.ot_transform.proofs.Rooms.{hand_cases, length-put}

weight_if : (weigh : Comp → ℕ) (b : Bool) (xs ys : List Comp) (n : ℕ) → sum_by weigh xs ≤ n → sum_by weigh ys ≤ n → sum_by weigh (if b then xs else ys) ≤ n
weight_if weigh true xs ys n h k = h
weight_if weigh false xs ys n h k = k

-- neither side of a pair is heavier than before
abbrev pub Lighter : (Comp → ℕ) → List Comp → List Comp → (List Comp × List Comp) → Type 0
Lighter weigh ls rs both = (sum_by weigh both.0 ≤ sum_by weigh ls) × (sum_by weigh both.1 ≤ sum_by weigh rs)

module _ (weigh : Comp → ℕ) (joins : (l c : Comp) → sum_by weigh (joined l c) ≤ weigh l + weigh c) (moves : (c o : Comp) (right : Bool) → IfGiven (moved_component c o right) (λ cs. sum_by weigh cs ≤ weigh c)) where
  abbrev W : List Comp → ℕ
  W cs = sum_by weigh cs

  weight-behind : (cs : List Comp) (c : Comp) → W (behind cs c) ≤ W cs + weigh c
  weight-behind [] c = omega (arith, sum_by-cons weigh c [])
  weight-behind (l ∷ []) c = omega (arith, joins l c, sum_by-cons weigh l [])
  weight-behind (l ∷ m ∷ ls) c = omega (arith, weight-behind (m ∷ ls) c, sum_by-cons weigh l (behind (m ∷ ls) c), sum_by-cons weigh l (m ∷ ls))

  weight-appended : (cs : List Comp) (c : Comp) → W (appended cs c) ≤ W cs + weigh c
  weight-appended cs c = weight_if weigh (is_void c) cs (behind cs c) _ (omega arith) (weight-behind cs c)

  weight-composed : (cs ds : List Comp) → W (composed cs ds) ≤ W cs + W ds
  weight-composed cs [] = omega arith
  weight-composed cs (d ∷ ds) = omega (arith, weight-composed (appended cs d) ds, weight-appended cs d, sum_by-cons weigh d ds)

  weight-met : (next : List Comp) (r l : Comp) → IfGiven (met next r l) (λ at. (W at.0 ≤ W next + weigh l) × (W at.1 ≤ weigh r))
  weight-met next r l =
      let Q : (List Comp × List Comp) → Type 0 = λ at. (W at.0 ≤ W next + weigh l) × (W at.1 ≤ weigh r) in
      given_then (λ cs. W cs ≤ weigh l) Q _ (moved_component l r false) (moves l r false)
      (λ left h. given_map (λ cs. W cs ≤ weigh r) Q _ (moved_component r l true) (moves r l true)
      (λ hand k. (omega (arith, weight-composed next left, h), k)))

  abbrev Light : (List Comp → List Comp → Crossed) → Type 0
  Light cross = (ls rs : List Comp) → IfGiven (cross ls rs) (Lighter weigh ls rs)

  weight-walked : (cross : List Comp → List Comp → Crossed) → Light cross → (next : List Comp) (r : Comp) (ls : List Comp) → IfGiven (walked cross next r ls) (λ both. (W both.0 ≤ W next + W ls) × (W both.1 ≤ weigh r))
  weight-walked cross light next r [] = (omega arith, omega (arith, sum_by-cons weigh r []))
  weight-walked cross light next r (l ∷ ls) =
      let Q : (List Comp × List Comp) → Type 0 = λ both. (W both.0 ≤ W next + W (l ∷ ls)) × (W both.1 ≤ weigh r) in
      let m = sum_by-cons weigh l ls in
      given_then (λ at. (W at.0 ≤ W next + weigh l) × (W at.1 ≤ weigh r)) Q _ (met next r l) (weight-met next r l)
      (λ at h. hand_cases Q at.1 _ _ _
      (omega (arith, h.0, m, weight-composed at.0 ls), omega arith)
      (λ one e.
      let single : W (one ∷ []) ≡ weigh one = omega (arith, sum_by-cons weigh one []) in
      let u : W at.1 ≡ weigh one = ap (λ (cs : List Comp). W cs) e ∙ single in
      given_weaker (λ both. (W both.0 ≤ W at.0 + W ls) × (W both.1 ≤ weigh one)) Q _ (λ both x. (omega (arith, h.0, m, x.0), omega (arith, h.1, u, x.1)))
      (weight-walked cross light at.0 one ls))
      (given_map (Lighter weigh ls at.1) Q _ (cross ls at.1) (light ls at.1)
      (λ both x. (omega (arith, h.0, m, x.0, weight-composed at.0 both.0), omega (arith, h.1, x.1)))))

  weight-crossed_by : (cross : List Comp → List Comp → Crossed) → Light cross → (ls done rs : List Comp) → IfGiven (crossed_by cross ls done rs) (λ both. (W both.0 ≤ W ls) × (W both.1 ≤ W done + W rs))
  weight-crossed_by cross light ls done [] = (omega arith, omega arith)
  weight-crossed_by cross light ls done (r ∷ rs) =
      let Q : (List Comp × List Comp) → Type 0 = λ both. (W both.0 ≤ W ls) × (W both.1 ≤ W done + W (r ∷ rs)) in
      given_then (λ both. (W both.0 ≤ W [] + W ls) × (W both.1 ≤ weigh r)) Q _ (walked cross [] r ls) (weight-walked cross light [] r ls)
      (λ both h. given_weaker (λ x. (W x.0 ≤ W both.0) × (W x.1 ≤ W (composed done both.1) + W rs)) Q _
      (λ x k. (omega (arith, h.0, k.0), omega (arith, h.1, k.1, weight-composed done both.1, sum_by-cons weigh r rs)))
      (weight-crossed_by cross light both.0 (composed done both.1) rs))

  weight-within : (n : ℕ) → Light (crossed_within n)
  weight-within zero ls rs = tt
  weight-within (suc n) ls rs =
      given_weaker (λ both. (W both.0 ≤ W ls) × (W both.1 ≤ W [] + W rs)) (Lighter weigh ls rs) _ (λ both x. (x.0, omega (arith, x.1))) (weight-crossed_by (crossed_within n) (weight-within n) ls [] rs)

  pub weight-crossed : (ls rs : List Comp) → IfGiven (crossed ls rs) (Lighter weigh ls rs)
  unfolding crossed
  weight-crossed ls rs = weight-within (suc (inserts ls)) ls rs

-- ---- the units to edit
edits-joined : (l c : Comp) → sum_by edit_units (joined l c) ≤ edit_units l + edit_units c
edits-joined (Ins p s) (Ins q u) = weight_if edit_units (nat_le p q && nat_le q (p + length s)) _ _ _ (omega (arith, length-put s (q - p) u)) (omega arith)
edits-joined (Ins p s) (Del q u) = omega arith
edits-joined (Ins p s) (Com q u t) = omega arith
edits-joined (Del p s) (Ins q u) = omega arith
edits-joined (Del p s) (Del q u) = weight_if edit_units (nat_le q p && nat_le p (q + length u)) _ _ _ (omega (arith, length-put u (p - q) s)) (omega arith)
edits-joined (Del p s) (Com q u t) = omega arith
edits-joined (Com p s t) c = omega arith

edits-left : (p : ℕ) (s : List ℕ) (q n : ℕ) → length (left_of p s q n) ≤ length s
edits-left p s q n = omega (arith, length-append (take (q - p) s) (drop (q + n - p) s), length-take (q - p) s, length-drop (q + n - p) s)

edits-moved_component : (c o : Comp) (right : Bool) → IfGiven (moved_component c o right) (λ cs. sum_by edit_units cs ≤ edit_units c)
edits-moved_component (Ins p s) (Ins q u) right = omega arith
edits-moved_component (Ins p s) (Del q u) right = omega arith
edits-moved_component (Ins p s) (Com q u t) right = omega arith
edits-moved_component (Del p s) (Ins q u) right =
    let before : sum_by edit_units (deleted_before p s q) ≤ length (take (q - p) s) = weight_if edit_units (nat_lt p q) _ _ _ (omega arith) (omega arith) in
    let behind : sum_by edit_units (deleted_behind p s q (length u)) ≤ length (drop (q - p) s) = weight_if edit_units (length (drop (q - p) s) == 0) _ _ _ (omega arith) (omega arith) in
    omega (arith, sum_by-append edit_units (deleted_before p s q) (deleted_behind p s q (length u)), before, behind, length-take (q - p) s, length-drop (q - p) s)
edits-moved_component (Del p s) (Del q u) right =
    let P : List Comp → Type 0 = λ cs. sum_by edit_units cs ≤ length s in
    given_if P (nat_le (q + length u) p) _ _ (omega arith) (given_if P (nat_le (p + length s) q) _ _ (omega arith)
    (given_if P (agree p s q u) _ _ (weight_if edit_units (length (left_of p s q (length u)) == 0) _ _ (length s) (omega arith) (omega (arith, edits-left p s q (length u)))) tt))
edits-moved_component (Del p s) (Com q u t) right = omega arith
edits-moved_component (Com p s t) (Ins q u) right =
    let P : List Comp → Type 0 = λ cs. sum_by edit_units cs ≤ 0 in
    given_if P (nat_lt p q && nat_lt q (p + length s)) _ _ (omega arith) (omega arith)
edits-moved_component (Com p s t) (Del q u) right =
    let P : List Comp → Type 0 = λ cs. sum_by edit_units cs ≤ 0 in
    given_if P (nat_le (q + length u) p) _ _ (omega arith) (given_if P (nat_le (p + length s) q) _ _ (omega arith) (given_if P (agree p s q u) _ _ (omega arith) tt))
edits-moved_component (Com p s t) (Com q u v) right = omega arith

pub edits-crossed : (ls rs : List Comp) → IfGiven (crossed ls rs) (Lighter edit_units ls rs)
edits-crossed = weight-crossed edit_units edits-joined edits-moved_component

-- ---- the comments
comments-joined : (l c : Comp) → sum_by comment_count (joined l c) ≤ comment_count l + comment_count c
comments-joined (Ins p s) (Ins q u) = weight_if comment_count (nat_le p q && nat_le q (p + length s)) _ _ _ (omega arith) (omega arith)
comments-joined (Ins p s) (Del q u) = omega arith
comments-joined (Ins p s) (Com q u t) = omega arith
comments-joined (Del p s) (Ins q u) = omega arith
comments-joined (Del p s) (Del q u) = weight_if comment_count (nat_le q p && nat_le p (q + length u)) _ _ _ (omega arith) (omega arith)
comments-joined (Del p s) (Com q u t) = omega arith
comments-joined (Com p s t) c = omega arith

comments-moved_component : (c o : Comp) (right : Bool) → IfGiven (moved_component c o right) (λ cs. sum_by comment_count cs ≤ comment_count c)
comments-moved_component (Ins p s) (Ins q u) right = omega arith
comments-moved_component (Ins p s) (Del q u) right = omega arith
comments-moved_component (Ins p s) (Com q u t) right = omega arith
comments-moved_component (Del p s) (Ins q u) right =
    let before : sum_by comment_count (deleted_before p s q) ≤ 0 = weight_if comment_count (nat_lt p q) _ _ _ (omega arith) (omega arith) in
    let behind : sum_by comment_count (deleted_behind p s q (length u)) ≤ 0 = weight_if comment_count (length (drop (q - p) s) == 0) _ _ _ (omega arith) (omega arith) in
    omega (arith, sum_by-append comment_count (deleted_before p s q) (deleted_behind p s q (length u)), before, behind)
comments-moved_component (Del p s) (Del q u) right =
    let P : List Comp → Type 0 = λ cs. sum_by comment_count cs ≤ 0 in
    given_if P (nat_le (q + length u) p) _ _ (omega arith) (given_if P (nat_le (p + length s) q) _ _ (omega arith)
    (given_if P (agree p s q u) _ _ (weight_if comment_count (length (left_of p s q (length u)) == 0) _ _ 0 (omega arith) (omega arith)) tt))
comments-moved_component (Del p s) (Com q u t) right = omega arith
comments-moved_component (Com p s t) (Ins q u) right =
    let P : List Comp → Type 0 = λ cs. sum_by comment_count cs ≤ 1 in
    given_if P (nat_lt p q && nat_lt q (p + length s)) _ _ (omega arith) (omega arith)
comments-moved_component (Com p s t) (Del q u) right =
    let P : List Comp → Type 0 = λ cs. sum_by comment_count cs ≤ 1 in
    given_if P (nat_le (q + length u) p) _ _ (omega arith) (given_if P (nat_le (p + length s) q) _ _ (omega arith) (given_if P (agree p s q u) _ _ (omega arith) tt))
comments-moved_component (Com p s t) (Com q u v) right = omega arith

pub comments-crossed : (ls rs : List Comp) → IfGiven (crossed ls rs) (Lighter comment_count ls rs)
comments-crossed = weight-crossed comment_count comments-joined comments-moved_component
