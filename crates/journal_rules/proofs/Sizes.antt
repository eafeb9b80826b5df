-- Sizes: an operation that applies has its places within the text and its own units; and what it becomes past another is no larger.
use Rattle.std.proofs.Common.{◌≡◌, ℕ, ◌+◌, ◌≤◌, List, [], ◌∷◌, ◌++◌, length, Bool, true, ◌&&◌, refl, ap, ◌∙◌, arith, length-append}
use Rattle.std.specs.Prelude.{Option, Some, None, nat_le, sum_by}
use Rattle.std.proofs.lemmas.Bool.Decides.{nat_tests}
use Rattle.std.proofs.lemmas.List.Sums.{sum_by-cons}
use Rattle.ot_op.specs.declared.comp.Comp.{Comp}
use Rattle.ot_op.specs.declared.comp.Comp.TheVariants.{Ins, Del, Com}
use Rattle.ot_op.specs.Apply.{applied, applied_all}
use Rattle.ot_op.specs.Operation.{place, units_of}
use Rattle.ot_op.proofs.Pieces.{ins_cut, del_cut, com_cut}
use Rattle.ot_transform.specs.Size.{edit_units, edit_units_in, comment_count, comments_in, BothNoLarger}
use Rattle.ot_transform.specs.Crossing.{crossed}
use Rattle.ot_transform.proofs.Depth.{IfGiven, given_weaker}
use Rattle.ot_transform.proofs.Following.{crossed_no_larger}
use Rattle.journal_rules.specs.Client.{places_fit, greatest_place}
use Rattle.journal_rules.specs.Whys.{most_components, most_units}
use Rattle.ot_op.proofs.Applying.{First, first_of_all}

-- one component that applies
one_size : (text next : List ℕ) (c : Comp) → applied text c ≡ Some next → (place c ≤ length text) × (length next ≤ length text + edit_units c)
one_size text next (Ins p s) e =
    let c = ins_cut text p s next e in
    let t : length text ≡ length c.0.front + length c.0.back = ap length c.0.is ∙ length-append c.0.front c.0.back in
    let n : length next ≡ length c.0.front + (length s + length c.0.back) = ap length c.1 ∙ length-append c.0.front (s ++ c.0.back) ∙ ap (λ k. length c.0.front + k) (length-append s c.0.back) in
    let l = c.0.len in (omega (arith, t, l), omega (arith, t, n))
one_size text next (Del p s) e =
    let c = del_cut text p s next e in
    let t : length text ≡ length c.0.front + (length s + length c.0.back) = ap length c.0.is ∙ length-append c.0.front (s ++ c.0.back) ∙ ap (λ k. length c.0.front + k) (length-append s c.0.back) in
    let n : length next ≡ length c.0.front + length c.0.back = ap length c.1 ∙ length-append c.0.front c.0.back in
    let l = c.0.len in (omega (arith, t, l), omega (arith, t, n))
one_size text next (Com p s k) e =
    let c = com_cut text p s k next e in
    let t : length text ≡ length c.0.front + (length s + length c.0.back) = ap length c.0.is ∙ length-append c.0.front (s ++ c.0.back) ∙ ap (λ k. length c.0.front + k) (length-append s c.0.back) in
    let n : length next ≡ length text = ap length c.1 in
    let l = c.0.len in (omega (arith, t, l), omega (arith, n))

fits_both : (a b : Bool) → a ≡ true → b ≡ true → (a && b) ≡ true
fits_both a b p q = ap (λ x. x && b) p ∙ q

low_place : (n : ℕ) → n ≤ greatest_place → nat_le n greatest_place ≡ true
low_place n le = grind (arith, nat_tests)

-- an operation that applies to a text
pub all_size : (text next : List ℕ) (cs : List Comp) → applied_all text cs ≡ Some next → length text + edit_units_in cs ≤ greatest_place → (length next ≤ length text + edit_units_in cs) × (places_fit cs ≡ true)
all_size text next [] e le = let same : length text ≡ length next = ap length (let s : text ≡ next = cc in s) in (omega (arith, same), refl)
all_size text next (c ∷ cs) e le =
    let f : First text c cs next = first_of_all text c cs next e in
    let one = one_size text f.mid c f.here in
    let u = sum_by-cons edit_units c cs in
    let a = one.0 in let b = one.1 in
    let rest = all_size f.mid next cs f.rest (omega (arith, b, u, le)) in
    let r = rest.0 in
    (omega (arith, r, b, u), fits_both (nat_le (place c) greatest_place) (places_fit cs) (low_place (place c) (omega (arith, a, le))) rest.1)

-- the units that are edited are some of the units
pub edits_least : (cs : List Comp) → edit_units_in cs ≤ sum_by units_of cs
edits_least [] = omega arith
edits_least (c ∷ cs) = let r = edits_least cs in let e = sum_by-cons edit_units c cs in let u = sum_by-cons units_of c cs in let l = one c in omega (arith, r, e, u, l)
  where
    one : (c : Comp) → edit_units c ≤ units_of c
    one (Ins p s) = omega arith
    one (Del p s) = omega arith
    one (Com p s t) = omega arith

-- and there are no more comments than components
pub comments_least : (cs : List Comp) → comments_in cs ≤ length cs
comments_least [] = omega arith
comments_least (c ∷ cs) = let r = comments_least cs in let e = sum_by-cons comment_count c cs in let l = one c in omega (arith, r, e, l)
  where
    one : (c : Comp) → comment_count c ≤ 1
    one (Ins p s) = omega arith
    one (Del p s) = omega arith
    one (Com p s t) = omega arith

-- an operation of a client has few units to edit and few comments
abbrev pub IsLight : List Comp → Type 0
IsLight op = (edit_units_in op ≤ most_units) × (comments_in op ≤ most_components)

abbrev pub IsLightFlight : Option (List Comp) → Type 0
IsLightFlight (Some op) = IsLight op
IsLightFlight None = Unit {0}

-- and so it has past another
pub crossed_light : (ls rs : List Comp) → IsLight ls → IfGiven (crossed ls rs) (λ both. IsLight both.0)
crossed_light ls rs light = given_weaker (BothNoLarger ls rs) (λ both. IsLight both.0) (crossed ls rs)
    (λ both h. let u = h.0.units in let c = h.0.comments in let l0 = light.0 in let l1 = light.1 in (omega (arith, u, l0), omega (arith, c, l1)))
    (crossed_no_larger ls rs)
