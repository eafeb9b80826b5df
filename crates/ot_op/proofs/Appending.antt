-- A component behind a list of components, by the last one.
use Rattle.std.proofs.Common.{◌≡◌, ℕ, zero, suc, ◌-◌, ◌<◌, Bool, true, false, List, [], ◌∷◌, ◌++◌, refl, ap, sym, ◌∙◌, take, drop, length, get_or, arith, length-append, ne_eqb, Result, Ok, Err, Some, None}
use Rattle.std.specs.Prelude.{slice_set, ◌==◌, if◌then◌else◌, Option, MatchOption, IfOk, OnErr}
use Rattle.std.proofs.lemmas.List.Elements.{All-set, All-get_or}
use Rattle.std.proofs.lemmas.Bool.Decides.{nat_tests}
use Rattle.ot_units.specs.Text.{put_at}
use Rattle.ot_op.specs.declared.comp.Comp.{Comp}
use Rattle.ot_op.specs.declared.comp.Comp.TheVariants.{Ins, Del, Com}
use Rattle.ot_op.specs.Operation.{IsOp, is_void}
use Rattle.ot_op.specs.Compose.{behind, joined}

-- the last one and the new one became m
pub behind_joined : (cs : List Comp) (n : ℕ) (l m c : Comp) → length cs ≡ suc n → l ≡ get_or cs n l → joined l c ≡ m ∷ [] → behind cs c ≡ slice_set cs n m
behind_joined [] n l m c e is j = cc
behind_joined (x ∷ []) zero l m c e is j = ap (λ y. joined y c) (sym is) ∙ j
behind_joined (x ∷ []) (suc n) l m c e is j = absurd (omega arith)
behind_joined (x ∷ y ∷ ys) zero l m c e is j = absurd (omega arith)
behind_joined (x ∷ y ∷ ys) (suc n) l m c e is j = ap (λ rest. x ∷ rest) (behind_joined (y ∷ ys) n l m c (omega arith) is j)

-- the two stay two
pub behind_apart : (cs : List Comp) (n : ℕ) (l c : Comp) → length cs ≡ suc n → l ≡ get_or cs n l → joined l c ≡ l ∷ c ∷ [] → behind cs c ≡ cs ++ c ∷ []
behind_apart [] n l c e is j = cc
behind_apart (x ∷ []) zero l c e is j = ap (λ y. joined y c) (sym is) ∙ j ∙ ap (λ y. y ∷ c ∷ []) is
behind_apart (x ∷ []) (suc n) l c e is j = absurd (omega arith)
behind_apart (x ∷ y ∷ ys) zero l c e is j = absurd (omega arith)
behind_apart (x ∷ y ∷ ys) (suc n) l c e is j = ap (λ rest. x ∷ rest) (behind_apart (y ∷ ys) n l c (omega arith) is j)

put_solid : (text : List ℕ) (at : ℕ) (part : List ℕ) → (length part == 0) ≡ false → (length (put_at text at part) == 0) ≡ false
put_solid text at part e =
    let a = length-append (take at text ++ part) (drop at text) in
    let b = length-append (take at text) part in
    let z : 0 < length part = grind (arith, nat_tests) in
    ne_eqb _ 0 (λ h. omega arith)

in_one : (t : Bool) (j l m c : Comp) → (if t then j ∷ [] else l ∷ c ∷ []) ≡ m ∷ [] → j ≡ m
in_one true j l m c e = cc
in_one false j l m c e = cc

-- a component that took in the next one is not void
pub joined_solid : (l m c : Comp) → is_void l ≡ false → is_void c ≡ false → joined l c ≡ m ∷ [] → is_void m ≡ false
joined_solid (Ins p s) m (Ins q u) a b j = ap is_void (sym (in_one _ _ _ _ _ j)) ∙ put_solid s (q - p) u b
joined_solid (Ins p s) m (Del q u) a b j = cc
joined_solid (Ins p s) m (Com q u t) a b j = cc
joined_solid (Del p s) m (Ins q u) a b j = cc
joined_solid (Del p s) m (Del q u) a b j = ap is_void (sym (in_one _ _ _ _ _ j)) ∙ put_solid u (p - q) s a
joined_solid (Del p s) m (Com q u t) a b j = cc
joined_solid (Com p s t) m c a b j = cc

joined_solid_in : (cs : List Comp) (n : ℕ) (l m c : Comp) → length cs ≡ suc n → l ≡ get_or cs n l → IsOp cs → is_void c ≡ false → joined l c ≡ m ∷ [] → IsOp (slice_set cs n m)
joined_solid_in cs n l m c e is op b j =
    let P : Comp → Type 0 = λ x. is_void x ≡ false in
    let lt : n < length cs = omega arith in
    let a : is_void l ≡ false = ap is_void is ∙ All-get_or P cs n l lt op in
    All-set P cs n m (joined_solid l m c a b j) op

pub set_same_item : (cs : List Comp) (n : ℕ) (l : Comp) → l ≡ get_or cs n l → slice_set cs n l ≡ cs
set_same_item [] zero l is = refl
set_same_item [] (suc n) l is = refl
set_same_item (x ∷ xs) zero l is = ap (λ y. y ∷ xs) is
set_same_item (x ∷ xs) (suc n) l is = ap (λ ys. x ∷ ys) (set_same_item xs n l is)

-- the same for whatever came of joining
pub joined_solid_on : {E : Type 0} (r : Result (Option Comp) E) (cs : List Comp) (n : ℕ) (l m c : Comp) → length cs ≡ suc n → l ≡ get_or cs n l → IsOp cs → is_void c ≡ false
    → IfOk r (λ o. MatchOption o (joined l c ≡ m ∷ []) (λ d. (d ≡ c) × (m ≡ l) × (joined l c ≡ l ∷ c ∷ []))) → OnErr r (m ≡ l) → IsOp (slice_set cs n m)
joined_solid_on (Ok None) cs n l m c e is op b ok err = joined_solid_in cs n l m c e is op b ok
joined_solid_on (Ok (Some d)) cs n l m c e is op b ok err = rw ok.1 (rw (set_same_item cs n l is) op)
joined_solid_on (Err x) cs n l m c e is op b ok err = rw err (rw (set_same_item cs n l is) op)
