-- One turn of the walks, by the list that is left.
use Rattle.std.proofs.Common.{◌≡◌, ℕ, suc, ◌+◌, ◌<◌, ◌≤◌, List, [], ◌∷◌, ◌++◌, refl, ap, sym, ◌∙◌, drop, length, get_or, arith, Some, None, subst}
use Rattle.std.specs.Option.{option_and_then}
use Rattle.std.proofs.lemmas.List.{at_drop_more, drop_all}
use Rattle.ot_op.specs.Compose.{appended, composed}
use Rattle.ot_op.specs.declared.comp.Comp.{Comp}
use Rattle.ot_transform.specs.Crossing.{Crossed, met, walked, after_meeting, crossed_by, crossed, inserts}
use Rattle.ot_transform.proofs.Depth.{crossed_round, walked_keeps, within_keeps, Keeps, IfGiven, met_keeps, Several, inserts-append}

pub composed-append : (op xs ys : List Comp) → composed op (xs ++ ys) ≡ composed (composed op xs) ys
composed-append op [] ys = refl
composed-append op (x ∷ xs) ys = composed-append (appended op x) xs ys

pub composed_turn : (op cs : List Comp) (i : ℕ) (c : Comp) → i < length cs → c ≡ get_or cs i c → composed op (drop i cs) ≡ composed (appended op c) (drop (i + 1) cs)
composed_turn op cs i c lt is = at_drop_more (composed op) cs i c lt ∙ ap (λ x. composed (appended op x) (drop (i + 1) cs)) (sym is)

module _ (cross : List Comp → List Comp → Crossed) where
  pub crossed_by_turn : (left done rs : List Comp) (i : ℕ) (r : Comp) → i < length rs → r ≡ get_or rs i r → crossed_by cross left done (drop i rs) ≡ option_and_then (λ (both : List Comp × List Comp). crossed_by cross both.0 (composed done both.1) (drop (i + 1) rs)) (walked cross [] r left)
  crossed_by_turn left done rs i r lt is = at_drop_more (crossed_by cross left done) rs i r lt ∙ ap (λ x. option_and_then (λ (both : List Comp × List Comp). crossed_by cross both.0 (composed done both.1) (drop (i + 1) rs)) (walked cross [] x left)) (sym is)

-- the crossing so far is the crossing of the whole
abbrev pub SoFar : List Comp → List Comp → List Comp → List Comp → ℕ → Type 0
SoFar left right current done i = crossed_by crossed current done (drop i right) ≡ crossed_by crossed left [] right

pub crossed_stops : (left right current done : List Comp) (i : ℕ) (r : Comp) → SoFar left right current done i → i < length right → r ≡ get_or right i r → walked crossed [] r current ≡ None → crossed left right ≡ None
crossed_stops left right current done i r so_far lt is none =
    crossed_round left right ∙ sym so_far ∙ crossed_by_turn crossed current done right i r lt is ∙ ap (option_and_then (λ (both : List Comp × List Comp). crossed_by crossed both.0 (composed done both.1) (drop (i + 1) right))) none

pub crossed_goes_on : (left right current done : List Comp) (i : ℕ) (r : Comp) (a b : List Comp) → SoFar left right current done i → i < length right → r ≡ get_or right i r → walked crossed [] r current ≡ Some (a, b) → SoFar left right a (composed done b) (i + 1)
crossed_goes_on left right current done i r a b so_far lt is given =
    sym (sym so_far ∙ crossed_by_turn crossed current done right i r lt is ∙ ap (option_and_then (λ (both : List Comp × List Comp). crossed_by crossed both.0 (composed done both.1) (drop (i + 1) right))) given)

pub crossed_ends : (left right current done : List Comp) (i : ℕ) → SoFar left right current done i → length right ≤ i → crossed left right ≡ Some (current, done)
crossed_ends left right current done i so_far ge = crossed_round left right ∙ sym so_far ∙ ap (crossed_by crossed current done) (drop_all i right ge)

few_walked : (r : Comp) (current a b : List Comp) (o : Crossed) → o ≡ Some (a, b) → IfGiven o (λ both. inserts both.0 ≤ 0 + inserts current) → inserts a ≤ inserts current
few_walked r current a b None e h = cc
few_walked r current a b (Some x) e h = let f : x ≡ (a, b) = cc in let k : inserts a ≡ inserts x.0 = ap (λ (y : List Comp × List Comp). inserts y.0) (sym f) in omega arith

crossed_keeps : Keeps crossed
unfolding crossed
crossed_keeps left right = within_keeps (suc (inserts left)) left right

pub walked_few : (r : Comp) (current a b : List Comp) → walked crossed [] r current ≡ Some (a, b) → inserts a ≤ inserts current
walked_few r current a b given = few_walked r current a b _ given (walked_keeps crossed crossed_keeps [] r current)

-- the walk so far is the walk of the whole, with one component in hand
abbrev pub Walked : Comp → List Comp → List Comp → Comp → List Comp → Type 0
Walked first left next r rest = (inserts rest ≤ inserts left) × (walked crossed next r rest ≡ walked crossed [] first left)

is_several : (hand : List Comp) → 1 < length hand → Several hand
is_several [] many = absurd (omega arith)
is_several (r ∷ []) many = absurd (omega arith)
is_several (r ∷ s ∷ rs) many = tt

met_insert : (l : Comp) (next hand : List Comp) (o : Crossed) (n : ℕ) → IfGiven o (λ at. (inserts at.0 ≤ n) × (Several at.1 → inserts (l ∷ []) ≡ 1)) → o ≡ Some (next, hand) → 1 < length hand → inserts (l ∷ []) ≡ 1
met_insert l next hand None n h e many = cc
met_insert l next hand (Some at) n h e many =
    let f : at ≡ (next, hand) = cc in
    h.1 (subst (λ (x : List Comp × List Comp). Several x.1) (sym f) (is_several hand many))

-- several in hand: the left component was an insert, so fewer are left
pub fewer_left : (next hand next' ls : List Comp) (r l : Comp) → met next r l ≡ Some (next', hand) → 1 < length hand → inserts ls < inserts (l ∷ ls)
fewer_left next hand next' ls r l given many =
    let one : inserts (l ∷ []) ≡ 1 = met_insert l next' hand _ _ (met_keeps next r l) given many in
    omega (arith, inserts-append (l ∷ []) ls)

pub walk_stops : (first : Comp) (left next ls : List Comp) (r l : Comp) → Walked first left next r (l ∷ ls) → met next r l ≡ None → walked crossed [] first left ≡ None
walk_stops first left next ls r l w none = sym w.1 ∙ ap (option_and_then (λ (at : List Comp × List Comp). after_meeting crossed at ls)) none

pub walk_meets : (first : Comp) (left next ls next' hand' : List Comp) (r l : Comp) → Walked first left next r (l ∷ ls) → met next r l ≡ Some (next', hand') → walked crossed [] first left ≡ after_meeting crossed (next', hand') ls
walk_meets first left next ls next' hand' r l w given = sym w.1 ∙ ap (option_and_then (λ (at : List Comp × List Comp). after_meeting crossed at ls)) given

pub walk_goes_on : (first : Comp) (left next ls next' : List Comp) (r l q : Comp) → Walked first left next r (l ∷ ls) → met next r l ≡ Some (next', q ∷ []) → Walked first left next' q ls
walk_goes_on first left next ls next' r l q w given =
    (omega (arith, w.0, inserts-append (l ∷ []) ls), sym (walk_meets first left next ls next' (q ∷ []) r l w given))

pub drop_turn : (cs : List Comp) (i : ℕ) (c : Comp) → i < length cs → c ≡ get_or cs i c → drop i cs ≡ c ∷ drop (i + 1) cs
drop_turn cs i c lt is = at_drop_more (λ (xs : List Comp). xs) cs i c lt ∙ ap (λ (x : Comp). x ∷ drop (i + 1) cs) (sym is)
