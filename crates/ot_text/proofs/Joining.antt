-- Lists of lists, joined, and what becomes of them where lists are replaced.
use Rattle.std.proofs.Common.{◌≡◌, ℕ, ◌+◌, ◌≤◌, ◌<◌, List, [], ◌∷◌, ◌++◌, refl, ap, sym, ◌∙◌, take, drop, length, get_or, arith, zero, suc, ◌-◌, drop-cons}
use Rattle.std.proofs.lemmas.Grind.{common_steps}
use Rattle.std.proofs.lemmas.List.{take_more, take_all, length-append, take-append-drop, take-append-le, drop-append-le, append_assoc, append-nil, get_or_default, get_or_append_left}
use Rattle.std.proofs.Math.Seq.{take-append-add, drop-append-add}
use Rattle.ot_text.specs.Lists.{joined, list_at, IsItemPlace, IsEdgePlace, filled, patched}

pub joined-append : {A : Type 0} (xs ys : List (List A)) → joined (xs ++ ys) ≡ joined xs ++ joined ys
joined-append [] ys = refl
joined-append (x ∷ xs) ys = ap (λ (r : List _). x ++ r) (joined-append xs ys) ∙ sym (append_assoc x (joined xs) (joined ys))

-- one list more
pub joined_next : {A : Type 0} (cs : List (List A)) (i : ℕ) (c : List A) → i < length cs → c ≡ get_or cs i c → joined (take (i + 1) cs) ≡ joined (take i cs) ++ c
joined_next cs i c lt is =
    let cut : take (i + 1) cs ≡ take i cs ++ c ∷ [] = take_more cs i c lt ∙ ap (λ x. take i cs ++ x ∷ []) (sym is) in
    ap joined cut ∙ joined-append (take i cs) (c ∷ []) ∙ ap (λ x. joined (take i cs) ++ x) (append-nil c)

pub joined_more : {A : Type 0} (cs : List (List A)) (i : ℕ) (c : List A) → i < length cs → c ≡ get_or cs i c → length (joined (take (i + 1) cs)) ≡ length (joined (take i cs)) + length c
joined_more cs i c lt is = ap length (joined_next cs i c lt is) ∙ length-append (joined (take i cs)) c

-- the lists before, the list itself and the lists behind
pub around : {A : Type 0} (cs : List (List A)) (i : ℕ) → i < length cs → joined cs ≡ joined (take i cs) ++ (list_at cs i ++ joined (drop (i + 1) cs))
around cs i lt =
    let s : suc i ≡ i + 1 = omega arith in
    let d : drop i cs ≡ list_at cs i ∷ drop (i + 1) cs = rw s at (drop-cons cs i [] lt) in
    ap joined (sym (take-append-drop i cs)) ∙ joined-append (take i cs) (drop i cs) ∙ ap (λ x. joined (take i cs) ++ joined x) d

take_in : {A : Type 0} (p c d : List A) (at k : ℕ) → length p + k ≡ at → k ≤ length c → take at (p ++ (c ++ d)) ≡ p ++ take k c
take_in p c d at k e le = rw (← e, take-append-add p (c ++ d) k, take-append-le k c d le) refl

drop_in : {A : Type 0} (p c d : List A) (at k : ℕ) → length p + k ≡ at → k ≤ length c → drop at (p ++ (c ++ d)) ≡ drop k c ++ d
drop_in p c d at k e le = rw (← e, drop-append-add p (c ++ d) k, drop-append-le k c d le) refl

pub front : {A : Type 0} (cs : List (List A)) (at i k : ℕ) → IsEdgePlace cs at i k → take at (joined cs) ≡ joined (take i cs) ++ take k (list_at cs i)
front cs at i k p = ap (take at) (around cs i p.0) ∙ take_in (joined (take i cs)) (list_at cs i) (joined (drop (i + 1) cs)) at k p.1 p.2

pub back : {A : Type 0} (cs : List (List A)) (at i k : ℕ) → IsEdgePlace cs at i k → drop at (joined cs) ≡ drop k (list_at cs i) ++ joined (drop (i + 1) cs)
back cs at i k p = ap (drop at) (around cs i p.0) ∙ drop_in (joined (take i cs)) (list_at cs i) (joined (drop (i + 1) cs)) at k p.1 p.2

regroup : {A : Type 0} (a b c d e : List A) → a ++ (b ++ c ++ d) ++ e ≡ (a ++ b) ++ c ++ (d ++ e)
regroup a b c d e = simp append_assoc

regroup_left : {A : Type 0} (a b c d : List A) → a ++ (b ++ c) ++ d ≡ (a ++ b) ++ c ++ d
regroup_left a b c d = simp append_assoc

-- what the items make of the joined list, where they begin and end at places of it
pub filled_is : {A : Type 0} (cs : List (List A)) (at end i k j l : ℕ) (other : List A) → IsEdgePlace cs at i k → IsEdgePlace cs end j l → filled cs i (j + 1) (take k (list_at cs i) ++ other ++ drop l (list_at cs j)) ≡ take at (joined cs) ++ other ++ drop end (joined cs)
filled_is cs at end i k j l other p q =
    regroup (joined (take i cs)) (take k (list_at cs i)) other (drop l (list_at cs j)) (joined (drop (j + 1) cs))
    ∙ sym (ap (λ x. x ++ other ++ drop end (joined cs)) (front cs at i k p) ∙ ap (λ x. (joined (take i cs) ++ take k (list_at cs i)) ++ other ++ x) (back cs end j l q))

-- a list more is taken in
pub take_in_right : {A : Type 0} (cs : List (List A)) (from to : ℕ) (units : List A) → to < length cs → filled cs from (to + 1) (units ++ list_at cs to) ≡ filled cs from to units
take_in_right cs from to units lt =
    let s : suc to ≡ to + 1 = omega arith in
    let d : drop to cs ≡ list_at cs to ∷ drop (to + 1) cs = rw s at (drop-cons cs to [] lt) in
    simp append_assoc (ap (λ x. joined (take from cs) ++ (units ++ joined x)) (sym d))

pub take_in_left : {A : Type 0} (cs : List (List A)) (from to : ℕ) (units : List A) → 0 < from → from ≤ length cs → filled cs (from - 1) to (list_at cs (from - 1) ++ units) ≡ filled cs from to units
take_in_left cs from to units pos le =
    let lt : from - 1 < length cs = omega (arith, pos, le) in
    let e : from - 1 + 1 ≡ from = omega (arith, pos) in
    let n : joined (take (from - 1 + 1) cs) ≡ joined (take (from - 1) cs) ++ list_at cs (from - 1) = joined_next cs (from - 1) (list_at cs (from - 1)) lt (get_or_default cs (from - 1) [] (list_at cs (from - 1)) lt) in
    let n2 : joined (take from cs) ≡ joined (take (from - 1) cs) ++ list_at cs (from - 1) = rw e at n in
    regroup_left (joined (take (from - 1) cs)) (list_at cs (from - 1)) units (joined (drop to cs)) ∙ ap (λ x. x ++ units ++ joined (drop to cs)) (sym n2)

pub patch_joined : {A : Type 0} (cs made : List (List A)) (from to : ℕ) (units : List A) → joined made ≡ units → joined (patched cs from to made) ≡ filled cs from to units
patch_joined cs made from to units j = joined-append (take from cs ++ made) (drop to cs) ∙ ap (λ x. x ++ joined (drop to cs)) (joined-append (take from cs) made ∙ ap (λ x. joined (take from cs) ++ x) j)

-- a place further on is in the same list or a later one
pub more_before : {A : Type 0} (cs : List (List A)) (a b : ℕ) → a ≤ b → length (joined (take a cs)) ≤ length (joined (take b cs))
more_before cs zero b le = omega arith
more_before [] (suc a) b le = omega arith
more_before (c ∷ cs) (suc a) zero le = absurd (omega (arith, le))
more_before (c ∷ cs) (suc a) (suc b) le =
    let l = length-append c (joined (take a cs)) in
    let r = length-append c (joined (take b cs)) in
    let h = more_before cs a b (omega (arith, le)) in
    omega (arith, l, r, h)

pub most_before : {A : Type 0} (cs : List (List A)) (a : ℕ) → a ≤ length cs → length (joined (take a cs)) ≤ length (joined cs)
most_before cs a le =
    let h = more_before cs a (length cs) le in
    let e : take (length cs) cs ≡ cs = take_all (length cs) cs (omega arith) in
    rw e at h

places_after : {A : Type 0} (cs : List (List A)) (at end i k j l : ℕ) → IsItemPlace cs at i k → IsItemPlace cs end j l → at ≤ end → j < i → ⊥
places_after cs at end i k j l p q le lt =
    let m = more_before cs (j + 1) i (omega (arith, lt)) in
    let one = joined_more cs j (list_at cs j) q.0 (get_or_default cs j [] (list_at cs j) q.0) in
    omega (arith, m, one, p.1, q.1, q.2, le)

pub places_ordered : {A : Type 0} (cs : List (List A)) (at end i k j l : ℕ) → IsItemPlace cs at i k → IsItemPlace cs end j l → at ≤ end → i ≤ j
places_ordered cs at end i k j l p q le = not_lt_le i j (places_after cs at end i k j l p q le)
  where
    not_lt_le : (a b : ℕ) → (b < a → ⊥) → a ≤ b
    not_lt_le a b h = grind (arith, h)

-- an item's place is within the joined list
pub place_inside : {A : Type 0} (cs : List (List A)) (at i k : ℕ) → IsItemPlace cs at i k → at < length (joined cs)
place_inside cs at i k p =
    let one = joined_more cs i (list_at cs i) p.0 (get_or_default cs i [] (list_at cs i) p.0) in
    let m = most_before cs (i + 1) (omega (arith, p.0)) in
    omega (arith, one, m, p.1, p.2)

-- all lists, read to the end
pub all_before : {A : Type 0} (cs : List (List A)) (n rest at : ℕ) → length cs ≤ n → length (joined (take n cs)) + rest ≡ at → at < length (joined cs) → ⊥
all_before cs n rest at le here lt = let all : take n cs ≡ cs = take_all n cs le in let e = rw all at here in omega (arith, e, lt)

first_item : {A : Type 0} (p c d : List A) (at k : ℕ) (x : A) → length p + k ≡ at → k < length c → get_or (p ++ (c ++ d)) at x ≡ get_or c k x
first_item [] c d at k x e lt = let z : k ≡ at = omega (arith, e) in rw (← z) (get_or_append_left c d x k lt)
first_item (y ∷ p) c d zero k x e lt = absurd (omega (arith, e))
first_item (y ∷ p) c d (suc at) k x e lt = first_item p c d at k x (omega (arith, e)) lt

-- an item that is read in its list
pub item_is : {A : Type 0} (cs : List (List A)) (at i k : ℕ) (x : A) → IsItemPlace cs at i k → get_or (joined cs) at x ≡ get_or (list_at cs i) k x
item_is cs at i k x p = ap (λ r. get_or r at x) (around cs i p.0) ∙ first_item (joined (take i cs)) (list_at cs i) (joined (drop (i + 1) cs)) at k x p.1 p.2

-- a loop that cuts a list up
pub cut_step : {A : Type 0} (made made2 : List (List A)) (c rest units : List A) (n : ℕ) → made2 ≡ made ++ c ∷ [] → c ≡ take n rest → joined made ++ rest ≡ units → joined made2 ++ drop n rest ≡ units
cut_step made made2 c rest units n e is here =
    let j : joined made2 ≡ joined made ++ take n rest = ap joined e ∙ joined-append made (c ∷ []) ∙ ap (λ x. joined made ++ x) (append-nil c ∙ is) in
    ap (λ x. x ++ drop n rest) j ∙ append_assoc (joined made) (take n rest) (drop n rest) ∙ ap (λ x. joined made ++ x) (take-append-drop n rest) ∙ here

pub cut_end : {A : Type 0} (made made2 : List (List A)) (c rest units : List A) → made2 ≡ made ++ c ∷ [] → c ≡ rest → joined made ++ rest ≡ units → joined made2 ≡ units
cut_end made made2 c rest units e is here = ap joined e ∙ joined-append made (c ∷ []) ∙ ap (λ x. joined made ++ x) (append-nil c ∙ is) ∙ here
