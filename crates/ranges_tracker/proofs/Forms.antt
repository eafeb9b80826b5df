-- What holds of each change, and of each two, in parts of lists of changes and in merged ones.
use Rattle.std.proofs.Common.{◌≡◌, ℕ, suc, ◌<◌, ◌≤◌, Bool, true, false, List, [], ◌∷◌, ◌++◌, refl, ap, sym, arith, subst, ⊎_elim}
use Rattle.std.specs.Prelude.{nat_le, filter, if◌then◌else◌}
use Rattle.std.specs.List.{All, AllPairs}
use Rattle.std.proofs.lemmas.Bool.{cases_lt, cases_Bool, lt-leb, le-leb, leb-true}
use Rattle.std.proofs.lemmas.List.Elements.{All-nil, All-cons, All-head, All-tail}
use Rattle.std.proofs.lemmas.List.Kept.{AllPairs-cons}
use Rattle.ranges_tracker.specs.declared.change.Change.{Change}
use Rattle.ranges_tracker.specs.Shown.{meets, fused, touch, up_to, past, merged}
use Rattle.ranges_tracker.proofs.Packing.{touch_met, touch_apart}
use Rattle.ranges_tracker.proofs.Placing.{Rising}

abbrev pub Each : {X : Type 0} → (X → Type 0) → List X → Type 0
Each P [] = Unit {0}
Each P (x ∷ xs) = P x × Each P xs

abbrev pub Pairs : {X : Type 0} → (X → X → Type 0) → List X → Type 0
Pairs R [] = Unit {0}
Pairs R (x ∷ xs) = Each (R x) xs × Pairs R xs

pub each_all : {X : Type 0} (P : X → Type 0) (xs : List X) → Each P xs → All P xs
each_all P [] h = All-nil P
each_all P (x ∷ xs) h = All-cons P x xs h.0 (each_all P xs h.1)

pub all_each : {X : Type 0} (P : X → Type 0) (xs : List X) → All P xs → Each P xs
all_each P [] h = tt
all_each P (x ∷ xs) h = (All-head P x xs h, all_each P xs (All-tail P x xs h))

pub pairs_all : {X : Type 0} (R : X → X → Type 0) (xs : List X) → Pairs R xs → AllPairs R xs
pairs_all R [] h = λ i j d lt le. absurd (omega arith)
pairs_all R (x ∷ xs) h = AllPairs-cons R x xs (each_all (R x) xs h.0) (pairs_all R xs h.1)

pub all_pairs : {X : Type 0} (R : X → X → Type 0) (xs : List X) → AllPairs R xs → Pairs R xs
all_pairs R [] h = tt
all_pairs R (x ∷ xs) h = (all_each (R x) xs (λ k d lt. h 0 (suc k) d (omega arith) (omega arith)), all_pairs R xs (λ i j d lt le. h (suc i) (suc j) d (omega arith) (omega arith)))

pub each_weaker : {X : Type 0} (P Q : X → Type 0) (xs : List X) → ((x : X) → P x → Q x) → Each P xs → Each Q xs
each_weaker P Q [] f h = tt
each_weaker P Q (x ∷ xs) f h = (f x h.0, each_weaker P Q xs f h.1)

pub each_both : {X : Type 0} (P Q S : X → Type 0) (xs : List X) → ((x : X) → P x → Q x → S x) → Each P xs → Each Q xs → Each S xs
each_both P Q S [] f h k = tt
each_both P Q S (x ∷ xs) f h k = (f x h.0 k.0, each_both P Q S xs f h.1 k.1)

pub each_append : {X : Type 0} (P : X → Type 0) (xs ys : List X) → Each P xs → Each P ys → Each P (xs ++ ys)
each_append P [] ys h k = k
each_append P (x ∷ xs) ys h k = (h.0, each_append P xs ys h.1 k)

pub each_front : {X : Type 0} (P : X → Type 0) (xs ys : List X) → Each P (xs ++ ys) → Each P xs
each_front P [] ys h = tt
each_front P (x ∷ xs) ys h = (h.0, each_front P xs ys h.1)

pub each_back : {X : Type 0} (P : X → Type 0) (xs ys : List X) → Each P (xs ++ ys) → Each P ys
each_back P [] ys h = h
each_back P (x ∷ xs) ys h = each_back P xs ys h.1

pub pairs_front : {X : Type 0} (R : X → X → Type 0) (xs ys : List X) → Pairs R (xs ++ ys) → Pairs R xs
pairs_front R [] ys h = tt
pairs_front R (x ∷ xs) ys h = (each_front (R x) xs ys h.0, pairs_front R xs ys h.1)

pub pairs_back : {X : Type 0} (R : X → X → Type 0) (xs ys : List X) → Pairs R (xs ++ ys) → Pairs R ys
pairs_back R [] ys h = h
pairs_back R (x ∷ xs) ys h = pairs_back R xs ys h.1

pub pairs_across : {X : Type 0} (R : X → X → Type 0) (xs ys : List X) → Pairs R (xs ++ ys) → Each (λ x. Each (R x) ys) xs
pairs_across R [] ys h = tt
pairs_across R (x ∷ xs) ys h = (each_back (R x) xs ys h.0, pairs_across R xs ys h.1)

pub pairs_append : {X : Type 0} (R : X → X → Type 0) (xs ys : List X) → Pairs R xs → Pairs R ys → Each (λ x. Each (R x) ys) xs → Pairs R (xs ++ ys)
pairs_append R [] ys h k f = k
pairs_append R (x ∷ xs) ys h k f = (each_append (R x) xs ys h.0 f.0, pairs_append R xs ys h.1 k f.1)

-- some of a list
each_either : {X : Type 0} (P : X → Type 0) (b : Bool) (x : X) (xs : List X) → P x → Each P xs → Each P (if b then x ∷ xs else xs)
each_either P true x xs h k = (h, k)
each_either P false x xs h k = k

pub each_filter : {X : Type 0} (P : X → Type 0) (test : X → Bool) (xs : List X) → Each P xs → Each P (filter test xs)
each_filter P test [] h = tt
each_filter P test (x ∷ xs) h = each_either P (test x) x (filter test xs) h.0 (each_filter P test xs h.1)

pairs_either : {X : Type 0} (R : X → X → Type 0) (b : Bool) (x : X) (xs : List X) → Each (R x) xs → Pairs R xs → Pairs R (if b then x ∷ xs else xs)
pairs_either R true x xs h k = (h, k)
pairs_either R false x xs h k = k

pub pairs_filter : {X : Type 0} (R : X → X → Type 0) (test : X → Bool) (xs : List X) → Pairs R xs → Pairs R (filter test xs)
pairs_filter R test [] h = tt
pairs_filter R test (x ∷ xs) h = pairs_either R (test x) x (filter test xs) (each_filter (R x) test xs h.0) (pairs_filter R test xs h.1)

-- neighbours made one
pub each_touch : (P : Change → Type 0) (c : Change) (cs : List Change) → P c → ((d : Change) → P d → meets c d ≡ true → P (fused c d)) → Each P cs → Each P (touch c cs)
each_touch P c [] h f k = (h, tt)
each_touch P c (d ∷ ds) h f k = ⊎_elim {C = Each P (touch c (d ∷ ds))}
    (λ t. subst (λ (x : List Change). Each P x) (sym (touch_met c d ds t)) (f d k.0 t, k.1))
    (λ t. subst (λ (x : List Change). Each P x) (sym (touch_apart c d ds t)) (h, k))
    (cases_Bool (meets c d))

-- deletes up to a place, and past it
split_here : (b : Bool) (d : Change) (us ps ds : List Change) → us ++ ps ≡ ds → (if b then d ∷ us else []) ++ (if b then ps else d ∷ ds) ≡ d ∷ ds
split_here true d us ps ds e = ap (λ (x : List Change). d ∷ x) e
split_here false d us ps ds e = refl

pub up_to_past : (at : ℕ) (ds : List Change) → up_to at ds ++ past at ds ≡ ds
up_to_past at [] = refl
up_to_past at (d ∷ ds) = split_here (nat_le d.at at) d (up_to at ds) (past at ds) ds (up_to_past at ds)

pub each_up_to : (P : Change → Type 0) (at : ℕ) (ds : List Change) → Each P ds → Each P (up_to at ds)
each_up_to P at ds h = each_front P (up_to at ds) (past at ds) (subst (λ (x : List Change). Each P x) (sym (up_to_past at ds)) h)

pub each_past : (P : Change → Type 0) (at : ℕ) (ds : List Change) → Each P ds → Each P (past at ds)
each_past P at ds h = each_back P (up_to at ds) (past at ds) (subst (λ (x : List Change). Each P x) (sym (up_to_past at ds)) h)

up_here : (b : Bool) (at : ℕ) (d : Change) (us : List Change) → nat_le d.at at ≡ b → Each (λ (x : Change). x.at ≤ at) us → Each (λ (x : Change). x.at ≤ at) (if b then d ∷ us else [])
up_here true at d us e h = (leb-true d.at at e, h)
up_here false at d us e h = tt

pub up_to_low : (at : ℕ) (ds : List Change) → Each (λ (x : Change). x.at ≤ at) (up_to at ds)
up_to_low at [] = tt
up_to_low at (d ∷ ds) = up_here (nat_le d.at at) at d (up_to at ds) refl (up_to_low at ds)

rising_above : (at a : ℕ) (ds : List Change) → at < a → Rising a ds → Each (λ (x : Change). at < x.at) ds
rising_above at a [] lt h = tt
rising_above at a (d ∷ ds) lt h = (omega (arith, h.0), rising_above at d.at ds (omega (arith, h.0)) h.1)

pub past_high : (at a : ℕ) (ds : List Change) → Rising a ds → Each (λ (x : Change). at < x.at) (past at ds)
past_high at a [] h = tt
past_high at a (d ∷ ds) h = ⊎_elim {C = Each (λ (x : Change). at < x.at) (past at (d ∷ ds))}
    (λ lt. subst (λ (x : List Change). Each (λ (y : Change). at < y.at) x) (sym (high lt)) (lt, rising_above at d.at ds lt h.1))
    (λ le. subst (λ (x : List Change). Each (λ (y : Change). at < y.at) x) (sym (low le)) (past_high at d.at ds h.1))
    (cases_lt at d.at)
  where
    high : at < d.at → past at (d ∷ ds) ≡ d ∷ ds
    high lt = ap (λ (b : Bool). if b then past at ds else d ∷ ds) (lt-leb d.at at lt)

    low : d.at ≤ at → past at (d ∷ ds) ≡ past at ds
    low le = rw (le-leb d.at at le) refl

lower_rising : (a b : ℕ) (ds : List Change) → a ≤ b → Rising b ds → Rising a ds
lower_rising a b [] le h = tt
lower_rising a b (d ∷ ds) le h = (omega (arith, h.0), h.1)

past_either : (b : Bool) (a : ℕ) (xs ys : List Change) → Rising a xs → Rising a ys → Rising a (if b then xs else ys)
past_either true a xs ys h k = h
past_either false a xs ys h k = k

pub rising_past : (at a : ℕ) (ds : List Change) → Rising a ds → Rising a (past at ds)
rising_past at a [] h = tt
rising_past at a (d ∷ ds) h = past_either (nat_le d.at at) a (past at ds) (d ∷ ds) (lower_rising a d.at (past at ds) h.0 (rising_past at d.at ds h.1)) h

-- merged lists
pub each_merged : (P : Change → Type 0) (is ds : List Change) → Each P is → Each P ds → Each P (merged is ds)
each_merged P [] ds h k = k
each_merged P (i ∷ is) ds h k = each_append P (up_to i.at ds) (i ∷ merged is (past i.at ds)) (each_up_to P i.at ds k) (h.0, each_merged P is (past i.at ds) h.1 (each_past P i.at ds k))

-- how an insert and a delete of merged lists stand to each other
abbrev pub Across : (Change → Change → Type 0) → Change → Change → Type 0
Across R i d = (d.at ≤ i.at → R d i) × (i.at < d.at → R i d)

pub pairs_merged : (R : Change → Change → Type 0) (a : ℕ) (is ds : List Change) → Pairs (λ i j. i.at ≤ j.at) is → Rising a ds → Pairs R is → Pairs R ds → Each (λ i. Each (Across R i) ds) is → Pairs R (merged is ds)
pairs_merged R a [] ds s r h k f = k
pairs_merged R a (i ∷ is) ds s r h k f =
    let us = up_to i.at ds in
    let ps = past i.at ds in
    let kk : Pairs R (us ++ ps) = subst (λ (x : List Change). Pairs R x) (sym (up_to_past i.at ds)) k in
    let rest : Pairs R (merged is ps) = pairs_merged R a is ps s.1 (rising_past i.at a ds r) h.1 (pairs_back R us ps kk) (each_weaker (λ j. Each (Across R j) ds) (λ j. Each (Across R j) ps) is (λ j e. each_past (Across R j) i.at ds e) f.1) in
    let behind : Each (R i) (merged is ps) = each_merged (R i) is ps h.0 (each_both (λ d. i.at < d.at) (Across R i) (R i) ps (λ d lt x. x.1 lt) (past_high i.at a ds r) (each_past (Across R i) i.at ds f.0)) in
    let here : Each (λ d. R d i) us = each_both (λ d. d.at ≤ i.at) (Across R i) (λ d. R d i) us (λ d le x. x.0 le) (up_to_low i.at ds) (each_up_to (Across R i) i.at ds f.0) in
    let later : Each (λ d. Each (R d) is) us = turned us is (up_to_low i.at ds) s.0 (each_weaker (λ j. Each (Across R j) ds) (λ j. Each (Across R j) us) is (λ j e. each_up_to (Across R j) i.at ds e) f.1) in
    let across : Each (λ d. Each (R d) (i ∷ merged is ps)) us = each_both (λ d. R d i) (λ d. Each (R d) (merged is ps)) (λ d. Each (R d) (i ∷ merged is ps)) us (λ d x y. (x, y)) here
    (each_both (λ d. Each (R d) is) (λ d. Each (R d) ps) (λ d. Each (R d) (merged is ps)) us (λ d x y. each_merged (R d) is ps x y) later (pairs_across R us ps kk)) in
    pairs_append R us (i ∷ merged is ps) (pairs_front R us ps kk) (behind, rest) across
  where
    one : (d : Change) (js : List Change) → d.at ≤ i.at → Each (λ j. i.at ≤ j.at) js → Each (λ j. Across R j d) js → Each (R d) js
    one d js le s2 x = each_both (λ j. i.at ≤ j.at) (λ j. Across R j d) (R d) js (λ j e y. y.0 (omega arith)) s2 x

    heads_of : (d : Change) (ds2 js : List Change) → Each (λ j. Each (Across R j) (d ∷ ds2)) js → Each (λ j. Across R j d) js
    heads_of d ds2 js x = each_weaker (λ j. Each (Across R j) (d ∷ ds2)) (λ j. Across R j d) js (λ j y. y.0) x

    tails_of : (d : Change) (ds2 js : List Change) → Each (λ j. Each (Across R j) (d ∷ ds2)) js → Each (λ j. Each (Across R j) ds2) js
    tails_of d ds2 js x = each_weaker (λ j. Each (Across R j) (d ∷ ds2)) (λ j. Each (Across R j) ds2) js (λ j y. y.1) x

    turned : (us js : List Change) → Each (λ d. d.at ≤ i.at) us → Each (λ j. i.at ≤ j.at) js → Each (λ j. Each (Across R j) us) js → Each (λ d. Each (R d) js) us
    turned [] js lo s2 x = tt
    turned (d ∷ ds2) js lo s2 x = (one d js lo.0 s2 (heads_of d ds2 js x), turned ds2 js lo.1 s2 (tails_of d ds2 js x))
