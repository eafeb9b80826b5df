-- Where the starts and the ends of threads stand in parts of a flat row.
use Rattle.std.proofs.Common.{◌≡◌, ℕ, ◌+◌, ◌-◌, ◌<◌, ◌≤◌, Bool, true, false, List, [], ◌∷◌, ◌++◌, refl, ap, ap₂, sym, ◌∙◌, length, arith, filter, ⊎_elim, ◌⊎◌, inl, inr}
use Rattle.std.specs.Prelude.{◌||◌, ◌&&◌, not, if◌then◌else◌, nat_le, nat_lt}
use Rattle.std.specs.List.{list_any}
use Rattle.std.proofs.lemmas.Bool.{cases_Bool, or_left, or_right, or_from, cond-true, cond-false, eqb-true, le-leb, lt-leb, lt-ltb, le-ltb, cases_lt}
use Rattle.std.proofs.lemmas.List.Folds.{list_any-append}
use Rattle.ranges_tracker.specs.Cells.{raised, squashed}
use Rattle.flat_cells.specs.Row.{Cell, Live, Gone, Start, End, is_start, is_end, is_gone, lives_of, gap_of, ends_earlier, earlier_ends, without_earlier_ends, sorted_by, grouped}
use Rattle.flat_cells.proofs.Parts.{EndsLive, BeginsLive, NoLive, gap_in, gap_past, gap_below, gap_behind, gap_none, gap_within, no_lives, lives-append}
use Rattle.ranges_tracker.proofs.Commenting.{squash_mid}

-- what passes a test in a filtered list
pub any_on : {X : Type 0} (test : X → Bool) (x : X) (xs : List X) → test x ≡ false → list_any test (x ∷ xs) ≡ list_any test xs
any_on test x xs e = ap (λ (b : Bool). b || list_any test xs) e

pub any_here : {X : Type 0} (test : X → Bool) (x : X) (xs : List X) → test x ≡ true → list_any test (x ∷ xs) ≡ true
any_here test x xs e = ap (λ (b : Bool). b || list_any test xs) e

pub any_join : {X : Type 0} (test : X → Bool) (xs ys : List X) (b d : Bool) → list_any test xs ≡ b → list_any test ys ≡ d → list_any test (xs ++ ys) ≡ (b || d)
any_join test xs ys b d e f = list_any-append test xs ys ∙ ap₂ (λ (x y : Bool). x || y) e f

pub filter_in : {X : Type 0} (f : X → Bool) (x : X) (xs : List X) → f x ≡ true → filter f (x ∷ xs) ≡ x ∷ filter f xs
filter_in f x xs e = cond-true (f x) (x ∷ filter f xs) (filter f xs) e

pub filter_out : {X : Type 0} (f : X → Bool) (x : X) (xs : List X) → f x ≡ false → filter f (x ∷ xs) ≡ filter f xs
filter_out f x xs e = cond-false (f x) (x ∷ filter f xs) (filter f xs) e

pub any_filter : {X : Type 0} (test f : X → Bool) (b : Bool) (xs : List X) → ((x : X) → test x ≡ true → f x ≡ b) → list_any test (filter f xs) ≡ (b && list_any test xs)
any_filter test f true [] h = refl
any_filter test f false [] h = refl
any_filter test f true (x ∷ xs) h = ⊎_elim {C = list_any test (filter f (x ∷ xs)) ≡ list_any test (x ∷ xs)}
    (λ t. ap (list_any test) (filter_in f x xs (h x t)) ∙ any_here test x (filter f xs) t ∙ sym (any_here test x xs t))
    (λ t. ⊎_elim {C = list_any test (filter f (x ∷ xs)) ≡ list_any test (x ∷ xs)}
    (λ k. ap (list_any test) (filter_in f x xs k) ∙ any_on test x (filter f xs) t ∙ any_filter test f true xs h ∙ sym (any_on test x xs t))
    (λ k. ap (list_any test) (filter_out f x xs k) ∙ any_filter test f true xs h ∙ sym (any_on test x xs t))
    (cases_Bool (f x)))
    (cases_Bool (test x))
any_filter test f false (x ∷ xs) h = ⊎_elim {C = list_any test (filter f (x ∷ xs)) ≡ false}
    (λ k. ap (list_any test) (filter_in f x xs k) ∙ any_on test x (filter f xs) (apart k (cases_Bool (test x))) ∙ any_filter test f false xs h)
    (λ k. ap (list_any test) (filter_out f x xs k) ∙ any_filter test f false xs h)
    (cases_Bool (f x))
  where
    apart : f x ≡ true → (test x ≡ true) ⊎ (test x ≡ false) → test x ≡ false
    apart k (inl t) = absurd (clash (sym k ∙ h x t))
      where
        clash : true ≡ false → ⊥
        clash e = cc
    apart k (inr t) = t

pub any_sorted : {X : Type 0} (test f : X → Bool) (xs : List X) → list_any test (filter f xs ++ filter (λ (x : X). not (f x)) xs) ≡ list_any test xs
any_sorted test f [] = refl
any_sorted {X} test f (x ∷ xs) = ⊎_elim {C = list_any test (filter f (x ∷ xs) ++ filter g (x ∷ xs)) ≡ list_any test (x ∷ xs)}
    (λ k. ap₂ (λ (a b : List X). list_any test (a ++ b)) (filter_in f x xs k) (filter_out g x xs (ap not k)) ∙ ap (λ (b : Bool). test x || b) (any_sorted test f xs))
    (λ k. ap₂ (λ (a b : List X). list_any test (a ++ b)) (filter_out f x xs k) (filter_in g x xs (ap not k))
    ∙ list_any-append test (filter f xs) (x ∷ filter g xs) ∙ swap (list_any test (filter f xs)) (test x) (list_any test (filter g xs))
    ∙ ap (λ (b : Bool). test x || b) (sym (list_any-append test (filter f xs) (filter g xs)) ∙ any_sorted test f xs))
    (cases_Bool (f x))
  where
    g : X → Bool
    g y = not (f y)

    swap : (a b d : Bool) → (a || (b || d)) ≡ (b || (a || d))
    swap true true d = refl
    swap true false d = refl
    swap false true d = refl
    swap false false d = refl

-- the three groups have the same cells
pub any_grouped : (test : Cell → Bool) (front cells : List Cell) → list_any test (grouped front cells) ≡ list_any test cells
any_grouped test front cells =
    list_any-append test (earlier_ends front cells) (sorted_by is_gone (without_earlier_ends front cells))
    ∙ ap (λ (b : Bool). list_any test (earlier_ends front cells) || b) (any_sorted test is_gone (without_earlier_ends front cells))
    ∙ sym (list_any-append test (earlier_ends front cells) (without_earlier_ends front cells))
    ∙ any_sorted test (ends_earlier front) cells

pub grouped_lives : (front cells : List Cell) → lives_of cells ≡ [] → lives_of (grouped front cells) ≡ []
grouped_lives front cells e =
    let late = without_earlier_ends front cells in
    let none : lives_of late ≡ [] = no_lives (λ (c : Cell). not (ends_earlier front c)) cells e in
    lives-append (earlier_ends front cells) (sorted_by is_gone late)
    ∙ ap₂ (λ x y. x ++ y) (no_lives (ends_earlier front) cells e) (lives-append (filter is_gone late) (filter (λ (c : Cell). not (is_gone c)) late) ∙ ap₂ (λ x y. x ++ y) (no_lives is_gone late none) (no_lives (λ (c : Cell). not (is_gone c)) late none))

-- the ends of threads begun in earlier gaps
pub start_earlier : (t : ℕ) (front cells : List Cell) → list_any (is_start t) (earlier_ends front cells) ≡ false
start_earlier t front cells = any_filter (is_start t) (ends_earlier front) false cells none
  where
    none : (c : Cell) → is_start t c ≡ true → ends_earlier front c ≡ false
    none (Live u o) e = refl
    none (Gone u m) e = refl
    none (Start s) e = refl
    none (End s) e = cc

pub start_late : (t : ℕ) (front cells : List Cell) → list_any (is_start t) (without_earlier_ends front cells) ≡ list_any (is_start t) cells
start_late t front cells = any_filter (is_start t) (λ (c : Cell). not (ends_earlier front c)) true cells all
  where
    all : (c : Cell) → is_start t c ≡ true → not (ends_earlier front c) ≡ true
    all (Live u o) e = refl
    all (Gone u m) e = refl
    all (Start s) e = refl
    all (End s) e = cc

ends_as : (t : ℕ) (front : List Cell) (c : Cell) → is_end t c ≡ true → ends_earlier front c ≡ list_any (is_start t) front
ends_as t front (Live u o) e = cc
ends_as t front (Gone u m) e = cc
ends_as t front (Start s) e = cc
ends_as t front (End s) e = ap (λ (x : ℕ). list_any (is_start x) front) (eqb-true s t e)

pub end_earlier : (t : ℕ) (front cells : List Cell) → list_any (is_end t) (earlier_ends front cells) ≡ (list_any (is_start t) front && list_any (is_end t) cells)
end_earlier t front cells = any_filter (is_end t) (ends_earlier front) (list_any (is_start t) front) cells (ends_as t front)

pub end_late : (t : ℕ) (front cells : List Cell) → list_any (is_end t) (without_earlier_ends front cells) ≡ (not (list_any (is_start t) front) && list_any (is_end t) cells)
end_late t front cells = any_filter (is_end t) (λ (c : Cell). not (ends_earlier front c)) (not (list_any (is_start t) front)) cells (λ c e. ap not (ends_as t front c e))

-- parts without live cells in one place
pub gap_swap : (test : Cell → Bool) (xs ys rest : List Cell) → lives_of xs ≡ [] → lives_of ys ≡ [] → list_any test xs ≡ list_any test ys → gap_of test (xs ++ rest) ≡ gap_of test (ys ++ rest)
gap_swap test xs ys rest e f h = ⊎_elim {C = gap_of test (xs ++ rest) ≡ gap_of test (ys ++ rest)}
    (λ t. gap_in test xs rest (h ∙ t) ∙ gap_none test xs e ∙ sym (gap_in test ys rest t ∙ gap_none test ys f))
    (λ t. omega (arith, gap_past test xs rest (h ∙ t), gap_past test ys rest t, ap length e, ap length f))
    (cases_Bool (list_any test ys))

-- where a raised gap goes
pub raised_low : (p n g : ℕ) → g < p → raised p n g ≡ g
raised_low p n g lt = cond-false (nat_le p g) (g + n) g (lt-leb p g lt)

pub raised_high : (p n g : ℕ) → p ≤ g → raised p n g ≡ g + n
raised_high p n g le = cond-true (nat_le p g) (g + n) g (le-leb p g le)

abbrev pub raised_end : ℕ → ℕ → ℕ → ℕ → ℕ
raised_end p n from to = if nat_le p from || nat_lt p to then to + n else to

raised_stays : (p n from to : ℕ) → from < p → to ≤ p → raised_end p n from to ≡ to
raised_stays p n from to lt le = cond-false (nat_le p from || nat_lt p to) (to + n) to (or_from (nat_le p from) (nat_lt p to) (lt-leb p from lt) (le-ltb p to le))

raised_goes : (p n from to : ℕ) → (p ≤ from) ⊎ (p < to) → raised_end p n from to ≡ to + n
raised_goes p n from to (inl le) = cond-true (nat_le p from || nat_lt p to) (to + n) to (or_left (nat_le p from) (nat_lt p to) (le-leb p from le))
raised_goes p n from to (inr lt) = cond-true (nat_le p from || nat_lt p to) (to + n) to (or_right (nat_le p from) (nat_lt p to) (lt-ltb p to lt))

-- a start, where live cells come in behind the earlier ends of a gap
pub start_raised : (test : Cell → Bool) (front ends new late rest : List Cell) (p n : ℕ) → EndsLive front → length (lives_of front) ≡ p → lives_of ends ≡ [] → length (lives_of new) ≡ n → list_any test ends ≡ false → list_any test new ≡ false → gap_of test late ≡ gap_of test rest →
    gap_of test (front ++ (ends ++ (new ++ late))) ≡ raised p n (gap_of test (front ++ rest))
start_raised test front ends new late rest p n h e none count f g same = ⊎_elim {C = gap_of test (front ++ (ends ++ (new ++ late))) ≡ raised p n (gap_of test (front ++ rest))}
    (λ t. let old : gap_of test (front ++ rest) ≡ gap_of test front = gap_in test front rest t in
    gap_in test front (ends ++ (new ++ late)) t ∙ sym old ∙ sym (raised_low p n (gap_of test (front ++ rest)) (omega (arith, old, gap_below test front h t, e))))
    (λ t. let old : gap_of test (front ++ rest) ≡ length (lives_of front) + gap_of test rest = gap_past test front rest t in
    omega (arith, gap_past test front (ends ++ (new ++ late)) t, gap_past test ends (new ++ late) f, gap_past test new late g, ap length none, count, same, old, e, raised_high p n (gap_of test (front ++ rest)) (omega (arith, old, e))))
    (cases_Bool (list_any test front))

-- an end before the gap
end_before : (test : Cell → Bool) (front rest more : List Cell) (p n from : ℕ) → EndsLive front → length (lives_of front) ≡ p → list_any test front ≡ true → from ≤ gap_of test (front ++ rest) → gap_of test (front ++ more) ≡ raised_end p n from (gap_of test (front ++ rest))
end_before test front rest more p n from h e t order =
    let old : gap_of test (front ++ rest) ≡ gap_of test front = gap_in test front rest t in
    let low : gap_of test front < p = omega (arith, gap_below test front h t, e) in
    gap_in test front more t ∙ sym old ∙ sym (raised_stays p n from (gap_of test (front ++ rest)) (omega (arith, order, old, low)) (omega (arith, old, low)))

-- one that stays in front of the new cells
end_first : (test : Cell → Bool) (front gap behind ends more : List Cell) (p n from : ℕ) → length (lives_of front) ≡ p → lives_of gap ≡ [] → lives_of ends ≡ [] → list_any test front ≡ false → list_any test gap ≡ true → list_any test ends ≡ true → from < p →
    gap_of test (front ++ (ends ++ more)) ≡ raised_end p n from (gap_of test (front ++ (gap ++ behind)))
end_first test front gap behind ends more p n from e none none2 t g k lt =
    let old : gap_of test (front ++ (gap ++ behind)) ≡ p = omega (arith, gap_past test front (gap ++ behind) t, gap_in test gap behind g, gap_none test gap none, e) in
    omega (arith, gap_past test front (ends ++ more) t, gap_in test ends more k, gap_none test ends none2, e, old, raised_stays p n from (gap_of test (front ++ (gap ++ behind))) lt (omega (arith, old)))

-- one behind them
end_behind : (test : Cell → Bool) (front rest ends new late : List Cell) (p n from : ℕ) → length (lives_of front) ≡ p → lives_of ends ≡ [] → length (lives_of new) ≡ n → list_any test front ≡ false → list_any test ends ≡ false → list_any test new ≡ false → gap_of test late ≡ gap_of test rest → (p ≤ from) ⊎ (p < gap_of test (front ++ rest)) →
    gap_of test (front ++ (ends ++ (new ++ late))) ≡ raised_end p n from (gap_of test (front ++ rest))
end_behind test front rest ends new late p n from e none count t f g same far =
    omega (arith, gap_past test front (ends ++ (new ++ late)) t, gap_past test ends (new ++ late) f, gap_past test new late g, ap length none, count, same, gap_past test front rest t, e, raised_goes p n from (gap_of test (front ++ rest)) far)

no_end_lives : (t : ℕ) → NoLive (is_end t)
no_end_lives t u o = refl

pub end_raised : (t : ℕ) (front gap new late behind : List Cell) (p n : ℕ) → EndsLive front → BeginsLive behind → length (lives_of front) ≡ p → lives_of gap ≡ [] → length (lives_of new) ≡ n → list_any (is_end t) new ≡ false →
    gap_of (is_end t) late ≡ gap_of (is_end t) (without_earlier_ends front gap ++ behind) → gap_of (is_start t) (front ++ (gap ++ behind)) ≤ gap_of (is_end t) (front ++ (gap ++ behind)) → list_any (is_end t) (front ++ (gap ++ behind)) ≡ true →
    gap_of (is_end t) (front ++ (earlier_ends front gap ++ (new ++ late))) ≡ raised_end p n (gap_of (is_start t) (front ++ (gap ++ behind))) (gap_of (is_end t) (front ++ (gap ++ behind)))
end_raised t front gap new late behind p n h k e none count fresh same order some =
    ⊎_elim {C = Goal} (λ x. end_before (is_end t) front (gap ++ behind) (ends ++ (new ++ late)) p n from h e x order)
    (λ x. ⊎_elim {C = Goal}
    (λ y. ⊎_elim {C = Goal}
    (λ z. end_first (is_end t) front gap behind ends (new ++ late) p n from e none ends_none x z (end_earlier t front gap ∙ ap₂ (λ (a b : Bool). a && b) y z) (omega (arith, gap_in (is_start t) front (gap ++ behind) y, gap_below (is_start t) front h y, e)))
    (λ z. end_behind (is_end t) front (gap ++ behind) ends new late p n from e ends_none count x (end_earlier t front gap ∙ ap₂ (λ (a b : Bool). a && b) y z) fresh
    (same ∙ gap_swap (is_end t) (without_earlier_ends front gap) gap behind late_none none (end_late t front gap ∙ ap₂ (λ (a b : Bool). not a && b) y z ∙ sym z)) (inr (far x z)))
    (cases_Bool (list_any (is_end t) gap)))
    (λ y. end_behind (is_end t) front (gap ++ behind) ends new late p n from e ends_none count x (end_earlier t front gap ∙ ap (λ (a : Bool). a && list_any (is_end t) gap) y) fresh
    (same ∙ gap_swap (is_end t) (without_earlier_ends front gap) gap behind late_none none (end_late t front gap ∙ ap (λ (a : Bool). not a && list_any (is_end t) gap) y)) (inl (omega (arith, gap_past (is_start t) front (gap ++ behind) y, e))))
    (cases_Bool (list_any (is_start t) front)))
    (cases_Bool (list_any (is_end t) front))
  where
    ends : List Cell
    ends = earlier_ends front gap

    from : ℕ
    from = gap_of (is_start t) (front ++ (gap ++ behind))

    Goal : Type 0
    Goal = gap_of (is_end t) (front ++ (earlier_ends front gap ++ (new ++ late))) ≡ raised_end p n (gap_of (is_start t) (front ++ (gap ++ behind))) (gap_of (is_end t) (front ++ (gap ++ behind)))

    ends_none : lives_of (earlier_ends front gap) ≡ []
    ends_none = no_lives (ends_earlier front) gap none

    late_none : lives_of (without_earlier_ends front gap) ≡ []
    late_none = no_lives (λ (c : Cell). not (ends_earlier front c)) gap none

    far : list_any (is_end t) front ≡ false → list_any (is_end t) gap ≡ false → p < gap_of (is_end t) (front ++ (gap ++ behind))
    far x z =
        let last : list_any (is_end t) behind ≡ true = sym (any_join (is_end t) front (gap ++ behind) false (list_any (is_end t) behind) x (any_join (is_end t) gap behind false (list_any (is_end t) behind) z refl)) ∙ some in
        omega (arith, gap_past (is_end t) front (gap ++ behind) x, gap_past (is_end t) gap behind z, gap_behind (is_end t) behind (no_end_lives t) k last, e)

-- an edge, where some cells with their gaps become one gap
pub squash_low : (p n g : ℕ) → g < p → squashed p n g ≡ g
squash_low p n g lt = cond-true (nat_lt g p) g (if nat_le g (p + n) then p else g - n) (lt-ltb g p lt)

pub squash_far : (p n i : ℕ) → squashed p n (p + n + i) ≡ p + i
squash_far p n i = ⊎_elim {C = squashed p n (p + n + i) ≡ p + i}
    (λ lt. cond-false (nat_lt (p + n + i) p) (p + n + i) (if nat_le (p + n + i) (p + n) then p else p + n + i - n) (le-ltb (p + n + i) p (omega arith)) ∙ cond-false (nat_le (p + n + i) (p + n)) p (p + n + i - n) (lt-leb (p + n + i) (p + n) lt) ∙ omega arith)
    (λ le. squash_mid p n (p + n + i) (omega arith) le ∙ omega (arith, le))
    (cases_lt (p + n) (p + n + i))

pub edge_squashed : (test : Cell → Bool) (front out left behind : List Cell) (p n : ℕ) → EndsLive front → length (lives_of front) ≡ p → length (lives_of out) ≡ n → lives_of left ≡ [] → list_any test left ≡ list_any test out →
    gap_of test (front ++ (left ++ behind)) ≡ squashed p n (gap_of test (front ++ (out ++ behind)))
edge_squashed test front out left behind p n h e count none same = ⊎_elim {C = gap_of test (front ++ (left ++ behind)) ≡ squashed p n (gap_of test (front ++ (out ++ behind)))}
    (λ x. let old : gap_of test (front ++ (out ++ behind)) ≡ gap_of test front = gap_in test front (out ++ behind) x in
    gap_in test front (left ++ behind) x ∙ sym old ∙ sym (squash_low p n (gap_of test (front ++ (out ++ behind))) (omega (arith, old, gap_below test front h x, e))))
    (λ x. ⊎_elim {C = gap_of test (front ++ (left ++ behind)) ≡ squashed p n (gap_of test (front ++ (out ++ behind)))}
    (λ y. let old : gap_of test (front ++ (out ++ behind)) ≡ p + gap_of test out = omega (arith, gap_past test front (out ++ behind) x, gap_in test out behind y, e) in
    omega (arith, gap_past test front (left ++ behind) x, gap_in test left behind (same ∙ y), gap_none test left none, e, old, squash_mid p n (gap_of test (front ++ (out ++ behind))) (omega (arith, old)) (omega (arith, old, gap_within test out, count))))
    (λ y. let old : gap_of test (front ++ (out ++ behind)) ≡ p + n + gap_of test behind = omega (arith, gap_past test front (out ++ behind) x, gap_past test out behind y, e, count) in
    omega (arith, gap_past test front (left ++ behind) x, gap_past test left behind (same ∙ y), ap length none, e, ap (squashed p n) old, squash_far p n (gap_of test behind)))
    (cases_Bool (list_any test out)))
    (cases_Bool (list_any test front))
