-- The gaps of a flat row stay in their three groups.
use Rattle.std.proofs.Common.{◌≡◌, ℕ, zero, suc, ◌+◌, ◌-◌, ◌<◌, Bool, true, false, List, [], ◌∷◌, ◌++◌, refl, ap, ap₂, sym, ◌∙◌, length, arith, append_assoc, append-nil, filter, ⊎_elim}
use Rattle.std.specs.Prelude.{◌||◌, not}
use Rattle.std.specs.List.{list_any}
use Rattle.std.proofs.lemmas.Bool.{cases_Bool, cases_lt, or_parts, not-true}
use Rattle.std.proofs.lemmas.List.Folds.{list_any-append}
use Rattle.std.proofs.lemmas.List.Elements.{filter-append, filter_agree}
use Rattle.flat_cells.specs.Row.{Cell, Live, Gone, Start, End, is_gone, is_start, lives_of, before, from_gap, gaps, ends_earlier, earlier_ends, without_earlier_ends, sorted_by, grouped}
use Rattle.flat_cells.proofs.Parts.{EndsLive, BeginsLive}
use Rattle.flat_cells.proofs.Edges.{filter_in, filter_out, any_sorted}

-- groups of the gaps behind some front, and without the first of them
abbrev pub InGroups : List Cell → List Cell → Type 0
InGroups front cells = (q : ℕ) → grouped (front ++ before q cells) (gaps 0 (from_gap q cells)) ≡ gaps 0 (from_gap q cells)

abbrev pub InGroupsBehind : List Cell → List Cell → Type 0
InGroupsBehind front cells = (q : ℕ) → grouped (front ++ before (suc q) cells) (gaps 0 (from_gap (suc q) cells)) ≡ gaps 0 (from_gap (suc q) cells)

-- the gaps within a part
before_near : (q : ℕ) (xs ys : List Cell) → q < length (lives_of xs) → before q (xs ++ ys) ≡ before q xs
before_near zero xs ys lt = refl
before_near (suc q) [] ys lt = absurd (omega (arith, lt))
before_near (suc q) (Live u o ∷ cs) ys lt = ap (λ (x : List Cell). Live u o ∷ x) (before_near q cs ys (omega (arith, lt)))
before_near (suc q) (Gone u m ∷ cs) ys lt = ap (λ (x : List Cell). Gone u m ∷ x) (before_near (suc q) cs ys lt)
before_near (suc q) (Start t ∷ cs) ys lt = ap (λ (x : List Cell). Start t ∷ x) (before_near (suc q) cs ys lt)
before_near (suc q) (End t ∷ cs) ys lt = ap (λ (x : List Cell). End t ∷ x) (before_near (suc q) cs ys lt)

first_near : (xs ys : List Cell) → 0 < length (lives_of xs) → gaps 0 (xs ++ ys) ≡ gaps 0 xs
first_near [] ys lt = absurd (omega (arith, lt))
first_near (Live u o ∷ cs) ys lt = refl
first_near (Gone u m ∷ cs) ys lt = ap (λ (x : List Cell). Gone u m ∷ x) (first_near cs ys lt)
first_near (Start t ∷ cs) ys lt = ap (λ (x : List Cell). Start t ∷ x) (first_near cs ys lt)
first_near (End t ∷ cs) ys lt = ap (λ (x : List Cell). End t ∷ x) (first_near cs ys lt)

gap_near : (q : ℕ) (xs ys : List Cell) → q < length (lives_of xs) → gaps 0 (from_gap q (xs ++ ys)) ≡ gaps 0 (from_gap q xs)
gap_near zero xs ys lt = first_near xs ys lt
gap_near (suc q) [] ys lt = absurd (omega (arith, lt))
gap_near (suc q) (Live u o ∷ cs) ys lt = gap_near q cs ys (omega (arith, lt))
gap_near (suc q) (Gone u m ∷ cs) ys lt = gap_near (suc q) cs ys lt
gap_near (suc q) (Start t ∷ cs) ys lt = gap_near (suc q) cs ys lt
gap_near (suc q) (End t ∷ cs) ys lt = gap_near (suc q) cs ys lt

-- the gaps behind it
before_far : (r q : ℕ) (xs ys : List Cell) → EndsLive xs → r ≡ length (lives_of xs) + q → before r (xs ++ ys) ≡ xs ++ before q ys
before_far r q [] ys h e = ap (λ (n : ℕ). before n ys) (omega (arith, e))
before_far zero q (Live u o ∷ cs) ys h e = absurd (omega (arith, e))
before_far (suc r) q (Live u o ∷ cs) ys h e = ap (λ (x : List Cell). Live u o ∷ x) (before_far r q cs ys h.1 (omega (arith, e)))
before_far zero q (Gone u m ∷ cs) ys h e = absurd (omega (arith, e, h.0))
before_far (suc r) q (Gone u m ∷ cs) ys h e = ap (λ (x : List Cell). Gone u m ∷ x) (before_far (suc r) q cs ys h.1 e)
before_far zero q (Start t ∷ cs) ys h e = absurd (omega (arith, e, h.0))
before_far (suc r) q (Start t ∷ cs) ys h e = ap (λ (x : List Cell). Start t ∷ x) (before_far (suc r) q cs ys h.1 e)
before_far zero q (End t ∷ cs) ys h e = absurd (omega (arith, e, h.0))
before_far (suc r) q (End t ∷ cs) ys h e = ap (λ (x : List Cell). End t ∷ x) (before_far (suc r) q cs ys h.1 e)

from_far : (r q : ℕ) (xs ys : List Cell) → EndsLive xs → r ≡ length (lives_of xs) + q → from_gap r (xs ++ ys) ≡ from_gap q ys
from_far r q [] ys h e = ap (λ (n : ℕ). from_gap n ys) (omega (arith, e))
from_far zero q (Live u o ∷ cs) ys h e = absurd (omega (arith, e))
from_far (suc r) q (Live u o ∷ cs) ys h e = from_far r q cs ys h.1 (omega (arith, e))
from_far zero q (Gone u m ∷ cs) ys h e = absurd (omega (arith, e, h.0))
from_far (suc r) q (Gone u m ∷ cs) ys h e = from_far (suc r) q cs ys h.1 e
from_far zero q (Start t ∷ cs) ys h e = absurd (omega (arith, e, h.0))
from_far (suc r) q (Start t ∷ cs) ys h e = from_far (suc r) q cs ys h.1 e
from_far zero q (End t ∷ cs) ys h e = absurd (omega (arith, e, h.0))
from_far (suc r) q (End t ∷ cs) ys h e = from_far (suc r) q cs ys h.1 e

before_over : (r q : ℕ) (xs ys : List Cell) → r ≡ length (lives_of xs) + suc q → before r (xs ++ ys) ≡ xs ++ before (suc q) ys
before_over r q [] ys e = ap (λ (n : ℕ). before n ys) {y = suc q} (omega (arith, e))
before_over zero q (c ∷ cs) ys e = absurd (omega (arith, e))
before_over (suc r) q (Live u o ∷ cs) ys e = ap (λ (x : List Cell). Live u o ∷ x) (before_over r q cs ys (omega (arith, e)))
before_over (suc r) q (Gone u m ∷ cs) ys e = ap (λ (x : List Cell). Gone u m ∷ x) (before_over (suc r) q cs ys e)
before_over (suc r) q (Start t ∷ cs) ys e = ap (λ (x : List Cell). Start t ∷ x) (before_over (suc r) q cs ys e)
before_over (suc r) q (End t ∷ cs) ys e = ap (λ (x : List Cell). End t ∷ x) (before_over (suc r) q cs ys e)

from_over : (r q : ℕ) (xs ys : List Cell) → r ≡ length (lives_of xs) + suc q → from_gap r (xs ++ ys) ≡ from_gap (suc q) ys
from_over r q [] ys e = ap (λ (n : ℕ). from_gap n ys) {y = suc q} (omega (arith, e))
from_over zero q (c ∷ cs) ys e = absurd (omega (arith, e))
from_over (suc r) q (Live u o ∷ cs) ys e = from_over r q cs ys (omega (arith, e))
from_over (suc r) q (Gone u m ∷ cs) ys e = from_over (suc r) q cs ys e
from_over (suc r) q (Start t ∷ cs) ys e = from_over (suc r) q cs ys e
from_over (suc r) q (End t ∷ cs) ys e = from_over (suc r) q cs ys e

first_gap : (gap rest : List Cell) → lives_of gap ≡ [] → BeginsLive rest → gaps 0 (gap ++ rest) ≡ gap
first_gap [] [] e h = refl
first_gap [] (Live u o ∷ cs) e h = refl
first_gap [] (Gone u m ∷ cs) e h = absurd h
first_gap [] (Start t ∷ cs) e h = absurd h
first_gap [] (End t ∷ cs) e h = absurd h
first_gap (Live u o ∷ cs) rest e h = cc
first_gap (Gone u m ∷ cs) rest e h = ap (λ (x : List Cell). Gone u m ∷ x) (first_gap cs rest e h)
first_gap (Start t ∷ cs) rest e h = ap (λ (x : List Cell). Start t ∷ x) (first_gap cs rest e h)
first_gap (End t ∷ cs) rest e h = ap (λ (x : List Cell). End t ∷ x) (first_gap cs rest e h)

-- at one place in equal rows
groups_at : (f g z w : List Cell) → f ≡ g → z ≡ w → grouped f z ≡ z → grouped g w ≡ w
groups_at f g z w e d h = sym (ap₂ grouped e d) ∙ h ∙ d

-- what stands behind a part, and behind a part that ends with a live cell
pub groups_behind : (front xs ys : List Cell) → InGroups front (xs ++ ys) → InGroupsBehind (front ++ xs) ys
groups_behind front xs ys h q =
    let r = length (lives_of xs) + suc q in
    groups_at (front ++ before r (xs ++ ys)) ((front ++ xs) ++ before (suc q) ys) (gaps 0 (from_gap r (xs ++ ys))) (gaps 0 (from_gap (suc q) ys))
    (ap (λ (x : List Cell). front ++ x) (before_over r q xs ys refl) ∙ sym (append_assoc front xs (before (suc q) ys))) (ap (gaps 0) (from_over r q xs ys refl)) (h r)

pub groups_from : (front xs ys : List Cell) → EndsLive xs → InGroups front (xs ++ ys) → InGroups (front ++ xs) ys
groups_from front xs ys b h q =
    let r = length (lives_of xs) + q in
    groups_at (front ++ before r (xs ++ ys)) ((front ++ xs) ++ before q ys) (gaps 0 (from_gap r (xs ++ ys))) (gaps 0 (from_gap q ys))
    (ap (λ (x : List Cell). front ++ x) (before_far r q xs ys b refl) ∙ sym (append_assoc front xs (before q ys))) (ap (gaps 0) (from_far r q xs ys b refl)) (h r)

-- another rest behind the same part
pub groups_replaced : (front xs ys zs : List Cell) → EndsLive xs → InGroups front (xs ++ ys) → InGroups (front ++ xs) zs → InGroups front (xs ++ zs)
groups_replaced front xs ys zs b h k q = ⊎_elim {C = grouped (front ++ before q (xs ++ zs)) (gaps 0 (from_gap q (xs ++ zs))) ≡ gaps 0 (from_gap q (xs ++ zs))}
    (λ lt. groups_at (front ++ before q (xs ++ ys)) (front ++ before q (xs ++ zs)) (gaps 0 (from_gap q (xs ++ ys))) (gaps 0 (from_gap q (xs ++ zs)))
    (ap (λ (x : List Cell). front ++ x) (before_near q xs ys lt ∙ sym (before_near q xs zs lt))) (gap_near q xs ys lt ∙ sym (gap_near q xs zs lt)) (h q))
    (λ ge. let r = q - length (lives_of xs) in let e : q ≡ length (lives_of xs) + r = omega (arith, ge) in
    groups_at ((front ++ xs) ++ before r zs) (front ++ before q (xs ++ zs)) (gaps 0 (from_gap r zs)) (gaps 0 (from_gap q (xs ++ zs)))
    (append_assoc front xs (before r zs) ∙ ap (λ (x : List Cell). front ++ x) (sym (before_far q r xs zs b e))) (ap (gaps 0) (sym (from_far q r xs zs b e))) (k r))
    (cases_lt q (length (lives_of xs)))

-- a gap and what is behind it
pub groups_made : (front gap rest : List Cell) → lives_of gap ≡ [] → BeginsLive rest → grouped front gap ≡ gap → InGroupsBehind (front ++ gap) rest → InGroups front (gap ++ rest)
groups_made front gap rest none b h k zero = groups_at front (front ++ []) gap (gaps 0 (gap ++ rest)) (sym (append-nil front)) (sym (first_gap gap rest none b)) h
groups_made front gap rest none b h k (suc q) =
    let e : suc q ≡ length (lives_of gap) + suc q = omega (arith, ap length none) in
    groups_at ((front ++ gap) ++ before (suc q) rest) (front ++ before (suc q) (gap ++ rest)) (gaps 0 (from_gap (suc q) rest)) (gaps 0 (from_gap (suc q) (gap ++ rest)))
    (append_assoc front gap (before (suc q) rest) ∙ ap (λ (x : List Cell). front ++ x) (sym (before_over (suc q) q gap rest e))) (ap (gaps 0) (sym (from_over (suc q) q gap rest e))) (k q)

pub groups_first : (front gap rest : List Cell) → lives_of gap ≡ [] → BeginsLive rest → InGroups front (gap ++ rest) → grouped front gap ≡ gap
groups_first front gap rest none b h = groups_at (front ++ []) front (gaps 0 (gap ++ rest)) gap (append-nil front) (first_gap gap rest none b) (h zero)

-- fronts in which the same threads begin
abbrev pub SameStarts : List Cell → List Cell → Type 0
SameStarts f g = (t : ℕ) → list_any (is_start t) f ≡ list_any (is_start t) g

same_earlier : (f g : List Cell) → SameStarts f g → (c : Cell) → ends_earlier f c ≡ ends_earlier g c
same_earlier f g h (Live u o) = refl
same_earlier f g h (Gone u m) = refl
same_earlier f g h (Start t) = refl
same_earlier f g h (End t) = h t

pub grouped_same : (f g cells : List Cell) → SameStarts f g → grouped f cells ≡ grouped g cells
grouped_same f g cells h = ap₂ (λ (x y : List Cell). x ++ sorted_by is_gone y) (filter_agree (ends_earlier f) (ends_earlier g) (same_earlier f g h) cells) (filter_agree (λ (c : Cell). not (ends_earlier f c)) (λ (c : Cell). not (ends_earlier g c)) (λ c. ap not (same_earlier f g h c)) cells)

pub same_front : (f g cells : List Cell) → SameStarts f g → SameStarts (f ++ cells) (g ++ cells)
same_front f g cells h t = list_any-append (is_start t) f cells ∙ ap (λ (b : Bool). b || list_any (is_start t) cells) (h t) ∙ sym (list_any-append (is_start t) g cells)

pub same_back : (f xs ys : List Cell) → SameStarts xs ys → SameStarts (f ++ xs) (f ++ ys)
same_back f xs ys h t = list_any-append (is_start t) f xs ∙ ap (λ (b : Bool). list_any (is_start t) f || b) (h t) ∙ sym (list_any-append (is_start t) f ys)

pub behind_same : (f g cells : List Cell) → SameStarts f g → InGroupsBehind f cells → InGroupsBehind g cells
behind_same f g cells h k q = grouped_same (g ++ before (suc q) cells) (f ++ before (suc q) cells) (gaps 0 (from_gap (suc q) cells)) (λ t. sym (same_front f g (before (suc q) cells) h t)) ∙ k q

-- filters of parts that pass, or don't
pub filter_all : (f : Cell → Bool) (xs : List Cell) → list_any (λ (c : Cell). not (f c)) xs ≡ false → filter f xs ≡ xs
filter_all f [] h = refl
filter_all f (x ∷ xs) h = let p = or_parts (not (f x)) (list_any (λ (c : Cell). not (f c)) xs) h in filter_in f x xs (turn (f x) p.0) ∙ ap (λ (y : List Cell). x ∷ y) (filter_all f xs p.1)
  where
    turn : (b : Bool) → not b ≡ false → b ≡ true
    turn true e = refl
    turn false e = cc

pub filter_nothing : (f : Cell → Bool) (xs : List Cell) → list_any f xs ≡ false → filter f xs ≡ []
filter_nothing f [] h = refl
filter_nothing f (x ∷ xs) h = let p = or_parts (f x) (list_any f xs) h in filter_out f x xs p.0 ∙ filter_nothing f xs p.1

none_in : (f g : Cell → Bool) → ((c : Cell) → g c ≡ true → f c ≡ false) → (xs : List Cell) → list_any f (filter g xs) ≡ false
none_in f g h [] = refl
none_in f g h (x ∷ xs) = ⊎_elim {C = list_any f (filter g (x ∷ xs)) ≡ false}
    (λ e. ap (list_any f) (filter_in g x xs e) ∙ ap₂ (λ (a b : Bool). a || b) (h x e) (none_in f g h xs))
    (λ e. ap (list_any f) (filter_out g x xs e) ∙ none_in f g h xs)
    (cases_Bool (g x))

not_true : (b : Bool) → b ≡ true → not b ≡ false
not_true true e = refl
not_true false e = cc

-- no early end among late cells, nor a late cell among early ends
pub no_early : (front cells : List Cell) → list_any (ends_earlier front) (without_earlier_ends front cells) ≡ false
no_early front cells = none_in (ends_earlier front) (λ (c : Cell). not (ends_earlier front c)) (λ c e. not-true (ends_earlier front c) e) cells

pub no_late : (front cells : List Cell) → list_any (λ (c : Cell). not (ends_earlier front c)) (earlier_ends front cells) ≡ false
no_late front cells = none_in (λ (c : Cell). not (ends_earlier front c)) (ends_earlier front) (λ c e. not_true (ends_earlier front c) e) cells

-- early ends in front of late cells that are sorted
pub grouped_parts : (front ends late : List Cell) → list_any (λ (c : Cell). not (ends_earlier front c)) ends ≡ false → list_any (ends_earlier front) late ≡ false → sorted_by is_gone late ≡ late → grouped front (ends ++ late) ≡ ends ++ late
grouped_parts front ends late h k s =
    let early = ends_earlier front in
    let other = λ (c : Cell). not (ends_earlier front c) in
    ap₂ (λ (x y : List Cell). x ++ sorted_by is_gone y)
    (filter-append early ends late ∙ ap₂ (λ (x y : List Cell). x ++ y) (filter_all early ends h) (filter_nothing early late k) ∙ append-nil ends)
    (filter-append other ends late ∙ ap₂ (λ (x y : List Cell). x ++ y) (filter_nothing other ends h) (filter_all other late (twice late k)))
    ∙ ap (λ (x : List Cell). ends ++ x) s
  where
    twice : (xs : List Cell) → list_any (ends_earlier front) xs ≡ false → list_any (λ (c : Cell). not (not (ends_earlier front c))) xs ≡ false
    twice [] e = refl
    twice (x ∷ xs) e = let p = or_parts (ends_earlier front x) (list_any (ends_earlier front) xs) e in ap₂ (λ (a b : Bool). a || b) (ap not (ap not p.0)) (twice xs p.1)

-- cells sorted once are sorted
pub sorted_twice : (f : Cell → Bool) (xs : List Cell) → sorted_by f (sorted_by f xs) ≡ sorted_by f xs
sorted_twice f xs =
    let g = λ (c : Cell). not (f c) in
    ap₂ (λ (x y : List Cell). x ++ y)
    (filter-append f (filter f xs) (filter g xs) ∙ ap₂ (λ (x y : List Cell). x ++ y) (filter_all f (filter f xs) (none_in g f (λ c e. not_true (f c) e) xs)) (filter_nothing f (filter g xs) (none_in f g (λ c e. not-true (f c) e) xs)) ∙ append-nil (filter f xs))
    (filter-append g (filter f xs) (filter g xs) ∙ ap₂ (λ (x y : List Cell). x ++ y) (filter_nothing g (filter f xs) (none_in g f (λ c e. not_true (f c) e) xs)) (filter_all g (filter g xs) (none_in (λ (c : Cell). not (g c)) g (λ c e. not_true (g c) e) xs)))

pub grouped_twice : (front cells : List Cell) → grouped front (grouped front cells) ≡ grouped front cells
grouped_twice front cells =
    let late = without_earlier_ends front cells in
    grouped_parts front (earlier_ends front cells) (sorted_by is_gone late) (no_late front cells) (any_sorted (ends_earlier front) is_gone late ∙ no_early front cells) (sorted_twice is_gone late)

-- the late cells of a gap in groups are sorted
pub late_sorted : (front gap : List Cell) → grouped front gap ≡ gap → sorted_by is_gone (without_earlier_ends front gap) ≡ without_earlier_ends front gap
late_sorted front gap h =
    let late = without_earlier_ends front gap in
    let other = λ (c : Cell). not (ends_earlier front c) in
    sym (sym (ap (filter other) h) ∙ filter-append other (earlier_ends front gap) (sorted_by is_gone late)
    ∙ ap₂ (λ (x y : List Cell). x ++ y) (filter_nothing other (earlier_ends front gap) (no_late front gap))
    (filter-append other (filter is_gone late) (filter (λ (c : Cell). not (is_gone c)) late)
    ∙ ap₂ (λ (x y : List Cell). x ++ y) (swapped other is_gone (filter other gap) (again gap)) (swapped other (λ (c : Cell). not (is_gone c)) (filter other gap) (again gap))))
  where
    again : (xs : List Cell) → filter (λ (c : Cell). not (ends_earlier front c)) (filter (λ (c : Cell). not (ends_earlier front c)) xs) ≡ filter (λ (c : Cell). not (ends_earlier front c)) xs
    again xs = filter_all (λ (c : Cell). not (ends_earlier front c)) (filter (λ (c : Cell). not (ends_earlier front c)) xs) (none_in (λ (c : Cell). not (not (ends_earlier front c))) (λ (c : Cell). not (ends_earlier front c)) (λ c e. not_true (not (ends_earlier front c)) e) xs)

    swapped : (f g : Cell → Bool) (xs : List Cell) → filter f xs ≡ xs → filter f (filter g xs) ≡ filter g xs
    swapped f g xs e = comm f g xs ∙ ap (filter g) e
      where
        comm : (f g : Cell → Bool) (xs : List Cell) → filter f (filter g xs) ≡ filter g (filter f xs)
        comm f g [] = refl
        comm f g (x ∷ xs) = ⊎_elim {C = filter f (filter g (x ∷ xs)) ≡ filter g (filter f (x ∷ xs))}
            (λ a. ⊎_elim {C = filter f (filter g (x ∷ xs)) ≡ filter g (filter f (x ∷ xs))}
            (λ b. ap (filter f) (filter_in g x xs b) ∙ filter_in f x (filter g xs) a ∙ ap (λ (y : List Cell). x ∷ y) (comm f g xs) ∙ sym (ap (filter g) (filter_in f x xs a) ∙ filter_in g x (filter f xs) b))
            (λ b. ap (filter f) (filter_out g x xs b) ∙ comm f g xs ∙ sym (ap (filter g) (filter_in f x xs a) ∙ filter_out g x (filter f xs) b))
            (cases_Bool (g x)))
            (λ a. ⊎_elim {C = filter f (filter g (x ∷ xs)) ≡ filter g (filter f (x ∷ xs))}
            (λ b. ap (filter f) (filter_in g x xs b) ∙ filter_out f x (filter g xs) a ∙ comm f g xs ∙ sym (ap (filter g) (filter_out f x xs a)))
            (λ b. ap (filter f) (filter_out g x xs b) ∙ comm f g xs ∙ sym (ap (filter g) (filter_out f x xs a)))
            (cases_Bool (g x)))
            (cases_Bool (f x))
