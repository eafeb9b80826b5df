-- The groups of gaps after a comment.
use Rattle.std.proofs.Common.{◌≡◌, ℕ, zero, suc, ◌+◌, ◌≤◌, Bool, true, false, List, [], ◌∷◌, ◌++◌, refl, ap, ap₂, sym, ◌∙◌, length, arith, append_assoc, append-nil, filter, cond, Option, subst, ⊎_elim}
use Rattle.std.specs.Prelude.{◌||◌, ◌==◌, not}
use Rattle.std.specs.List.{list_any}
use Rattle.std.proofs.lemmas.Bool.{cases_Bool, or_parts}
use Rattle.std.proofs.lemmas.List.Folds.{list_any-append}
use Rattle.std.proofs.lemmas.List.Elements.{filter-append}
use Rattle.ranges_tracker.specs.declared.mark.Mark.{Mark}
use Rattle.flat_cells.specs.Row.{Cell, Live, Gone, Start, End, is_gone, is_start, is_end, lives_of, before, from_gap, gaps, behind, gap_of, ends_earlier, earlier_ends, without_earlier_ends, sorted_by, grouped}
use Rattle.flat_cells.specs.Step.{unthreaded, with_start, with_end, with_empty, threaded}
use Rattle.flat_cells.proofs.Parts.{whole, rest_whole, lives-append, no_lives, ends_before, begins_behind, gap_past}
use Rattle.flat_cells.proofs.Edges.{any_filter, filter_in, filter_out, start_earlier, start_late}
use Rattle.flat_cells.proofs.Inserting.{gap_lives, parts_of, front_length}
use Rattle.flat_cells.proofs.Commenting.{kept_by, other_start, start_lives, start_place, swap_eqb}
use Rattle.flat_cells.proofs.Groups.{InGroups, InGroupsBehind, SameStarts, same_back, behind_same, no_early, no_late, grouped_parts, late_sorted}
use Rattle.flat_cells.proofs.Grouping.{AreParts, regrouped, gap_grouped, behind_grouped}

-- without the starts and ends of a thread
before_either : (b : Bool) (c : Cell) (q : ℕ) (xs zs : List Cell) → ((x : List Cell) → before (suc q) (c ∷ x) ≡ c ∷ before (suc q) x) → before (suc q) xs ≡ zs → before (suc q) (cond b (c ∷ xs) xs) ≡ cond b (c ∷ zs) zs
before_either true c q xs zs h e = h xs ∙ ap (λ (x : List Cell). c ∷ x) e
before_either false c q xs zs h e = e

before_kept : (f : Cell → Bool) → ((u : ℕ) (o : Option Mark) → f (Live u o) ≡ true) → (q : ℕ) (cells : List Cell) → before q (filter f cells) ≡ filter f (before q cells)
before_kept f h zero cells = refl
before_kept f h (suc q) [] = refl
before_kept f h (suc q) (Live u o ∷ cs) = ap (before (suc q)) (filter_in f (Live u o) cs (h u o)) ∙ ap (λ (x : List Cell). Live u o ∷ x) (before_kept f h q cs) ∙ sym (filter_in f (Live u o) (before q cs) (h u o))
before_kept f h (suc q) (Gone u m ∷ cs) = before_either (f (Gone u m)) (Gone u m) q (filter f cs) (filter f (before (suc q) cs)) (λ x. refl) (before_kept f h (suc q) cs)
before_kept f h (suc q) (Start t ∷ cs) = before_either (f (Start t)) (Start t) q (filter f cs) (filter f (before (suc q) cs)) (λ x. refl) (before_kept f h (suc q) cs)
before_kept f h (suc q) (End t ∷ cs) = before_either (f (End t)) (End t) q (filter f cs) (filter f (before (suc q) cs)) (λ x. refl) (before_kept f h (suc q) cs)

from_either : (b : Bool) (c : Cell) (q : ℕ) (xs zs : List Cell) → ((x : List Cell) → from_gap (suc q) (c ∷ x) ≡ from_gap (suc q) x) → from_gap (suc q) xs ≡ zs → from_gap (suc q) (cond b (c ∷ xs) xs) ≡ zs
from_either true c q xs zs h e = h xs ∙ e
from_either false c q xs zs h e = e

from_kept : (f : Cell → Bool) → ((u : ℕ) (o : Option Mark) → f (Live u o) ≡ true) → (q : ℕ) (cells : List Cell) → from_gap q (filter f cells) ≡ filter f (from_gap q cells)
from_kept f h zero cells = refl
from_kept f h (suc q) [] = refl
from_kept f h (suc q) (Live u o ∷ cs) = ap (from_gap (suc q)) (filter_in f (Live u o) cs (h u o)) ∙ from_kept f h q cs
from_kept f h (suc q) (Gone u m ∷ cs) = from_either (f (Gone u m)) (Gone u m) q (filter f cs) (filter f (from_gap (suc q) cs)) (λ x. refl) (from_kept f h (suc q) cs)
from_kept f h (suc q) (Start t ∷ cs) = from_either (f (Start t)) (Start t) q (filter f cs) (filter f (from_gap (suc q) cs)) (λ x. refl) (from_kept f h (suc q) cs)
from_kept f h (suc q) (End t ∷ cs) = from_either (f (End t)) (End t) q (filter f cs) (filter f (from_gap (suc q) cs)) (λ x. refl) (from_kept f h (suc q) cs)

gap_either : (b : Bool) (c : Cell) (xs zs : List Cell) → ((x : List Cell) → gaps 0 (c ∷ x) ≡ c ∷ gaps 0 x) → gaps 0 xs ≡ zs → gaps 0 (cond b (c ∷ xs) xs) ≡ cond b (c ∷ zs) zs
gap_either true c xs zs h e = h xs ∙ ap (λ (x : List Cell). c ∷ x) e
gap_either false c xs zs h e = e

gap_kept : (f : Cell → Bool) → ((u : ℕ) (o : Option Mark) → f (Live u o) ≡ true) → (cells : List Cell) → gaps 0 (filter f cells) ≡ filter f (gaps 0 cells)
gap_kept f h [] = refl
gap_kept f h (Live u o ∷ cs) = ap (gaps 0) (filter_in f (Live u o) cs (h u o))
gap_kept f h (Gone u m ∷ cs) = gap_either (f (Gone u m)) (Gone u m) (filter f cs) (filter f (gaps 0 cs)) (λ x. refl) (gap_kept f h cs)
gap_kept f h (Start t ∷ cs) = gap_either (f (Start t)) (Start t) (filter f cs) (filter f (gaps 0 cs)) (λ x. refl) (gap_kept f h cs)
gap_kept f h (End t ∷ cs) = gap_either (f (End t)) (End t) (filter f cs) (filter f (gaps 0 cs)) (λ x. refl) (gap_kept f h cs)

-- two tests that agree on what a filter passes
filter_under : (p q k : Cell → Bool) → ((c : Cell) → k c ≡ true → p c ≡ q c) → (xs : List Cell) → filter p (filter k xs) ≡ filter k (filter q xs)
filter_under p q k h [] = refl
filter_under p q k h (x ∷ xs) = ⊎_elim {C = filter p (filter k (x ∷ xs)) ≡ filter k (filter q (x ∷ xs))}
    (λ a. ⊎_elim {C = filter p (filter k (x ∷ xs)) ≡ filter k (filter q (x ∷ xs))}
    (λ b. ap (filter p) (filter_in k x xs a) ∙ filter_in p x (filter k xs) (h x a ∙ b) ∙ ap (λ (y : List Cell). x ∷ y) (filter_under p q k h xs) ∙ sym (ap (filter k) (filter_in q x xs b) ∙ filter_in k x (filter q xs) a))
    (λ b. ap (filter p) (filter_in k x xs a) ∙ filter_out p x (filter k xs) (h x a ∙ b) ∙ filter_under p q k h xs ∙ sym (ap (filter k) (filter_out q x xs b)))
    (cases_Bool (q x)))
    (λ a. ⊎_elim {C = filter p (filter k (x ∷ xs)) ≡ filter k (filter q (x ∷ xs))}
    (λ b. ap (filter p) (filter_out k x xs a) ∙ filter_under p q k h xs ∙ sym (ap (filter k) (filter_in q x xs b) ∙ filter_out k x (filter q xs) a))
    (λ b. ap (filter p) (filter_out k x xs a) ∙ filter_under p q k h xs ∙ sym (ap (filter k) (filter_out q x xs b)))
    (cases_Bool (q x)))
    (cases_Bool (k x))

kept_earlier : (t : ℕ) (front : List Cell) (c : Cell) → kept_by t c ≡ true → ends_earlier (filter (kept_by t) front) c ≡ ends_earlier front c
kept_earlier t front (Live u o) e = refl
kept_earlier t front (Gone u m) e = refl
kept_earlier t front (Start s) e = refl
kept_earlier t front (End s) e = any_filter (is_start s) (kept_by t) true front (other_start s t (of_not (s == t) e))
  where
    of_not : (b : Bool) → not (false || b) ≡ true → b ≡ false
    of_not true e = cc
    of_not false e = refl

grouped_kept : (t : ℕ) (front cells : List Cell) → grouped (filter (kept_by t) front) (filter (kept_by t) cells) ≡ filter (kept_by t) (grouped front cells)
grouped_kept t front cells =
    let k = kept_by t in
    let f = filter k front in
    let late = without_earlier_ends front cells in
    let still = λ (c : Cell). not (is_gone c) in
    ap₂ (λ (x y : List Cell). x ++ sorted_by is_gone y) (filter_under (ends_earlier f) (ends_earlier front) k (kept_earlier t front) cells) (filter_under (λ (c : Cell). not (ends_earlier f c)) (λ (c : Cell). not (ends_earlier front c)) k (λ c e. ap not (kept_earlier t front c e)) cells)
    ∙ ap (λ (x : List Cell). filter k (earlier_ends front cells) ++ x) (ap₂ (λ (x y : List Cell). x ++ y) (filter_under is_gone is_gone k (λ c e. refl) late) (filter_under still still k (λ c e. refl) late) ∙ sym (filter-append k (filter is_gone late) (filter still late)))
    ∙ sym (filter-append k (earlier_ends front cells) (sorted_by is_gone late))

pub unthreaded_groups : (t : ℕ) (cells : List Cell) → InGroups [] cells → InGroups [] (unthreaded t cells)
unthreaded_groups t cells h q =
    let k = kept_by t in
    let place : before q (unthreaded t cells) ≡ filter k (before q cells) = before_kept k (λ u o. refl) q cells in
    let gap : gaps 0 (from_gap q (unthreaded t cells)) ≡ filter k (gaps 0 (from_gap q cells)) = ap (gaps 0) (from_kept k (λ u o. refl) q cells) ∙ gap_kept k (λ u o. refl) (from_gap q cells) in
    ap₂ grouped place gap ∙ grouped_kept t (before q cells) (gaps 0 (from_gap q cells)) ∙ ap (filter k) (h q) ∙ sym gap

-- where a thread begins that has no end behind
filter_but : (t : ℕ) (p q : Cell → Bool) → ((c : Cell) → is_end t c ≡ false → p c ≡ q c) → (xs : List Cell) → list_any (is_end t) xs ≡ false → filter p xs ≡ filter q xs
filter_but t p q h [] e = refl
filter_but t p q h (x ∷ xs) e = let a = or_parts (is_end t x) (list_any (is_end t) xs) e in ap₂ (λ (b : Bool) (z : List Cell). cond b (x ∷ z) z) (h x a.0) (filter_but t p q h xs a.1)

but_earlier : (t : ℕ) (f g : List Cell) → ((s : ℕ) → (s == t) ≡ false → list_any (is_start s) f ≡ list_any (is_start s) g) → (c : Cell) → is_end t c ≡ false → ends_earlier f c ≡ ends_earlier g c
but_earlier t f g h (Live u o) e = refl
but_earlier t f g h (Gone u m) e = refl
but_earlier t f g h (Start s) e = refl
but_earlier t f g h (End s) e = h s e

grouped_but : (t : ℕ) (f g cells : List Cell) → ((s : ℕ) → (s == t) ≡ false → list_any (is_start s) f ≡ list_any (is_start s) g) → list_any (is_end t) cells ≡ false → grouped f cells ≡ grouped g cells
grouped_but t f g cells h e =
    ap₂ (λ (x y : List Cell). x ++ sorted_by is_gone y) (filter_but t (ends_earlier f) (ends_earlier g) (but_earlier t f g h) cells e)
    (filter_but t (λ (c : Cell). not (ends_earlier f c)) (λ (c : Cell). not (ends_earlier g c)) (λ c k. ap not (but_earlier t f g h c k)) cells e)

less_part : (test : Cell → Bool) (xs ys zs : List Cell) → xs ++ ys ≡ zs → list_any test zs ≡ false → (list_any test xs ≡ false) × (list_any test ys ≡ false)
less_part test xs ys zs e h = or_parts (list_any test xs) (list_any test ys) (sym (list_any-append test xs ys) ∙ ap (list_any test) e ∙ h)

no_end_gap : (t q : ℕ) (cells : List Cell) → list_any (is_end t) cells ≡ false → list_any (is_end t) (gaps 0 (from_gap q cells)) ≡ false
no_end_gap t q cells h =
    let a = less_part (is_end t) (before q cells) (from_gap q cells) cells (whole q cells) h in
    (less_part (is_end t) (gaps 0 (from_gap q cells)) (behind 0 (from_gap q cells)) (from_gap q cells) (rest_whole 0 (from_gap q cells)) a.1).0

behind_but : (t : ℕ) (f g cells : List Cell) → ((s : ℕ) → (s == t) ≡ false → list_any (is_start s) g ≡ list_any (is_start s) f) → list_any (is_end t) cells ≡ false → InGroupsBehind f cells → InGroupsBehind g cells
behind_but t f g cells h e k q =
    let z = before (suc q) cells in
    grouped_but t (g ++ z) (f ++ z) (gaps 0 (from_gap (suc q) cells)) (λ s n. list_any-append (is_start s) g z ∙ ap (λ (b : Bool). b || list_any (is_start s) z) (h s n) ∙ sym (list_any-append (is_start s) f z)) (no_end_gap t (suc q) cells e) ∙ k q

-- a gap in groups is its earlier ends and then the others
gap_split : (front gap : List Cell) → grouped front gap ≡ gap → earlier_ends front gap ++ without_earlier_ends front gap ≡ gap
gap_split front gap h = ap (λ (x : List Cell). earlier_ends front gap ++ x) (sym (late_sorted front gap h)) ∙ h

-- starts and ends that come last in a gap
grouped_last : (front gap tail : List Cell) → grouped front gap ≡ gap → list_any (ends_earlier front) tail ≡ false → filter is_gone tail ≡ [] → filter (λ (c : Cell). not (is_gone c)) tail ≡ tail → grouped front (gap ++ tail) ≡ gap ++ tail
grouped_last front gap tail h e g o =
    let ends = earlier_ends front gap in
    let late = without_earlier_ends front gap in
    let still = λ (c : Cell). not (is_gone c) in
    let split : ends ++ (late ++ tail) ≡ gap ++ tail = sym (append_assoc ends late tail) ∙ ap (λ (x : List Cell). x ++ tail) (gap_split front gap h) in
    let sorted : sorted_by is_gone (late ++ tail) ≡ late ++ tail =
    ap₂ (λ (x y : List Cell). x ++ y) (filter-append is_gone late tail ∙ ap (λ (x : List Cell). filter is_gone late ++ x) g ∙ append-nil (filter is_gone late)) (filter-append still late tail ∙ ap (λ (x : List Cell). filter still late ++ x) o)
    ∙ sym (append_assoc (filter is_gone late) (filter still late) tail) ∙ ap (λ (x : List Cell). x ++ tail) (late_sorted front gap h) in
    subst (λ (x : List Cell). grouped front x ≡ x) split (grouped_parts front ends (late ++ tail) (no_late front gap) (list_any-append (ends_earlier front) late tail ∙ ap₂ (λ (a b : Bool). a || b) (no_early front gap) e) sorted)

last_groups : (t : ℕ) (front gap rest tail : List Cell) → AreParts front gap rest → list_any (is_end t) rest ≡ false → lives_of tail ≡ [] → list_any (ends_earlier front) tail ≡ false → filter is_gone tail ≡ [] → filter (λ (c : Cell). not (is_gone c)) tail ≡ tail → ((s : ℕ) → (s == t) ≡ false → list_any (is_start s) tail ≡ false) → InGroups [] (front ++ ((gap ++ tail) ++ rest))
last_groups t front gap rest tail h e none early g o start =
    regrouped front gap (gap ++ tail) rest h.ends h.begins h.groups (lives-append gap tail ∙ ap₂ (λ x y. x ++ y) h.none none) (grouped_last front gap tail (gap_grouped front gap rest h) early g o)
    (behind_but t (front ++ gap) (front ++ (gap ++ tail)) rest same e (behind_grouped front gap rest h))
  where
    or_false : (b : Bool) → (b || false) ≡ b
    or_false true = refl
    or_false false = refl

    same : (s : ℕ) → (s == t) ≡ false → list_any (is_start s) (front ++ (gap ++ tail)) ≡ list_any (is_start s) (front ++ gap)
    same s n = ap (list_any (is_start s)) (sym (append_assoc front gap tail)) ∙ list_any-append (is_start s) (front ++ gap) tail ∙ ap (λ (b : Bool). list_any (is_start s) (front ++ gap) || b) (start s n) ∙ or_false (list_any (is_start s) (front ++ gap))

pub parts_at : (at : ℕ) (cells : List Cell) → at ≤ length (lives_of cells) → InGroups [] cells → AreParts (before at cells) (gaps 0 (from_gap at cells)) (behind 0 (from_gap at cells))
parts_at at cells le h = record { ends = ends_before at cells le; none = gap_lives at cells; begins = begins_behind 0 (from_gap at cells); groups = subst (InGroups []) (sym (parts_of at cells)) h }

pub no_end_behind : (t at : ℕ) (cells : List Cell) → list_any (is_end t) cells ≡ false → list_any (is_end t) (behind 0 (from_gap at cells)) ≡ false
no_end_behind t at cells h =
    let a = less_part (is_end t) (before at cells) (from_gap at cells) cells (whole at cells) h in
    (less_part (is_end t) (gaps 0 (from_gap at cells)) (behind 0 (from_gap at cells)) (from_gap at cells) (rest_whole 0 (from_gap at cells)) a.1).1

pub start_groups : (t at : ℕ) (cells : List Cell) → at ≤ length (lives_of cells) → list_any (is_end t) cells ≡ false → InGroups [] cells → InGroups [] (with_start t at cells)
start_groups t at cells le e h =
    let front = before at cells in
    let gap = gaps 0 (from_gap at cells) in
    let rest = behind 0 (from_gap at cells) in
    subst (InGroups []) (ap (λ (x : List Cell). front ++ x) (append_assoc gap (Start t ∷ []) rest))
    (last_groups t front gap rest (Start t ∷ []) (parts_at at cells le h) (no_end_behind t at cells e) refl refl refl refl (λ s n. ap (λ (b : Bool). b || false) (swap_eqb s t n)))

pub empty_groups : (t at : ℕ) (cells : List Cell) → at ≤ length (lives_of cells) → list_any (is_start t) cells ≡ false → list_any (is_end t) cells ≡ false → InGroups [] cells → InGroups [] (with_empty t at cells)
empty_groups t at cells le s e h =
    let front = before at cells in
    let gap = gaps 0 (from_gap at cells) in
    let rest = behind 0 (from_gap at cells) in
    let begins : list_any (is_start t) front ≡ false = (less_part (is_start t) front (from_gap at cells) cells (whole at cells) s).0 in
    subst (InGroups []) (ap (λ (x : List Cell). front ++ x) (append_assoc gap (Start t ∷ (End t ∷ [])) rest))
    (last_groups t front gap rest (Start t ∷ (End t ∷ [])) (parts_at at cells le h) (no_end_behind t at cells e) refl (ap (λ (b : Bool). b || false) begins) refl refl (λ x n. ap (λ (b : Bool). b || false) (swap_eqb x t n)))

-- an end that comes last among the ends of its gap, where its thread begins before
pub end_groups : (t at : ℕ) (cells : List Cell) → at ≤ length (lives_of cells) → list_any (is_start t) (before at cells) ≡ true → InGroups [] cells → InGroups [] (with_end t at cells)
end_groups t at cells le s h =
    let front = before at cells in
    let gap = gaps 0 (from_gap at cells) in
    let rest = behind 0 (from_gap at cells) in
    let ends = earlier_ends front gap in
    let late = without_earlier_ends front gap in
    let parts = parts_at at cells le h in
    let ok : grouped front gap ≡ gap = gap_grouped front gap rest parts in
    let joined : (ends ++ (End t ∷ [])) ++ late ≡ ends ++ (End t ∷ late) = append_assoc ends (End t ∷ []) late in
    let none : lives_of (ends ++ (End t ∷ late)) ≡ [] = lives-append ends (End t ∷ late) ∙ ap₂ (λ x y. x ++ y) (no_lives (ends_earlier front) gap parts.none) (no_lives (λ (c : Cell). not (ends_earlier front c)) gap parts.none) in
    let group : grouped front (ends ++ (End t ∷ late)) ≡ ends ++ (End t ∷ late) = subst (λ (x : List Cell). grouped front x ≡ x) joined
    (grouped_parts front (ends ++ (End t ∷ [])) late (list_any-append (λ (c : Cell). not (ends_earlier front c)) ends (End t ∷ []) ∙ ap₂ (λ (a b : Bool). a || (not b || false)) (no_late front gap) s) (no_early front gap) (late_sorted front gap ok)) in
    let same : SameStarts gap (ends ++ (End t ∷ late)) = λ x. sym (list_any-append (is_start x) ends (End t ∷ late) ∙ ap₂ (λ (a b : Bool). a || b) (start_earlier x front gap) (start_late x front gap)) in
    subst (InGroups []) (ap (λ (x : List Cell). front ++ x) (append_assoc ends (End t ∷ late) rest))
    (regrouped front gap (ends ++ (End t ∷ late)) rest parts.ends parts.begins parts.groups none group (behind_same (front ++ gap) (front ++ (ends ++ (End t ∷ late))) rest (same_back front gap (ends ++ (End t ∷ late)) same) (behind_grouped front gap rest parts)))

-- a thread begins before each gap behind that of its start
pub begins_before : (t at n : ℕ) (cells : List Cell) → at + suc n ≤ length (lives_of cells) → list_any (is_start t) cells ≡ false → list_any (is_start t) (before (at + suc n) (with_start t at cells)) ≡ true
begins_before t at n cells le s =
    let begun = with_start t at cells in
    let p = at + suc n in
    let count : length (lives_of (before p begun)) ≡ p = front_length p begun (subst (λ x. p ≤ length x) (sym (start_lives t at cells)) le) in
    ⊎_elim {C = list_any (is_start t) (before p begun) ≡ true}
    (λ e. e)
    (λ e. absurd (omega (arith, ap (gap_of (is_start t)) (whole p begun) ∙ start_place t at cells (omega (arith, le)) s, gap_past (is_start t) (before p begun) (from_gap p begun) e, count)))
    (cases_Bool (list_any (is_start t) (before p begun)))

pub threaded_groups : (t at n : ℕ) (cells : List Cell) → at + n ≤ length (lives_of cells) → list_any (is_start t) cells ≡ false → list_any (is_end t) cells ≡ false → InGroups [] cells → InGroups [] (threaded t at n cells)
threaded_groups t at zero cells le s e h = empty_groups t at cells (omega (arith, le)) s e h
threaded_groups t at (suc n) cells le s e h =
    end_groups t (at + suc n) (with_start t at cells) (subst (λ x. at + suc n ≤ length x) (sym (start_lives t at cells)) le) (begins_before t at n cells le s) (start_groups t at cells (omega (arith, le)) e h)
