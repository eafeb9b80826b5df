-- Gone cells of one mark stay neighbours through the parts of a flat row.
use Rattle.std.proofs.Common.{◌≡◌, ℕ, ◌≤◌, Bool, true, false, List, [], ◌∷◌, ◌++◌, refl, ap, sym, ◌∙◌, length, arith, map, filter, cond, Option, Some, None, subst, ⊎_elim, ◌⊎◌, inl, inr}
use Rattle.std.specs.Prelude.{◌||◌, not, if◌then◌else◌}
use Rattle.std.specs.List.{list_any, flat_map}
use Rattle.std.proofs.lemmas.Bool.{cases_Bool, or_parts, or_cases, or_left, or_right, cond-true, cond-false}
use Rattle.std.proofs.lemmas.List.Folds.{list_any-append}
use Rattle.ranges_tracker.specs.declared.mark.Mark.{Mark}
use Rattle.ranges_tracker.specs.declared.stamp.Stamp.{Stamp}
use Rattle.ranges_tracker.specs.Cells.{same_mark, renewed}
use Rattle.flat_cells.specs.Row.{Cell, Live, Gone, Start, End, is_live, is_gone, is_start, lives_of, ends_earlier, earlier_ends, without_earlier_ends, sorted_by, grouped}
use Rattle.flat_cells.specs.Step.{exchanged_cell, remarked_cells, new_cells, taken_out}
use Rattle.flat_cells.specs.Form.{is_gone_of, past_gone, AreNeighbours}
use Rattle.ranges_tracker.proofs.Packing.{same_mark_is, same_mark_self}
use Rattle.flat_cells.proofs.Parts.{EndsLive, BeginsLive}
use Rattle.flat_cells.proofs.Edges.{any_join, any_filter, filter_in, filter_out, any_grouped}
use Rattle.flat_cells.proofs.Inserting.{any_less}
use Rattle.flat_cells.proofs.Deleting.{left_of}
use Rattle.flat_cells.proofs.Marks.{clash, any_more, no_gone_ends, gone_late, gone_exchanged}

-- behind the gone cells of a mark that come first
past_same : (m n : Mark) (u : ℕ) (cs : List Cell) → same_mark n m ≡ true → past_gone m (Gone u n ∷ cs) ≡ past_gone m cs
past_same m n u cs e = cond-true (same_mark n m) (past_gone m cs) (Gone u n ∷ cs) e

past_other : (m n : Mark) (u : ℕ) (cs : List Cell) → same_mark n m ≡ false → past_gone m (Gone u n ∷ cs) ≡ Gone u n ∷ cs
past_other m n u cs e = cond-false (same_mark n m) (past_gone m cs) (Gone u n ∷ cs) e

-- no cell of a mark is left there
abbrev pub NoneLeft : Mark → List Cell → Type 0
NoneLeft m xs = list_any (is_gone_of m) (past_gone m xs) ≡ false

at_same : (m n : Mark) (u : ℕ) (cs : List Cell) → same_mark n m ≡ true → NoneLeft m (Gone u n ∷ cs) → NoneLeft m cs
at_same m n u cs e h = sym (ap (list_any (is_gone_of m)) (past_same m n u cs e)) ∙ h

pub to_same : (m n : Mark) (u : ℕ) (cs : List Cell) → same_mark n m ≡ true → NoneLeft m cs → NoneLeft m (Gone u n ∷ cs)
to_same m n u cs e h = ap (list_any (is_gone_of m)) (past_same m n u cs e) ∙ h

at_other : (m n : Mark) (u : ℕ) (cs : List Cell) → same_mark n m ≡ false → NoneLeft m (Gone u n ∷ cs) → list_any (is_gone_of m) (Gone u n ∷ cs) ≡ false
at_other m n u cs e h = sym (ap (list_any (is_gone_of m)) (past_other m n u cs e)) ∙ h

to_other : (m n : Mark) (u : ℕ) (cs : List Cell) → same_mark n m ≡ false → list_any (is_gone_of m) (Gone u n ∷ cs) ≡ false → NoneLeft m (Gone u n ∷ cs)
to_other m n u cs e h = ap (list_any (is_gone_of m)) (past_other m n u cs e) ∙ h

pub none_past : (m : Mark) (xs : List Cell) → list_any (is_gone_of m) xs ≡ false → NoneLeft m xs
none_past m [] h = refl
none_past m (Live u o ∷ cs) h = h
none_past m (Gone u n ∷ cs) h = let p = or_parts (same_mark n m) (list_any (is_gone_of m) cs) h in to_other m n u cs p.0 h
none_past m (Start t ∷ cs) h = h
none_past m (End t ∷ cs) h = h

less_left : (test : Cell → Bool) (xs ys : List Cell) → list_any test (xs ++ ys) ≡ false → list_any test xs ≡ false
less_left test xs ys h = (or_parts (list_any test xs) (list_any test ys) (sym (list_any-append test xs ys) ∙ h)).0

less_right : (test : Cell → Bool) (xs ys : List Cell) → list_any test (xs ++ ys) ≡ false → list_any test ys ≡ false
less_right test xs ys h = (or_parts (list_any test xs) (list_any test ys) (sym (list_any-append test xs ys) ∙ h)).1

past_prefix : (m : Mark) (xs ys : List Cell) → NoneLeft m (xs ++ ys) → NoneLeft m xs
past_prefix m [] ys h = refl
past_prefix m (Live u o ∷ cs) ys h = less_left (is_gone_of m) cs ys h
past_prefix m (Gone u n ∷ cs) ys h = ⊎_elim {C = NoneLeft m (Gone u n ∷ cs)}
    (λ e. to_same m n u cs e (past_prefix m cs ys (at_same m n u (cs ++ ys) e h)))
    (λ e. to_other m n u cs e (less_left (is_gone_of m) (Gone u n ∷ cs) ys (at_other m n u (cs ++ ys) e h)))
    (cases_Bool (same_mark n m))
past_prefix m (Start t ∷ cs) ys h = less_left (is_gone_of m) cs ys h
past_prefix m (End t ∷ cs) ys h = less_left (is_gone_of m) cs ys h

past_live : (m : Mark) (xs ys : List Cell) → 1 ≤ length (lives_of xs) → NoneLeft m (xs ++ ys) → list_any (is_gone_of m) ys ≡ false
past_live m [] ys le h = absurd (omega (arith, le))
past_live m (Live u o ∷ cs) ys le h = less_right (is_gone_of m) cs ys h
past_live m (Gone u n ∷ cs) ys le h = ⊎_elim {C = list_any (is_gone_of m) ys ≡ false}
    (λ e. past_live m cs ys le (at_same m n u (cs ++ ys) e h))
    (λ e. less_right (is_gone_of m) (Gone u n ∷ cs) ys (at_other m n u (cs ++ ys) e h))
    (cases_Bool (same_mark n m))
past_live m (Start t ∷ cs) ys le h = less_right (is_gone_of m) cs ys h
past_live m (End t ∷ cs) ys le h = less_right (is_gone_of m) cs ys h

at_live : (m : Mark) (ys : List Cell) → BeginsLive ys → NoneLeft m ys → list_any (is_gone_of m) ys ≡ false
at_live m [] b h = refl
at_live m (Live u o ∷ cs) b h = h
at_live m (Gone u n ∷ cs) b h = absurd b
at_live m (Start t ∷ cs) b h = h
at_live m (End t ∷ cs) b h = h

past_to_live : (m : Mark) (xs ys : List Cell) → BeginsLive ys → NoneLeft m (xs ++ ys) → list_any (is_gone_of m) ys ≡ false
past_to_live m [] ys b h = at_live m ys b h
past_to_live m (Live u o ∷ cs) ys b h = less_right (is_gone_of m) cs ys h
past_to_live m (Gone u n ∷ cs) ys b h = ⊎_elim {C = list_any (is_gone_of m) ys ≡ false}
    (λ e. past_to_live m cs ys b (at_same m n u (cs ++ ys) e h))
    (λ e. less_right (is_gone_of m) (Gone u n ∷ cs) ys (at_other m n u (cs ++ ys) e h))
    (cases_Bool (same_mark n m))
past_to_live m (Start t ∷ cs) ys b h = less_right (is_gone_of m) cs ys h
past_to_live m (End t ∷ cs) ys b h = less_right (is_gone_of m) cs ys h

past_join : (m : Mark) (xs ys : List Cell) → NoneLeft m xs → list_any (is_gone_of m) ys ≡ false → NoneLeft m (xs ++ ys)
past_join m [] ys h k = none_past m ys k
past_join m (Live u o ∷ cs) ys h k = any_join (is_gone_of m) cs ys false false h k
past_join m (Gone u n ∷ cs) ys h k = ⊎_elim {C = NoneLeft m (Gone u n ∷ cs ++ ys)}
    (λ e. to_same m n u (cs ++ ys) e (past_join m cs ys (at_same m n u cs e h) k))
    (λ e. to_other m n u (cs ++ ys) e (any_join (is_gone_of m) (Gone u n ∷ cs) ys false false (at_other m n u cs e h) k))
    (cases_Bool (same_mark n m))
past_join m (Start t ∷ cs) ys h k = any_join (is_gone_of m) cs ys false false h k
past_join m (End t ∷ cs) ys h k = any_join (is_gone_of m) cs ys false false h k

-- parts of neighbours
pub suffix_neighbours : (xs ys : List Cell) → AreNeighbours (xs ++ ys) → AreNeighbours ys
suffix_neighbours [] ys h = h
suffix_neighbours (Live u o ∷ cs) ys h = suffix_neighbours cs ys h
suffix_neighbours (Gone u m ∷ cs) ys h = suffix_neighbours cs ys h.1
suffix_neighbours (Start t ∷ cs) ys h = suffix_neighbours cs ys h
suffix_neighbours (End t ∷ cs) ys h = suffix_neighbours cs ys h

pub prefix_neighbours : (xs ys : List Cell) → AreNeighbours (xs ++ ys) → AreNeighbours xs
prefix_neighbours [] ys h = tt
prefix_neighbours (Live u o ∷ cs) ys h = prefix_neighbours cs ys h
prefix_neighbours (Gone u m ∷ cs) ys h = (past_prefix m cs ys h.0, prefix_neighbours cs ys h.1)
prefix_neighbours (Start t ∷ cs) ys h = prefix_neighbours cs ys h
prefix_neighbours (End t ∷ cs) ys h = prefix_neighbours cs ys h

-- no mark has gone cells in both parts
abbrev pub AreApart : List Cell → List Cell → Type 0
AreApart xs ys = (m : Mark) → list_any (is_gone_of m) xs ≡ true → list_any (is_gone_of m) ys ≡ false

gone_same : (m n : Mark) (u : ℕ) (cs : List Cell) → same_mark n m ≡ true → NoneLeft n cs → NoneLeft m cs
gone_same m n u cs e h = subst (λ (x : Mark). NoneLeft x cs) (same_mark_is n m e) h

pub apart_ends : (xs ys : List Cell) → EndsLive xs → AreNeighbours (xs ++ ys) → AreApart xs ys
apart_ends [] ys b h m e = cc
apart_ends (Live u o ∷ cs) ys b h m e = apart_ends cs ys b.1 h m e
apart_ends (Gone u n ∷ cs) ys b h m e = ⊎_elim {C = list_any (is_gone_of m) ys ≡ false}
    (λ t. past_live m cs ys b.0 (gone_same m n u (cs ++ ys) t h.0))
    (λ t. apart_ends cs ys b.1 h.1 m t)
    (or_cases (same_mark n m) (list_any (is_gone_of m) cs) e)
apart_ends (Start t ∷ cs) ys b h m e = apart_ends cs ys b.1 h m e
apart_ends (End t ∷ cs) ys b h m e = apart_ends cs ys b.1 h m e

pub apart_begins : (xs ys : List Cell) → BeginsLive ys → AreNeighbours (xs ++ ys) → AreApart xs ys
apart_begins [] ys b h m e = cc
apart_begins (Live u o ∷ cs) ys b h m e = apart_begins cs ys b h m e
apart_begins (Gone u n ∷ cs) ys b h m e = ⊎_elim {C = list_any (is_gone_of m) ys ≡ false}
    (λ t. past_to_live m cs ys b (gone_same m n u (cs ++ ys) t h.0))
    (λ t. apart_begins cs ys b h.1 m t)
    (or_cases (same_mark n m) (list_any (is_gone_of m) cs) e)
apart_begins (Start t ∷ cs) ys b h m e = apart_begins cs ys b h m e
apart_begins (End t ∷ cs) ys b h m e = apart_begins cs ys b h m e

pub join_neighbours : (xs ys : List Cell) → AreNeighbours xs → AreNeighbours ys → AreApart xs ys → AreNeighbours (xs ++ ys)
join_neighbours [] ys h k a = k
join_neighbours (Live u o ∷ cs) ys h k a = join_neighbours cs ys h k a
join_neighbours (Gone u n ∷ cs) ys h k a = (past_join n cs ys h.0 (a n (or_left (same_mark n n) (list_any (is_gone_of n) cs) (same_mark_self n))), join_neighbours cs ys h.1 k (λ m e. a m (or_right (same_mark n m) (list_any (is_gone_of m) cs) e)))
join_neighbours (Start t ∷ cs) ys h k a = join_neighbours cs ys h k a
join_neighbours (End t ∷ cs) ys h k a = join_neighbours cs ys h k a

-- a filter that passes the gone cells, and one that passes none
past_filter : (m : Mark) (f : Cell → Bool) → ((u : ℕ) (n : Mark) → f (Gone u n) ≡ true) → (xs : List Cell) → NoneLeft m xs → NoneLeft m (filter f xs)
past_filter m f g [] h = refl
past_filter m f g (Live u o ∷ cs) h = none_past m (filter f (Live u o ∷ cs)) (any_less (is_gone_of m) f (Live u o ∷ cs) h)
past_filter m f g (Gone u n ∷ cs) h = ⊎_elim {C = NoneLeft m (filter f (Gone u n ∷ cs))}
    (λ e. subst (λ (x : List Cell). NoneLeft m x) (sym (filter_in f (Gone u n) cs (g u n))) (to_same m n u (filter f cs) e (past_filter m f g cs (at_same m n u cs e h))))
    (λ e. none_past m (filter f (Gone u n ∷ cs)) (any_less (is_gone_of m) f (Gone u n ∷ cs) (at_other m n u cs e h)))
    (cases_Bool (same_mark n m))
past_filter m f g (Start t ∷ cs) h = none_past m (filter f (Start t ∷ cs)) (any_less (is_gone_of m) f (Start t ∷ cs) h)
past_filter m f g (End t ∷ cs) h = none_past m (filter f (End t ∷ cs)) (any_less (is_gone_of m) f (End t ∷ cs) h)

neighbours_either : (b : Bool) (c : Cell) (xs : List Cell) → (AreNeighbours xs → AreNeighbours (c ∷ xs)) → AreNeighbours xs → AreNeighbours (cond b (c ∷ xs) xs)
neighbours_either true c xs f h = f h
neighbours_either false c xs f h = h

pub filter_neighbours : (f : Cell → Bool) → ((u : ℕ) (n : Mark) → f (Gone u n) ≡ true) → (xs : List Cell) → AreNeighbours xs → AreNeighbours (filter f xs)
filter_neighbours f g [] h = tt
filter_neighbours f g (Live u o ∷ cs) h = neighbours_either (f (Live u o)) (Live u o) (filter f cs) (λ k. k) (filter_neighbours f g cs h)
filter_neighbours f g (Gone u n ∷ cs) h = subst AreNeighbours (sym (filter_in f (Gone u n) cs (g u n))) (gone_on u n (filter f cs) (past_filter n f g cs h.0) (filter_neighbours f g cs h.1))
  where
    gone_on : (u : ℕ) (n : Mark) (xs : List Cell) → NoneLeft n xs → AreNeighbours xs → AreNeighbours (Gone u n ∷ xs)
    gone_on u n xs a b = (a, b)
filter_neighbours f g (Start t ∷ cs) h = neighbours_either (f (Start t)) (Start t) (filter f cs) (λ k. k) (filter_neighbours f g cs h)
filter_neighbours f g (End t ∷ cs) h = neighbours_either (f (End t)) (End t) (filter f cs) (λ k. k) (filter_neighbours f g cs h)

pub without_gone : (f : Cell → Bool) → ((u : ℕ) (n : Mark) → f (Gone u n) ≡ false) → (xs : List Cell) → AreNeighbours (filter f xs)
without_gone f g [] = tt
without_gone f g (Live u o ∷ cs) = neighbours_either (f (Live u o)) (Live u o) (filter f cs) (λ k. k) (without_gone f g cs)
without_gone f g (Gone u n ∷ cs) = subst AreNeighbours (sym (filter_out f (Gone u n) cs (g u n))) (without_gone f g cs)
without_gone f g (Start t ∷ cs) = neighbours_either (f (Start t)) (Start t) (filter f cs) (λ k. k) (without_gone f g cs)
without_gone f g (End t ∷ cs) = neighbours_either (f (End t)) (End t) (filter f cs) (λ k. k) (without_gone f g cs)

-- exchanged marks
past_exchanged : (m old new : Mark) (xs : List Cell) → list_any (is_gone_of old) xs ≡ false → NoneLeft m xs → NoneLeft m (map (exchanged_cell old new) xs)
past_exchanged m old new [] k h = refl
past_exchanged m old new (Live u o ∷ cs) k h = gone_exchanged m old new cs k ∙ h
past_exchanged m old new (Gone u n ∷ cs) k h =
    let p = or_parts (same_mark n old) (list_any (is_gone_of old) cs) k in
    let stays : (if same_mark n old then new else n) ≡ n = cond-false (same_mark n old) new n p.0 in
    subst (λ (x : Mark). NoneLeft m (Gone u x ∷ map (exchanged_cell old new) cs)) (sym stays)
    (⊎_elim {C = NoneLeft m (Gone u n ∷ map (exchanged_cell old new) cs)}
    (λ e. to_same m n u (map (exchanged_cell old new) cs) e (past_exchanged m old new cs p.1 (at_same m n u cs e h)))
    (λ e. to_other m n u (map (exchanged_cell old new) cs) e (ap (λ (b : Bool). same_mark n m || b) (gone_exchanged m old new cs p.1) ∙ at_other m n u cs e h))
    (cases_Bool (same_mark n m)))
past_exchanged m old new (Start t ∷ cs) k h = gone_exchanged m old new cs k ∙ h
past_exchanged m old new (End t ∷ cs) k h = gone_exchanged m old new cs k ∙ h

exchanged_neighbours : (old new : Mark) (xs : List Cell) → list_any (is_gone_of old) xs ≡ false → AreNeighbours xs → AreNeighbours (map (exchanged_cell old new) xs)
exchanged_neighbours old new [] k h = tt
exchanged_neighbours old new (Live u o ∷ cs) k h = exchanged_neighbours old new cs k h
exchanged_neighbours old new (Gone u n ∷ cs) k h =
    let p = or_parts (same_mark n old) (list_any (is_gone_of old) cs) k in
    let stays : (if same_mark n old then new else n) ≡ n = cond-false (same_mark n old) new n p.0 in
    subst (λ (x : Mark). AreNeighbours (Gone u x ∷ map (exchanged_cell old new) cs)) (sym stays) (past_exchanged n old new cs p.1 h.0, exchanged_neighbours old new cs p.1 h.1)
exchanged_neighbours old new (Start t ∷ cs) k h = exchanged_neighbours old new cs k h
exchanged_neighbours old new (End t ∷ cs) k h = exchanged_neighbours old new cs k h

pub remarked_neighbours : (o : Option Mark) (stamp : Stamp) (j : ℕ) (xs : List Cell) → ((n : Mark) → o ≡ Some n → list_any (is_gone_of n) xs ≡ false) → AreNeighbours xs → AreNeighbours (remarked_cells o stamp j xs)
remarked_neighbours None stamp j xs k h = h
remarked_neighbours (Some old) stamp j xs k h = exchanged_neighbours old (renewed old stamp j) xs (k old refl) h

pub new_neighbours : (us : List ℕ) (o : Option Mark) → AreNeighbours (new_cells us o)
new_neighbours [] o = tt
new_neighbours (u ∷ us) o = new_neighbours us o

-- gone cells of one mark only
abbrev AllOf : Mark → List Cell → Type 0
AllOf m [] = Unit {0}
AllOf m (Live u o ∷ cs) = ⊥
AllOf m (Gone u n ∷ cs) = (n ≡ m) × AllOf m cs
AllOf m (Start t ∷ cs) = ⊥
AllOf m (End t ∷ cs) = ⊥

all_past : (m : Mark) (xs : List Cell) → AllOf m xs → past_gone m xs ≡ []
all_past m [] h = refl
all_past m (Live u o ∷ cs) h = absurd h
all_past m (Gone u n ∷ cs) h = past_same m n u cs (ap (λ (x : Mark). same_mark x m) h.0 ∙ same_mark_self m) ∙ all_past m cs h.1
all_past m (Start t ∷ cs) h = absurd h
all_past m (End t ∷ cs) h = absurd h

all_neighbours : (m : Mark) (xs : List Cell) → AllOf m xs → AreNeighbours xs
all_neighbours m [] h = tt
all_neighbours m (Live u o ∷ cs) h = absurd h
all_neighbours m (Gone u n ∷ cs) h = (ap (list_any (is_gone_of n)) (ap (λ (x : Mark). past_gone x cs) h.0 ∙ all_past m cs h.1), all_neighbours m cs h.1)
all_neighbours m (Start t ∷ cs) h = absurd h
all_neighbours m (End t ∷ cs) h = absurd h

-- a row where cells without gone ones come in behind the earlier ends of a gap
pub spliced_neighbours : (front gap new late behind : List Cell) → EndsLive front → BeginsLive behind → AreNeighbours (front ++ (gap ++ behind)) → AreNeighbours new → ((m : Mark) → list_any (is_gone_of m) new ≡ false) →
    (AreNeighbours (without_earlier_ends front gap ++ behind) → AreNeighbours late) → ((m : Mark) → list_any (is_gone_of m) late ≡ list_any (is_gone_of m) (gap ++ behind)) → AreNeighbours (front ++ (earlier_ends front gap ++ (new ++ late)))
spliced_neighbours front gap new late behind ends begins h new_ok new_none f same =
    join_neighbours front (earlier_ends front gap ++ (new ++ late)) (prefix_neighbours front (gap ++ behind) h)
    (join_neighbours (earlier_ends front gap) (new ++ late) (without_gone (ends_earlier front) (λ u n. refl) gap)
    (join_neighbours new late new_ok (f rest) (λ m e. clash (list_any (is_gone_of m) new) e (new_none m)))
    (λ m e. clash (list_any (is_gone_of m) (earlier_ends front gap)) e (no_gone_ends m front gap)))
    (λ m e. any_join (is_gone_of m) (earlier_ends front gap) (new ++ late) false false (no_gone_ends m front gap) (any_join (is_gone_of m) new late false false (new_none m) (same m ∙ apart_ends front (gap ++ behind) ends h m e)))
  where
    both : AreNeighbours (gap ++ behind)
    both = suffix_neighbours front (gap ++ behind) h

    rest : AreNeighbours (without_earlier_ends front gap ++ behind)
    rest = join_neighbours (without_earlier_ends front gap) behind (filter_neighbours (λ (c : Cell). not (ends_earlier front c)) (λ u n. refl) gap (prefix_neighbours gap behind both)) (suffix_neighbours gap behind both)
        (λ m e. apart_begins gap behind begins both m (sym (gone_late m front gap) ∙ e))

-- what is left of some gaps
taken_gone_of : (m new : Mark) (xs : List Cell) → list_any (is_gone_of m) (flat_map (taken_out new) xs) ≡ true → new ≡ m
taken_gone_of m new [] e = cc
taken_gone_of m new (Live u None ∷ cs) e = ⊎_elim {C = new ≡ m} (λ t. same_mark_is new m t) (λ t. taken_gone_of m new cs t) (or_cases (same_mark new m) (list_any (is_gone_of m) (flat_map (taken_out new) cs)) e)
taken_gone_of m new (Live u (Some n) ∷ cs) e = taken_gone_of m new cs e
taken_gone_of m new (Gone u n ∷ cs) e = ⊎_elim {C = new ≡ m} (λ t. same_mark_is new m t) (λ t. taken_gone_of m new cs t) (or_cases (same_mark new m) (list_any (is_gone_of m) (flat_map (taken_out new) cs)) e)
taken_gone_of m new (Start t ∷ cs) e = taken_gone_of m new cs e
taken_gone_of m new (End t ∷ cs) e = taken_gone_of m new cs e

pub left_gone_of : (b : Bool) (m new : Mark) (xs : List Cell) → list_any (is_gone_of m) (left_of b new xs) ≡ true → (list_any (is_gone_of m) xs ≡ true) ⊎ ((b ≡ true) × (new ≡ m))
left_gone_of true m new xs e = inr (refl, taken_gone_of m new xs e)
left_gone_of false m new xs e = inl (any_more (is_gone_of m) (λ (c : Cell). not (is_live c)) xs e)

all_taken : (front : List Cell) (new : Mark) (xs : List Cell) → AllOf new (filter is_gone (without_earlier_ends front (flat_map (taken_out new) xs)))
all_taken front new [] = tt
all_taken front new (Live u None ∷ cs) = (refl, all_taken front new cs)
all_taken front new (Live u (Some m) ∷ cs) = all_taken front new cs
all_taken front new (Gone u m ∷ cs) = (refl, all_taken front new cs)
all_taken front new (Start t ∷ cs) = all_taken front new cs
all_taken front new (End t ∷ cs) = either_all (list_any (is_start t) front) t (without_earlier_ends front (flat_map (taken_out new) cs)) (all_taken front new cs)
  where
    either_all : (b : Bool) (t : ℕ) (xs : List Cell) → AllOf new (filter is_gone xs) → AllOf new (filter is_gone (cond (not b) (End t ∷ xs) xs))
    either_all true t xs h = h
    either_all false t xs h = h

grouped_neighbours : (b : Bool) (new : Mark) (front out : List Cell) → AreNeighbours out → AreNeighbours (grouped front (left_of b new out))
grouped_neighbours b new front out h =
    let left = left_of b new out in
    let late = without_earlier_ends front left in
    let still = λ (c : Cell). not (is_gone c) in
    join_neighbours (earlier_ends front left) (sorted_by is_gone late) (without_gone (ends_earlier front) (λ u n. refl) left)
    (join_neighbours (filter is_gone late) (filter still late) (firsts b) (without_gone still (λ u n. refl) late) (λ m e. none_still m late))
    (λ m e. clash (list_any (is_gone_of m) (earlier_ends front left)) e (no_gone_ends m front left))
  where
    firsts : (b : Bool) → AreNeighbours (filter is_gone (without_earlier_ends front (left_of b new out)))
    firsts true = all_neighbours new (filter is_gone (without_earlier_ends front (flat_map (taken_out new) out))) (all_taken front new out)
    firsts false = filter_neighbours is_gone (λ u n. refl) (without_earlier_ends front (left_of false new out)) (filter_neighbours (λ (c : Cell). not (ends_earlier front c)) (λ u n. refl) (left_of false new out) (filter_neighbours (λ (c : Cell). not (is_live c)) (λ u n. refl) out h))

    none_still : (m : Mark) (xs : List Cell) → list_any (is_gone_of m) (filter (λ (c : Cell). not (is_gone c)) xs) ≡ false
    none_still m xs = any_filter (is_gone_of m) (λ (c : Cell). not (is_gone c)) false xs only
      where
        only : (c : Cell) → is_gone_of m c ≡ true → not (is_gone c) ≡ false
        only (Live u o) e = cc
        only (Gone u n) e = refl
        only (Start t) e = cc
        only (End t) e = cc

pub squeezed_neighbours : (b : Bool) (new : Mark) (front out behind : List Cell) → EndsLive front → BeginsLive behind → (b ≡ true → list_any (is_gone_of new) (front ++ (out ++ behind)) ≡ false) → AreNeighbours (front ++ (out ++ behind)) → AreNeighbours (front ++ (grouped front (left_of b new out) ++ behind))
squeezed_neighbours b new front out behind ends begins fresh h =
    join_neighbours front (grouped front (left_of b new out) ++ behind) (prefix_neighbours front (out ++ behind) h)
    (join_neighbours (grouped front (left_of b new out)) behind (grouped_neighbours b new front out (prefix_neighbours out behind both)) (suffix_neighbours out behind both)
    (λ m e. ⊎_elim {C = list_any (is_gone_of m) behind ≡ false} (λ x. apart_begins out behind begins both m x) (λ x. subst (λ (n : Mark). list_any (is_gone_of n) behind ≡ false) x.1 (less_right (is_gone_of new) out behind (less_right (is_gone_of new) front (out ++ behind) (fresh x.0)))) (of_grouped m e)))
    (λ m e. any_join (is_gone_of m) (grouped front (left_of b new out)) behind false false (not_grouped m e) (less_right (is_gone_of m) out behind (apart_ends front (out ++ behind) ends h m e)))
  where
    both : AreNeighbours (out ++ behind)
    both = suffix_neighbours front (out ++ behind) h

    of_grouped : (m : Mark) → list_any (is_gone_of m) (grouped front (left_of b new out)) ≡ true → (list_any (is_gone_of m) out ≡ true) ⊎ ((b ≡ true) × (new ≡ m))
    of_grouped m e = left_gone_of b m new out (sym (any_grouped (is_gone_of m) front (left_of b new out)) ∙ e)

    not_grouped : (m : Mark) → list_any (is_gone_of m) front ≡ true → list_any (is_gone_of m) (grouped front (left_of b new out)) ≡ false
    not_grouped m e = ⊎_elim {C = list_any (is_gone_of m) (grouped front (left_of b new out)) ≡ false}
        (λ t. ⊎_elim {C = list_any (is_gone_of m) (grouped front (left_of b new out)) ≡ false}
        (λ x. clash (list_any (is_gone_of m) out) x (less_left (is_gone_of m) out behind (apart_ends front (out ++ behind) ends h m e)))
        (λ x. clash (list_any (is_gone_of m) front) e (subst (λ (n : Mark). list_any (is_gone_of n) front ≡ false) x.1 (less_left (is_gone_of new) front (out ++ behind) (fresh x.0))))
        (of_grouped m t))
        (λ f. f)
        (cases_Bool (list_any (is_gone_of m) (grouped front (left_of b new out))))
