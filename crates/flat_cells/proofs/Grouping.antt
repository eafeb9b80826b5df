-- The groups of gaps after an insert, a delete and a comment.
use Rattle.std.proofs.Common.{◌≡◌, ℕ, zero, suc, ◌<◌, Bool, true, false, List, [], ◌∷◌, ◌++◌, refl, ap, ap₂, sym, ◌∙◌, length, arith, append_assoc, append-nil, map, filter, Option, Some, None, subst, ⊎_elim}
use Rattle.std.specs.Prelude.{◌||◌, not}
use Rattle.std.specs.List.{list_any}
use Rattle.std.proofs.lemmas.Bool.{cases_Bool}
use Rattle.std.proofs.lemmas.List.{map-append}
use Rattle.std.proofs.lemmas.List.Folds.{list_any-append}
use Rattle.ranges_tracker.specs.declared.mark.Mark.{Mark}
use Rattle.ranges_tracker.specs.declared.stamp.Stamp.{Stamp}
use Rattle.ranges_tracker.specs.Cells.{renewed, exchanged}
use Rattle.flat_cells.specs.Row.{Cell, Live, Gone, Start, End, is_gone, is_start, lives_of, before, from_gap, gaps, ends_earlier, earlier_ends, without_earlier_ends, sorted_by, grouped}
use Rattle.flat_cells.specs.Step.{exchanged_cell, remarked_cells, new_cells}
use Rattle.flat_cells.proofs.Parts.{EndsLive, BeginsLive, lives-append, no_lives}
use Rattle.flat_cells.proofs.Edges.{filter_in, filter_out, any_grouped, grouped_lives, start_earlier, start_late}
use Rattle.flat_cells.proofs.Inserting.{start_test, no_edge_new, same_test}
use Rattle.flat_cells.proofs.Groups.{InGroups, InGroupsBehind, groups_behind, groups_from, groups_replaced, groups_made, groups_first, SameStarts, grouped_same, same_front, same_back, behind_same, no_early, no_late, grouped_parts, grouped_twice, late_sorted}

-- exchanged marks leave all cells in their gaps
abbrev changed : Mark → Mark → List Cell → List Cell
changed old new cells = map (exchanged_cell old new) cells

before_changed : (old new : Mark) (q : ℕ) (cells : List Cell) → before q (changed old new cells) ≡ changed old new (before q cells)
before_changed old new zero cells = refl
before_changed old new (suc q) [] = refl
before_changed old new (suc q) (Live u o ∷ cs) = ap (λ (x : List Cell). Live u (exchanged old new o) ∷ x) (before_changed old new q cs)
before_changed old new (suc q) (Gone u m ∷ cs) = ap (λ (x : List Cell). exchanged_cell old new (Gone u m) ∷ x) (before_changed old new (suc q) cs)
before_changed old new (suc q) (Start t ∷ cs) = ap (λ (x : List Cell). Start t ∷ x) (before_changed old new (suc q) cs)
before_changed old new (suc q) (End t ∷ cs) = ap (λ (x : List Cell). End t ∷ x) (before_changed old new (suc q) cs)

from_changed : (old new : Mark) (q : ℕ) (cells : List Cell) → from_gap q (changed old new cells) ≡ changed old new (from_gap q cells)
from_changed old new zero cells = refl
from_changed old new (suc q) [] = refl
from_changed old new (suc q) (Live u o ∷ cs) = from_changed old new q cs
from_changed old new (suc q) (Gone u m ∷ cs) = from_changed old new (suc q) cs
from_changed old new (suc q) (Start t ∷ cs) = from_changed old new (suc q) cs
from_changed old new (suc q) (End t ∷ cs) = from_changed old new (suc q) cs

gap_changed : (old new : Mark) (cells : List Cell) → gaps 0 (changed old new cells) ≡ changed old new (gaps 0 cells)
gap_changed old new [] = refl
gap_changed old new (Live u o ∷ cs) = refl
gap_changed old new (Gone u m ∷ cs) = ap (λ (x : List Cell). exchanged_cell old new (Gone u m) ∷ x) (gap_changed old new cs)
gap_changed old new (Start t ∷ cs) = ap (λ (x : List Cell). Start t ∷ x) (gap_changed old new cs)
gap_changed old new (End t ∷ cs) = ap (λ (x : List Cell). End t ∷ x) (gap_changed old new cs)

filter_changed : (old new : Mark) (f : Cell → Bool) → ((c : Cell) → f (exchanged_cell old new c) ≡ f c) → (cells : List Cell) → filter f (changed old new cells) ≡ changed old new (filter f cells)
filter_changed old new f h [] = refl
filter_changed old new f h (c ∷ cs) = ⊎_elim {C = filter f (changed old new (c ∷ cs)) ≡ changed old new (filter f (c ∷ cs))}
    (λ e. filter_in f (exchanged_cell old new c) (changed old new cs) (h c ∙ e) ∙ ap (λ (x : List Cell). exchanged_cell old new c ∷ x) (filter_changed old new f h cs) ∙ sym (ap (changed old new) (filter_in f c cs e)))
    (λ e. filter_out f (exchanged_cell old new c) (changed old new cs) (h c ∙ e) ∙ filter_changed old new f h cs ∙ sym (ap (changed old new) (filter_out f c cs e)))
    (cases_Bool (f c))

still_early : (front : List Cell) (old new : Mark) (c : Cell) → ends_earlier front (exchanged_cell old new c) ≡ ends_earlier front c
still_early front old new (Live u o) = refl
still_early front old new (Gone u m) = refl
still_early front old new (Start t) = refl
still_early front old new (End t) = refl

still_gone : (old new : Mark) (c : Cell) → is_gone (exchanged_cell old new c) ≡ is_gone c
still_gone old new (Live u o) = refl
still_gone old new (Gone u m) = refl
still_gone old new (Start t) = refl
still_gone old new (End t) = refl

sorted_changed : (old new : Mark) (cells : List Cell) → sorted_by is_gone (changed old new cells) ≡ changed old new (sorted_by is_gone cells)
sorted_changed old new cells =
    ap₂ (λ (x y : List Cell). x ++ y) (filter_changed old new is_gone (still_gone old new) cells) (filter_changed old new (λ (c : Cell). not (is_gone c)) (λ c. ap not (still_gone old new c)) cells)
    ∙ sym (map-append (exchanged_cell old new) (filter is_gone cells) (filter (λ (c : Cell). not (is_gone c)) cells))

grouped_changed : (old new : Mark) (front cells : List Cell) → grouped front (changed old new cells) ≡ changed old new (grouped front cells)
grouped_changed old new front cells =
    ap₂ (λ (x y : List Cell). x ++ sorted_by is_gone y) (filter_changed old new (ends_earlier front) (still_early front old new) cells) (filter_changed old new (λ (c : Cell). not (ends_earlier front c)) (λ c. ap not (still_early front old new c)) cells)
    ∙ ap (λ (x : List Cell). changed old new (earlier_ends front cells) ++ x) (sorted_changed old new (without_earlier_ends front cells))
    ∙ sym (map-append (exchanged_cell old new) (earlier_ends front cells) (sorted_by is_gone (without_earlier_ends front cells)))

starts_changed : (old new : Mark) (cells : List Cell) → SameStarts (changed old new cells) cells
starts_changed old new [] t = refl
starts_changed old new (c ∷ cs) t = ap₂ (λ (a b : Bool). a || b) (same_test (is_start t) (start_test t) old new c) (starts_changed old new cs t)

behind_changed : (old new : Mark) (front cells : List Cell) → InGroupsBehind front cells → InGroupsBehind front (changed old new cells)
behind_changed old new front cells h q =
    let z = before (suc q) cells in
    let w = gaps 0 (from_gap (suc q) cells) in
    let place : before (suc q) (changed old new cells) ≡ changed old new z = before_changed old new (suc q) cells in
    let gap : gaps 0 (from_gap (suc q) (changed old new cells)) ≡ changed old new w = ap (gaps 0) (from_changed old new (suc q) cells) ∙ gap_changed old new (from_gap (suc q) cells) in
    ap₂ (λ (a b : List Cell). grouped (front ++ a) b) place gap
    ∙ grouped_same (front ++ changed old new z) (front ++ z) (changed old new w) (same_back front (changed old new z) z (starts_changed old new z))
    ∙ grouped_changed old new (front ++ z) w ∙ ap (changed old new) (h q) ∙ sym gap

begins_changed : (old new : Mark) (cells : List Cell) → BeginsLive cells → BeginsLive (changed old new cells)
begins_changed old new [] h = tt
begins_changed old new (Live u o ∷ cs) h = tt
begins_changed old new (Gone u m ∷ cs) h = absurd h
begins_changed old new (Start t ∷ cs) h = absurd h
begins_changed old new (End t ∷ cs) h = absurd h

lives_none_changed : (old new : Mark) (cells : List Cell) → lives_of cells ≡ [] → lives_of (changed old new cells) ≡ []
lives_none_changed old new [] e = refl
lives_none_changed old new (Live u o ∷ cs) e = cc
lives_none_changed old new (Gone u m ∷ cs) e = lives_none_changed old new cs e
lives_none_changed old new (Start t ∷ cs) e = lives_none_changed old new cs e
lives_none_changed old new (End t ∷ cs) e = lives_none_changed old new cs e

early_changed : (old new : Mark) (front cells : List Cell) → list_any (ends_earlier front) (changed old new cells) ≡ list_any (ends_earlier front) cells
early_changed old new front [] = refl
early_changed old new front (c ∷ cs) = ap₂ (λ (a b : Bool). a || b) (still_early front old new c) (early_changed old new front cs)

-- what remarking does not change
record IsRemarked (cells made : List Cell) : Type 0 where
  lives : lives_of cells ≡ [] → lives_of made ≡ []
  begins : BeginsLive cells → BeginsLive made
  early : (front : List Cell) → list_any (ends_earlier front) made ≡ list_any (ends_earlier front) cells
  sorted : sorted_by is_gone cells ≡ cells → sorted_by is_gone made ≡ made
  starts : SameStarts made cells
  behind_ok : (front : List Cell) → InGroupsBehind front cells → InGroupsBehind front made

remarked_is : (o : Option Mark) (stamp : Stamp) (j : ℕ) (cells : List Cell) → IsRemarked cells (remarked_cells o stamp j cells)
remarked_is None stamp j cells = record { lives = λ e. e; begins = λ h. h; early = λ f. refl; sorted = λ e. e; starts = λ t. refl; behind_ok = λ f h. h }
remarked_is (Some old) stamp j cells = record {
  lives = lives_none_changed old (renewed old stamp j) cells;
  begins = begins_changed old (renewed old stamp j) cells;
  early = λ f. early_changed old (renewed old stamp j) f cells;
  sorted = λ e. sorted_changed old (renewed old stamp j) cells ∙ ap (changed old (renewed old stamp j)) e;
  starts = starts_changed old (renewed old stamp j) cells;
  behind_ok = λ f h. behind_changed old (renewed old stamp j) f cells h;
}

remarked-append : (o : Option Mark) (stamp : Stamp) (j : ℕ) (xs ys : List Cell) → remarked_cells o stamp j (xs ++ ys) ≡ remarked_cells o stamp j xs ++ remarked_cells o stamp j ys
remarked-append None stamp j xs ys = refl
remarked-append (Some old) stamp j xs ys = map-append (exchanged_cell old (renewed old stamp j)) xs ys

-- new live cells
ends_new : (us : List ℕ) (o : Option Mark) → EndsLive (new_cells us o)
ends_new [] o = tt
ends_new (u ∷ us) o = (omega arith, ends_new us o)

no_gap_new : (q : ℕ) (us : List ℕ) (o : Option Mark) (rest : List Cell) → q < length us → gaps 0 (from_gap q (new_cells us o ++ rest)) ≡ []
no_gap_new q [] o rest lt = absurd (omega (arith, lt))
no_gap_new zero (u ∷ us) o rest lt = refl
no_gap_new (suc q) (u ∷ us) o rest lt = no_gap_new q us o rest (omega (arith, lt))

no_start_new : (us : List ℕ) (o : Option Mark) → SameStarts (new_cells us o) []
no_start_new us o t = no_edge_new (is_start t) (start_test t) us o

-- no starts in a part
starts_none : (front xs : List Cell) → ((t : ℕ) → list_any (is_start t) xs ≡ false) → SameStarts (front ++ xs) front
starts_none front xs h t = list_any-append (is_start t) front xs ∙ ap (λ (b : Bool). list_any (is_start t) front || b) (h t) ∙ or_false (list_any (is_start t) front)
  where
    or_false : (b : Bool) → (b || false) ≡ b
    or_false true = refl
    or_false false = refl

-- the parts of a row in groups
pub record AreParts (front gap rest : List Cell) : Type 0 where
  pub ends : EndsLive front
  pub none : lives_of gap ≡ []
  pub begins : BeginsLive rest
  pub groups : InGroups [] (front ++ (gap ++ rest))

pub from_front : (front gap rest : List Cell) → AreParts front gap rest → InGroups front (gap ++ rest)
from_front front gap rest h = groups_from [] front (gap ++ rest) h.ends h.groups

pub gap_grouped : (front gap rest : List Cell) → AreParts front gap rest → grouped front gap ≡ gap
gap_grouped front gap rest h = groups_first front gap rest h.none h.begins (from_front front gap rest h)

pub behind_grouped : (front gap rest : List Cell) → AreParts front gap rest → InGroupsBehind (front ++ gap) rest
behind_grouped front gap rest h = groups_behind front gap rest (from_front front gap rest h)

no_gap_all : (q : ℕ) (us : List ℕ) (o : Option Mark) → gaps 0 (from_gap q (new_cells us o ++ [])) ≡ []
no_gap_all zero [] o = refl
no_gap_all (suc q) [] o = refl
no_gap_all zero (u ∷ us) o = refl
no_gap_all (suc q) (u ∷ us) o = no_gap_all q us o

new_groups : (front : List Cell) (us : List ℕ) (o : Option Mark) → InGroups front (new_cells us o ++ [])
new_groups front us o q = ap (grouped (front ++ before q (new_cells us o ++ []))) (no_gap_all q us o) ∙ sym (no_gap_all q us o)

-- behind the earlier ends, with new cells between, the late ones
late_groups : (front gap rest late made mid : List Cell) → AreParts front gap rest → IsRemarked (without_earlier_ends front gap) late → IsRemarked rest made → SameStarts mid front → InGroups mid (late ++ made)
late_groups front gap rest late made mid h l m s =
    let early : list_any (ends_earlier front) late ≡ false = l.early front ∙ no_early front gap in
    groups_made mid late made (l.lives (no_lives (λ (c : Cell). not (ends_earlier front c)) gap h.none)) (m.begins h.begins)
    (grouped_same mid front late s ∙ grouped_parts front [] late refl early (l.sorted (late_sorted front gap (gap_grouped front gap rest h))))
    (behind_same (front ++ gap) (mid ++ late) made (λ t. sym (same_front mid front late s t ∙ same_back front late gap (λ x. l.starts x ∙ start_late x front gap) t)) (m.behind_ok (front ++ gap) (behind_grouped front gap rest h)))

inserted_behind : (front gap rest late made : List Cell) (us : List ℕ) (o : Option Mark) → AreParts front gap rest → IsRemarked (without_earlier_ends front gap) late → IsRemarked rest made → InGroups front (earlier_ends front gap ++ (new_cells us o ++ (late ++ made)))
inserted_behind front gap rest late made [] o h l m =
    let ends = earlier_ends front gap in
    let same : SameStarts gap (ends ++ late) = λ t. sym (list_any-append (is_start t) ends late ∙ ap₂ (λ (a b : Bool). a || b) (start_earlier t front gap) (l.starts t ∙ start_late t front gap)) in
    subst (InGroups front) (append_assoc ends late made)
    (groups_made front (ends ++ late) made (lives-append ends late ∙ ap₂ (λ x y. x ++ y) (no_lives (ends_earlier front) gap h.none) (l.lives (no_lives (λ (c : Cell). not (ends_earlier front c)) gap h.none))) (m.begins h.begins)
    (grouped_parts front ends late (no_late front gap) (l.early front ∙ no_early front gap) (l.sorted (late_sorted front gap (gap_grouped front gap rest h))))
    (behind_same (front ++ gap) (front ++ (ends ++ late)) made (same_back front gap (ends ++ late) same) (m.behind_ok (front ++ gap) (behind_grouped front gap rest h))))
inserted_behind front gap rest late made (u ∷ us) o h l m =
    let ends = earlier_ends front gap in
    let new = new_cells (u ∷ us) o in
    let start : SameStarts (front ++ ends) front = starts_none front ends (λ t. start_earlier t front gap) in
    let mid : SameStarts ((front ++ ends) ++ new) front = λ t. starts_none (front ++ ends) new (no_start_new (u ∷ us) o) t ∙ start t in
    groups_made front ends (new ++ (late ++ made)) (no_lives (ends_earlier front) gap h.none) tt
    (subst (λ (x : List Cell). grouped front x ≡ x) (append-nil ends) (grouped_parts front ends [] (no_late front gap) refl refl))
    (λ q. groups_replaced (front ++ ends) new [] (late ++ made) (ends_new (u ∷ us) o) (new_groups (front ++ ends) (u ∷ us) o) (late_groups front gap rest late made ((front ++ ends) ++ new) h l m mid) (suc q))

-- after an insert
pub inserted_groups : (front gap rest : List Cell) (us : List ℕ) (by old : Option Mark) (stamp : Stamp) (j : ℕ) → AreParts front gap rest → InGroups [] (front ++ (earlier_ends front gap ++ (new_cells us by ++ remarked_cells old stamp j (without_earlier_ends front gap ++ rest))))
inserted_groups front gap rest us by old stamp j h =
    groups_replaced [] front (gap ++ rest) (earlier_ends front gap ++ (new_cells us by ++ remarked_cells old stamp j (without_earlier_ends front gap ++ rest))) h.ends h.groups
    (subst (λ (x : List Cell). InGroups front (earlier_ends front gap ++ (new_cells us by ++ x))) (sym (remarked-append old stamp j (without_earlier_ends front gap) rest))
    (inserted_behind front gap rest (remarked_cells old stamp j (without_earlier_ends front gap)) (remarked_cells old stamp j rest) us by h (remarked_is old stamp j (without_earlier_ends front gap)) (remarked_is old stamp j rest)))

-- another gap in place of some gaps
pub regrouped : (front out gap rest : List Cell) → EndsLive front → BeginsLive rest → InGroups [] (front ++ (out ++ rest)) → lives_of gap ≡ [] → grouped front gap ≡ gap → InGroupsBehind (front ++ gap) rest → InGroups [] (front ++ (gap ++ rest))
regrouped front out gap rest ends begins h none g b = groups_replaced [] front (out ++ rest) (gap ++ rest) ends h (groups_made front gap rest none begins g b)

-- after a delete
pub squeezed_groups : (front out left rest : List Cell) → EndsLive front → BeginsLive rest → InGroups [] (front ++ (out ++ rest)) → lives_of left ≡ [] → SameStarts left out → InGroups [] (front ++ (grouped front left ++ rest))
squeezed_groups front out left rest ends begins h none same =
    regrouped front out (grouped front left) rest ends begins h (grouped_lives front left none) (grouped_twice front left)
    (behind_same (front ++ out) (front ++ grouped front left) rest (same_back front out (grouped front left) (λ t. sym (any_grouped (is_start t) front left ∙ same t))) (groups_behind front out rest (groups_from [] front (out ++ rest) ends h)))
