-- A delete on a flat row is the delete on its coordinates.
use Rattle.std.proofs.Common.{◌≡◌, ℕ, ◌+◌, ◌-◌, ◌<◌, ◌≤◌, Bool, true, false, List, [], ◌∷◌, ◌++◌, refl, ap, ap₂, sym, ◌∙◌, length, arith, length-append, append-nil, map, take, drop, filter, Option, Some, None, subst}
use Rattle.std.specs.Prelude.{◌||◌, ◌&&◌, ◌==◌, not, if◌then◌else◌, nat_lt}
use Rattle.std.specs.List.{list_any, flat_map}
use Rattle.std.proofs.lemmas.Bool.{cond-true, cond-false, eq-eqb, ne_eqb, lt-ltb, le-ltb}
use Rattle.std.proofs.lemmas.List.{length-take-le, map-append, drop-drop}
use Rattle.std.proofs.lemmas.List.Elements.{filter-append}
use Rattle.ranges_tracker.specs.declared.mark.Mark.{Mark}
use Rattle.ranges_tracker.specs.declared.stamp.Stamp.{Stamp}
use Rattle.ranges_tracker.specs.Cells.{Live as LiveUnit, Gone as GoneUnit, Thread, fresh_mark, squashed, shifted, units_in, unmarked, mixed, some_unmarked, gone_at, deleted}
use Rattle.flat_cells.specs.Row.{Cell, Live, Gone, Start, End, FlatRow, is_live, is_gone, is_start, is_end, lives_of, gone_from, before, from_gap, gaps, behind, gap_of, ends_earlier, earlier_ends, without_earlier_ends, sorted_by, grouped, thread_of, row_of}
use Rattle.flat_cells.specs.Step.{taken_out, flat_deleted}
use Rattle.flat_cells.specs.Form.{IsWellFormedFlat}
use Rattle.ranges_tracker.proofs.Placing.{GapsBelow}
use Rattle.flat_cells.proofs.Parts.{whole, rest_whole, lives-append, lives_before, lives_from, lives_gaps, lives_behind, ends_before, begins_behind, gone-append, gone_below, gone_above, gone_behind, GapsFrom, shift_below, shift_by, no_lives, same_gone, no_gone}
use Rattle.flat_cells.proofs.Edges.{any_on, filter_in, filter_out, any_grouped, grouped_lives, squash_low, squash_far, edge_squashed}
use Rattle.flat_cells.proofs.Inserting.{IsEdgeTest, start_test, end_test, front_length, same_rows, threads_alike}
use Rattle.ranges_tracker.proofs.Commenting.{squash_mid}

-- what is left of some cells
abbrev pub left_of : Bool → Mark → List Cell → List Cell
left_of b new out = if b then flat_map (taken_out new) out else filter (λ (c : Cell). not (is_live c)) out

taken_lives : (new : Mark) (cells : List Cell) → lives_of (flat_map (taken_out new) cells) ≡ []
taken_lives new [] = refl
taken_lives new (Live u None ∷ cs) = taken_lives new cs
taken_lives new (Live u (Some m) ∷ cs) = taken_lives new cs
taken_lives new (Gone u m ∷ cs) = taken_lives new cs
taken_lives new (Start t ∷ cs) = taken_lives new cs
taken_lives new (End t ∷ cs) = taken_lives new cs

still_lives : (cells : List Cell) → lives_of (filter (λ (c : Cell). not (is_live c)) cells) ≡ []
still_lives [] = refl
still_lives (Live u o ∷ cs) = still_lives cs
still_lives (Gone u m ∷ cs) = still_lives cs
still_lives (Start t ∷ cs) = still_lives cs
still_lives (End t ∷ cs) = still_lives cs

pub left_lives : (b : Bool) (new : Mark) (cells : List Cell) → lives_of (left_of b new cells) ≡ []
left_lives true new cells = taken_lives new cells
left_lives false new cells = still_lives cells

taken_edges : (test : Cell → Bool) → IsEdgeTest test → (new : Mark) (cells : List Cell) → list_any test (flat_map (taken_out new) cells) ≡ list_any test cells
taken_edges test h new [] = refl
taken_edges test h new (Live u None ∷ cs) = any_on test (Gone u new) (flat_map (taken_out new) cs) (h.gone u new) ∙ taken_edges test h new cs ∙ sym (any_on test (Live u None) cs (h.live u None))
taken_edges test h new (Live u (Some m) ∷ cs) = taken_edges test h new cs ∙ sym (any_on test (Live u (Some m)) cs (h.live u (Some m)))
taken_edges test h new (Gone u m ∷ cs) = any_on test (Gone u new) (flat_map (taken_out new) cs) (h.gone u new) ∙ taken_edges test h new cs ∙ sym (any_on test (Gone u m) cs (h.gone u m))
taken_edges test h new (Start t ∷ cs) = ap (λ (b : Bool). test (Start t) || b) (taken_edges test h new cs)
taken_edges test h new (End t ∷ cs) = ap (λ (b : Bool). test (End t) || b) (taken_edges test h new cs)

still_edges : (test : Cell → Bool) → IsEdgeTest test → (cells : List Cell) → list_any test (filter (λ (c : Cell). not (is_live c)) cells) ≡ list_any test cells
still_edges test h [] = refl
still_edges test h (Live u o ∷ cs) = still_edges test h cs ∙ sym (any_on test (Live u o) cs (h.live u o))
still_edges test h (Gone u m ∷ cs) = ap (λ (b : Bool). test (Gone u m) || b) (still_edges test h cs)
still_edges test h (Start t ∷ cs) = ap (λ (b : Bool). test (Start t) || b) (still_edges test h cs)
still_edges test h (End t ∷ cs) = ap (λ (b : Bool). test (End t) || b) (still_edges test h cs)

pub left_edges : (test : Cell → Bool) → IsEdgeTest test → (b : Bool) (new : Mark) (cells : List Cell) → list_any test (left_of b new cells) ≡ list_any test cells
left_edges test h true new cells = taken_edges test h new cells
left_edges test h false new cells = still_edges test h cells

-- the gone cells of a grouped gap
pub grouped_gone : (at : ℕ) (front cells : List Cell) → lives_of cells ≡ [] → gone_from at (grouped front cells) ≡ gone_from at cells
grouped_gone at front cells e =
    let ends = earlier_ends front cells in
    let late = without_earlier_ends front cells in
    let none : lives_of late ≡ [] = no_lives (λ (c : Cell). not (ends_earlier front c)) cells e in
    gone-append at ends (sorted_by is_gone late)
    ∙ ap₂ (λ (x : List GoneUnit) (k : ℕ). x ++ gone_from k (sorted_by is_gone late)) (no_gone (ends_earlier front) (λ u m. refl) at cells e) (omega (arith, ap length (no_lives (ends_earlier front) cells e)))
    ∙ gone-append at (filter is_gone late) (filter (λ (c : Cell). not (is_gone c)) late)
    ∙ ap₂ (λ (x : List GoneUnit) (k : ℕ). x ++ gone_from k (filter (λ (c : Cell). not (is_gone c)) late)) (same_gone is_gone (λ u m. refl) at late none) (omega (arith, ap length (no_lives is_gone late none)))
    ∙ ap (λ (x : List GoneUnit). gone_from at late ++ x) (no_gone (λ (c : Cell). not (is_gone c)) (λ u m. refl) at late none)
    ∙ append-nil (gone_from at late)
    ∙ same_gone (λ (c : Cell). not (ends_earlier front c)) (λ u m. refl) at cells e

-- without fresh mark all gaps become one
still_gone : (f : ℕ → ℕ) (at to : ℕ) (cells : List Cell) → ((i : ℕ) → i ≤ length (lives_of cells) → f (at + i) ≡ to) → gone_from to (filter (λ (c : Cell). not (is_live c)) cells) ≡ map (shifted f) (gone_from at cells)
still_gone f at to [] e = refl
still_gone f at to (Live u o ∷ cs) e = still_gone f (at + 1) to cs (λ i le. ap f (omega arith) ∙ e (i + 1) (omega (arith, le)))
still_gone f at to (Gone u m ∷ cs) e = ap₂ (λ (n : ℕ) (x : List GoneUnit). record { gap = n; unit = u; mark = m } ∷ x) (sym (ap f (omega arith) ∙ e 0 (omega arith))) (still_gone f at to cs e)
still_gone f at to (Start t ∷ cs) e = still_gone f at to cs e
still_gone f at to (End t ∷ cs) e = still_gone f at to cs e

-- gone cells outside the gaps that are looked at
none_in : (g : ℕ) (gs : List GoneUnit) → GapsFrom (g + 1) gs → units_in g gs ≡ []
none_in g [] h = refl
none_in g (x ∷ xs) h = ap₂ (λ (a b : List ℕ). a ++ b) (cond-false (x.gap == g) (x.unit ∷ []) [] (ne_eqb x.gap g (λ e. omega (arith, h.0, e)))) (none_in g xs h.1)

mixed_skip : (at : ℕ) (ls : List LiveUnit) (x : GoneUnit) (gs : List GoneUnit) → x.gap < at → mixed at ls (x ∷ gs) ≡ mixed at ls gs
mixed_skip at [] x gs lt = ap (λ (a : List ℕ). a ++ units_in at gs) (cond-false (x.gap == at) (x.unit ∷ []) [] (ne_eqb x.gap at (λ e. omega (arith, lt, e))))
mixed_skip at (l ∷ ls) x gs lt = ap₂ (λ (a b : List ℕ). (a ++ units_in at gs) ++ (unmarked l ++ b)) (cond-false (x.gap == at) (x.unit ∷ []) [] (ne_eqb x.gap at (λ e. omega (arith, lt, e)))) (mixed_skip (at + 1) ls x gs (omega (arith, lt)))

mixed_past : (at : ℕ) (ls : List LiveUnit) (xs gs : List GoneUnit) → GapsBelow at xs → mixed at ls (xs ++ gs) ≡ mixed at ls gs
mixed_past at ls [] gs h = refl
mixed_past at ls (x ∷ xs) gs h = mixed_skip at ls x (xs ++ gs) h.0 ∙ mixed_past at ls xs gs h.1

mixed_first : (at u : ℕ) (m : Mark) (ls : List LiveUnit) (gs : List GoneUnit) → mixed at ls (record { gap = at; unit = u; mark = m } ∷ gs) ≡ u ∷ mixed at ls gs
mixed_first at u m [] gs = ap (λ (a : List ℕ). a ++ units_in at gs) (cond-true (at == at) (u ∷ []) [] (eq-eqb at at refl))
mixed_first at u m (l ∷ ls) gs = ap₂ (λ (a b : List ℕ). (a ++ units_in at gs) ++ (unmarked l ++ b)) (cond-true (at == at) (u ∷ []) [] (eq-eqb at at refl)) (mixed_skip (at + 1) ls (record { gap = at; unit = u; mark = m }) gs (omega arith))

from-append : (q : ℕ) (xs ys : List GoneUnit) → GapsFrom q xs → GapsFrom q ys → GapsFrom q (xs ++ ys)
from-append q [] ys h k = k
from-append q (x ∷ xs) ys h k = (h.0, from-append q xs ys h.1 k)

from_less : (p q : ℕ) (xs : List GoneUnit) → p ≤ q → GapsFrom q xs → GapsFrom p xs
from_less p q [] le h = tt
from_less p q (x ∷ xs) le h = (omega (arith, le, h.0), from_less p q xs le h.1)

-- under a fresh mark the unmarked live cells and all gone ones
taken_gone : (to : ℕ) (new : Mark) (at : ℕ) (cells : List Cell) (rest : List GoneUnit) → GapsFrom (at + length (lives_of cells) + 1) rest →
    gone_from to (flat_map (taken_out new) cells) ≡ map (gone_at to new) (mixed at (lives_of cells) (gone_from at cells ++ rest))
taken_gone to new at [] rest h = sym (ap (map (gone_at to new)) (none_in at rest (from_less (at + 1) (at + 0 + 1) rest (omega arith) h)))
taken_gone to new at (Live u o ∷ cs) rest h =
    let gs = gone_from (at + 1) cs ++ rest in
    let none : units_in at gs ≡ [] = none_in at gs (from-append (at + 1) (gone_from (at + 1) cs) rest (gone_above (at + 1) (at + 1) cs (omega arith)) (from_less (at + 1) (at + length (lives_of (Live u o ∷ cs)) + 1) rest (omega arith) h)) in
    let on : gone_from to (flat_map (taken_out new) cs) ≡ map (gone_at to new) (mixed (at + 1) (lives_of cs) gs) = taken_gone to new (at + 1) cs rest (from_less (at + 1 + length (lives_of cs) + 1) (at + length (lives_of (Live u o ∷ cs)) + 1) rest (omega arith) h) in
    by_mark to new u o cs (mixed (at + 1) (lives_of cs) gs) on ∙ sym (ap (λ (x : List ℕ). map (gone_at to new) (x ++ (unmarked (record { unit = u; mark = o }) ++ mixed (at + 1) (lives_of cs) gs))) none)
  where
    by_mark : (to : ℕ) (new : Mark) (u : ℕ) (o : Option Mark) (cs : List Cell) (us : List ℕ) → gone_from to (flat_map (taken_out new) cs) ≡ map (gone_at to new) us → gone_from to (taken_out new (Live u o) ++ flat_map (taken_out new) cs) ≡ map (gone_at to new) (unmarked (record { unit = u; mark = o }) ++ us)
    by_mark to new u None cs us e = ap (λ (x : List GoneUnit). gone_at to new u ∷ x) e
    by_mark to new u (Some m) cs us e = e
taken_gone to new at (Gone u m ∷ cs) rest h =
    ap (λ (x : List GoneUnit). gone_at to new u ∷ x) (taken_gone to new at cs rest h)
    ∙ sym (ap (map (gone_at to new)) (mixed_first at u m (lives_of cs) (gone_from at cs ++ rest)))
taken_gone to new at (Start t ∷ cs) rest h = taken_gone to new at cs rest h
taken_gone to new at (End t ∷ cs) rest h = taken_gone to new at cs rest h

-- gone cells of some gaps
all_pass : (test : ℕ → Bool) (q : ℕ) (gs : List GoneUnit) → GapsBelow q gs → ((g : ℕ) → g < q → test g ≡ true) → filter (λ (g : GoneUnit). test g.gap) gs ≡ gs
all_pass test q [] h e = refl
all_pass test q (g ∷ gs) h e = filter_in (λ (x : GoneUnit). test x.gap) g gs (e g.gap h.0) ∙ ap (λ (x : List GoneUnit). g ∷ x) (all_pass test q gs h.1 e)

none_pass : (test : ℕ → Bool) (q : ℕ) (gs : List GoneUnit) → GapsBelow q gs → ((g : ℕ) → g < q → test g ≡ false) → filter (λ (g : GoneUnit). test g.gap) gs ≡ []
none_pass test q [] h e = refl
none_pass test q (g ∷ gs) h e = filter_out (λ (x : GoneUnit). test x.gap) g gs (e g.gap h.0) ∙ none_pass test q gs h.1 e

all_far : (test : ℕ → Bool) (q : ℕ) (gs : List GoneUnit) → GapsFrom q gs → ((g : ℕ) → q ≤ g → test g ≡ true) → filter (λ (g : GoneUnit). test g.gap) gs ≡ gs
all_far test q [] h e = refl
all_far test q (g ∷ gs) h e = filter_in (λ (x : GoneUnit). test x.gap) g gs (e g.gap h.0) ∙ ap (λ (x : List GoneUnit). g ∷ x) (all_far test q gs h.1 e)

none_far : (test : ℕ → Bool) (q : ℕ) (gs : List GoneUnit) → GapsFrom q gs → ((g : ℕ) → q ≤ g → test g ≡ false) → filter (λ (g : GoneUnit). test g.gap) gs ≡ []
none_far test q [] h e = refl
none_far test q (g ∷ gs) h e = filter_out (λ (x : GoneUnit). test x.gap) g gs (e g.gap h.0) ∙ none_far test q gs h.1 e

gone_under : (at : ℕ) (cells : List Cell) → GapsBelow (at + length (lives_of cells) + 1) (gone_from at cells)
gone_under at [] = tt
gone_under at (Live u o ∷ cs) = subst (λ (n : ℕ). GapsBelow n (gone_from (at + 1) cs)) (omega arith) (gone_under (at + 1) cs)
gone_under at (Gone u m ∷ cs) = (omega arith, gone_under at cs)
gone_under at (Start t ∷ cs) = gone_under at cs
gone_under at (End t ∷ cs) = gone_under at cs

-- the gone cells of a row in three parts, after a delete
abbrev pub gone_after : Bool → ℕ → ℕ → Mark → List LiveUnit → List GoneUnit → List GoneUnit
gone_after b at n new out gone = if b then filter (λ (g : GoneUnit). nat_lt g.gap at) gone ++ (map (gone_at at new) (mixed at out gone)
    ++ map (shifted (λ (x : ℕ). x - n)) (filter (λ (g : GoneUnit). nat_lt (at + n) g.gap) gone))
    else map (shifted (squashed at n)) gone

gone_parts : (b : Bool) (at n : ℕ) (new : Mark) (out behind : List Cell) (low : List GoneUnit) → length (lives_of out) ≡ n → GapsBelow at low → GapsFrom (at + n + 1) (gone_from (at + n) behind) →
    low ++ (gone_from at (left_of b new out) ++ gone_from at behind) ≡ gone_after b at n new (lives_of out) (low ++ (gone_from at out ++ gone_from (at + n) behind))
gone_parts true at n new out behind low count below far =
    let mid = gone_from at out in
    let high = gone_from (at + n) behind in
    let under : GapsBelow (at + n + 1) mid = subst (λ (q : ℕ). GapsBelow (at + q + 1) mid) count (gone_under at out) in
    let lows : filter (λ (g : GoneUnit). nat_lt g.gap at) (low ++ (mid ++ high)) ≡ low =
    filter-append (λ (g : GoneUnit). nat_lt g.gap at) low (mid ++ high)
    ∙ ap₂ (λ (x y : List GoneUnit). x ++ y) (all_pass (λ (x : ℕ). nat_lt x at) at low below (λ g lt. lt-ltb g at lt)) (none_far (λ (x : ℕ). nat_lt x at) at (mid ++ high) (from-append at mid high (gone_above at at out (omega arith)) (from_less at (at + n + 1) high (omega arith) far)) (λ g le. le-ltb g at le))
    ∙ append-nil low in
    let highs : filter (λ (g : GoneUnit). nat_lt (at + n) g.gap) (low ++ (mid ++ high)) ≡ high =
    filter-append (λ (g : GoneUnit). nat_lt (at + n) g.gap) low (mid ++ high)
    ∙ ap₂ (λ (x y : List GoneUnit). x ++ y) (none_pass (λ (x : ℕ). nat_lt (at + n) x) at low below (λ g lt. le-ltb (at + n) g (omega (arith, lt))))
    (filter-append (λ (g : GoneUnit). nat_lt (at + n) g.gap) mid high
    ∙ ap₂ (λ (x y : List GoneUnit). x ++ y) (none_pass (λ (x : ℕ). nat_lt (at + n) x) (at + n + 1) mid under (λ g lt. le-ltb (at + n) g (omega (arith, lt)))) (all_far (λ (x : ℕ). nat_lt (at + n) x) (at + n + 1) high far (λ g le. lt-ltb (at + n) g (omega (arith, le))))) in
    let mids : gone_from at (flat_map (taken_out new) out) ≡ map (gone_at at new) (mixed at (lives_of out) (low ++ (mid ++ high))) =
    taken_gone at new at out high (subst (λ (q : ℕ). GapsFrom (at + q + 1) high) (sym count) far) ∙ ap (map (gone_at at new)) (sym (mixed_past at (lives_of out) low (mid ++ high) below)) in
    let ends : gone_from at behind ≡ map (shifted (λ (x : ℕ). x - n)) (filter (λ (g : GoneUnit). nat_lt (at + n) g.gap) (low ++ (mid ++ high))) =
    sym (shift_by (λ (x : ℕ). x - n) (at + n) at behind (λ i. omega arith)) ∙ ap (map (shifted (λ (x : ℕ). x - n))) (sym highs) in
    ap₂ (λ (x y : List GoneUnit). x ++ y) (sym lows) (ap₂ (λ (x y : List GoneUnit). x ++ y) mids ends)
gone_parts false at n new out behind low count below far =
    let f = squashed at n in
    sym (map-append (shifted f) low (gone_from at out ++ gone_from (at + n) behind)
    ∙ ap₂ (λ (x y : List GoneUnit). x ++ y) (shift_below f at low below (squash_low at n))
    (map-append (shifted f) (gone_from at out) (gone_from (at + n) behind)
    ∙ ap₂ (λ (x y : List GoneUnit). x ++ y) (sym (still_gone f at at out (λ i le. squash_mid at n (at + i) (omega arith) (omega (arith, le, count))))) (shift_by f (at + n) at behind (squash_far at n))))

pub out_lives : (cells : List Cell) (at n : ℕ) → lives_of (gaps n (from_gap at cells)) ≡ take n (drop at (lives_of cells))
out_lives cells at n = lives_gaps n (from_gap at cells) ∙ ap (take n) (lives_from at cells)

pub out_length : (cells : List Cell) (at n : ℕ) → at + n ≤ length (lives_of cells) → length (lives_of (gaps n (from_gap at cells))) ≡ n
out_length cells at n le =
    let rest : length (lives_of (from_gap at cells)) + at ≡ length (lives_of cells) = omega (arith, ap length (sym (lives-append (before at cells) (from_gap at cells)) ∙ ap lives_of (whole at cells)), length-append (lives_of (before at cells)) (lives_of (from_gap at cells)), front_length at cells (omega (arith, le))) in
    ap length (lives_gaps n (from_gap at cells)) ∙ length-take-le n (lives_of (from_gap at cells)) (omega (arith, rest, le))

deleted_gone : (b : Bool) (cells : List Cell) (at n : ℕ) (new : Mark) → at + n ≤ length (lives_of cells) →
    gone_from 0 (before at cells ++ (grouped (before at cells) (left_of b new (gaps n (from_gap at cells))) ++ behind n (from_gap at cells)))
    ≡ gone_after b at n new (lives_of (gaps n (from_gap at cells))) (gone_from 0 cells)
deleted_gone b cells at n new le =
    let front = before at cells in
    let rest = from_gap at cells in
    let out = gaps n rest in
    let left = left_of b new out in
    let count : length (lives_of front) ≡ at = front_length at cells (omega (arith, le)) in
    let outs : length (lives_of out) ≡ n = out_length cells at n le in
    let none : lives_of left ≡ [] = left_lives b new out in
    let here : 0 + length (lives_of front) ≡ at = omega (arith, count) in
    let below : GapsBelow at (gone_from 0 front) = subst (λ (q : ℕ). GapsBelow q (gone_from 0 front)) here (gone_below 0 front (ends_before at cells (omega (arith, le)))) in
    let old : gone_from 0 cells ≡ gone_from 0 front ++ (gone_from at out ++ gone_from (at + n) (behind n rest)) =
    ap (gone_from 0) (sym (whole at cells) ∙ ap (λ (x : List Cell). front ++ x) (sym (rest_whole n rest))) ∙ gone-append 0 front (out ++ behind n rest)
    ∙ ap (λ (k : ℕ). gone_from 0 front ++ gone_from k (out ++ behind n rest)) here
    ∙ ap (λ (x : List GoneUnit). gone_from 0 front ++ x) (gone-append at out (behind n rest) ∙ ap (λ (k : ℕ). gone_from at out ++ gone_from (at + k) (behind n rest)) outs) in
    gone-append 0 front (grouped front left ++ behind n rest)
    ∙ ap (λ (k : ℕ). gone_from 0 front ++ gone_from k (grouped front left ++ behind n rest)) here
    ∙ ap (λ (x : List GoneUnit). gone_from 0 front ++ x) (gone-append at (grouped front left) (behind n rest)
    ∙ ap₂ (λ (x : List GoneUnit) (k : ℕ). x ++ gone_from k (behind n rest)) (grouped_gone at front left none) (omega (arith, ap length (grouped_lives front left none))))
    ∙ gone_parts b at n new out (behind n rest) (gone_from 0 front) outs below (gone_behind (at + n) (behind n rest) (begins_behind n rest))
    ∙ ap (gone_after b at n new (lives_of out)) (sym old)

-- the live cells
pub deleted_lives : (b : Bool) (cells : List Cell) (at n : ℕ) (new : Mark) →
    lives_of (before at cells ++ (grouped (before at cells) (left_of b new (gaps n (from_gap at cells))) ++ behind n (from_gap at cells))) ≡ take at (lives_of cells) ++ drop (at + n) (lives_of cells)
deleted_lives b cells at n new =
    let front = before at cells in
    let rest = from_gap at cells in
    let left = left_of b new (gaps n rest) in
    lives-append front (grouped front left ++ behind n rest)
    ∙ ap₂ (λ (x y : List LiveUnit). x ++ y) (lives_before at cells)
    (lives-append (grouped front left) (behind n rest)
    ∙ ap₂ (λ (x y : List LiveUnit). x ++ y) (grouped_lives front left (left_lives b new (gaps n rest))) (lives_behind n rest ∙ ap (drop n) (lives_from at cells) ∙ drop-drop n at (lives_of cells)))

-- one thread
deleted_edge : (test : Cell → Bool) → IsEdgeTest test → (b : Bool) (cells : List Cell) (at n : ℕ) (new : Mark) → at + n ≤ length (lives_of cells) →
    gap_of test (before at cells ++ (grouped (before at cells) (left_of b new (gaps n (from_gap at cells))) ++ behind n (from_gap at cells))) ≡ squashed at n (gap_of test cells)
deleted_edge test h b cells at n new le =
    let front = before at cells in
    let rest = from_gap at cells in
    let out = gaps n rest in
    let left = left_of b new out in
    edge_squashed test front out (grouped front left) (behind n rest) at n (ends_before at cells (omega (arith, le))) (front_length at cells (omega (arith, le))) (out_length cells at n le) (grouped_lives front left (left_lives b new out)) (any_grouped test front left ∙ left_edges test h b new out)
    ∙ ap (λ (x : List Cell). squashed at n (gap_of test x)) (ap (λ (x : List Cell). front ++ x) (rest_whole n rest) ∙ whole at cells)

deleted_thread : (b : Bool) (cells : List Cell) (at n : ℕ) (new : Mark) (t : ℕ) → at + n ≤ length (lives_of cells) →
    thread_of (before at cells ++ (grouped (before at cells) (left_of b new (gaps n (from_gap at cells))) ++ behind n (from_gap at cells))) t ≡ record { thread = t; from = squashed at n (gap_of (is_start t) cells); to = squashed at n (gap_of (is_end t) cells) }
deleted_thread b cells at n new t le = ap₂ (λ (x y : ℕ). let r : Thread = record { thread = t; from = x; to = y } in r) (deleted_edge (is_start t) (start_test t) b cells at n new le) (deleted_edge (is_end t) (end_test t) b cells at n new le)

pub delete_fresh : (row : FlatRow) (at n : ℕ) (stamp : Stamp) → (stamp.track && some_unmarked (lives_of (gaps n (from_gap at row.cells)))) ≡ (stamp.track && some_unmarked (take n (drop at (lives_of row.cells))))
delete_fresh row at n stamp = ap (λ (x : List LiveUnit). stamp.track && some_unmarked x) (out_lives row.cells at n)

pub delete_agrees : (row : FlatRow) (at n : ℕ) (stamp : Stamp) (k : ℕ) → IsWellFormedFlat row → at + n ≤ length (lives_of row.cells) → row_of (flat_deleted row at n stamp k).row ≡ (deleted (row_of row) at n stamp k).row
delete_agrees row at n stamp k h le =
    let b = stamp.track && some_unmarked (lives_of (gaps n (from_gap at row.cells))) in
    let new = fresh_mark stamp k in
    same_rows (row_of (flat_deleted row at n stamp k).row).lives (deleted (row_of row) at n stamp k).row.lives (row_of (flat_deleted row at n stamp k).row).gone (deleted (row_of row) at n stamp k).row.gone
    (row_of (flat_deleted row at n stamp k).row).threads (deleted (row_of row) at n stamp k).row.threads
    (deleted_lives b row.cells at n new)
    (deleted_gone b row.cells at n new le ∙ ap (λ (x : List LiveUnit). gone_after (stamp.track && some_unmarked x) at n new x (gone_from 0 row.cells)) (out_lives row.cells at n))
    (threads_alike row.cells (flat_deleted row at n stamp k).row.cells (λ (t : Thread). record { thread = t.thread; from = squashed at n t.from; to = squashed at n t.to }) row.threads h.threads
    (λ t i. deleted_thread b row.cells at n new t le))
