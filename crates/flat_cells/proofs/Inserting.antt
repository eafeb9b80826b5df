-- An insert on a flat row is the insert on its coordinates.
use Rattle.std.proofs.Common.{◌≡◌, ℕ, zero, suc, ◌+◌, ◌≤◌, Bool, true, false, List, [], ◌∷◌, ◌++◌, refl, ap, ap₂, sym, ◌∙◌, length, arith, map, take, drop, filter, Option, Some, None, subst, ⊎_elim, All}
use Rattle.std.specs.Prelude.{◌||◌, ◌&&◌, not, if◌then◌else◌}
use Rattle.std.specs.List.{list_any}
use Rattle.std.proofs.lemmas.Bool.{cases_Bool, or_parts, or_left, or_right, cond-false}
use Rattle.std.proofs.lemmas.List.{length-take-le, map-append}
use Rattle.std.proofs.lemmas.List.Folds.{list_any-append}
use Rattle.std.proofs.lemmas.List.Elements.{All-head, All-tail}
use Rattle.ranges_tracker.specs.declared.mark.Mark.{Mark}
use Rattle.ranges_tracker.specs.declared.stamp.Stamp.{Stamp}
use Rattle.ranges_tracker.specs.Cells.{Live as LiveUnit, Gone as GoneUnit, Thread, Row, same_mark, bears, mark_at, mark_before, chosen, torn, renewed, exchanged, remarked, new_lives, raised, shifted, inserted}
use Rattle.flat_cells.specs.Row.{Cell, Live, Gone, Start, End, FlatRow, is_start, is_end, lives_of, gone_from, before, from_gap, gaps, behind, until, gap_of, ends_earlier, earlier_ends, without_earlier_ends, thread_of, row_of}
use Rattle.flat_cells.specs.Step.{exchanged_cell, remarked_cells, new_cells, flat_inserted}
use Rattle.flat_cells.specs.Form.{IsThread, IsWellFormedFlat, is_live_of, is_gone_of}
use Rattle.ranges_tracker.proofs.Packing.{same_mark_self}
use Rattle.ranges_tracker.proofs.Placing.{GapsBelow}
use Rattle.flat_cells.proofs.Parts.{whole, rest_whole, lives-append, lives_before, lives_from, lives_gaps, ends_before, begins_behind, gone-append, gone_below, shift_below, shift_by, weight, gap_here, gap_on, gap_in, gap_within, no_lives, same_gone, no_gone}
use Rattle.flat_cells.proofs.Edges.{filter_in, filter_out, start_earlier, start_late, gap_swap, raised_low, raised_high, raised_end, start_raised, end_raised}

-- what stands from the first that passes a test on
abbrev pub since : (Cell → Bool) → List Cell → List Cell
since test [] = []
since test (c ∷ cs) = if test c then c ∷ cs else since test cs

since_either : (b : Bool) (c : Cell) (us ss cs : List Cell) → us ++ ss ≡ cs → (if b then [] else c ∷ us) ++ (if b then c ∷ cs else ss) ≡ c ∷ cs
since_either true c us ss cs e = refl
since_either false c us ss cs e = ap (λ (x : List Cell). c ∷ x) e

until_since : (test : Cell → Bool) (cells : List Cell) → until test cells ++ since test cells ≡ cells
until_since test [] = refl
until_since test (c ∷ cs) = since_either (test c) c (until test cs) (since test cs) cs (until_since test cs)

-- a thread starts no later than it ends, and has an end
pub in_order : (cells : List Cell) (t : ℕ) → IsThread cells t → gap_of (is_start t) cells ≤ gap_of (is_end t) cells
in_order cells t h = omega (arith, ap (gap_of (is_start t)) (sym (until_since (is_end t) cells)) ∙ gap_in (is_start t) (until (is_end t) cells) (since (is_end t) cells) h.in_order, gap_within (is_start t) (until (is_end t) cells))

pub none_left : {X : Type 0} (test : X → Bool) (xs : List X) → list_any test xs ≡ false → filter test xs ≡ []
none_left test [] h = refl
none_left test (x ∷ xs) h = let p = or_parts (test x) (list_any test xs) h in cond-false (test x) (x ∷ filter test xs) (filter test xs) p.0 ∙ none_left test xs p.1

pub some_of_one : {X : Type 0} (test : X → Bool) (xs : List X) → length (filter test xs) ≡ 1 → list_any test xs ≡ true
some_of_one test xs e = ⊎_elim {C = list_any test xs ≡ true} (λ t. t) (λ f. absurd (omega (arith, e, ap length (none_left test xs f)))) (cases_Bool (list_any test xs))

-- the parts of a row around a gap
pub parts_of : (at : ℕ) (cells : List Cell) → before at cells ++ (gaps 0 (from_gap at cells) ++ behind 0 (from_gap at cells)) ≡ cells
parts_of at cells = ap (λ (x : List Cell). before at cells ++ x) (rest_whole 0 (from_gap at cells)) ∙ whole at cells

pub gap_lives : (at : ℕ) (cells : List Cell) → lives_of (gaps 0 (from_gap at cells)) ≡ []
gap_lives at cells = lives_gaps 0 (from_gap at cells)

pub front_length : (at : ℕ) (cells : List Cell) → at ≤ length (lives_of cells) → length (lives_of (before at cells)) ≡ at
front_length at cells le = ap length (lives_before at cells) ∙ length-take-le at (lives_of cells) le

-- exchanged marks
lives_exchanged : (old new : Mark) (cells : List Cell) → lives_of (map (exchanged_cell old new) cells) ≡ map (λ (l : LiveUnit). record { unit = l.unit; mark = exchanged old new l.mark }) (lives_of cells)
lives_exchanged old new [] = refl
lives_exchanged old new (Live u o ∷ cs) = ap (λ (x : List LiveUnit). record { unit = u; mark = exchanged old new o } ∷ x) (lives_exchanged old new cs)
lives_exchanged old new (Gone u m ∷ cs) = lives_exchanged old new cs
lives_exchanged old new (Start t ∷ cs) = lives_exchanged old new cs
lives_exchanged old new (End t ∷ cs) = lives_exchanged old new cs

lives_remarked : (o : Option Mark) (stamp : Stamp) (j : ℕ) (cells : List Cell) → lives_of (remarked_cells o stamp j cells) ≡ remarked o stamp j (lives_of cells)
lives_remarked None stamp j cells = refl
lives_remarked (Some old) stamp j cells = lives_exchanged old (renewed old stamp j) cells

gone_exchanged : (old new : Mark) (at : ℕ) (cells : List Cell) → list_any (is_gone_of old) cells ≡ false → gone_from at (map (exchanged_cell old new) cells) ≡ gone_from at cells
gone_exchanged old new at [] h = refl
gone_exchanged old new at (Live u o ∷ cs) h = gone_exchanged old new (at + 1) cs h
gone_exchanged old new at (Gone u m ∷ cs) h =
    let p = or_parts (same_mark m old) (list_any (is_gone_of old) cs) h in
    ap₂ (λ (x : Mark) (gs : List GoneUnit). record { gap = at; unit = u; mark = x } ∷ gs) (cond-false (same_mark m old) new m p.0) (gone_exchanged old new at cs p.1)
gone_exchanged old new at (Start t ∷ cs) h = gone_exchanged old new at cs h
gone_exchanged old new at (End t ∷ cs) h = gone_exchanged old new at cs h

gone_remarked : (o : Option Mark) (stamp : Stamp) (j at : ℕ) (cells : List Cell) → ((m : Mark) → o ≡ Some m → list_any (is_gone_of m) cells ≡ false) → gone_from at (remarked_cells o stamp j cells) ≡ gone_from at cells
gone_remarked None stamp j at cells h = refl
gone_remarked (Some old) stamp j at cells h = gone_exchanged old (renewed old stamp j) at cells (h old refl)

-- a test of starts and ends
pub record IsEdgeTest (test : Cell → Bool) : Type 0 where
  pub live : (u : ℕ) (o : Option Mark) → test (Live u o) ≡ false
  pub gone : (u : ℕ) (m : Mark) → test (Gone u m) ≡ false

pub start_test : (t : ℕ) → IsEdgeTest (is_start t)
start_test t = record { live = λ u o. refl; gone = λ u m. refl }

pub end_test : (t : ℕ) → IsEdgeTest (is_end t)
end_test t = record { live = λ u o. refl; gone = λ u m. refl }

pub same_test : (test : Cell → Bool) → IsEdgeTest test → (old new : Mark) (c : Cell) → test (exchanged_cell old new c) ≡ test c
same_test test h old new (Live u o) = h.live u (exchanged old new o) ∙ sym (h.live u o)
same_test test h old new (Gone u m) = h.gone u (if same_mark m old then new else m) ∙ sym (h.gone u m)
same_test test h old new (Start t) = refl
same_test test h old new (End t) = refl

same_weight : (old new : Mark) (c : Cell) → weight (exchanged_cell old new c) ≡ weight c
same_weight old new (Live u o) = refl
same_weight old new (Gone u m) = refl
same_weight old new (Start t) = refl
same_weight old new (End t) = refl

gap_exchanged : (test : Cell → Bool) → IsEdgeTest test → (old new : Mark) (cells : List Cell) → gap_of test (map (exchanged_cell old new) cells) ≡ gap_of test cells
gap_exchanged test h old new [] = refl
gap_exchanged test h old new (c ∷ cs) =
    let f = exchanged_cell old new in
    ⊎_elim {C = gap_of test (map f (c ∷ cs)) ≡ gap_of test (c ∷ cs)}
    (λ t. gap_here test (f c) (map f cs) (same_test test h old new c ∙ t) ∙ sym (gap_here test c cs t))
    (λ t. gap_on test (f c) (map f cs) (same_test test h old new c ∙ t) ∙ ap₂ (λ (x y : ℕ). x + y) (same_weight old new c) (gap_exchanged test h old new cs) ∙ sym (gap_on test c cs t))
    (cases_Bool (test c))

gap_remarked : (test : Cell → Bool) → IsEdgeTest test → (o : Option Mark) (stamp : Stamp) (j : ℕ) (cells : List Cell) → gap_of test (remarked_cells o stamp j cells) ≡ gap_of test cells
gap_remarked test h None stamp j cells = refl
gap_remarked test h (Some old) stamp j cells = gap_exchanged test h old (renewed old stamp j) cells

-- the new cells
pub lives_new : (us : List ℕ) (o : Option Mark) → lives_of (new_cells us o) ≡ new_lives us o
lives_new [] o = refl
lives_new (u ∷ us) o = ap (λ (x : List LiveUnit). record { unit = u; mark = o } ∷ x) (lives_new us o)

pub count_new : (us : List ℕ) (o : Option Mark) → length (lives_of (new_cells us o)) ≡ length us
count_new [] o = refl
count_new (u ∷ us) o = ap suc (count_new us o)

pub gone_new : (at : ℕ) (us : List ℕ) (o : Option Mark) → gone_from at (new_cells us o) ≡ []
gone_new at [] o = refl
gone_new at (u ∷ us) o = gone_new (at + 1) us o

pub no_edge_new : (test : Cell → Bool) → IsEdgeTest test → (us : List ℕ) (o : Option Mark) → list_any test (new_cells us o) ≡ false
no_edge_new test h [] o = refl
no_edge_new test h (u ∷ us) o = ap₂ (λ (x y : Bool). x || y) (h.live u o) (no_edge_new test h us o)

-- a torn mark is one of a live cell
pub live_bears : (cells : List Cell) (i : ℕ) (m : Mark) → mark_at (lives_of cells) i ≡ Some m → list_any (is_live_of m) cells ≡ true
live_bears [] zero m e = cc
live_bears [] (suc i) m e = cc
live_bears (Live u o ∷ cs) zero m e = or_left (bears o m) (list_any (is_live_of m) cs) (ap (λ (x : Option Mark). bears x m) e ∙ same_mark_self m)
live_bears (Live u o ∷ cs) (suc i) m e = or_right (bears o m) (list_any (is_live_of m) cs) (live_bears cs i m e)
live_bears (Gone u n ∷ cs) i m e = live_bears cs i m e
live_bears (Start t ∷ cs) i m e = live_bears cs i m e
live_bears (End t ∷ cs) i m e = live_bears cs i m e

pub before_bears : (cells : List Cell) (at : ℕ) (m : Mark) → mark_before (lives_of cells) at ≡ Some m → list_any (is_live_of m) cells ≡ true
before_bears cells zero m e = cc
before_bears cells (suc at) m e = live_bears cells at m e

if_some : (b : Bool) (n m : Mark) → (if b then Some n else None) ≡ Some m → Some n ≡ Some m
if_some true n m e = e
if_some false n m e = cc

pub torn_before : (left right by : Option Mark) (m : Mark) → torn left right by ≡ Some m → left ≡ Some m
torn_before None right by m e = cc
torn_before (Some n) right by m e = if_some (bears right n && not (bears by n)) n m e

pub torn_is_live : (row : FlatRow) → IsWellFormedFlat row → (at : ℕ) (right by : Option Mark) (m : Mark) → torn (mark_before (lives_of row.cells) at) right by ≡ Some m → list_any (is_gone_of m) row.cells ≡ false
torn_is_live row h at right by m e =
    let live : list_any (is_live_of m) row.cells ≡ true = before_bears row.cells at m (torn_before (mark_before (lives_of row.cells) at) right by m e) in
    ⊎_elim {C = list_any (is_gone_of m) row.cells ≡ false} (λ t. absurd (clash (sym live ∙ h.apart m t))) (λ f. f) (cases_Bool (list_any (is_gone_of m) row.cells))
  where
    clash : true ≡ false → ⊥
    clash x = cc

-- what does not stand in a row does not stand in its parts
pub any_less : (test f : Cell → Bool) (xs : List Cell) → list_any test xs ≡ false → list_any test (filter f xs) ≡ false
any_less test f [] e = refl
any_less test f (x ∷ xs) e =
    let p = or_parts (test x) (list_any test xs) e in
    ⊎_elim {C = list_any test (filter f (x ∷ xs)) ≡ false}
    (λ t. ap (list_any test) (filter_in f x xs t) ∙ ap₂ (λ (a b : Bool). a || b) p.0 (any_less test f xs p.1))
    (λ t. ap (list_any test) (filter_out f x xs t) ∙ any_less test f xs p.1)
    (cases_Bool (f x))

pub not_in_parts : (test f : Cell → Bool) (front gap rest : List Cell) → list_any test (front ++ (gap ++ rest)) ≡ false → list_any test (filter f gap ++ rest) ≡ false
not_in_parts test f front gap rest e =
    let a = or_parts (list_any test front) (list_any test (gap ++ rest)) (sym (list_any-append test front (gap ++ rest)) ∙ e) in
    let b = or_parts (list_any test gap) (list_any test rest) (sym (list_any-append test gap rest) ∙ a.1) in
    list_any-append test (filter f gap) rest ∙ ap₂ (λ (x y : Bool). x || y) (any_less test f gap b.0) b.1

pub same_rows : (ls ms : List LiveUnit) (gs hs : List GoneUnit) (ts us : List Thread) → ls ≡ ms → gs ≡ hs → ts ≡ us → ◌≡◌ {A = Row} (record { lives = ls; gone = gs; threads = ts }) (record { lives = ms; gone = hs; threads = us })
same_rows ls ms gs hs ts us e f g = ap₂ (λ (x : List LiveUnit) (y : List GoneUnit). let r : Row = record { lives = x; gone = y; threads = ts } in r) e f ∙ ap (λ (z : List Thread). let r : Row = record { lives = ms; gone = hs; threads = z } in r) g

-- the live cells after an insert
pub inserted_lives : (cells : List Cell) (at : ℕ) (part : List ℕ) (by old : Option Mark) (stamp : Stamp) (j : ℕ) →
    lives_of (before at cells ++ (earlier_ends (before at cells) (gaps 0 (from_gap at cells)) ++ (new_cells part by ++ remarked_cells old stamp j (without_earlier_ends (before at cells) (gaps 0 (from_gap at cells)) ++ behind 0 (from_gap at cells)))))
    ≡ take at (lives_of cells) ++ (new_lives part by ++ remarked old stamp j (drop at (lives_of cells)))
inserted_lives cells at part by old stamp j =
    let front = before at cells in
    let rest = from_gap at cells in
    let gap = gaps 0 rest in
    let ends = earlier_ends front gap in
    let late = without_earlier_ends front gap ++ behind 0 rest in
    let none : lives_of gap ≡ [] = gap_lives at cells in
    let late_is : lives_of late ≡ drop at (lives_of cells) = lives-append (without_earlier_ends front gap) (behind 0 rest) ∙ ap₂ (λ (x y : List LiveUnit). x ++ y) (no_lives (λ (c : Cell). not (ends_earlier front c)) gap none ∙ sym none) refl ∙ sym (lives-append gap (behind 0 rest)) ∙ ap lives_of (rest_whole 0 rest) ∙ lives_from at cells in
    lives-append front (ends ++ (new_cells part by ++ remarked_cells old stamp j late))
    ∙ ap₂ (λ (x y : List LiveUnit). x ++ y) (lives_before at cells)
    (lives-append ends (new_cells part by ++ remarked_cells old stamp j late)
    ∙ ap₂ (λ (x y : List LiveUnit). x ++ y) (no_lives (ends_earlier front) gap none)
    (lives-append (new_cells part by) (remarked_cells old stamp j late)
    ∙ ap₂ (λ (x y : List LiveUnit). x ++ y) (lives_new part by) (lives_remarked old stamp j late ∙ ap (remarked old stamp j) late_is)))

-- the gone cells
keeps_gone : (front : List Cell) (u : ℕ) (m : Mark) → not (ends_earlier front (Gone u m)) ≡ true
keeps_gone front u m = refl

inserted_gone : (cells : List Cell) (at : ℕ) (part : List ℕ) (by old : Option Mark) (stamp : Stamp) (j : ℕ) → at ≤ length (lives_of cells) → ((m : Mark) → old ≡ Some m → list_any (is_gone_of m) cells ≡ false) →
    gone_from 0 (before at cells ++ (earlier_ends (before at cells) (gaps 0 (from_gap at cells)) ++ (new_cells part by ++ remarked_cells old stamp j (without_earlier_ends (before at cells) (gaps 0 (from_gap at cells)) ++ behind 0 (from_gap at cells)))))
    ≡ map (shifted (raised at (length part))) (gone_from 0 cells)
inserted_gone cells at part by old stamp j le apart =
    let n = length part in
    let f = raised at n in
    let front = before at cells in
    let rest = from_gap at cells in
    let gap = gaps 0 rest in
    let ends = earlier_ends front gap in
    let late = without_earlier_ends front gap ++ behind 0 rest in
    let new = new_cells part by in
    let count : length (lives_of front) ≡ at = front_length at cells le in
    let none : lives_of gap ≡ [] = gap_lives at cells in
    let late_none : lives_of (without_earlier_ends front gap) ≡ [] = no_lives (λ (c : Cell). not (ends_earlier front c)) gap none in
    let not_gone : (m : Mark) → old ≡ Some m → list_any (is_gone_of m) late ≡ false = λ m e. not_in_parts (is_gone_of m) (λ (c : Cell). not (ends_earlier front c)) front gap (behind 0 rest) (ap (list_any (is_gone_of m)) (parts_of at cells) ∙ apart m e) in
    let late_is : gone_from (at + n) late ≡ gone_from (at + n) rest =
    gone-append (at + n) (without_earlier_ends front gap) (behind 0 rest)
    ∙ ap₂ (λ (x : List GoneUnit) (k : ℕ). x ++ gone_from (at + n + k) (behind 0 rest)) (same_gone (λ (c : Cell). not (ends_earlier front c)) (keeps_gone front) (at + n) gap none) (ap length (late_none ∙ sym none))
    ∙ sym (gone-append (at + n) gap (behind 0 rest)) ∙ ap (gone_from (at + n)) (rest_whole 0 rest) in
    let right : gone_from at (ends ++ (new ++ remarked_cells old stamp j late)) ≡ gone_from (at + n) rest =
    gone-append at ends (new ++ remarked_cells old stamp j late)
    ∙ ap₂ (λ (x : List GoneUnit) (k : ℕ). x ++ gone_from k (new ++ remarked_cells old stamp j late)) (no_gone (ends_earlier front) (λ u m. refl) at gap none) (omega (arith, ap length (no_lives (ends_earlier front) gap none)))
    ∙ gone-append at new (remarked_cells old stamp j late)
    ∙ ap₂ (λ (x : List GoneUnit) (k : ℕ). x ++ gone_from (at + k) (remarked_cells old stamp j late)) (gone_new at part by) (count_new part by)
    ∙ gone_remarked old stamp j (at + n) late not_gone ∙ late_is in
    let left : map (shifted f) (gone_from 0 front) ≡ gone_from 0 front = shift_below f at (gone_from 0 front) (subst (λ (q : ℕ). GapsBelow q (gone_from 0 front)) (omega (arith, count)) (gone_below 0 front (ends_before at cells le))) (raised_low at n) in
    let moved : map (shifted f) (gone_from at rest) ≡ gone_from (at + n) rest = shift_by f at (at + n) rest (λ i. raised_high at n (at + i) (omega arith) ∙ omega arith) in
    let here : 0 + length (lives_of front) ≡ at = omega (arith, count) in
    gone-append 0 front (ends ++ (new ++ remarked_cells old stamp j late))
    ∙ ap₂ (λ (x : List GoneUnit) (k : ℕ). x ++ gone_from k (ends ++ (new ++ remarked_cells old stamp j late))) (sym left) here
    ∙ ap (λ (x : List GoneUnit). map (shifted f) (gone_from 0 front) ++ x) (right ∙ sym moved)
    ∙ sym (map-append (shifted f) (gone_from 0 front) (gone_from at rest))
    ∙ ap (map (shifted f)) (ap (λ (k : ℕ). gone_from 0 front ++ gone_from k rest) (sym here) ∙ sym (gone-append 0 front rest) ∙ ap (gone_from 0) (whole at cells))

-- one thread
inserted_thread : (cells : List Cell) (at : ℕ) (part : List ℕ) (by old : Option Mark) (stamp : Stamp) (j t : ℕ) → at ≤ length (lives_of cells) → IsThread cells t →
    thread_of (before at cells ++ (earlier_ends (before at cells) (gaps 0 (from_gap at cells)) ++ (new_cells part by ++ remarked_cells old stamp j (without_earlier_ends (before at cells) (gaps 0 (from_gap at cells)) ++ behind 0 (from_gap at cells))))) t
    ≡ record { thread = t; from = raised at (length part) (gap_of (is_start t) cells); to = raised_end at (length part) (gap_of (is_start t) cells) (gap_of (is_end t) cells) }
inserted_thread cells at part by old stamp j t le h =
    let n = length part in
    let front = before at cells in
    let rest = from_gap at cells in
    let gap = gaps 0 rest in
    let ends = earlier_ends front gap in
    let late = without_earlier_ends front gap ++ behind 0 rest in
    let new = new_cells part by in
    let none : lives_of gap ≡ [] = gap_lives at cells in
    let late_none : lives_of (without_earlier_ends front gap) ≡ [] = no_lives (λ (c : Cell). not (ends_earlier front c)) gap none in
    let count : length (lives_of front) ≡ at = front_length at cells le in
    let all : front ++ (gap ++ behind 0 rest) ≡ cells = parts_of at cells in
    let from : gap_of (is_start t) (front ++ (ends ++ (new ++ remarked_cells old stamp j late))) ≡ raised at n (gap_of (is_start t) (front ++ (gap ++ behind 0 rest))) =
    start_raised (is_start t) front ends new (remarked_cells old stamp j late) (gap ++ behind 0 rest) at n (ends_before at cells le) count (no_lives (ends_earlier front) gap none) (count_new part by) (start_earlier t front gap) (no_edge_new (is_start t) (start_test t) part by)
    (gap_remarked (is_start t) (start_test t) old stamp j late ∙ gap_swap (is_start t) (without_earlier_ends front gap) gap (behind 0 rest) late_none none (start_late t front gap)) in
    let to : gap_of (is_end t) (front ++ (ends ++ (new ++ remarked_cells old stamp j late))) ≡ raised_end at n (gap_of (is_start t) (front ++ (gap ++ behind 0 rest))) (gap_of (is_end t) (front ++ (gap ++ behind 0 rest))) =
    end_raised t front gap new (remarked_cells old stamp j late) (behind 0 rest) at n (ends_before at cells le) (begins_behind 0 rest) count none (count_new part by) (no_edge_new (is_end t) (end_test t) part by)
    (gap_remarked (is_end t) (end_test t) old stamp j late)
    (subst (λ (x : List Cell). gap_of (is_start t) x ≤ gap_of (is_end t) x) (sym all) (in_order cells t h))
    (ap (list_any (is_end t)) all ∙ some_of_one (is_end t) cells h.one_end) in
    ap₂ (λ (x y : ℕ). let r : Thread = record { thread = t; from = x; to = y } in r) (from ∙ ap (λ (x : List Cell). raised at n (gap_of (is_start t) x)) all) (to ∙ ap (λ (x : List Cell). raised_end at n (gap_of (is_start t) x) (gap_of (is_end t) x)) all)

-- all threads alike
pub threads_alike : (cells made : List Cell) (f : Thread → Thread) (ts : List ℕ) → All (IsThread cells) ts → ((t : ℕ) → IsThread cells t → thread_of made t ≡ f (thread_of cells t)) → map (thread_of made) ts ≡ map f (map (thread_of cells) ts)
threads_alike cells made f [] h e = refl
threads_alike cells made f (t ∷ ts) h e = ap₂ (λ (x : Thread) (xs : List Thread). x ∷ xs) (e t (All-head (IsThread cells) t ts h)) (threads_alike cells made f ts (All-tail (IsThread cells) t ts h) e)

pub insert_agrees : (row : FlatRow) (at : ℕ) (part : List ℕ) (stamp : Stamp) (k : ℕ) → IsWellFormedFlat row → at ≤ length (lives_of row.cells) → row_of (flat_inserted row at part stamp k).row ≡ (inserted (row_of row) at part stamp k).row
insert_agrees row at part stamp k h le =
    let lives = lives_of row.cells in
    let left = mark_before lives at in
    let right = mark_at lives at in
    let by = chosen left right stamp k in
    let old = torn left right by.mark in
    let j = k + by.fresh in
    same_rows (row_of (flat_inserted row at part stamp k).row).lives (inserted (row_of row) at part stamp k).row.lives (row_of (flat_inserted row at part stamp k).row).gone (inserted (row_of row) at part stamp k).row.gone
    (row_of (flat_inserted row at part stamp k).row).threads (inserted (row_of row) at part stamp k).row.threads
    (inserted_lives row.cells at part by.mark old stamp j)
    (inserted_gone row.cells at part by.mark old stamp j le (torn_is_live row h at right by.mark))
    (threads_alike row.cells (flat_inserted row at part stamp k).row.cells (λ (t : Thread). record { thread = t.thread; from = raised at (length part) t.from; to = raised_end at (length part) t.from t.to }) row.threads h.threads
    (λ t i. inserted_thread row.cells at part by.mark old stamp j t le i))
