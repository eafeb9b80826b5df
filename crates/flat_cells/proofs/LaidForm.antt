-- Well-formed coordinates laid out are a well-formed flat row.
use Rattle.std.proofs.Common.{◌≡◌, ℕ, zero, suc, ◌+◌, ◌≤◌, Bool, true, false, List, [], ◌∷◌, ◌++◌, refl, ap, ap₂, sym, ◌∙◌, arith, append_assoc, append-nil, map, Option, Some, None, subst, ⊎_elim, ◌⊎◌, inl, inr, All}
use Rattle.std.specs.Prelude.{◌||◌, ◌&&◌, ◌==◌, not, if◌then◌else◌, nat_le, nat_lt}
use Rattle.std.specs.List.{list_any, flat_map}
use Rattle.std.proofs.lemmas.Bool.{cases_Bool, cases_lt, cases_eq, or_parts, or_cases, and_parts, and_from, cond-true, cond-false, eqb-true, eq-eqb, ne_eqb, leb-true, lt-ltb, le-ltb}
use Rattle.std.proofs.lemmas.List.Elements.{All-nil, All-cons, filter-append}
use Rattle.ranges_tracker.specs.declared.mark.Mark.{Mark}
use Rattle.ranges_tracker.specs.Cells.{Live as LiveUnit, Gone as GoneUnit, Thread, Row, same_mark, bears, mark_at}
use Rattle.ranges_tracker.specs.Steady.{RisingGone, GapsWithin}
use Rattle.ranges_tracker.specs.WellFormed.{NotListed, ListedOnce, OnLive, OnGone, OnRow, TogetherLives, TogetherGone, IsWellFormed}
use Rattle.flat_cells.specs.Row.{Cell, Live, Gone, Start, End, FlatRow, is_gone, is_start, lives_of, gone_from, before, from_gap, gaps, ends_earlier, sorted_by, grouped, row_of}
use Rattle.flat_cells.specs.Form.{IsThread, IsOnceEach, names, is_edge, is_live_of, is_gone_of, is_of, AreNeighbours, IsWellFormedFlat}
use Rattle.ranges_tracker.proofs.Packing.{same_mark_is, same_mark_self}
use Rattle.flat_cells.proofs.Edges.{any_join}
use Rattle.flat_cells.proofs.Inserting.{same_rows}
use Rattle.flat_cells.proofs.Commenting.{swap_eqb}
use Rattle.flat_cells.proofs.Threads.{tally}
use Rattle.flat_cells.proofs.Marks.{clash, any_cases, any_both}
use Rattle.flat_cells.proofs.Neighbours.{NoneLeft, join_neighbours, none_past, to_same}
use Rattle.flat_cells.proofs.Runs.{InRuns}
use Rattle.flat_cells.proofs.Groups.{InGroups, groups_made, grouped_parts, filter_all, filter_nothing}
use Rattle.flat_cells.proofs.Laid.{early_of, end_of, edges_of, ends_at, edges_at, here, later, here_later, later_rising, gone_of, gap_laid, laid, gap_laid_lives, laid_lives, laid_gone, laid_threads, laid_thread, In, bit, gap_starts, any_none, any_one}

-- each thread once
names_none : (n : ℕ) (ts : List Thread) → NotListed n ts → names n (map (λ (t : Thread). t.thread) ts) ≡ false
names_none n [] h = refl
names_none n (t ∷ ts) h = ap₂ (λ (a b : Bool). a || b) (swap_eqb n t.thread h.0) (names_none n ts h.1)

once_each : (ts : List Thread) → ListedOnce ts → IsOnceEach (map (λ (t : Thread). t.thread) ts)
once_each [] h = tt
once_each (t ∷ ts) h = (names_none t.thread ts h.0, once_each ts h.1)

each_thread : (cells : List Cell) (ts ss : List Thread) → ((x : Thread) → In x ts → IsThread cells x.thread) → ((x : Thread) → In x ss → In x ts) → All (IsThread cells) (map (λ (t : Thread). t.thread) ss)
each_thread cells ts [] f sub = All-nil (IsThread cells)
each_thread cells ts (s ∷ ss) f sub = All-cons (IsThread cells) s.thread (map (λ (t : Thread). t.thread) ss) (f s (sub s (inl refl))) (each_thread cells ts ss f (λ x i. sub x (inr i)))

-- no other thread
no_edge_early : (n at : ℕ) (t : Thread) → (t.thread == n) ≡ false → list_any (is_edge n) (early_of at t) ≡ false
no_edge_early n at t e = go (nat_lt t.from at && (t.to == at))
  where
    go : (b : Bool) → list_any (is_edge n) (if b then End t.thread ∷ [] else []) ≡ false
    go true = ap (λ (b : Bool). b || false) e
    go false = refl

no_edge_edges : (n at : ℕ) (t : Thread) → (t.thread == n) ≡ false → list_any (is_edge n) (edges_of at t) ≡ false
no_edge_edges n at t e = go (t.from == at) (t.to == at)
  where
    go : (a b : Bool) → list_any (is_edge n) (if a then Start t.thread ∷ (if b then End t.thread ∷ [] else []) else []) ≡ false
    go true true = ap (λ (b : Bool). (b || false) || (b || false)) e
    go true false = ap (λ (b : Bool). (b || false) || false) e
    go false b = refl

no_edge_flat : (n : ℕ) (f : Thread → List Cell) → ((t : Thread) → (t.thread == n) ≡ false → list_any (is_edge n) (f t) ≡ false) → (ts : List Thread) → names n (map (λ (t : Thread). t.thread) ts) ≡ false → list_any (is_edge n) (flat_map f ts) ≡ false
no_edge_flat n f h [] e = refl
no_edge_flat n f h (t ∷ ts) e = let p = or_parts (t.thread == n) (names n (map (λ (x : Thread). x.thread) ts)) e in any_join (is_edge n) (f t) (flat_map f ts) false false (h t p.0) (no_edge_flat n f h ts p.1)

no_edge_gone : (n : ℕ) (gs : List GoneUnit) → list_any (is_edge n) (gone_of gs) ≡ false
no_edge_gone n [] = refl
no_edge_gone n (g ∷ gs) = no_edge_gone n gs

no_edge_gap : (n at : ℕ) (gs : List GoneUnit) (ts : List Thread) → names n (map (λ (t : Thread). t.thread) ts) ≡ false → list_any (is_edge n) (gap_laid at gs ts) ≡ false
no_edge_gap n at gs ts e = any_join (is_edge n) (ends_at at ts) (gone_of (here at gs) ++ edges_at at ts) false false (no_edge_flat n (early_of at) (no_edge_early n at) ts e) (any_join (is_edge n) (gone_of (here at gs)) (edges_at at ts) false false (no_edge_gone n (here at gs)) (no_edge_flat n (edges_of at) (no_edge_edges n at) ts e))

no_edge_laid : (n at : ℕ) (ls : List LiveUnit) (gs : List GoneUnit) (ts : List Thread) → names n (map (λ (t : Thread). t.thread) ts) ≡ false → list_any (is_edge n) (laid at ls gs ts) ≡ false
no_edge_laid n at [] gs ts e = no_edge_gap n at gs ts e
no_edge_laid n at (l ∷ ls) gs ts e = any_join (is_edge n) (gap_laid at gs ts) (Live l.unit l.mark ∷ laid (at + 1) ls (later at gs) ts) false false (no_edge_gap n at gs ts e) (no_edge_laid n (at + 1) ls (later at gs) ts e)

only_listed : (n : ℕ) (ls : List LiveUnit) (gs : List GoneUnit) (ts : List Thread) → list_any (is_edge n) (laid 0 ls gs ts) ≡ true → names n (map (λ (t : Thread). t.thread) ts) ≡ true
only_listed n ls gs ts e = ⊎_elim {C = names n (map (λ (t : Thread). t.thread) ts) ≡ true} (λ t. t) (λ f. clash (list_any (is_edge n) (laid 0 ls gs ts)) e (no_edge_laid n 0 ls gs ts f)) (cases_Bool (names n (map (λ (t : Thread). t.thread) ts)))

-- groups: before a gap stand the starts of the threads begun in earlier gaps
abbrev Begun : ℕ → List Cell → List Thread → Type 0
Begun at front ts = (x : Thread) → In x ts → list_any (is_start x.thread) front ≡ nat_lt x.from at

ends_early : (at : ℕ) (front : List Cell) (ts ss : List Thread) → Begun at front ts → ((x : Thread) → In x ss → In x ts) → list_any (λ (c : Cell). not (ends_earlier front c)) (ends_at at ss) ≡ false
ends_early at front ts [] b sub = refl
ends_early at front ts (s ∷ ss) b sub = any_join (λ (c : Cell). not (ends_earlier front c)) (early_of at s) (ends_at at ss) false false
    (⊎_elim {C = list_any (λ (c : Cell). not (ends_earlier front c)) (early_of at s) ≡ false}
    (λ t. ap (list_any (λ (c : Cell). not (ends_earlier front c))) (cond-true (nat_lt s.from at && (s.to == at)) (End s.thread ∷ []) [] t) ∙ ap (λ (x : Bool). not x || false) (b s (sub s (inl refl)) ∙ (and_parts (nat_lt s.from at) (s.to == at) t).0))
    (λ f. ap (list_any (λ (c : Cell). not (ends_earlier front c))) (cond-false (nat_lt s.from at && (s.to == at)) (End s.thread ∷ []) [] f))
    (cases_Bool (nat_lt s.from at && (s.to == at))))
    (ends_early at front ts ss b (λ x i. sub x (inr i)))

end_not_early : (front : List Cell) (at : ℕ) (s : Thread) → list_any (is_start s.thread) front ≡ false → list_any (ends_earlier front) (end_of at s) ≡ false
end_not_early front at s e = go (s.to == at)
  where
    go : (b : Bool) → list_any (ends_earlier front) (if b then End s.thread ∷ [] else []) ≡ false
    go true = ap (λ (x : Bool). x || false) e
    go false = refl

edges_late : (at : ℕ) (front : List Cell) (ts ss : List Thread) → Begun at front ts → ((x : Thread) → In x ss → In x ts) → list_any (ends_earlier front) (edges_at at ss) ≡ false
edges_late at front ts [] b sub = refl
edges_late at front ts (s ∷ ss) b sub = any_join (ends_earlier front) (edges_of at s) (edges_at at ss) false false
    (⊎_elim {C = list_any (ends_earlier front) (edges_of at s) ≡ false}
    (λ t. ap (list_any (ends_earlier front)) (cond-true (s.from == at) (Start s.thread ∷ end_of at s) [] t) ∙ end_not_early front at s (b s (sub s (inl refl)) ∙ le-ltb s.from at (omega (arith, eqb-true s.from at t))))
    (λ f. ap (list_any (ends_earlier front)) (cond-false (s.from == at) (Start s.thread ∷ end_of at s) [] f))
    (cases_Bool (s.from == at)))
    (edges_late at front ts ss b (λ x i. sub x (inr i)))

gone_not_early : (front : List Cell) (gs : List GoneUnit) → list_any (ends_earlier front) (gone_of gs) ≡ false
gone_not_early front [] = refl
gone_not_early front (g ∷ gs) = gone_not_early front gs

all_gone : (gs : List GoneUnit) → list_any (λ (c : Cell). not (is_gone c)) (gone_of gs) ≡ false
all_gone [] = refl
all_gone (g ∷ gs) = all_gone gs

edges_not_gone : (at : ℕ) (ts : List Thread) → list_any is_gone (edges_at at ts) ≡ false
edges_not_gone at [] = refl
edges_not_gone at (t ∷ ts) = any_join is_gone (edges_of at t) (edges_at at ts) false false (go (t.from == at) (t.to == at)) (edges_not_gone at ts)
  where
    go : (a b : Bool) → list_any is_gone (if a then Start t.thread ∷ (if b then End t.thread ∷ [] else []) else []) ≡ false
    go true true = refl
    go true false = refl
    go false b = refl

edges_still : (at : ℕ) (ts : List Thread) → list_any (λ (c : Cell). not (not (is_gone c))) (edges_at at ts) ≡ false
edges_still at ts = twice (edges_at at ts) (edges_not_gone at ts)
  where
    twice : (xs : List Cell) → list_any is_gone xs ≡ false → list_any (λ (c : Cell). not (not (is_gone c))) xs ≡ false
    twice [] e = refl
    twice (x ∷ xs) e = let p = or_parts (is_gone x) (list_any is_gone xs) e in ap₂ (λ (a b : Bool). a || b) (ap not (ap not p.0)) (twice xs p.1)

sorted_late : (at : ℕ) (gs : List GoneUnit) (ts : List Thread) → sorted_by is_gone (gone_of (here at gs) ++ edges_at at ts) ≡ gone_of (here at gs) ++ edges_at at ts
sorted_late at gs ts =
    let gone = gone_of (here at gs) in
    let edges = edges_at at ts in
    let still = λ (c : Cell). not (is_gone c) in
    ap₂ (λ (x y : List Cell). x ++ y)
    (filter-append is_gone gone edges ∙ ap₂ (λ (x y : List Cell). x ++ y) (filter_all is_gone gone (all_gone (here at gs))) (filter_nothing is_gone edges (edges_not_gone at ts)) ∙ append-nil gone)
    (filter-append still gone edges ∙ ap₂ (λ (x y : List Cell). x ++ y) (filter_nothing still gone (all_gone (here at gs))) (filter_all still edges (edges_still at ts)))

gap_in_groups : (at : ℕ) (front : List Cell) (gs : List GoneUnit) (ts : List Thread) → Begun at front ts → grouped front (gap_laid at gs ts) ≡ gap_laid at gs ts
gap_in_groups at front gs ts b =
    grouped_parts front (ends_at at ts) (gone_of (here at gs) ++ edges_at at ts) (ends_early at front ts ts b (λ x i. i))
    (any_join (ends_earlier front) (gone_of (here at gs)) (edges_at at ts) false false (gone_not_early front (here at gs)) (edges_late at front ts ts b (λ x i. i))) (sorted_late at gs ts)

begun_next : (at : ℕ) (front : List Cell) (gs : List GoneUnit) (ts : List Thread) (u : ℕ) (o : Option Mark) → ListedOnce ts → Begun at front ts → Begun (at + 1) ((front ++ gap_laid at gs ts) ++ (Live u o ∷ [])) ts
begun_next at front gs ts u o h b x i =
    let n = x.thread in
    any_join (is_start n) (front ++ gap_laid at gs ts) (Live u o ∷ []) (nat_lt x.from at || (x.from == at)) false (any_join (is_start n) front (gap_laid at gs ts) (nat_lt x.from at) (x.from == at) (b x i) (of_bit (x.from == at) (gap_starts x ts h i at gs))) refl
    ∙ sums
  where
    of_bit : (d : Bool) → tally (is_start x.thread) (gap_laid at gs ts) ≡ bit d → list_any (is_start x.thread) (gap_laid at gs ts) ≡ d
    of_bit true e = any_one (is_start x.thread) (gap_laid at gs ts) e
    of_bit false e = any_none (is_start x.thread) (gap_laid at gs ts) e

    sums : ((nat_lt x.from at || (x.from == at)) || false) ≡ nat_lt x.from (at + 1)
    sums = ⊎_elim {C = ((nat_lt x.from at || (x.from == at)) || false) ≡ nat_lt x.from (at + 1)}
        (λ lt. ap (λ (d : Bool). (d || (x.from == at)) || false) (lt-ltb x.from at lt) ∙ sym (lt-ltb x.from (at + 1) (omega (arith, lt))))
        (λ ge. ⊎_elim {C = ((nat_lt x.from at || (x.from == at)) || false) ≡ nat_lt x.from (at + 1)}
        (λ e. ap₂ (λ (d f : Bool). (d || f) || false) (le-ltb x.from at ge) (eq-eqb x.from at e) ∙ sym (lt-ltb x.from (at + 1) (omega (arith, e))))
        (λ ne. ap₂ (λ (d f : Bool). (d || f) || false) (le-ltb x.from at ge) (ne_eqb x.from at ne) ∙ sym (le-ltb x.from (at + 1) (far ge ne)))
        (cases_eq x.from at))
        (cases_lt x.from at)
      where
        far : at ≤ x.from → (x.from ≡ at → ⊥) → at + 1 ≤ x.from
        far ge ne = ⊎_elim {C = at + 1 ≤ x.from} (λ lt. omega (arith, lt)) (λ le. absurd (ne (omega (arith, ge, le)))) (cases_lt at x.from)

laid_groups : (at : ℕ) (front : List Cell) (ls : List LiveUnit) (gs : List GoneUnit) (ts : List Thread) → ListedOnce ts → Begun at front ts → InGroups front (laid at ls gs ts)
laid_groups at front [] gs ts h b = subst (InGroups front) (append-nil (gap_laid at gs ts)) (groups_made front (gap_laid at gs ts) [] (gap_laid_lives at gs ts) tt (gap_in_groups at front gs ts b) (λ q. refl))
laid_groups at front (l ∷ ls) gs ts h b =
    let gap = gap_laid at gs ts in
    let rest = laid (at + 1) ls (later at gs) ts in
    let next : InGroups ((front ++ gap) ++ (Live l.unit l.mark ∷ [])) rest = laid_groups (at + 1) ((front ++ gap) ++ (Live l.unit l.mark ∷ [])) ls (later at gs) ts h (begun_next at front gs ts l.unit l.mark h b) in
    groups_made front gap (Live l.unit l.mark ∷ rest) (gap_laid_lives at gs ts) tt (gap_in_groups at front gs ts b)
    (λ q. ap (λ (x : List Cell). grouped x (gaps 0 (from_gap q rest))) (sym (append_assoc (front ++ gap) (Live l.unit l.mark ∷ []) (before q rest))) ∙ next q)

-- marks
live_on : (m : Mark) (cells : List Cell) → list_any (is_live_of m) cells ≡ true → OnLive m (lives_of cells)
live_on m [] e = cc
live_on m (Live u o ∷ cs) e = ⊎_elim {C = OnLive m (lives_of (Live u o ∷ cs))} (λ t. inl (bears_some o m t)) (λ t. inr (live_on m cs t)) (or_cases (bears o m) (list_any (is_live_of m) cs) e)
  where
    bears_some : (o : Option Mark) (m : Mark) → bears o m ≡ true → o ≡ Some m
    bears_some None m e = cc
    bears_some (Some n) m e = ap Some (same_mark_is n m e)
live_on m (Gone u n ∷ cs) e = live_on m cs e
live_on m (Start t ∷ cs) e = live_on m cs e
live_on m (End t ∷ cs) e = live_on m cs e

gone_on : (m : Mark) (at : ℕ) (cells : List Cell) → list_any (is_gone_of m) cells ≡ true → OnGone m (gone_from at cells)
gone_on m at [] e = cc
gone_on m at (Live u o ∷ cs) e = gone_on m (at + 1) cs e
gone_on m at (Gone u n ∷ cs) e = ⊎_elim {C = OnGone m (gone_from at (Gone u n ∷ cs))} (λ t. inl (same_mark_is n m t)) (λ t. inr (gone_on m at cs t)) (or_cases (same_mark n m) (list_any (is_gone_of m) cs) e)
gone_on m at (Start t ∷ cs) e = gone_on m at cs e
gone_on m at (End t ∷ cs) e = gone_on m at cs e

-- runs
at_on : (m : Mark) (ls : List LiveUnit) (k : ℕ) → mark_at ls k ≡ Some m → OnLive m ls
at_on m [] zero e = cc
at_on m [] (suc k) e = cc
at_on m (l ∷ ls) zero e = inl e
at_on m (l ∷ ls) (suc k) e = inr (at_on m ls k e)

runs_first : (ls : List LiveUnit) → TogetherLives ls → (m : Mark) (j k : ℕ) → j ≤ k → mark_at ls 0 ≡ Some m → mark_at ls k ≡ Some m → mark_at ls j ≡ Some m
runs_first [] h m zero k le e f = e
runs_first [] h m (suc j) k le e f = cc
runs_first (l ∷ ls) h m zero k le e f = e
runs_first (l ∷ ls) h m (suc j) zero le e f = absurd (omega (arith, le))
runs_first (l ∷ ls) h m (suc j) (suc k) le e f = ⊎_elim {C = mark_at ls j ≡ Some m} (λ n. runs_first ls h.1 m j k (omega (arith, le)) n f) (λ n. absurd (n (at_on m ls k f))) (h.0 m e)

runs_of : (ls : List LiveUnit) → TogetherLives ls → InRuns ls
runs_of [] h m i j k a b e f = absurd (none i e)
  where
    none : (i : ℕ) → mark_at [] i ≡ Some m → ⊥
    none zero e = cc
    none (suc i) e = cc
runs_of (l ∷ ls) h m zero j k a b e f = runs_first (l ∷ ls) h m j k b e f
runs_of (l ∷ ls) h m (suc i) zero k a b e f = absurd (omega (arith, a))
runs_of (l ∷ ls) h m (suc i) (suc j) zero a b e f = absurd (omega (arith, b))
runs_of (l ∷ ls) h m (suc i) (suc j) (suc k) a b e f = runs_of ls h.1 m i j k (omega (arith, a)) (omega (arith, b)) e f

-- gone cells in neighbours
together_tail : (g : GoneUnit) (gs : List GoneUnit) → TogetherGone (g ∷ gs) → TogetherGone gs
together_tail g [] h = tt
together_tail g (x ∷ xs) h = h.1

together_front : (xs ys : List GoneUnit) → TogetherGone (xs ++ ys) → TogetherGone xs
together_front [] ys h = tt
together_front (x ∷ []) ys h = tt
together_front (x ∷ y ∷ xs) ys h = (sooner h.0, together_front (y ∷ xs) ys h.1)
  where
    less : (m : Mark) (zs ws : List GoneUnit) → OnGone m zs → OnGone m (zs ++ ws)
    less m [] ws o = absurd o
    less m (z ∷ zs) ws (inl e) = inl e
    less m (z ∷ zs) ws (inr o) = inr (less m zs ws o)

    sooner : ((x.gap ≡ y.gap) × (x.mark ≡ y.mark)) ⊎ (OnGone x.mark ((y ∷ xs) ++ ys) → ⊥) → ((x.gap ≡ y.gap) × (x.mark ≡ y.mark)) ⊎ (OnGone x.mark (y ∷ xs) → ⊥)
    sooner (inl e) = inl e
    sooner (inr n) = inr (λ o. n (less x.mark (y ∷ xs) ys o))

together_back : (xs ys : List GoneUnit) → TogetherGone (xs ++ ys) → TogetherGone ys
together_back [] ys h = h
together_back (x ∷ xs) ys h = together_back xs ys (together_tail x (xs ++ ys) h)

on_gone_of : (m : Mark) (gs : List GoneUnit) → list_any (is_gone_of m) (gone_of gs) ≡ true → OnGone m gs
on_gone_of m [] e = cc
on_gone_of m (g ∷ gs) e = ⊎_elim {C = OnGone m (g ∷ gs)} (λ t. inl (same_mark_is g.mark m t)) (λ t. inr (on_gone_of m gs t)) (or_cases (same_mark g.mark m) (list_any (is_gone_of m) (gone_of gs)) e)

-- behind a gone cell its mark goes on, or has ended
mark_left : (g : GoneUnit) (gs : List GoneUnit) → TogetherGone (g ∷ gs) → NoneLeft g.mark (gone_of gs)
mark_left g [] h = refl
mark_left g (x ∷ xs) h = ⊎_elim {C = NoneLeft g.mark (gone_of (x ∷ xs))}
    (λ e. to_same g.mark x.mark x.unit (gone_of xs) (ap (λ (m : Mark). same_mark m g.mark) (sym e.1) ∙ same_mark_self g.mark) (subst (λ (m : Mark). NoneLeft m (gone_of xs)) (sym e.1) (mark_left x xs h.1)))
    (λ n. none_past g.mark (gone_of (x ∷ xs)) (not_on n))
    h.0
  where
    not_on : (OnGone g.mark (x ∷ xs) → ⊥) → list_any (is_gone_of g.mark) (gone_of (x ∷ xs)) ≡ false
    not_on n = ⊎_elim {C = list_any (is_gone_of g.mark) (gone_of (x ∷ xs)) ≡ false} (λ t. absurd (n (on_gone_of g.mark (x ∷ xs) t))) (λ f. f) (cases_Bool (list_any (is_gone_of g.mark) (gone_of (x ∷ xs))))

gone_neighbours : (gs : List GoneUnit) → TogetherGone gs → AreNeighbours (gone_of gs)
gone_neighbours [] h = tt
gone_neighbours (g ∷ gs) h = (mark_left g gs h, gone_neighbours gs (together_tail g gs h))

-- no mark has gone cells in two gaps
on_left : (m : Mark) (xs ys : List GoneUnit) → OnGone m xs → OnGone m (xs ++ ys)
on_left m [] ys o = absurd o
on_left m (x ∷ xs) ys (inl e) = inl e
on_left m (x ∷ xs) ys (inr o) = inr (on_left m xs ys o)

on_right : (m : Mark) (xs ys : List GoneUnit) → OnGone m ys → OnGone m (xs ++ ys)
on_right m [] ys o = o
on_right m (x ∷ xs) ys o = inr (on_right m xs ys o)

one_gap : (xs ys : List GoneUnit) (at : ℕ) → TogetherGone (xs ++ ys) → GapsWithin at xs → RisingGone (at + 1) ys → (m : Mark) → OnGone m xs → OnGone m ys → ⊥
one_gap [] ys at h w r m o k = absurd o
one_gap (x ∷ xs) ys at h w r m (inr o) k = one_gap xs ys at (together_tail x (xs ++ ys) h) w.1 r m o k
one_gap (x ∷ []) [] at h w r m (inl e) k = absurd k
one_gap (x ∷ []) (y ∷ ys) at h w r m (inl e) k = ⊎_elim {C = ⊥} (λ s. omega (arith, s.0, w.0, r.0)) (λ n. n (subst (λ (z : Mark). OnGone z (y ∷ ys)) (sym e) k)) h.0
one_gap (x ∷ z ∷ zs) ys at h w r m (inl e) k = ⊎_elim {C = ⊥} (λ s. one_gap (z ∷ zs) ys at h.1 w.1 r m (inl (sym s.1 ∙ e)) k) (λ n. n (subst (λ (q : Mark). OnGone q ((z ∷ zs) ++ ys)) (sym e) (on_right m (z ∷ zs) ys k))) h.0

within_if : (b : Bool) (n : ℕ) (xs ys : List GoneUnit) → (b ≡ true → GapsWithin n xs) → GapsWithin n ys → GapsWithin n (if b then xs else ys)
within_if true n xs ys h k = h refl
within_if false n xs ys h k = k

here_within : (at : ℕ) (gs : List GoneUnit) → GapsWithin at (here at gs)
here_within at [] = tt
here_within at (g ∷ gs) = within_if (nat_le g.gap at) at (g ∷ here at gs) [] (first (here_within at gs)) tt
  where
    first : GapsWithin at (here at gs) → nat_le g.gap at ≡ true → GapsWithin at (g ∷ here at gs)
    first w t = (leb-true g.gap at t, w)

-- parts without gone cells
no_gone_of : (m : Mark) (xs : List Cell) → list_any is_gone xs ≡ false → list_any (is_gone_of m) xs ≡ false
no_gone_of m [] e = refl
no_gone_of m (Live u o ∷ cs) e = no_gone_of m cs e
no_gone_of m (Gone u n ∷ cs) e = cc
no_gone_of m (Start t ∷ cs) e = no_gone_of m cs e
no_gone_of m (End t ∷ cs) e = no_gone_of m cs e

no_gone_neighbours : (xs : List Cell) → list_any is_gone xs ≡ false → AreNeighbours xs
no_gone_neighbours [] e = tt
no_gone_neighbours (Live u o ∷ cs) e = no_gone_neighbours cs e
no_gone_neighbours (Gone u n ∷ cs) e = cc
no_gone_neighbours (Start t ∷ cs) e = no_gone_neighbours cs e
no_gone_neighbours (End t ∷ cs) e = no_gone_neighbours cs e

ends_not_gone : (at : ℕ) (ts : List Thread) → list_any is_gone (ends_at at ts) ≡ false
ends_not_gone at [] = refl
ends_not_gone at (t ∷ ts) = any_join is_gone (early_of at t) (ends_at at ts) false false (go (nat_lt t.from at && (t.to == at))) (ends_not_gone at ts)
  where
    go : (b : Bool) → list_any is_gone (if b then End t.thread ∷ [] else []) ≡ false
    go true = refl
    go false = refl

gap_on_gone : (m : Mark) (at : ℕ) (gs : List GoneUnit) (ts : List Thread) → list_any (is_gone_of m) (gap_laid at gs ts) ≡ true → OnGone m (here at gs)
gap_on_gone m at gs ts e = ⊎_elim {C = OnGone m (here at gs)}
    (λ a. clash (list_any (is_gone_of m) (ends_at at ts)) a (no_gone_of m (ends_at at ts) (ends_not_gone at ts)))
    (λ a. ⊎_elim {C = OnGone m (here at gs)} (λ b. on_gone_of m (here at gs) b) (λ b. clash (list_any (is_gone_of m) (edges_at at ts)) b (no_gone_of m (edges_at at ts) (edges_not_gone at ts))) (any_cases (is_gone_of m) (gone_of (here at gs)) (edges_at at ts) a))
    (any_cases (is_gone_of m) (ends_at at ts) (gone_of (here at gs) ++ edges_at at ts) e)

laid_on : (m : Mark) (at : ℕ) (ls : List LiveUnit) (gs : List GoneUnit) (ts : List Thread) → list_any (is_gone_of m) (laid at ls gs ts) ≡ true → OnGone m gs
laid_on m at [] gs ts e = subst (OnGone m) (here_later at gs) (on_left m (here at gs) (later at gs) (gap_on_gone m at gs ts e))
laid_on m at (l ∷ ls) gs ts e = subst (OnGone m) (here_later at gs) (⊎_elim {C = OnGone m (here at gs ++ later at gs)}
    (λ a. on_left m (here at gs) (later at gs) (gap_on_gone m at gs ts a))
    (λ a. on_right m (here at gs) (later at gs) (laid_on m (at + 1) ls (later at gs) ts a))
    (any_cases (is_gone_of m) (gap_laid at gs ts) (Live l.unit l.mark ∷ laid (at + 1) ls (later at gs) ts) e))

gap_neighbours : (at : ℕ) (gs : List GoneUnit) (ts : List Thread) → TogetherGone gs → AreNeighbours (gap_laid at gs ts)
gap_neighbours at gs ts h =
    let gone = gone_of (here at gs) in
    let edges = edges_at at ts in
    join_neighbours (ends_at at ts) (gone ++ edges) (no_gone_neighbours (ends_at at ts) (ends_not_gone at ts))
    (join_neighbours gone edges (gone_neighbours (here at gs) (together_front (here at gs) (later at gs) (subst TogetherGone (sym (here_later at gs)) h))) (no_gone_neighbours edges (edges_not_gone at ts)) (λ m e. no_gone_of m edges (edges_not_gone at ts)))
    (λ m e. clash (list_any (is_gone_of m) (ends_at at ts)) e (no_gone_of m (ends_at at ts) (ends_not_gone at ts)))

laid_neighbours : (at : ℕ) (ls : List LiveUnit) (gs : List GoneUnit) (ts : List Thread) → RisingGone at gs → TogetherGone gs → AreNeighbours (laid at ls gs ts)
laid_neighbours at [] gs ts r h = gap_neighbours at gs ts h
laid_neighbours at (l ∷ ls) gs ts r h =
    let rest = laid (at + 1) ls (later at gs) ts in
    let both : TogetherGone (here at gs ++ later at gs) = subst TogetherGone (sym (here_later at gs)) h in
    join_neighbours (gap_laid at gs ts) (Live l.unit l.mark ∷ rest) (gap_neighbours at gs ts h) (laid_neighbours (at + 1) ls (later at gs) ts (later_rising at gs r) (together_back (here at gs) (later at gs) both))
    (λ m e. ⊎_elim {C = list_any (is_gone_of m) rest ≡ false}
    (λ t. absurd (one_gap (here at gs) (later at gs) at both (here_within at gs) (later_rising at gs r) m (gap_on_gone m at gs ts e) (laid_on m (at + 1) ls (later at gs) ts t)))
    (λ f. f)
    (cases_Bool (list_any (is_gone_of m) rest)))

-- the row laid out
abbrev pub laid_row : Row → FlatRow
laid_row row = record { cells = laid 0 row.lives row.gone row.threads; threads = map (λ (t : Thread). t.thread) row.threads }

pub laid_counts : (row : Row) → IsWellFormed row → row_of (laid_row row) ≡ row
laid_counts row h = same_rows (lives_of (laid 0 row.lives row.gone row.threads)) row.lives (gone_from 0 (laid 0 row.lives row.gone row.threads)) row.gone (row_of (laid_row row)).threads row.threads
    (laid_lives 0 row.lives row.gone row.threads) (laid_gone 0 row.lives row.gone row.threads h.rises (subst (λ (n : ℕ). GapsWithin n row.gone) (omega arith) h.gaps)) (laid_threads row.lives row.gone row.threads h.listed h.threads)

pub laid_form : (row : Row) → IsWellFormed row → IsWellFormedFlat (laid_row row)
laid_form row h =
    let cells = laid 0 row.lives row.gone row.threads in
    let lives : lives_of cells ≡ row.lives = laid_lives 0 row.lives row.gone row.threads in
    let gone : gone_from 0 cells ≡ row.gone = laid_gone 0 row.lives row.gone row.threads h.rises (subst (λ (n : ℕ). GapsWithin n row.gone) (omega arith) h.gaps) in
    let on_live : (m : Mark) → list_any (is_live_of m) cells ≡ true → OnLive m row.lives = λ m e. subst (OnLive m) lives (live_on m cells e) in
    let on_gone : (m : Mark) → list_any (is_gone_of m) cells ≡ true → OnGone m row.gone = λ m e. subst (OnGone m) gone (gone_on m 0 cells e) in
    let on : (m : Mark) → list_any (is_of m) cells ≡ true → OnRow m row = λ m e. ⊎_elim {C = OnRow m row} (λ a. inl (on_live m a)) (λ a. inr (on_gone m a)) (any_both (is_live_of m) (is_gone_of m) cells e) in
    record {
      threads = each_thread cells row.threads row.threads (λ x i. laid_thread x row.lives row.gone row.threads h.listed h.threads i) (λ x i. i);
      once = once_each row.threads h.listed;
      no_other = λ n e. only_listed n row.lives row.gone row.threads e;
      groups = laid_groups 0 [] row.lives row.gone row.threads h.listed (λ x i. sym (le-ltb x.from 0 (omega arith)));
      ids = λ m n a b v k. h.ids m n (on m a) (on n b) (and_from (m.version == n.version) (m.k == n.k) (eq-eqb m.version n.version v) (eq-eqb m.k n.k k));
      runs = subst InRuns (sym lives) (runs_of row.lives h.lives);
      apart = λ m e. ⊎_elim {C = list_any (is_live_of m) cells ≡ false} (λ t. absurd (h.apart m (on_gone m e) (on_live m t))) (λ f. f) (cases_Bool (list_any (is_live_of m) cells));
      neighbours = laid_neighbours 0 row.lives row.gone row.threads h.rises h.gone;
    }
