-- The coordinates of a well-formed flat row are well formed.
use Rattle.std.proofs.Common.{subst, Bool, true, false, ◌≡◌, ℕ, suc, ◌+◌, ◌<◌, ◌≤◌, List, [], ◌∷◌, refl, ap, sym, ◌∙◌, length, arith, map, Option, Some, None, ⊎_elim, ◌⊎◌, inl, inr, All}
use Rattle.std.specs.Prelude.{◌==◌, ◌||◌}
use Rattle.std.specs.List.{list_any}
use Rattle.std.proofs.lemmas.Bool.{cases_Bool, cases_lt, or_cases, or_parts, or_left, or_right, and_parts, eqb-true, cond-false}
use Rattle.std.proofs.lemmas.List.Elements.{All-head, All-tail}
use Rattle.ranges_tracker.specs.declared.mark.Mark.{Mark}
use Rattle.ranges_tracker.specs.declared.stamp.Stamp.{Stamp}
use Rattle.ranges_tracker.specs.Cells.{Live as LiveUnit, Gone as GoneUnit, same_mark, bears, mark_at}
use Rattle.ranges_tracker.specs.Steady.{GapsWithin, Within, OlderMark, OlderLives, OlderGone}
use Rattle.ranges_tracker.specs.WellFormed.{NotListed, ListedOnce, OnLive, OnGone, OnRow, TogetherLives, TogetherGone, IsWellFormed, IsBefore}
use Rattle.flat_cells.specs.Row.{Cell, Live, Gone, Start, End, FlatRow, is_end, lives_of, gone_from, thread_of, row_of}
use Rattle.flat_cells.specs.Form.{IsThread, IsOnceEach, names, is_live_of, is_gone_of, is_of, past_gone, AreNeighbours, IsWellFormedFlat, AreOlder}
use Rattle.ranges_tracker.proofs.Packing.{same_mark_is, same_mark_self}
use Rattle.flat_cells.proofs.Parts.{gap_within}
use Rattle.flat_cells.proofs.Showing.{rising_from}
use Rattle.flat_cells.proofs.Inserting.{in_order}
use Rattle.flat_cells.proofs.Commenting.{swap_eqb}
use Rattle.flat_cells.proofs.Marks.{clash, live_is_of, gone_is_of}
use Rattle.flat_cells.proofs.Runs.{InRuns}
use Rattle.ranges_tracker.proofs.Together.{bears_is}

-- threads
not_listed : (cells : List Cell) (t : ℕ) (ts : List ℕ) → names t ts ≡ false → NotListed t (map (thread_of cells) ts)
not_listed cells t [] e = tt
not_listed cells t (s ∷ ss) e = let p = or_parts (s == t) (names t ss) e in (swap_eqb s t p.0, not_listed cells t ss p.1)

listed_once : (cells : List Cell) (ts : List ℕ) → IsOnceEach ts → ListedOnce (map (thread_of cells) ts)
listed_once cells [] h = tt
listed_once cells (t ∷ ts) h = (not_listed cells t ts h.0, listed_once cells ts h.1)

within : (cells : List Cell) (ts : List ℕ) → All (IsThread cells) ts → Within (length (lives_of cells)) (map (thread_of cells) ts)
within cells [] h = tt
within cells (t ∷ ts) h = (in_order cells t (All-head (IsThread cells) t ts h), gap_within (is_end t) cells, within cells ts (All-tail (IsThread cells) t ts h))

-- gaps
gaps_within : (n at : ℕ) (cells : List Cell) → at + length (lives_of cells) ≤ n → GapsWithin n (gone_from at cells)
gaps_within n at [] le = tt
gaps_within n at (Live u o ∷ cs) le = gaps_within n (at + 1) cs (omega (arith, le))
gaps_within n at (Gone u m ∷ cs) le = (omega (arith, le), gaps_within n at cs le)
gaps_within n at (Start t ∷ cs) le = gaps_within n at cs le
gaps_within n at (End t ∷ cs) le = gaps_within n at cs le

-- a mark on a live or on a gone cell
live_in : (m : Mark) (cells : List Cell) → OnLive m (lives_of cells) → list_any (is_live_of m) cells ≡ true
live_in m [] h = absurd h
live_in m (Live u o ∷ cs) (inl e) = or_left (bears o m) (list_any (is_live_of m) cs) (ap (λ (x : Option Mark). bears x m) e ∙ same_mark_self m)
live_in m (Live u o ∷ cs) (inr h) = or_right (bears o m) (list_any (is_live_of m) cs) (live_in m cs h)
live_in m (Gone u n ∷ cs) h = live_in m cs h
live_in m (Start t ∷ cs) h = live_in m cs h
live_in m (End t ∷ cs) h = live_in m cs h

gone_in : (m : Mark) (at : ℕ) (cells : List Cell) → OnGone m (gone_from at cells) → list_any (is_gone_of m) cells ≡ true
gone_in m at [] h = absurd h
gone_in m at (Live u o ∷ cs) h = gone_in m (at + 1) cs h
gone_in m at (Gone u n ∷ cs) (inl e) = or_left (same_mark n m) (list_any (is_gone_of m) cs) (ap (λ (x : Mark). same_mark x m) e ∙ same_mark_self m)
gone_in m at (Gone u n ∷ cs) (inr h) = or_right (same_mark n m) (list_any (is_gone_of m) cs) (gone_in m at cs h)
gone_in m at (Start t ∷ cs) h = gone_in m at cs h
gone_in m at (End t ∷ cs) h = gone_in m at cs h

on_row : (m : Mark) (row : FlatRow) → OnRow m (row_of row) → list_any (is_of m) row.cells ≡ true
on_row m row (inl h) = live_is_of m row.cells (live_in m row.cells h)
on_row m row (inr h) = gone_is_of m row.cells (gone_in m 0 row.cells h)

-- live cells of one mark together
record IsAt (m : Mark) (ls : List LiveUnit) : Type 0 where
  place : ℕ
  bears_it : mark_at ls place ≡ Some m

at_some : (m : Mark) (ls : List LiveUnit) → OnLive m ls → IsAt m ls
at_some m [] h = absurd h
at_some m (l ∷ ls) (inl e) = record { place = 0; bears_it = e }
at_some m (l ∷ ls) (inr h) = let r : IsAt m ls = at_some m ls h in record { place = suc r.place; bears_it = r.bears_it }

runs_tail : (l : LiveUnit) (ls : List LiveUnit) → InRuns (l ∷ ls) → InRuns ls
runs_tail l ls h m i j k a b e f = h m (suc i) (suc j) (suc k) (omega (arith, a)) (omega (arith, b)) e f

together_lives : (ls : List LiveUnit) → InRuns ls → TogetherLives ls
together_lives [] h = tt
together_lives (l ∷ ls) h = (next, together_lives ls (runs_tail l ls h))
  where
    next : (m : Mark) → l.mark ≡ Some m → (mark_at ls 0 ≡ Some m) ⊎ (OnLive m ls → ⊥)
    next m e = ⊎_elim {C = (mark_at ls 0 ≡ Some m) ⊎ (OnLive m ls → ⊥)}
        (λ t. inl (bears_is (mark_at ls 0) m t))
        (λ f. inr (λ o. let r : IsAt m ls = at_some m ls o in
        clash (bears (mark_at ls 0) m) (ap (λ (x : Option Mark). bears x m) (h m 0 1 (suc r.place) (omega arith) (omega arith) e r.bears_it) ∙ same_mark_self m) f))
        (cases_Bool (bears (mark_at ls 0) m))

-- gone cells of one mark together
abbrev FirstOrNone : GoneUnit → List GoneUnit → Type 0
FirstOrNone g [] = Unit {0}
FirstOrNone g (h ∷ hs) = ((g.gap ≡ h.gap) × (g.mark ≡ h.mark)) ⊎ (OnGone g.mark (h ∷ hs) → ⊥)

together_first : (g : GoneUnit) (gs : List GoneUnit) → FirstOrNone g gs → TogetherGone gs → TogetherGone (g ∷ gs)
together_first g [] h k = tt
together_first g (x ∷ xs) h k = (h, k)

first_none : (g : GoneUnit) (gs : List GoneUnit) → (OnGone g.mark gs → ⊥) → FirstOrNone g gs
first_none g [] h = tt
first_none g (x ∷ xs) h = inr h

no_more : (m : Mark) (at : ℕ) (cells : List Cell) → list_any (is_gone_of m) cells ≡ false → OnGone m (gone_from at cells) → ⊥
no_more m at cells e h = clash (list_any (is_gone_of m) cells) (gone_in m at cells h) e

first_gone : (at u : ℕ) (m : Mark) (cells : List Cell) → list_any (is_gone_of m) (past_gone m cells) ≡ false → FirstOrNone (record { gap = at; unit = u; mark = m }) (gone_from at cells)
first_gone at u m [] e = tt
first_gone at u m (Live v o ∷ cs) e = first_none (record { gap = at; unit = u; mark = m }) (gone_from at (Live v o ∷ cs)) (no_more m at (Live v o ∷ cs) e)
first_gone at u m (Gone v n ∷ cs) e = ⊎_elim {C = FirstOrNone (record { gap = at; unit = u; mark = m }) (gone_from at (Gone v n ∷ cs))}
    (λ t. inl (refl, sym (same_mark_is n m t)))
    (λ t. inr (no_more m at (Gone v n ∷ cs) (sym (ap (list_any (is_gone_of m)) (cond-false (same_mark n m) (past_gone m cs) (Gone v n ∷ cs) t)) ∙ e)))
    (cases_Bool (same_mark n m))
first_gone at u m (Start t ∷ cs) e = first_none (record { gap = at; unit = u; mark = m }) (gone_from at (Start t ∷ cs)) (no_more m at (Start t ∷ cs) e)
first_gone at u m (End t ∷ cs) e = first_none (record { gap = at; unit = u; mark = m }) (gone_from at (End t ∷ cs)) (no_more m at (End t ∷ cs) e)

together_gone : (at : ℕ) (cells : List Cell) → AreNeighbours cells → TogetherGone (gone_from at cells)
together_gone at [] h = tt
together_gone at (Live u o ∷ cs) h = together_gone (at + 1) cs h
together_gone at (Gone u m ∷ cs) h = together_first (record { gap = at; unit = u; mark = m }) (gone_from at cs) (first_gone at u m cs h.0) (together_gone at cs h.1)
together_gone at (Start t ∷ cs) h = together_gone at cs h
together_gone at (End t ∷ cs) h = together_gone at cs h

pub form_agrees : (row : FlatRow) → IsWellFormedFlat row → IsWellFormed (row_of row)
form_agrees row h = record {
  listed = listed_once row.cells row.threads h.once;
  threads = within row.cells row.threads h.threads;
  rises = rising_from 0 row.cells;
  gaps = gaps_within (length (lives_of row.cells)) 0 row.cells (omega arith);
  ids = λ m n a b e. let p = and_parts (m.version == n.version) (m.k == n.k) e in h.ids m n (on_row m row a) (on_row n row b) (eqb-true m.version n.version p.0) (eqb-true m.k n.k p.1);
  lives = together_lives (lives_of row.cells) h.runs;
  gone = together_gone 0 row.cells h.neighbours;
  apart = λ m g l. clash (list_any (is_live_of m) row.cells) (live_in m row.cells l) (h.apart m (gone_in m 0 row.cells g));
}

-- marks older than the fresh ones
older_tail : (c : Cell) (cs : List Cell) (stamp : Stamp) (k : ℕ) → AreOlder (c ∷ cs) stamp k → AreOlder cs stamp k
older_tail c cs stamp k h m e = h m (or_right (is_of m c) (list_any (is_of m) cs) e)

older_first : (o : Option Mark) (stamp : Stamp) (k : ℕ) → ((m : Mark) → o ≡ Some m → (m.version < stamp.version) ⊎ ((m.version ≡ stamp.version) × (m.k < k))) → OlderMark stamp.version k o
older_first None stamp k h = tt
older_first (Some m) stamp k h = ⊎_elim {C = (m.version ≤ stamp.version) × (m.version ≡ stamp.version → m.k < k)} (λ lt. (omega (arith, lt), λ e. absurd (omega (arith, lt, e)))) (λ lt. (omega (arith, lt.0), λ e. lt.1)) (h m refl)

older_lives : (cells : List Cell) (stamp : Stamp) (k : ℕ) → AreOlder cells stamp k → OlderLives stamp.version k (lives_of cells)
older_lives [] stamp k h = tt
older_lives (Live u o ∷ cs) stamp k h = (older_first o stamp k (λ m e. h m (live_is_of m (Live u o ∷ cs) (or_left (bears o m) (list_any (is_live_of m) cs) (ap (λ (x : Option Mark). bears x m) e ∙ same_mark_self m)))), older_lives cs stamp k (older_tail (Live u o) cs stamp k h))
older_lives (Gone u m ∷ cs) stamp k h = older_lives cs stamp k (older_tail (Gone u m) cs stamp k h)
older_lives (Start t ∷ cs) stamp k h = older_lives cs stamp k (older_tail (Start t) cs stamp k h)
older_lives (End t ∷ cs) stamp k h = older_lives cs stamp k (older_tail (End t) cs stamp k h)

older_gone : (at : ℕ) (cells : List Cell) (stamp : Stamp) (k : ℕ) → AreOlder cells stamp k → OlderGone stamp.version k (gone_from at cells)
older_gone at [] stamp k h = tt
older_gone at (Live u o ∷ cs) stamp k h = older_gone (at + 1) cs stamp k (older_tail (Live u o) cs stamp k h)
older_gone at (Gone u m ∷ cs) stamp k h =
    let first : OlderMark stamp.version k (Some m) = older_first (Some m) stamp k (λ n e. h n (gone_is_of n (Gone u m ∷ cs) (or_left (same_mark m n) (list_any (is_gone_of n) cs) (ap (λ (x : Option Mark). bears x n) e ∙ same_mark_self n)))) in
    (first.0, first.1, older_gone at cs stamp k (older_tail (Gone u m) cs stamp k h))
older_gone at (Start t ∷ cs) stamp k h = older_gone at cs stamp k (older_tail (Start t) cs stamp k h)
older_gone at (End t ∷ cs) stamp k h = older_gone at cs stamp k (older_tail (End t) cs stamp k h)

pub older_agrees : (row : FlatRow) (stamp : Stamp) (k : ℕ) → AreOlder row.cells stamp k → IsBefore (row_of row) stamp k
older_agrees row stamp k h = (older_lives row.cells stamp k h, older_gone 0 row.cells stamp k h)

-- and the other way
older_back : (v k : ℕ) (m : Mark) → m.version ≤ v → (m.version ≡ v → m.k < k) → (m.version < v) ⊎ ((m.version ≡ v) × (m.k < k))
older_back v k m le h = ⊎_elim {C = (m.version < v) ⊎ ((m.version ≡ v) × (m.k < k))} (λ lt. inl lt) (λ ge. let e : m.version ≡ v = omega (arith, le, ge) in inr (e, h e)) (cases_lt m.version v)

older_bears : (stamp : Stamp) (k : ℕ) (o : Option Mark) (m : Mark) → OlderMark stamp.version k o → bears o m ≡ true → (m.version < stamp.version) ⊎ ((m.version ≡ stamp.version) × (m.k < k))
older_bears stamp k None m h e = cc
older_bears stamp k (Some n) m h e = subst (λ (x : Mark). (x.version < stamp.version) ⊎ ((x.version ≡ stamp.version) × (x.k < k))) (same_mark_is n m e) (older_back stamp.version k n h.0 h.1)

pub older_counts : (at : ℕ) (cells : List Cell) (stamp : Stamp) (k : ℕ) → OlderLives stamp.version k (lives_of cells) → OlderGone stamp.version k (gone_from at cells) → AreOlder cells stamp k
older_counts at [] stamp k h g m e = cc
older_counts at (Live u o ∷ cs) stamp k h g m e = ⊎_elim {C = (m.version < stamp.version) ⊎ ((m.version ≡ stamp.version) × (m.k < k))}
    (λ t. older_bears stamp k o m h.0 (sym (or_false (bears o m)) ∙ t))
    (λ t. older_counts (at + 1) cs stamp k h.1 g m t)
    (or_cases (bears o m || false) (list_any (is_of m) cs) e)
  where
    or_false : (b : Bool) → (b || false) ≡ b
    or_false true = refl
    or_false false = refl
older_counts at (Gone u n ∷ cs) stamp k h g m e = ⊎_elim {C = (m.version < stamp.version) ⊎ ((m.version ≡ stamp.version) × (m.k < k))}
    (λ t. older_bears stamp k (Some n) m (g.0, g.1) t)
    (λ t. older_counts at cs stamp k h g.2 m t)
    (or_cases (same_mark n m) (list_any (is_of m) cs) e)
older_counts at (Start t ∷ cs) stamp k h g m e = older_counts at cs stamp k h g m e
older_counts at (End t ∷ cs) stamp k h g m e = older_counts at cs stamp k h g m e
