-- The marks of shown changes are those of the cells, and changes of one mark are one where cells stay together.
use Rattle.std.proofs.Common.{◌≡◌, ℕ, ◌+◌, ◌<◌, Bool, true, false, List, [], ◌∷◌, ◌++◌, refl, ap, ap₂, sym, ◌∙◌, arith, Option, Some, None, subst, ⊎_elim, ◌⊎◌, inl, inr}
use Rattle.std.specs.Prelude.{◌&&◌, ◌==◌}
use Rattle.std.proofs.lemmas.Bool.{cases_Bool, and_parts, eqb-true, eq-eqb}
use Rattle.ranges_tracker.specs.Cells.{Mark, Live, Gone, same_mark, mark_at}
use Rattle.ranges_tracker.specs.declared.change.Change.{Change}
use Rattle.ranges_tracker.specs.Shown.{mark_of, reach, meets, fused, touch, packed, live_cell, live_cells, gone_cells}
use Rattle.ranges_tracker.specs.Steady.{NoMark, Distinct}
use Rattle.ranges_tracker.specs.WellFormed.{same_id, OnLive, OnGone, TogetherLives, TogetherGone}
use Rattle.ranges_tracker.proofs.Packing.{same_mark_is, same_mark_self, touch_met, touch_apart}
use Rattle.ranges_tracker.proofs.Cutting.{Lined, lined_cells, cell}
use Rattle.ranges_tracker.proofs.Placing.{lost}

-- one id, told the other way round
pub same_id_turned : (m n : Mark) → same_id m n ≡ true → same_id n m ≡ true
same_id_turned m n t =
    let two = and_parts (m.version == n.version) (m.k == n.k) t in
    rw (eq-eqb n.version m.version (sym (eqb-true m.version n.version two.0)), eq-eqb n.k m.k (sym (eqb-true m.k n.k two.1))) refl

-- some change bears a mark
abbrev pub HasMark : Mark → List Change → Type 0
HasMark m [] = ⊥
HasMark m (c ∷ cs) = (mark_of c ≡ m) ⊎ HasMark m cs

pub no_mark_off : (m : Mark) (cs : List Change) → NoMark m cs → HasMark m cs → ⊥
no_mark_off m [] h on = on
no_mark_off m (c ∷ cs) h (inl e) = let t : same_mark m (mark_of c) ≡ true = ap (same_mark m) e ∙ same_mark_self m in cc
no_mark_off m (c ∷ cs) h (inr on) = no_mark_off m cs h.1 on

pub off_no_mark : (m : Mark) (cs : List Change) → (HasMark m cs → ⊥) → NoMark m cs
off_no_mark m [] off = tt
off_no_mark m (c ∷ cs) off = (go (cases_Bool (same_mark m (mark_of c))), off_no_mark m cs (λ on. off (inr on)))
  where
    go : (same_mark m (mark_of c) ≡ true) ⊎ (same_mark m (mark_of c) ≡ false) → same_mark m (mark_of c) ≡ false
    go (inl t) = absurd (off (inl (sym (same_mark_is m (mark_of c) t))))
    go (inr f) = f

-- a change meets the first of some
abbrev pub Meets : Change → List Change → Type 0
Meets c [] = ⊥
Meets c (d ∷ ds) = meets c d ≡ true

pub meets_mark : (c d : Change) → meets c d ≡ true → mark_of c ≡ mark_of d
meets_mark c d e =
    let a = and_parts _ _ e in
    let b = and_parts _ _ a.1 in
    same_mark_is (mark_of c) (mark_of d) b.1

pub meets_place : (c d : Change) → meets c d ≡ true → reach c ≡ d.at
meets_place c d e =
    let a = and_parts _ _ e in
    let b = and_parts _ _ a.1 in
    eqb-true (reach c) d.at b.0

pub meets_touch : (c d : Change) (ds : List Change) → meets c d ≡ true → Meets c (touch d ds)
meets_touch c d [] e = e
meets_touch c d (g ∷ gs) e = ⊎_elim {C = Meets c (touch d (g ∷ gs))} (λ t. subst (λ (x : List Change). Meets c x) (sym (touch_met d g gs t)) e) (λ t. subst (λ (x : List Change). Meets c x) (sym (touch_apart d g gs t)) e) (cases_Bool (meets d g))

pub touch_meets : (c d : Change) (ds : List Change) → Meets c (touch d ds) → meets c d ≡ true
touch_meets c d [] e = e
touch_meets c d (g ∷ gs) e = ⊎_elim {C = meets c d ≡ true} (λ t. met (subst (λ (x : List Change). Meets c x) (touch_met d g gs t) e)) (λ t. apart (subst (λ (x : List Change). Meets c x) (touch_apart d g gs t) e)) (cases_Bool (meets d g))
  where
    met : Meets c (fused d g ∷ gs) → meets c d ≡ true
    met k = k

    apart : Meets c (d ∷ g ∷ gs) → meets c d ≡ true
    apart k = k

-- marks after a touch
pub touch_has : (m : Mark) (c : Change) (cs : List Change) → (mark_of c ≡ m) ⊎ HasMark m cs → HasMark m (touch c cs)
touch_has m c [] h = h
touch_has m c (d ∷ ds) h = ⊎_elim {C = HasMark m (touch c (d ∷ ds))}
    (λ t. subst (λ (x : List Change). HasMark m x) (sym (touch_met c d ds t)) (met t h))
    (λ t. subst (λ (x : List Change). HasMark m x) (sym (touch_apart c d ds t)) h)
    (cases_Bool (meets c d))
  where
    met : meets c d ≡ true → (mark_of c ≡ m) ⊎ HasMark m (d ∷ ds) → HasMark m (fused c d ∷ ds)
    met t (inl e) = inl e
    met t (inr (inl e)) = inl (meets_mark c d t ∙ e)
    met t (inr (inr k)) = inr k

pub has_touch : (m : Mark) (c : Change) (cs : List Change) → HasMark m (touch c cs) → (mark_of c ≡ m) ⊎ HasMark m cs
has_touch m c [] h = h
has_touch m c (d ∷ ds) h = ⊎_elim {C = (mark_of c ≡ m) ⊎ HasMark m (d ∷ ds)}
    (λ t. met (subst (λ (x : List Change). HasMark m x) (touch_met c d ds t) h))
    (λ t. subst (λ (x : List Change). HasMark m x) (touch_apart c d ds t) h)
    (cases_Bool (meets c d))
  where
    met : HasMark m (fused c d ∷ ds) → (mark_of c ≡ m) ⊎ HasMark m (d ∷ ds)
    met (inl e) = inl e
    met (inr k) = inr (inr k)

-- the marks of the live cells
has_cell : (m : Mark) (at u : ℕ) (o : Option Mark) (cs : List Change) → HasMark m (packed (live_cell at u o ++ cs)) → (o ≡ Some m) ⊎ HasMark m (packed cs)
has_cell m at u None cs h = inr h
has_cell m at u (Some n) cs h = go (has_touch m (cell at u n) (packed cs) h)
  where
    go : (n ≡ m) ⊎ HasMark m (packed cs) → (Some n ≡ Some m) ⊎ HasMark m (packed cs)
    go (inl e) = inl (ap (λ (x : Mark). Some x) e)
    go (inr k) = inr k

cell_has : (m : Mark) (at u : ℕ) (o : Option Mark) (cs : List Change) → (o ≡ Some m) ⊎ HasMark m (packed cs) → HasMark m (packed (live_cell at u o ++ cs))
cell_has m at u None cs (inl e) = cc
cell_has m at u None cs (inr h) = h
cell_has m at u (Some n) cs (inl e) = touch_has m (cell at u n) (packed cs) (inl (is e))
  where
    is : Some n ≡ Some m → n ≡ m
    is s = cc
cell_has m at u (Some n) cs (inr h) = touch_has m (cell at u n) (packed cs) (inr h)

pub has_lives : (m : Mark) (at : ℕ) (ls : List Live) → HasMark m (packed (live_cells at ls)) → OnLive m ls
has_lives m at [] h = h
has_lives m at (l ∷ ls) h = ⊎_elim {C = OnLive m (l ∷ ls)} (λ e. inl e) (λ k. inr (has_lives m (at + 1) ls k)) (has_cell m at l.unit l.mark (live_cells (at + 1) ls) h)

pub lives_has : (m : Mark) (at : ℕ) (ls : List Live) → OnLive m ls → HasMark m (packed (live_cells at ls))
lives_has m at [] h = h
lives_has m at (l ∷ ls) (inl e) = cell_has m at l.unit l.mark (live_cells (at + 1) ls) (inl e)
lives_has m at (l ∷ ls) (inr h) = cell_has m at l.unit l.mark (live_cells (at + 1) ls) (inr (lives_has m (at + 1) ls h))

-- those of the gone cells
pub has_gone : (m : Mark) (gs : List Gone) → HasMark m (packed (gone_cells gs)) → OnGone m gs
has_gone m [] h = h
has_gone m (g ∷ gs) h = ⊎_elim {C = OnGone m (g ∷ gs)} (λ e. inl e) (λ k. inr (has_gone m gs k)) (has_touch m (lost g.gap g.unit g.mark) (packed (gone_cells gs)) h)

pub gone_has : (m : Mark) (gs : List Gone) → OnGone m gs → HasMark m (packed (gone_cells gs))
gone_has m [] h = h
gone_has m (g ∷ gs) (inl e) = touch_has m (lost g.gap g.unit g.mark) (packed (gone_cells gs)) (inl e)
gone_has m (g ∷ gs) (inr h) = touch_has m (lost g.gap g.unit g.mark) (packed (gone_cells gs)) (inr (gone_has m gs h))

-- changes of different marks, one more before them
distinct_touch : (c : Change) (cs : List Change) → Meets c cs ⊎ (HasMark (mark_of c) cs → ⊥) → Distinct cs → Distinct (touch c cs)
distinct_touch c [] f h = (tt, tt)
distinct_touch c (d ∷ ds) f h = ⊎_elim {C = Distinct (touch c (d ∷ ds))}
    (λ t. subst (λ (x : List Change). Distinct x) (sym (touch_met c d ds t)) (met t))
    (λ t. subst (λ (x : List Change). Distinct x) (sym (touch_apart c d ds t)) (apart t f))
    (cases_Bool (meets c d))
  where
    met : meets c d ≡ true → Distinct (fused c d ∷ ds)
    met t = (subst (λ (x : Mark). NoMark x ds) (sym (meets_mark c d t)) h.0, h.1)

    apart : meets c d ≡ false → Meets c (d ∷ ds) ⊎ (HasMark (mark_of c) (d ∷ ds) → ⊥) → Distinct (c ∷ d ∷ ds)
    apart t (inl k) = cc
    apart t (inr k) = (off_no_mark (mark_of c) (d ∷ ds) k, h)

record Touched (c : Change) (cs : List Change) : Type 0 where
  pub first : Meets c cs ⊎ (HasMark (mark_of c) cs → ⊥)
  pub rest : Distinct cs

touch_distinct : (c : Change) (cs : List Change) → Distinct (touch c cs) → Touched c cs
touch_distinct c [] h = record { first = inr (λ k. k); rest = tt }
touch_distinct c (d ∷ ds) h = ⊎_elim {C = Touched c (d ∷ ds)}
    (λ t. met t (subst (λ (x : List Change). Distinct x) (touch_met c d ds t) h))
    (λ t. apart (subst (λ (x : List Change). Distinct x) (touch_apart c d ds t) h))
    (cases_Bool (meets c d))
  where
    met : meets c d ≡ true → Distinct (fused c d ∷ ds) → Touched c (d ∷ ds)
    met t k = record { first = inl t; rest = (subst (λ (x : Mark). NoMark x ds) (meets_mark c d t) k.0, k.1) }

    apart : Distinct (c ∷ d ∷ ds) → Touched c (d ∷ ds)
    apart k = record { first = inr (no_mark_off (mark_of c) (d ∷ ds) k.0); rest = k.1 }

-- live cells that stay together
cells_meet : (at u v : ℕ) (m n : Mark) → m ≡ n → meets (cell at u m) (cell (at + 1) v n) ≡ true
cells_meet at u v m n e = ap₂ (λ (x y : Bool). x && y) (eq-eqb (at + 1) (at + 1) refl) (ap (same_mark m) (sym e) ∙ same_mark_self m)

next_meets : (at u : ℕ) (m : Mark) (v : ℕ) (o : Option Mark) (cs : List Change) → o ≡ Some m → Meets (cell at u m) (packed (live_cell (at + 1) v o ++ cs))
next_meets at u m v None cs e = cc
next_meets at u m v (Some n) cs e = meets_touch (cell at u m) (cell (at + 1) v n) (packed cs) (cells_meet at u v m n (is e))
  where
    is : Some n ≡ Some m → m ≡ n
    is s = cc

first_meets : (at u : ℕ) (m : Mark) (ls : List Live) → mark_at ls 0 ≡ Some m → Meets (cell at u m) (packed (live_cells (at + 1) ls))
first_meets at u m [] e = cc
first_meets at u m (l ∷ ls) e = next_meets at u m l.unit l.mark (live_cells (at + 1 + 1) ls) e

beyond : (at p u : ℕ) (m : Mark) (gs : List Change) → Lined p gs → at + 1 < p → Meets (cell at u m) gs → ⊥
beyond at p u m [] h lt e = e
beyond at p u m (d ∷ ds) h lt e = let is : at + 1 ≡ d.at = meets_place (cell at u m) d e in omega (arith, h.0)

meets_next : (at u : ℕ) (m : Mark) (v : ℕ) (o : Option Mark) (ls : List Live) → Meets (cell at u m) (packed (live_cell (at + 1) v o ++ live_cells (at + 1 + 1) ls)) → o ≡ Some m
meets_next at u m v None ls e = absurd (beyond at (at + 1 + 1) u m (packed (live_cells (at + 1 + 1) ls)) (lined_cells (at + 1 + 1) ls) (omega arith) e)
meets_next at u m v (Some n) ls e = ap (λ (x : Mark). Some x) (sym (meets_mark (cell at u m) (cell (at + 1) v n) (touch_meets (cell at u m) (cell (at + 1) v n) (packed (live_cells (at + 1 + 1) ls)) e)))

meets_first : (at u : ℕ) (m : Mark) (ls : List Live) → Meets (cell at u m) (packed (live_cells (at + 1) ls)) → mark_at ls 0 ≡ Some m
meets_first at u m [] e = absurd e
meets_first at u m (l ∷ ls) e = meets_next at u m l.unit l.mark ls e

distinct_cell : (at u : ℕ) (o : Option Mark) (ls : List Live) → ((m : Mark) → o ≡ Some m → (mark_at ls 0 ≡ Some m) ⊎ (OnLive m ls → ⊥)) → Distinct (packed (live_cells (at + 1) ls)) → Distinct (packed (live_cell at u o ++ live_cells (at + 1) ls))
distinct_cell at u None ls f h = h
distinct_cell at u (Some m) ls f h = distinct_touch (cell at u m) (packed (live_cells (at + 1) ls)) (go (f m refl)) h
  where
    go : (mark_at ls 0 ≡ Some m) ⊎ (OnLive m ls → ⊥) → Meets (cell at u m) (packed (live_cells (at + 1) ls)) ⊎ (HasMark m (packed (live_cells (at + 1) ls)) → ⊥)
    go (inl e) = inl (first_meets at u m ls e)
    go (inr off) = inr (λ k. off (has_lives m (at + 1) ls k))

pub distinct_lives : (at : ℕ) (ls : List Live) → TogetherLives ls → Distinct (packed (live_cells at ls))
distinct_lives at [] h = tt
distinct_lives at (l ∷ ls) h = distinct_cell at l.unit l.mark ls h.0 (distinct_lives (at + 1) ls h.1)

record Cell (o : Option Mark) (at : ℕ) (ls : List Live) : Type 0 where
  pub follow : (m : Mark) → o ≡ Some m → (mark_at ls 0 ≡ Some m) ⊎ (OnLive m ls → ⊥)
  pub rest : Distinct (packed (live_cells (at + 1) ls))

cell_distinct : (at u : ℕ) (o : Option Mark) (ls : List Live) → Distinct (packed (live_cell at u o ++ live_cells (at + 1) ls)) → Cell o at ls
cell_distinct at u None ls h = record { follow = λ m e. cc; rest = h }
cell_distinct at u (Some n) ls h = go (touch_distinct (cell at u n) (packed (live_cells (at + 1) ls)) h)
  where
    first : Meets (cell at u n) (packed (live_cells (at + 1) ls)) ⊎ (HasMark n (packed (live_cells (at + 1) ls)) → ⊥) → (mark_at ls 0 ≡ Some n) ⊎ (OnLive n ls → ⊥)
    first (inl e) = inl (meets_first at u n ls e)
    first (inr off) = inr (λ on. off (lives_has n (at + 1) ls on))

    same : (m : Mark) → Some n ≡ Some m → n ≡ m
    same m s = cc

    go : Touched (cell at u n) (packed (live_cells (at + 1) ls)) → Cell (Some n) at ls
    go t = record { follow = λ m e. subst (λ (x : Mark). (mark_at ls 0 ≡ Some x) ⊎ (OnLive x ls → ⊥)) (same m e) (first t.first); rest = t.rest }

pub lives_together : (at : ℕ) (ls : List Live) → Distinct (packed (live_cells at ls)) → TogetherLives ls
lives_together at [] h = tt
lives_together at (l ∷ ls) h = let c : Cell l.mark at ls = cell_distinct at l.unit l.mark ls h in (c.follow, lives_together (at + 1) ls c.rest)

-- gone cells that stay together
gone_meet : (g h : Gone) → g.gap ≡ h.gap → g.mark ≡ h.mark → meets (lost g.gap g.unit g.mark) (lost h.gap h.unit h.mark) ≡ true
gone_meet g h e f = ap₂ (λ (x y : Bool). x && y) (eq-eqb g.gap h.gap e) (ap (same_mark g.mark) (sym f) ∙ same_mark_self g.mark)

pub distinct_gone : (gs : List Gone) → TogetherGone gs → Distinct (packed (gone_cells gs))
distinct_gone [] h = tt
distinct_gone (g ∷ []) h = (tt, tt)
distinct_gone (g ∷ n ∷ ns) h = distinct_touch (lost g.gap g.unit g.mark) (packed (gone_cells (n ∷ ns))) (go h.0) (distinct_gone (n ∷ ns) h.1)
  where
    go : ((g.gap ≡ n.gap) × (g.mark ≡ n.mark)) ⊎ (OnGone g.mark (n ∷ ns) → ⊥) → Meets (lost g.gap g.unit g.mark) (packed (gone_cells (n ∷ ns))) ⊎ (HasMark g.mark (packed (gone_cells (n ∷ ns))) → ⊥)
    go (inl e) = inl (meets_touch (lost g.gap g.unit g.mark) (lost n.gap n.unit n.mark) (packed (gone_cells ns)) (gone_meet g n e.0 e.1))
    go (inr off) = inr (λ k. off (has_gone g.mark (n ∷ ns) k))

pub gone_together : (gs : List Gone) → Distinct (packed (gone_cells gs)) → TogetherGone gs
gone_together [] h = tt
gone_together (g ∷ []) h = tt
gone_together (g ∷ n ∷ ns) h = let t : Touched (lost g.gap g.unit g.mark) (packed (gone_cells (n ∷ ns))) = touch_distinct (lost g.gap g.unit g.mark) (packed (gone_cells (n ∷ ns))) h in (first t.first, gone_together (n ∷ ns) t.rest)
  where
    first : Meets (lost g.gap g.unit g.mark) (packed (gone_cells (n ∷ ns))) ⊎ (HasMark g.mark (packed (gone_cells (n ∷ ns))) → ⊥) → ((g.gap ≡ n.gap) × (g.mark ≡ n.mark)) ⊎ (OnGone g.mark (n ∷ ns) → ⊥)
    first (inl e) =
        let t : meets (lost g.gap g.unit g.mark) (lost n.gap n.unit n.mark) ≡ true = touch_meets (lost g.gap g.unit g.mark) (lost n.gap n.unit n.mark) (packed (gone_cells ns)) e in
        inl (meets_place (lost g.gap g.unit g.mark) (lost n.gap n.unit n.mark) t, meets_mark (lost g.gap g.unit g.mark) (lost n.gap n.unit n.mark) t)
    first (inr off) = inr (λ on. off (gone_has g.mark (n ∷ ns) on))
