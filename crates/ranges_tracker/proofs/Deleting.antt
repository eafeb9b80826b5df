-- The shown deletes after a delete.
use Rattle.std.proofs.Common.{◌≡◌, ℕ, ◌+◌, ◌-◌, ◌≤◌, Bool, true, false, List, [], ◌∷◌, ◌++◌, refl, ap, ap₂, sym, ◌∙◌, length, arith, append_assoc, length-append, map, take, drop, Option, subst, ⊎_elim, inl}
use Rattle.std.specs.Prelude.{◌&&◌, ◌||◌, ◌==◌, not, is_some, nat_lt, if◌then◌else◌}
use Rattle.std.proofs.lemmas.Bool.{cases_Bool, cases_lt, eq-eqb, lt-ltb, le-ltb}
use Rattle.std.proofs.lemmas.Bool.Decides.{same_from_decides, Decides-like, Decides-eqb}
use Rattle.ranges_tracker.specs.Cells.{Mark, Live, Gone, Stamp, Row, mark_at, text_of, units_in, mixed, some_unmarked, gone_at, shifted, squashed, fresh_mark, deleted}
use Rattle.ranges_tracker.specs.declared.change.Change.{Change}
use Rattle.ranges_tracker.specs.declared.change.ChangeKind.TheVariants.{Deleted}
use Rattle.ranges_tracker.specs.Shown.{change, meets, fused, touch, packed, live_cells, gone_cells}
use Rattle.ranges_tracker.specs.Tracked.{mark_over, placed, texts_in, mixed_in, some_bare, new_delete, kept, Marked, delete_in}
use Rattle.ranges_tracker.specs.Steady.{RisingGone}
use Rattle.ranges_tracker.proofs.Packing.{same_mark_self, touch_met, touch_apart}
use Rattle.ranges_tracker.proofs.Cutting.{mark_over_is}
use Rattle.ranges_tracker.proofs.Placing.{Differ, lost, With, with_by, Fit, placed_cells, fit_differ, Rising, rising_cells, kept_gone, kept_cells, below_closed, above_closed, GapsBelow, seam}

-- one new mark
pub one_block : (at : ℕ) (us : List ℕ) (m : Mark) → packed (gone_cells (map (gone_at at m) us)) ≡ new_delete at us m
one_block at [] m = refl
one_block at (u ∷ []) m = refl
one_block at (u ∷ v ∷ vs) m =
    let same : meets (lost at u m) (change Deleted at (v ∷ vs) m) ≡ true = rw (eq-eqb at at refl, same_mark_self m) refl in
    ap (touch (lost at u m)) (one_block at (v ∷ vs) m) ∙ touch_met (lost at u m) (change Deleted at (v ∷ vs) m) [] same

-- the deleted units of a gap
texts_touch : (g at u : ℕ) (m : Mark) (ds : List Change) → texts_in g (touch (lost at u m) ds) ≡ (if at == g then u ∷ [] else []) ++ texts_in g ds
texts_touch g at u m [] = refl
texts_touch g at u m (d ∷ ds) = ⊎_elim {C = texts_in g (touch (lost at u m) (d ∷ ds)) ≡ (if at == g then u ∷ [] else []) ++ texts_in g (d ∷ ds)}
    (λ t. ap (texts_in g) (touch_met (lost at u m) d ds t) ∙ met (with_by at u m d t))
    (λ t. ap (texts_in g) (touch_apart (lost at u m) d ds t))
    (cases_Bool (meets (lost at u m) d))
  where
    go : (b : Bool) (rest : List ℕ) → (if b then u ∷ d.text else []) ++ rest ≡ (if b then u ∷ [] else []) ++ ((if b then d.text else []) ++ rest)
    go true rest = refl
    go false rest = refl

    met : With at m d → texts_in g (fused (lost at u m) d ∷ ds) ≡ (if at == g then u ∷ [] else []) ++ texts_in g (d ∷ ds)
    met w = go (at == g) (texts_in g ds) ∙ ap (λ (x : ℕ). (if at == g then u ∷ [] else []) ++ ((if x == g then d.text else []) ++ texts_in g ds)) w.at_is

pub texts_cells : (g : ℕ) (gone : List Gone) → texts_in g (packed (gone_cells gone)) ≡ units_in g gone
texts_cells g [] = refl
texts_cells g (x ∷ xs) = texts_touch g x.gap x.unit x.mark (packed (gone_cells xs)) ∙ ap (λ (r : List ℕ). (if x.gap == g then x.unit ∷ [] else []) ++ r) (texts_cells g xs)

-- the marks over some units are those of their cells
abbrev pub MarksAt : ℕ → List Live → List Change → Type 0
MarksAt i [] is = Unit {0}
MarksAt i (l ∷ ls) is = (mark_over i is ≡ l.mark) × MarksAt (i + 1) ls is

mark_at_seam : (front : List Live) (l : Live) (ls : List Live) → mark_at (front ++ (l ∷ ls)) (length front) ≡ l.mark
mark_at_seam [] l ls = refl
mark_at_seam (x ∷ xs) l ls = mark_at_seam xs l ls

pub marks_along : (front out rest : List Live) (i : ℕ) → i ≡ length front → MarksAt i out (packed (live_cells 0 (front ++ (out ++ rest))))
marks_along front [] rest i e = tt
marks_along front (l ∷ ls) rest i e = (
  mark_over_is i 0 i (front ++ (l ∷ (ls ++ rest))) (omega arith) ∙ ap (mark_at (front ++ (l ∷ (ls ++ rest)))) e ∙ mark_at_seam front l (ls ++ rest),
  subst (λ (x : List Live). MarksAt (i + 1) ls (packed (live_cells 0 x))) (append_assoc front (l ∷ []) (ls ++ rest)) (marks_along (front ++ (l ∷ [])) ls rest (i + 1) (omega (arith, length-append front (l ∷ [])))),
)

bare_cells : (i : ℕ) (out : List Live) (is : List Change) → MarksAt i out is → some_bare i (text_of out) is ≡ some_unmarked out
bare_cells i [] is h = refl
bare_cells i (l ∷ ls) is h = ap₂ (λ (o : Option Mark) (b : Bool). not (is_some o) || b) h.0 (bare_cells (i + 1) ls is h.1)

mixed_cells : (i : ℕ) (out : List Live) (is : List Change) (gone : List Gone) → MarksAt i out is → mixed_in i (text_of out) is (packed (gone_cells gone)) ≡ mixed i out gone
mixed_cells i [] is gone h = texts_cells i gone
mixed_cells i (l ∷ ls) is gone h = ap₂ (λ (x y : List ℕ). x ++ y) (texts_cells i gone) (ap₂ (λ (o : Option Mark) (y : List ℕ). (if is_some o then [] else l.unit ∷ []) ++ y) h.0 (mixed_cells (i + 1) ls is gone h.1))

-- order and places of parts of the gone cells
pub kept_rising : (test : ℕ → Bool) (a : ℕ) (gone : List Gone) → RisingGone a gone → RisingGone a (kept_gone test gone)
kept_rising test a [] h = tt
kept_rising test a (g ∷ gs) h = ⊎_elim {C = RisingGone a (kept_gone test (g ∷ gs))}
    (λ e. subst (λ (x : List Gone). RisingGone a x) (sym (here e)) (h.0, kept_rising test g.gap gs h.1))
    (λ e. subst (λ (x : List Gone). RisingGone a x) (sym (there e)) (lower (kept_gone test gs) (kept_rising test g.gap gs h.1)))
    (cases_Bool (test g.gap))
  where
    here : test g.gap ≡ true → kept_gone test (g ∷ gs) ≡ g ∷ kept_gone test gs
    here e = rw e refl

    there : test g.gap ≡ false → kept_gone test (g ∷ gs) ≡ kept_gone test gs
    there e = rw e refl

    lower : (xs : List Gone) → RisingGone g.gap xs → RisingGone a xs
    lower [] k = tt
    lower (x ∷ xs) k = (omega (arith, k.0, h.0), k.1)

pub above_rising : (q a : ℕ) (gone : List Gone) → RisingGone a gone → RisingGone (q + 1) (kept_gone (λ x. nat_lt q x) gone)
above_rising q a [] h = tt
above_rising q a (g ∷ gs) h = ⊎_elim {C = RisingGone (q + 1) (kept_gone (λ x. nat_lt q x) (g ∷ gs))}
    (λ lt. let e : kept_gone (λ x. nat_lt q x) (g ∷ gs) ≡ g ∷ kept_gone (λ x. nat_lt q x) gs = rw (lt-ltb q g.gap lt) refl in
    subst (λ (x : List Gone). RisingGone (q + 1) x) (sym e) (omega arith, kept_rising (λ x. nat_lt q x) g.gap gs h.1))
    (λ ge. let e : kept_gone (λ x. nat_lt q x) (g ∷ gs) ≡ kept_gone (λ x. nat_lt q x) gs = rw (le-ltb q g.gap ge) refl in
    subst (λ (x : List Gone). RisingGone (q + 1) x) (sym e) (above_rising q g.gap gs h.1))
    (cases_lt q g.gap)

pub below_gaps : (p : ℕ) (gone : List Gone) → GapsBelow p (kept_gone (λ x. nat_lt x p) gone)
below_gaps p [] = tt
below_gaps p (g ∷ gs) = ⊎_elim {C = GapsBelow p (kept_gone (λ x. nat_lt x p) (g ∷ gs))}
    (λ lt. let e : kept_gone (λ x. nat_lt x p) (g ∷ gs) ≡ g ∷ kept_gone (λ x. nat_lt x p) gs = rw (lt-ltb g.gap p lt) refl in
    subst (λ (x : List Gone). GapsBelow p x) (sym e) (lt, below_gaps p gs))
    (λ ge. let e : kept_gone (λ x. nat_lt x p) (g ∷ gs) ≡ kept_gone (λ x. nat_lt x p) gs = rw (le-ltb g.gap p ge) refl in
    subst (λ (x : List Gone). GapsBelow p x) (sym e) (below_gaps p gs))
    (cases_lt g.gap p)

pub lower_rising : (n a : ℕ) (gone : List Gone) → RisingGone (a + n) gone → RisingGone a (map (shifted (λ x. x - n)) gone)
lower_rising n a [] h = tt
lower_rising n a (g ∷ gs) h = (omega (arith, h.0), lower_rising n (g.gap - n) gs (subst (λ (x : ℕ). RisingGone x gs) (omega (arith, h.0)) h.1))

fit_lowered : (n a : ℕ) (cs : List Change) → Rising a cs → n ≤ a → Fit (λ x. x - n) cs
fit_lowered n a [] h le = tt
fit_lowered n a (c ∷ []) h le = tt
fit_lowered n a (c ∷ d ∷ ds) h le =
    let p : n ≤ c.at = omega (arith, h.0) in
    let q : n ≤ d.at = omega (arith, h.0, h.1.0) in
    (inl (same_from_decides _ _ (Decides-eqb (c.at - n) (d.at - n)) (Decides-like {P = c.at ≡ d.at} (c.at == d.at) (λ e. omega arith) (λ e. omega arith) (Decides-eqb c.at d.at))), fit_lowered n c.at (d ∷ ds) h.1 p)

pub new_rising : (at : ℕ) (m : Mark) (us : List ℕ) (gone : List Gone) → RisingGone at gone → RisingGone at (map (gone_at at m) us ++ gone)
new_rising at m [] gone h = h
new_rising at m (u ∷ us) gone h = (omega arith, new_rising at m us gone h)

new_gaps : (at : ℕ) (m : Mark) (us : List ℕ) → GapsBelow (at + 1) (map (gone_at at m) us)
new_gaps at m [] = tt
new_gaps at m (u ∷ us) = (omega arith, new_gaps at m us)

pub gone_cells-append : (xs ys : List Gone) → gone_cells (xs ++ ys) ≡ gone_cells xs ++ gone_cells ys
gone_cells-append [] ys = refl
gone_cells-append (x ∷ xs) ys = ap (λ (z : List Change). lost x.gap x.unit x.mark ∷ z) (gone_cells-append xs ys)

-- the deletes where a new mark takes over the gaps around the place
pub new_law : (gone : List Gone) (at n : ℕ) (us : List ℕ) (m : Mark) → RisingGone 0 gone →
    kept (λ x. nat_lt x at) (packed (gone_cells gone)) ++ (new_delete at us m ++ map (placed (λ x. x - n)) (kept (λ x. nat_lt (at + n) x) (packed (gone_cells gone))))
    ≡ packed (gone_cells (kept_gone (λ x. nat_lt x at) gone ++ (map (gone_at at m) us ++ map (shifted (λ x. x - n)) (kept_gone (λ x. nat_lt (at + n) x) gone))))
new_law gone at n us m h =
    let low = kept_gone (λ x. nat_lt x at) gone in
    let high = kept_gone (λ x. nat_lt (at + n) x) gone in
    let new = map (gone_at at m) us in
    let last = map (shifted (λ x. x - n)) high in
    let high_rises : RisingGone (at + n + 1) high = above_rising (at + n) 0 gone h in
    let last_rises : RisingGone (at + 1) last = lower_rising n (at + 1) high (subst (λ (x : ℕ). RisingGone x high) (omega arith) high_rises) in
    let last_rises2 : RisingGone at last = less (omega arith) last last_rises in
    let a : kept (λ x. nat_lt x at) (packed (gone_cells gone)) ≡ packed (gone_cells low) = kept_cells (λ x. nat_lt x at) 0 gone (below_closed at) h in
    let b : kept (λ x. nat_lt (at + n) x) (packed (gone_cells gone)) ≡ packed (gone_cells high) = kept_cells (λ x. nat_lt (at + n) x) 0 gone (above_closed (at + n)) h in
    let c : map (placed (λ x. x - n)) (kept (λ x. nat_lt (at + n) x) (packed (gone_cells gone))) ≡ packed (gone_cells last) =
    ap (map (placed (λ x. x - n))) b ∙ placed_cells (λ x. x - n) high (fit_lowered n (at + n + 1) (packed (gone_cells high)) (rising_cells (at + n + 1) high high_rises) (omega arith)) in
    let d : new_delete at us m ≡ packed (gone_cells new) = sym (one_block at us m) in
    let e : packed (gone_cells (new ++ last)) ≡ packed (gone_cells new) ++ packed (gone_cells last) =
    ap packed (gone_cells-append new last) ∙ seam (at + 1) new (gone_cells last) (new_gaps at m us) (rising_cells (at + 1) last last_rises) in
    let f : packed (gone_cells (low ++ (new ++ last))) ≡ packed (gone_cells low) ++ packed (gone_cells (new ++ last)) =
    ap packed (gone_cells-append low (new ++ last)) ∙ seam at low (gone_cells (new ++ last)) (below_gaps at gone) (rising_cells at (new ++ last) (new_rising at m us last last_rises2)) in
    ap₂ (λ (x y : List Change). x ++ y) a (ap₂ (λ (x y : List Change). x ++ y) d c ∙ sym e) ∙ sym f
  where
    less : at ≤ at + 1 → (xs : List Gone) → RisingGone (at + 1) xs → RisingGone at xs
    less le [] k = tt
    less le (x ∷ xs) k = (omega (arith, k.0), k.1)

-- the deletes of a row after a delete, and the count of fresh marks
pub delete_law : (row : Row) (front out rest : List Live) (stamp : Stamp) (k : ℕ) → row.lives ≡ front ++ (out ++ rest) → out ≡ take (length (text_of out)) (drop (length front) row.lives) →
    RisingGone 0 row.gone → Differ (packed (gone_cells row.gone)) →
    delete_in (packed (live_cells 0 row.lives)) (packed (gone_cells row.gone)) (length front) (text_of out) stamp k
    ≡ record { changes = packed (gone_cells (deleted row (length front) (length (text_of out)) stamp k).row.gone); marks = (deleted row (length front) (length (text_of out)) stamp k).marks }
delete_law row front out rest stamp k is outs rises differ =
    let at = length front in
    let n = length (text_of out) in
    let ds = packed (gone_cells row.gone) in
    let along : MarksAt at out (packed (live_cells 0 row.lives)) = subst (λ (x : List Live). MarksAt at out (packed (live_cells 0 x))) (sym is) (marks_along front out rest at refl) in
    let by : Bool → List ℕ → Marked = λ b us.
    if stamp.track && b then record { changes = kept (λ x. nat_lt x at) ds ++ (new_delete at us (fresh_mark stamp k) ++ map (placed (λ x. x - n)) (kept (λ x. nat_lt (at + n) x) ds)); marks = k + 1 }
    else record { changes = map (placed (squashed at n)) ds; marks = k } in
    let goal : List Live → Marked = λ o.
    record { changes = packed (gone_cells (if stamp.track && some_unmarked o then kept_gone (λ x. nat_lt x at) row.gone ++ (map (gone_at at (fresh_mark stamp k)) (mixed at o row.gone) ++ map (shifted (λ x. x - n)) (kept_gone (λ x. nat_lt (at + n) x) row.gone)) else map (shifted (squashed at n)) row.gone)); marks = if stamp.track && some_unmarked o then k + 1 else k } in
    ap₂ by (bare_cells at out (packed (live_cells 0 row.lives)) along) (mixed_cells at out (packed (live_cells 0 row.lives)) row.gone along)
    ∙ go (stamp.track && some_unmarked out) (mixed at out row.gone)
    ∙ ap goal outs
  where
    go : (b : Bool) (us : List ℕ) →
        (if b then record { changes = kept (λ x. nat_lt x (length front)) (packed (gone_cells row.gone)) ++ (new_delete (length front) us (fresh_mark stamp k) ++ map (placed (λ x. x - length (text_of out))) (kept (λ x. nat_lt (length front + length (text_of out)) x) (packed (gone_cells row.gone)))); marks = k + 1 }
        else record { changes = map (placed (squashed (length front) (length (text_of out)))) (packed (gone_cells row.gone)); marks = k })
        ≡ (let r : Marked = record { changes = packed (gone_cells (if b then kept_gone (λ x. nat_lt x (length front)) row.gone ++ (map (gone_at (length front) (fresh_mark stamp k)) us ++ map (shifted (λ x. x - length (text_of out))) (kept_gone (λ x. nat_lt (length front + length (text_of out)) x) row.gone)) else map (shifted (squashed (length front) (length (text_of out)))) row.gone)); marks = if b then k + 1 else k } in r)
    go true us = ap (λ (x : List Change). record { changes = x; marks = k + 1 }) (new_law row.gone (length front) (length (text_of out)) us (fresh_mark stamp k) rises)
    go false us = ap (λ (x : List Change). record { changes = x; marks = k }) (placed_cells (squashed (length front) (length (text_of out))) row.gone (fit_differ (squashed (length front) (length (text_of out))) (packed (gone_cells row.gone)) differ))
