-- Shown deletes at other places, and those of some places.
use Rattle.std.proofs.Common.{◌≡◌, ℕ, ◌+◌, ◌<◌, ◌≤◌, Bool, true, false, List, [], ◌∷◌, ◌++◌, refl, ap, sym, ◌∙◌, arith, map, subst, ⊎_elim, ◌⊎◌, inl, inr}
use Rattle.std.specs.Prelude.{◌&&◌, ◌==◌, nat_lt, filter}
use Rattle.std.proofs.lemmas.Bool.{cases_Bool, and_parts, cases_lt, eqb-true, eq-eqb, ne_eqb, le-ltb, le-leb, lt-leb, ltb-true, ltb-false}
use Rattle.std.proofs.lemmas.Bool.Decides.{same_from_decides, Decides-like, Decides-eqb}
use Rattle.ranges_tracker.specs.Cells.{Mark, Gone, same_mark, shifted, raised}
use Rattle.ranges_tracker.specs.declared.change.Change.{Change}
use Rattle.ranges_tracker.specs.declared.change.ChangeKind.TheVariants.{Deleted}
use Rattle.ranges_tracker.specs.Shown.{change, mark_of, same_kind, meets, fused, touch, packed, gone_cells}
pub use Rattle.ranges_tracker.specs.Ordered.{Rising}
use Rattle.ranges_tracker.specs.Tracked.{placed, kept}
use Rattle.ranges_tracker.specs.Steady.{RisingGone}
use Rattle.ranges_tracker.proofs.Packing.{same_mark_is, same_kind_is, touch_met, touch_apart}

-- neighbours bear different marks
abbrev pub Differ : List Change → Type 0
Differ [] = Unit {0}
Differ (c ∷ []) = Unit {0}
Differ (c ∷ d ∷ ds) = (same_mark (mark_of c) (mark_of d) ≡ false) × Differ (d ∷ ds)

abbrev pub lost : ℕ → ℕ → Mark → Change
lost at u m = change Deleted at (u ∷ []) m

pub record With (at : ℕ) (m : Mark) (d : Change) : Type 0 where
  pub kind : Deleted ≡ d.kind
  pub at_is : at ≡ d.at
  pub mark_is : m ≡ mark_of d

pub with_by : (at u : ℕ) (m : Mark) (d : Change) → meets (lost at u m) d ≡ true → With at m d
with_by at u m d e =
    let a = and_parts _ _ e in
    let b = and_parts _ _ a.1 in
    record { kind = same_kind_is Deleted d.kind a.0; at_is = eqb-true at d.at b.0; mark_is = same_mark_is m (mark_of d) b.1 }

-- neighbours stay apart under a map of places, or bear different marks
abbrev pub Fit : (ℕ → ℕ) → List Change → Type 0
Fit f [] = Unit {0}
Fit f (c ∷ []) = Unit {0}
Fit f (c ∷ d ∷ ds) = (((f c.at == f d.at) ≡ (c.at == d.at)) ⊎ (same_mark (mark_of c) (mark_of d) ≡ false)) × Fit f (d ∷ ds)

both_false : (a b d : Bool) → d ≡ false → (a && (b && d)) ≡ false
both_false true true d e = e
both_false true false d e = refl
both_false false b d e = refl

fit_touch : (f : ℕ → ℕ) (at u : ℕ) (m : Mark) (gs : List Change) → Fit f (touch (lost at u m) gs) → Fit f gs
fit_touch f at u m [] h = tt
fit_touch f at u m (d ∷ ds) h = ⊎_elim {C = Fit f (d ∷ ds)}
    (λ t. met ds (with_by at u m d t) (subst (λ (x : List Change). Fit f x) (touch_met (lost at u m) d ds t) h))
    (λ t. apart (subst (λ (x : List Change). Fit f x) (touch_apart (lost at u m) d ds t) h))
    (cases_Bool (meets (lost at u m) d))
  where
    apart : Fit f (lost at u m ∷ d ∷ ds) → Fit f (d ∷ ds)
    apart k = k.1

    met : (es : List Change) → With at m d → Fit f (fused (lost at u m) d ∷ es) → Fit f (d ∷ es)
    met [] w k = tt
    met (e ∷ es) w k = (subst (λ (x : ℕ). ((f x == f e.at) ≡ (x == e.at)) ⊎ (same_mark (mark_of d) (mark_of e) ≡ false)) w.at_is (subst (λ (x : Mark). ((f at == f e.at) ≡ (at == e.at)) ⊎ (same_mark x (mark_of e) ≡ false)) w.mark_is k.0), k.1)

place_touch : (f : ℕ → ℕ) (at u : ℕ) (m : Mark) (gs : List Change) → Fit f (touch (lost at u m) gs) → map (placed f) (touch (lost at u m) gs) ≡ touch (lost (f at) u m) (map (placed f) gs)
place_touch f at u m [] h = refl
place_touch f at u m (d ∷ ds) h = ⊎_elim {C = map (placed f) (touch (lost at u m) (d ∷ ds)) ≡ touch (lost (f at) u m) (map (placed f) (d ∷ ds))}
    (λ t. ap (map (placed f)) (touch_met (lost at u m) d ds t) ∙ sym (touch_met (lost (f at) u m) (placed f d) (map (placed f) ds) (met t (with_by at u m d t))))
    (λ t. ap (map (placed f)) (touch_apart (lost at u m) d ds t) ∙ sym (touch_apart (lost (f at) u m) (placed f d) (map (placed f) ds) (apart t (subst (λ (x : List Change). Fit f x) (touch_apart (lost at u m) d ds t) h))))
    (cases_Bool (meets (lost at u m) d))
  where
    met : meets (lost at u m) d ≡ true → With at m d → meets (lost (f at) u m) (placed f d) ≡ true
    met t w = ap (λ (b : Bool). same_kind Deleted d.kind && (b && same_mark m (mark_of d))) (eq-eqb (f at) (f d.at) (ap f w.at_is) ∙ sym (eq-eqb at d.at w.at_is)) ∙ t

    apart : meets (lost at u m) d ≡ false → Fit f (lost at u m ∷ d ∷ ds) → meets (lost (f at) u m) (placed f d) ≡ false
    apart t k = ⊎_elim {C = meets (lost (f at) u m) (placed f d) ≡ false} (λ e. ap (λ (b : Bool). same_kind Deleted d.kind && (b && same_mark m (mark_of d))) e ∙ t) (λ e. both_false (same_kind Deleted d.kind) (f at == f d.at) (same_mark m (mark_of d)) e) k.0

-- a map of gaps is a map of places
pub placed_cells : (f : ℕ → ℕ) (gone : List Gone) → Fit f (packed (gone_cells gone)) → map (placed f) (packed (gone_cells gone)) ≡ packed (gone_cells (map (shifted f) gone))
placed_cells f [] h = refl
placed_cells f (g ∷ gs) h = place_touch f g.gap g.unit g.mark (packed (gone_cells gs)) h ∙ ap (touch (lost (f g.gap) g.unit g.mark)) (placed_cells f gs (fit_touch f g.gap g.unit g.mark (packed (gone_cells gs)) h))

same_raised : (at n x y : ℕ) → (raised at n x == raised at n y) ≡ (x == y)
same_raised at n x y = same_from_decides _ _ (Decides-eqb (raised at n x) (raised at n y)) (Decides-like {P = x ≡ y} (x == y) (λ e. ap (raised at n) e) back (Decides-eqb x y))
  where
    both : (raised at n x ≡ x + n) × (at ≤ x) ⊎ ((raised at n x ≡ x) × (x < at)) → (raised at n y ≡ y + n) × (at ≤ y) ⊎ ((raised at n y ≡ y) × (y < at)) → raised at n x ≡ raised at n y → x ≡ y
    both (inl a) (inl b) e = omega (arith, a.0, b.0)
    both (inl a) (inr b) e = omega (arith, a.0, b.0)
    both (inr a) (inl b) e = omega (arith, a.0, b.0)
    both (inr a) (inr b) e = omega (arith, a.0, b.0)

    of : (z : ℕ) → (raised at n z ≡ z + n) × (at ≤ z) ⊎ ((raised at n z ≡ z) × (z < at))
    of z = ⊎_elim {C = (raised at n z ≡ z + n) × (at ≤ z) ⊎ ((raised at n z ≡ z) × (z < at))} (λ lt. inr (rw (lt-leb at z lt) refl, lt)) (λ ge. inl (rw (le-leb at z ge) refl, ge)) (cases_lt z at)

    back : raised at n x ≡ raised at n y → x ≡ y
    back e = both (of x) (of y) e

pub fit_raised : (at n : ℕ) (cs : List Change) → Fit (raised at n) cs
fit_raised at n [] = tt
fit_raised at n (c ∷ []) = tt
fit_raised at n (c ∷ d ∷ ds) = (inl (same_raised at n c.at d.at), fit_raised at n (d ∷ ds))

pub fit_differ : (f : ℕ → ℕ) (cs : List Change) → Differ cs → Fit f cs
fit_differ f [] h = tt
fit_differ f (c ∷ []) h = tt
fit_differ f (c ∷ d ∷ ds) h = (inr h.0, fit_differ f (d ∷ ds) h.1)

-- in the order of the row
rising_touch : (a at u : ℕ) (m : Mark) (gs : List Change) → a ≤ at → Rising at gs → Rising a (touch (lost at u m) gs)
rising_touch a at u m [] le h = (le, tt)
rising_touch a at u m (d ∷ ds) le h = ⊎_elim {C = Rising a (touch (lost at u m) (d ∷ ds))}
    (λ t. subst (λ (x : List Change). Rising a x) (sym (touch_met (lost at u m) d ds t)) (met (with_by at u m d t)))
    (λ t. subst (λ (x : List Change). Rising a x) (sym (touch_apart (lost at u m) d ds t)) apart)
    (cases_Bool (meets (lost at u m) d))
  where
    apart : Rising a (lost at u m ∷ d ∷ ds)
    apart = (le, h)

    met : With at m d → Rising a (fused (lost at u m) d ∷ ds)
    met w = (le, subst (λ (x : ℕ). Rising x ds) (sym w.at_is) h.1)

pub rising_cells : (a : ℕ) (gone : List Gone) → RisingGone a gone → Rising a (packed (gone_cells gone))
rising_cells a [] h = tt
rising_cells a (g ∷ gs) h = rising_touch a g.gap g.unit g.mark (packed (gone_cells gs)) h.0 (rising_cells g.gap gs h.1)

-- a test of places that does not come back: what lies between what passes, passes
pub Closed : (ℕ → Bool) → Type 0
Closed test = (x y z : ℕ) → x ≤ y → y ≤ z → test x ≡ true → test y ≡ false → test z ≡ false

keep_in : (test : ℕ → Bool) (c : Change) (cs : List Change) → test c.at ≡ true → kept test (c ∷ cs) ≡ c ∷ kept test cs
keep_in test c cs e = rw e refl

keep_out : (test : ℕ → Bool) (c : Change) (cs : List Change) → test c.at ≡ false → kept test (c ∷ cs) ≡ kept test cs
keep_out test c cs e = rw e refl

none_left : (test : ℕ → Bool) (x y : ℕ) (cs : List Change) → ((z : ℕ) → y ≤ z → test z ≡ false) → Rising y cs → kept test cs ≡ []
none_left test x y [] f h = refl
none_left test x y (c ∷ cs) f h = keep_out test c cs (f c.at h.0) ∙ none_left test x c.at cs (λ z le. f z (omega (arith, h.0))) h.1

kept_in : (test : ℕ → Bool) (at u : ℕ) (m : Mark) (gs : List Change) → Closed test → Rising at gs → test at ≡ true → kept test (touch (lost at u m) gs) ≡ touch (lost at u m) (kept test gs)
unfolding Closed
kept_in test at u m [] cl h e = keep_in test (lost at u m) [] e
kept_in test at u m (d ∷ ds) cl h e = ⊎_elim {C = kept test (touch (lost at u m) (d ∷ ds)) ≡ touch (lost at u m) (kept test (d ∷ ds))}
    (λ t. let w : With at m d = with_by at u m d t in
    ap (kept test) (touch_met (lost at u m) d ds t) ∙ keep_in test (fused (lost at u m) d) ds e
    ∙ sym (ap (touch (lost at u m)) (keep_in test d ds (ap test (sym w.at_is) ∙ e)) ∙ touch_met (lost at u m) d (kept test ds) t))
    (λ t. ap (kept test) (touch_apart (lost at u m) d ds t) ∙ keep_in test (lost at u m) (d ∷ ds) e ∙ ⊎_elim {C = lost at u m ∷ kept test (d ∷ ds) ≡ touch (lost at u m) (kept test (d ∷ ds))}
    (λ s. ap (λ (x : List Change). lost at u m ∷ x) (keep_in test d ds s) ∙ sym (ap (touch (lost at u m)) (keep_in test d ds s) ∙ touch_apart (lost at u m) d (kept test ds) t))
    (λ s. let none : kept test (d ∷ ds) ≡ [] = none_left test at d.at (d ∷ ds) (λ z le. cl at d.at z h.0 le e s) (omega arith, h.1) in
    ap (λ (x : List Change). lost at u m ∷ x) none ∙ sym (ap (touch (lost at u m)) none))
    (cases_Bool (test d.at)))
    (cases_Bool (meets (lost at u m) d))

kept_out : (test : ℕ → Bool) (at u : ℕ) (m : Mark) (gs : List Change) → test at ≡ false → kept test (touch (lost at u m) gs) ≡ kept test gs
kept_out test at u m [] e = keep_out test (lost at u m) [] e
kept_out test at u m (d ∷ ds) e = ⊎_elim {C = kept test (touch (lost at u m) (d ∷ ds)) ≡ kept test (d ∷ ds)}
    (λ t. let w : With at m d = with_by at u m d t in
    ap (kept test) (touch_met (lost at u m) d ds t) ∙ keep_out test (fused (lost at u m) d) ds e ∙ sym (keep_out test d ds (ap test (sym w.at_is) ∙ e)))
    (λ t. ap (kept test) (touch_apart (lost at u m) d ds t) ∙ keep_out test (lost at u m) (d ∷ ds) e)
    (cases_Bool (meets (lost at u m) d))

abbrev pub kept_gone : (ℕ → Bool) → List Gone → List Gone
kept_gone test gone = filter (λ (g : Gone). test g.gap) gone

-- the deletes at some places are those of the gone cells in these gaps
pub kept_cells : (test : ℕ → Bool) (a : ℕ) (gone : List Gone) → Closed test → RisingGone a gone → kept test (packed (gone_cells gone)) ≡ packed (gone_cells (kept_gone test gone))
kept_cells test a [] cl h = refl
kept_cells test a (g ∷ gs) cl h = ⊎_elim {C = kept test (touch (lost g.gap g.unit g.mark) (packed (gone_cells gs))) ≡ packed (gone_cells (kept_gone test (g ∷ gs)))}
    (λ e. kept_in test g.gap g.unit g.mark (packed (gone_cells gs)) cl (rising_cells g.gap gs h.1) e ∙ ap (touch (lost g.gap g.unit g.mark)) (kept_cells test g.gap gs cl h.1) ∙ sym (ap (λ (x : List Gone). packed (gone_cells x)) (here e)))
    (λ e. kept_out test g.gap g.unit g.mark (packed (gone_cells gs)) e ∙ kept_cells test g.gap gs cl h.1 ∙ sym (ap (λ (x : List Gone). packed (gone_cells x)) (there e)))
    (cases_Bool (test g.gap))
  where
    here : test g.gap ≡ true → kept_gone test (g ∷ gs) ≡ g ∷ kept_gone test gs
    here e = rw e refl

    there : test g.gap ≡ false → kept_gone test (g ∷ gs) ≡ kept_gone test gs
    there e = rw e refl

pub below_closed : (p : ℕ) → Closed (λ x. nat_lt x p)
unfolding Closed
below_closed p x y z a b s t = le-ltb z p (omega (arith, ltb-false y p t))

pub above_closed : (q : ℕ) → Closed (λ x. nat_lt q x)
unfolding Closed
above_closed q x y z a b s t = absurd (omega (arith, ltb-true q x s, ltb-false q y t))

-- deletes before a place and deletes from it on don't meet
seam_touch : (q at u : ℕ) (m : Mark) (xs ys : List Change) → at < q → Rising q ys → touch (lost at u m) (xs ++ ys) ≡ touch (lost at u m) xs ++ ys
seam_touch q at u m [] [] lt h = refl
seam_touch q at u m [] (y ∷ ys) lt h = touch_apart (lost at u m) y ys (apart_at (ne_eqb at y.at (λ e. omega (arith, h.0))))
  where
    apart_at : (at == y.at) ≡ false → meets (lost at u m) y ≡ false
    apart_at e = ap (λ (b : Bool). same_kind Deleted y.kind && (b && same_mark m (mark_of y))) e ∙ go (same_kind Deleted y.kind)
      where
        go : (b : Bool) → (b && false) ≡ false
        go true = refl
        go false = refl
seam_touch q at u m (x ∷ xs) ys lt h = ⊎_elim {C = touch (lost at u m) ((x ∷ xs) ++ ys) ≡ touch (lost at u m) (x ∷ xs) ++ ys}
    (λ t. touch_met (lost at u m) x (xs ++ ys) t ∙ sym (ap (λ (z : List Change). z ++ ys) (touch_met (lost at u m) x xs t)))
    (λ t. touch_apart (lost at u m) x (xs ++ ys) t ∙ sym (ap (λ (z : List Change). z ++ ys) (touch_apart (lost at u m) x xs t)))
    (cases_Bool (meets (lost at u m) x))

abbrev pub GapsBelow : ℕ → List Gone → Type 0
GapsBelow q [] = Unit {0}
GapsBelow q (g ∷ gs) = (g.gap < q) × GapsBelow q gs

pub seam : (q : ℕ) (xs : List Gone) (ys : List Change) → GapsBelow q xs → Rising q (packed ys) → packed (gone_cells xs ++ ys) ≡ packed (gone_cells xs) ++ packed ys
seam q [] ys b h = refl
seam q (x ∷ xs) ys b h = ap (touch (lost x.gap x.unit x.mark)) (seam q xs ys b.1 h) ∙ seam_touch q x.gap x.unit x.mark (packed (gone_cells xs)) (packed ys) b.0 h
