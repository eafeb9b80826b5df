-- The shown inserts of some live cells: how they are cut, and the mark over a unit.
use Rattle.std.proofs.Common.{◌≡◌, ℕ, zero, suc, ◌+◌, ◌-◌, ◌<◌, ◌≤◌, Bool, true, false, List, [], ◌∷◌, ◌++◌, refl, ap, ap₂, sym, ◌∙◌, length, arith, take, drop, Option, Some, None, ⊎_elim}
use Rattle.std.specs.Prelude.{◌&&◌, nat_le, nat_lt, if◌then◌else◌}
use Rattle.std.proofs.lemmas.Bool.{cases_Bool, and_parts, cases_lt, lt-ltb, le-ltb, le-leb, lt-leb, eqb-true}
use Rattle.ranges_tracker.specs.Cells.{Mark, Live, mark_at}
use Rattle.ranges_tracker.specs.declared.change.Change.{Change}
use Rattle.ranges_tracker.specs.declared.change.ChangeKind.{ChangeKind}
use Rattle.ranges_tracker.specs.declared.change.ChangeKind.TheVariants.{Inserted}
use Rattle.ranges_tracker.specs.Shown.{change, mark_of, meets, fused, touch, packed, live_cell, live_cells}
pub use Rattle.ranges_tracker.specs.Ordered.{Lined}
use Rattle.ranges_tracker.specs.Tracked.{piece, head_part, tail_part, heads, tails, mark_over}
use Rattle.ranges_tracker.proofs.Packing.{same_mark_is, same_kind_is, touch_met, touch_apart}

-- one marked live cell
abbrev pub cell : ℕ → ℕ → Mark → Change
cell at u m = change Inserted at (u ∷ []) m

-- what it means that a cell meets a change
pub record Met (at : ℕ) (m : Mark) (d : Change) : Type 0 where
  pub kind : Inserted ≡ d.kind
  pub at_is : d.at ≡ at + 1
  pub mark_is : m ≡ mark_of d

pub met_by : (at u : ℕ) (m : Mark) (d : Change) → meets (cell at u m) d ≡ true → Met at m d
met_by at u m d e =
    let a = and_parts _ _ e in
    let b = and_parts _ _ a.1 in
    let r : at + 1 ≡ d.at = eqb-true (at + 1) d.at b.0 in
    record { kind = same_kind_is Inserted d.kind a.0; at_is = sym r; mark_is = same_mark_is m (mark_of d) b.1 }

pub lined_touch : (at u : ℕ) (m : Mark) (gs : List Change) → Lined (at + 1) gs → Lined at (touch (cell at u m) gs)
lined_touch at u m [] h = (omega arith, omega arith, tt)
lined_touch at u m (d ∷ ds) h = ⊎_elim {C = Lined at (touch (cell at u m) (d ∷ ds))}
    (λ t. rw (touch_met (cell at u m) d ds t) (met (met_by at u m d t)))
    (λ t. rw (touch_apart (cell at u m) d ds t) (omega arith, omega arith, h))
    (cases_Bool (meets (cell at u m) d))
  where
    met : Met at m d → Lined at (fused (cell at u m) d ∷ ds)
    met k = let e : d.at + length d.text ≡ at + length (u ∷ d.text) = omega (arith, k.at_is) in (omega arith, omega arith, rw (← e) h.2)

lined_cell : (at u : ℕ) (o : Option Mark) (cs : List Change) → Lined (at + 1) (packed cs) → Lined at (packed (live_cell at u o ++ cs))
lined_cell at u None cs h = more (packed cs) h
  where
    more : (gs : List Change) → Lined (at + 1) gs → Lined at gs
    more [] h = tt
    more (d ∷ ds) h = (omega (arith, h.0), h.1, h.2)
lined_cell at u (Some m) cs h = lined_touch at u m (packed cs) h

pub lined_cells : (at : ℕ) (ls : List Live) → Lined at (packed (live_cells at ls))
lined_cells at [] = tt
lined_cells at (l ∷ ls) = lined_cell at l.unit l.mark (live_cells (at + 1) ls) (lined_cells (at + 1) ls)

-- beyond a place nothing stands before it, and all from it on
head_out : (p : ℕ) (c : Change) → p ≤ c.at → head_part p c ≡ []
head_out p c h = rw (le-ltb c.at p h) refl

head_in : (p : ℕ) (c : Change) → c.at < p → head_part p c ≡ piece c c.at (take (p - c.at) c.text) ∷ []
head_in p c h = rw (lt-ltb c.at p h) refl

pub heads_none : (p q : ℕ) (gs : List Change) → Lined q gs → p ≤ q → heads p gs ≡ []
heads_none p q [] h le = refl
heads_none p q (c ∷ cs) h le = ap₂ (λ (x y : List Change). x ++ y) (head_out p c (omega (arith, h.0))) (heads_none p (c.at + length c.text) cs h.2 (omega (arith, h.0)))

zero_sub : (p a : ℕ) → p ≤ a → p - a ≡ 0
zero_sub p a h = omega arith

tail_whole : (p : ℕ) (c : Change) → p ≤ c.at → 0 < length c.text → tail_part p c ≡ c ∷ []
tail_whole p c h t = rw (lt-ltb p (c.at + length c.text) (omega arith), le-ltb c.at p h, zero_sub p c.at h) refl

pub tails_all : (p q : ℕ) (gs : List Change) → Lined q gs → p ≤ q → tails p gs ≡ gs
tails_all p q [] h le = refl
tails_all p q (c ∷ cs) h le = ap₂ (λ (x y : List Change). x ++ y) (tail_whole p c (omega (arith, h.0)) h.1) (tails_all p (c.at + length c.text) cs h.2 (omega (arith, h.0)))

take_one : (n u : ℕ) (us : List ℕ) → n ≡ 1 → take n (u ∷ us) ≡ u ∷ []
take_one n u us e = rw e refl

take_next : (n m u : ℕ) (us : List ℕ) → n ≡ suc m → take n (u ∷ us) ≡ u ∷ take m us
take_next n m u us e = rw e refl

drop_next : (n m u : ℕ) (us : List ℕ) → n ≡ suc m → drop n (u ∷ us) ≡ drop m us
drop_next n m u us e = rw e refl

take_nil : (k : ℕ) → take {A = ℕ} k [] ≡ []
take_nil zero = refl
take_nil (suc k) = refl

take_single : (n u : ℕ) → 0 < n → take n (u ∷ []) ≡ u ∷ []
take_single zero u h = absurd (omega arith)
take_single (suc n) u h = ap (λ (x : List ℕ). u ∷ x) (take_nil n)

cell_head : (p at u : ℕ) (m : Mark) → at < p → head_part p (cell at u m) ≡ cell at u m ∷ []
cell_head p at u m h = head_in p (cell at u m) h ∙ ap (λ (x : List ℕ). change Inserted at x m ∷ []) (take_single (p - at) u (omega arith))

-- the part before a place begins as the whole
pub heads_touch : (p at u : ℕ) (m : Mark) (gs : List Change) → Lined (at + 1) gs → at < p → heads p (touch (cell at u m) gs) ≡ touch (cell at u m) (heads p gs)
heads_touch p at u m [] h lt = ap (λ (x : List Change). x ++ []) (cell_head p at u m lt)
heads_touch p at u m (d ∷ ds) h lt = ⊎_elim {C = heads p (touch (cell at u m) (d ∷ ds)) ≡ touch (cell at u m) (heads p (d ∷ ds))}
    (λ t. ap (heads p) (touch_met (cell at u m) d ds t) ∙ ⊎_elim {C = heads p (fused (cell at u m) d ∷ ds) ≡ touch (cell at u m) (heads p (d ∷ ds))} (met_in t (met_by at u m d t)) (met_out (met_by at u m d t)) (cases_lt d.at p))
    (λ t. ap (heads p) (touch_apart (cell at u m) d ds t) ∙ ap (λ (x : List Change). x ++ heads p (d ∷ ds)) (cell_head p at u m lt) ∙ ⊎_elim {C = cell at u m ∷ heads p (d ∷ ds) ≡ touch (cell at u m) (heads p (d ∷ ds))} (apart_in t) apart_out (cases_lt d.at p))
    (cases_Bool (meets (cell at u m) d))
  where
    met_in : meets (cell at u m) d ≡ true → Met at m d → d.at < p → heads p (fused (cell at u m) d ∷ ds) ≡ touch (cell at u m) (heads p (d ∷ ds))
    met_in t k low =
        let n : p - at ≡ suc (p - d.at) = omega (arith, k.at_is) in
        let a : head_part p (fused (cell at u m) d) ≡ change Inserted at (u ∷ take (p - d.at) d.text) m ∷ [] = head_in p (fused (cell at u m) d) lt ∙ ap (λ (x : List ℕ). change Inserted at x m ∷ []) (take_next (p - at) (p - d.at) u d.text n) in
        let b : heads p (d ∷ ds) ≡ piece d d.at (take (p - d.at) d.text) ∷ heads p ds = ap (λ (x : List Change). x ++ heads p ds) (head_in p d low) in
        ap (λ (x : List Change). x ++ heads p ds) a ∙ sym (ap (touch (cell at u m)) b ∙ touch_met (cell at u m) (piece d d.at (take (p - d.at) d.text)) (heads p ds) t)

    met_out : Met at m d → p ≤ d.at → heads p (fused (cell at u m) d ∷ ds) ≡ touch (cell at u m) (heads p (d ∷ ds))
    met_out k high =
        let n : p - at ≡ 1 = omega (arith, k.at_is) in
        let a : head_part p (fused (cell at u m) d) ≡ cell at u m ∷ [] = head_in p (fused (cell at u m) d) lt ∙ ap (λ (x : List ℕ). change Inserted at x m ∷ []) (take_one (p - at) u d.text n) in
        let rest : heads p ds ≡ [] = heads_none p (d.at + length d.text) ds h.2 (omega arith) in
        let b : heads p (d ∷ ds) ≡ [] = heads_none p (at + 1) (d ∷ ds) h (omega (arith, k.at_is)) in
        ap₂ (λ (x y : List Change). x ++ y) a rest ∙ sym (ap (touch (cell at u m)) b)

    apart_in : meets (cell at u m) d ≡ false → d.at < p → cell at u m ∷ heads p (d ∷ ds) ≡ touch (cell at u m) (heads p (d ∷ ds))
    apart_in t low =
        let b : heads p (d ∷ ds) ≡ piece d d.at (take (p - d.at) d.text) ∷ heads p ds = ap (λ (x : List Change). x ++ heads p ds) (head_in p d low) in
        ap (λ (x : List Change). cell at u m ∷ x) b ∙ sym (ap (touch (cell at u m)) b ∙ touch_apart (cell at u m) (piece d d.at (take (p - d.at) d.text)) (heads p ds) t)

    apart_out : p ≤ d.at → cell at u m ∷ heads p (d ∷ ds) ≡ touch (cell at u m) (heads p (d ∷ ds))
    apart_out high =
        let b : heads p (d ∷ ds) ≡ [] = heads_none p d.at (d ∷ ds) (omega arith, h.1, h.2) high in
        ap (λ (x : List Change). cell at u m ∷ x) b ∙ sym (ap (touch (cell at u m)) b)

tail_gone : (p at u : ℕ) (m : Mark) → at < p → tail_part p (cell at u m) ≡ []
tail_gone p at u m h = rw (le-ltb p (at + length (u ∷ [])) (omega arith)) refl

pick : (p q : ℕ) → q ≤ p → (if nat_lt q p then p else q) ≡ p
pick p q h = ⊎_elim {C = (if nat_lt q p then p else q) ≡ p} (λ lt. rw (lt-ltb q p lt) refl) (λ ge. rw (le-ltb q p ge) (omega arith)) (cases_lt q p)

-- the part from a place on
pub tails_touch : (p at u : ℕ) (m : Mark) (gs : List Change) → at < p → tails p (touch (cell at u m) gs) ≡ tails p gs
tails_touch p at u m [] lt = ap (λ (x : List Change). x ++ []) (tail_gone p at u m lt)
tails_touch p at u m (d ∷ ds) lt = ⊎_elim {C = tails p (touch (cell at u m) (d ∷ ds)) ≡ tails p (d ∷ ds)}
    (λ t. ap (tails p) (touch_met (cell at u m) d ds t) ∙ ap (λ (x : List Change). x ++ tails p ds) (met (met_by at u m d t)))
    (λ t. ap (tails p) (touch_apart (cell at u m) d ds t) ∙ ap (λ (x : List Change). x ++ tails p (d ∷ ds)) (tail_gone p at u m lt))
    (cases_Bool (meets (cell at u m) d))
  where
    met : Met at m d → tail_part p (fused (cell at u m) d) ≡ tail_part p d
    met k =
        let e : p - at ≡ suc (p - d.at) = omega (arith, k.at_is) in
        let len : at + length (u ∷ d.text) ≡ d.at + length d.text = omega (arith, k.at_is) in
        let texts : drop (p - at) (u ∷ d.text) ≡ drop (p - d.at) d.text = drop_next (p - at) (p - d.at) u d.text e in
        let place : (if nat_lt at p then p else at) ≡ (if nat_lt d.at p then p else d.at) = pick p at (omega arith) ∙ sym (pick p d.at (omega (arith, k.at_is))) in
        ap (λ (x : ℕ). if nat_lt p x then change Inserted (if nat_lt at p then p else at) (drop (p - at) (u ∷ d.text)) m ∷ [] else []) len
        ∙ ap (λ (x : Change). if nat_lt p (d.at + length d.text) then x ∷ [] else [])
        (ap (λ (x : ℕ). change Inserted x (drop (p - at) (u ∷ d.text)) m) place
        ∙ ap (λ (x : List ℕ). change Inserted (if nat_lt d.at p then p else d.at) x m) texts
        ∙ ap (λ (x : Mark). change Inserted (if nat_lt d.at p then p else d.at) (drop (p - d.at) d.text) x) k.mark_is
        ∙ ap (λ (x : ChangeKind). change x (if nat_lt d.at p then p else d.at) (drop (p - d.at) d.text) (mark_of d)) k.kind)

-- a cell before packed ones
abbrev pub put_cell : ℕ → ℕ → Option Mark → List Change → List Change
put_cell at u None gs = gs
put_cell at u (Some m) gs = touch (cell at u m) gs

pub packed_put : (at u : ℕ) (o : Option Mark) (cs : List Change) → packed (live_cell at u o ++ cs) ≡ put_cell at u o (packed cs)
packed_put at u None cs = refl
packed_put at u (Some m) cs = refl

heads_put : (p at u : ℕ) (o : Option Mark) (gs : List Change) → Lined (at + 1) gs → at < p → heads p (put_cell at u o gs) ≡ put_cell at u o (heads p gs)
heads_put p at u None gs h lt = refl
heads_put p at u (Some m) gs h lt = heads_touch p at u m gs h lt

tails_put : (p at u : ℕ) (o : Option Mark) (gs : List Change) → at < p → tails p (put_cell at u o gs) ≡ tails p gs
tails_put p at u None gs lt = refl
tails_put p at u (Some m) gs lt = tails_touch p at u m gs lt

-- the inserts of the cells before a place, and of those from it on
pub heads_cells : (p at : ℕ) (x y : List Live) → p ≡ at + length x → heads p (packed (live_cells at (x ++ y))) ≡ packed (live_cells at x)
heads_cells p at [] y e = heads_none p at (packed (live_cells at y)) (lined_cells at y) (omega arith)
heads_cells p at (l ∷ ls) y e =
    ap (heads p) (packed_put at l.unit l.mark (live_cells (at + 1) (ls ++ y)))
    ∙ heads_put p at l.unit l.mark (packed (live_cells (at + 1) (ls ++ y))) (lined_cells (at + 1) (ls ++ y)) (omega arith)
    ∙ ap (put_cell at l.unit l.mark) (heads_cells p (at + 1) ls y (omega arith))
    ∙ sym (packed_put at l.unit l.mark (live_cells (at + 1) ls))

pub tails_cells : (p at : ℕ) (x y : List Live) → p ≡ at + length x → tails p (packed (live_cells at (x ++ y))) ≡ packed (live_cells p y)
tails_cells p at [] y e = tails_all p at (packed (live_cells at y)) (lined_cells at y) (omega arith) ∙ ap (λ (q : ℕ). packed (live_cells q y)) (omega arith)
tails_cells p at (l ∷ ls) y e =
    ap (tails p) (packed_put at l.unit l.mark (live_cells (at + 1) (ls ++ y)))
    ∙ tails_put p at l.unit l.mark (packed (live_cells (at + 1) (ls ++ y))) (omega arith)
    ∙ tails_cells p (at + 1) ls y (omega arith)

-- the mark over a unit is the mark of its cell
pub over_none : (i q : ℕ) (gs : List Change) → Lined q gs → i < q → mark_over i gs ≡ None
over_none i q [] h lt = refl
over_none i q (c ∷ cs) h lt = rw (lt-leb c.at i (omega (arith, h.0))) (over_none i (c.at + length c.text) cs h.2 (omega (arith, h.0)))

over_here : (at u : ℕ) (m : Mark) (gs : List Change) → mark_over at (touch (cell at u m) gs) ≡ Some m
over_here at u m [] = rw (le-leb at at (omega arith), lt-ltb at (at + length (u ∷ [])) (omega arith)) refl
over_here at u m (d ∷ ds) = ⊎_elim {C = mark_over at (touch (cell at u m) (d ∷ ds)) ≡ Some m}
    (λ t. ap (mark_over at) (touch_met (cell at u m) d ds t) ∙ rw (le-leb at at (omega arith), lt-ltb at (at + length (u ∷ d.text)) (omega arith)) refl)
    (λ t. ap (mark_over at) (touch_apart (cell at u m) d ds t) ∙ rw (le-leb at at (omega arith), lt-ltb at (at + length (u ∷ [])) (omega arith)) refl)
    (cases_Bool (meets (cell at u m) d))

over_skip : (i at u : ℕ) (m : Mark) (gs : List Change) → at < i → mark_over i (cell at u m ∷ gs) ≡ mark_over i gs
over_skip i at u m gs lt = rw (le-leb at i (omega arith), le-ltb i (at + length (u ∷ [])) (omega arith)) refl

over_on : (i at u : ℕ) (m : Mark) (gs : List Change) → at < i → mark_over i (touch (cell at u m) gs) ≡ mark_over i gs
over_on i at u m [] lt = over_skip i at u m [] lt
over_on i at u m (d ∷ ds) lt = ⊎_elim {C = mark_over i (touch (cell at u m) (d ∷ ds)) ≡ mark_over i (d ∷ ds)}
    (λ t. ap (mark_over i) (touch_met (cell at u m) d ds t) ∙ met (met_by at u m d t))
    (λ t. ap (mark_over i) (touch_apart (cell at u m) d ds t) ∙ over_skip i at u m (d ∷ ds) lt)
    (cases_Bool (meets (cell at u m) d))
  where
    met : Met at m d → mark_over i (fused (cell at u m) d ∷ ds) ≡ mark_over i (d ∷ ds)
    met k =
        let low : nat_le at i ≡ true = le-leb at i (omega arith) in
        let low2 : nat_le d.at i ≡ true = le-leb d.at i (omega (arith, k.at_is)) in
        let len : at + length (u ∷ d.text) ≡ d.at + length d.text = omega (arith, k.at_is) in
        ap (λ (b : Bool). if b && nat_lt i (at + length (u ∷ d.text)) then Some m else mark_over i ds) low
        ∙ ap (λ (x : ℕ). if nat_lt i x then Some m else mark_over i ds) len
        ∙ ap (λ (x : Mark). if nat_lt i (d.at + length d.text) then Some x else mark_over i ds) k.mark_is
        ∙ sym (ap (λ (b : Bool). if b && nat_lt i (d.at + length d.text) then Some (mark_of d) else mark_over i ds) low2)

over_put_here : (at u : ℕ) (o : Option Mark) (gs : List Change) → Lined (at + 1) gs → mark_over at (put_cell at u o gs) ≡ o
over_put_here at u None gs h = over_none at (at + 1) gs h (omega arith)
over_put_here at u (Some m) gs h = over_here at u m gs

over_put_on : (i at u : ℕ) (o : Option Mark) (gs : List Change) → at < i → mark_over i (put_cell at u o gs) ≡ mark_over i gs
over_put_on i at u None gs lt = refl
over_put_on i at u (Some m) gs lt = over_on i at u m gs lt

pub mark_over_is : (i at k : ℕ) (ls : List Live) → i ≡ at + k → mark_over i (packed (live_cells at ls)) ≡ mark_at ls k
mark_over_is i at k [] e = refl
mark_over_is i at zero (l ∷ ls) e =
    ap (λ (x : ℕ). mark_over x (packed (live_cells at (l ∷ ls)))) (omega arith)
    ∙ ap (mark_over at) (packed_put at l.unit l.mark (live_cells (at + 1) ls))
    ∙ over_put_here at l.unit l.mark (packed (live_cells (at + 1) ls)) (lined_cells (at + 1) ls)
mark_over_is i at (suc k) (l ∷ ls) e =
    ap (mark_over i) (packed_put at l.unit l.mark (live_cells (at + 1) ls))
    ∙ over_put_on i at l.unit l.mark (packed (live_cells (at + 1) ls)) (omega arith)
    ∙ mark_over_is i (at + 1) k ls (omega arith)
