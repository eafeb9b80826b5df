-- The shown inserts after an insert and after a delete.
use Rattle.std.proofs.Common.{◌≡◌, ℕ, zero, suc, ◌+◌, ◌-◌, ◌<◌, ◌≤◌, Bool, true, false, List, [], ◌∷◌, ◌++◌, refl, ap, ap₂, sym, ◌∙◌, length, arith, append_assoc, map, take, drop, Option, Some, None, subst, ⊎_elim, ◌⊎◌, inl, inr, take-append-drop}
use Rattle.std.specs.Prelude.{◌&&◌, ◌==◌, nat_lt, if◌then◌else◌}
use Rattle.std.specs.Bool.{Decides}
use Rattle.std.proofs.lemmas.Bool.{cases_Bool, eq-eqb}
use Rattle.std.proofs.lemmas.Bool.Decides.{same_from_decides, Decides-like, Decides-eqb, not_from_Decides}
use Rattle.std.proofs.lemmas.List.{length-take-le, length-map}
use Rattle.ranges_tracker.specs.Cells.{Mark, Live, Stamp, Row, same_mark, mark_at, mark_before, exchanged, renewed, remarked, new_lives, chosen, torn, count, inserted}
use Rattle.ranges_tracker.specs.declared.change.Change.{Change}
use Rattle.ranges_tracker.specs.declared.change.ChangeKind.TheVariants.{Inserted}
use Rattle.ranges_tracker.specs.Shown.{change, mark_of, same_kind, meets, fused, touch, packed, live_cell, live_cells}
use Rattle.ranges_tracker.specs.Trackable.{IsOlder}
use Rattle.ranges_tracker.specs.Tracked.{piece, heads, tails, over_before, moved, exchanged_mark, exchanged_in, new_insert, renewed_in, Marked, insert_in, cut_in}
use Rattle.ranges_tracker.proofs.Packing.{same_mark_is, same_mark_self, touch_met, touch_apart, onto, onto-packed, packed-append, packed_parts}
use Rattle.ranges_tracker.proofs.Cutting.{Lined, lined_cells, cell, Met, met_by, put_cell, packed_put, heads_cells, tails_cells, mark_over_is}

abbrev pub Older : ℕ → ℕ → List Change → Type 0
Older version k [] = Unit {0}
Older version k (c ∷ cs) = IsOlder version k c × Older version k cs

pub same_mark-Decides : (m n : Mark) → Decides (same_mark m n) (m ≡ n)
same_mark-Decides m n = (same_mark_is m n, λ e. ap (λ (x : Mark). same_mark m x) (sym e) ∙ same_mark_self m)

pub live_cells-append : (at : ℕ) (x y : List Live) → live_cells at (x ++ y) ≡ live_cells at x ++ live_cells (at + length x) y
live_cells-append at [] y = ap (λ (q : ℕ). live_cells q y) (omega arith)
live_cells-append at (l ∷ ls) y =
    ap (λ (x : List Change). live_cell at l.unit l.mark ++ x) (live_cells-append (at + 1) ls y ∙ ap (λ (q : ℕ). live_cells (at + 1) ls ++ live_cells q y) (omega arith))
    ∙ sym (append_assoc (live_cell at l.unit l.mark) (live_cells (at + 1) ls) (live_cells (at + length (l ∷ ls)) y))

-- a shift
same_step : (from to i d : ℕ) → from ≤ d → (to + i + 1 == d - from + to) ≡ (from + i + 1 == d)
same_step from to i d h = same_from_decides _ _ (Decides-eqb (to + i + 1) (d - from + to)) (Decides-like {P = from + i + 1 ≡ d} (from + i + 1 == d) (λ e. omega arith) (λ e. omega arith) (Decides-eqb (from + i + 1) d))

move_cell : (from to i u : ℕ) (m : Mark) → moved from to (cell (from + i) u m) ≡ cell (to + i) u m
move_cell from to i u m = ap (λ (q : ℕ). cell q u m) (omega arith)

move_touch : (from to i u : ℕ) (m : Mark) (gs : List Change) → Lined (from + i + 1) gs → map (moved from to) (touch (cell (from + i) u m) gs) ≡ touch (cell (to + i) u m) (map (moved from to) gs)
move_touch from to i u m [] h = ap (λ (x : Change). x ∷ []) (move_cell from to i u m)
move_touch from to i u m (d ∷ ds) h = ⊎_elim {C = map (moved from to) (touch (cell (from + i) u m) (d ∷ ds)) ≡ touch (cell (to + i) u m) (map (moved from to) (d ∷ ds))}
    (λ t. ap (map (moved from to)) (touch_met (cell (from + i) u m) d ds t) ∙ ap (λ (q : ℕ). change Inserted q (u ∷ d.text) m ∷ map (moved from to) ds) place ∙ sym (touch_met (cell (to + i) u m) (moved from to d) (map (moved from to) ds) (same ∙ t)))
    (λ t. ap (map (moved from to)) (touch_apart (cell (from + i) u m) d ds t) ∙ ap (λ (x : Change). x ∷ map (moved from to) (d ∷ ds)) (move_cell from to i u m) ∙ sym (touch_apart (cell (to + i) u m) (moved from to d) (map (moved from to) ds) (same ∙ t)))
    (cases_Bool (meets (cell (from + i) u m) d))
  where
    place : from + i - from + to ≡ to + i
    place = omega arith

    same : meets (cell (to + i) u m) (moved from to d) ≡ meets (cell (from + i) u m) d
    same = ap (λ (b : Bool). same_kind Inserted d.kind && (b && same_mark m (mark_of d))) (same_step from to i d.at (omega (arith, h.0)))

move_put : (from to i u : ℕ) (o : Option Mark) (gs : List Change) → Lined (from + i + 1) gs → map (moved from to) (put_cell (from + i) u o gs) ≡ put_cell (to + i) u o (map (moved from to) gs)
move_put from to i u None gs h = refl
move_put from to i u (Some m) gs h = move_touch from to i u m gs h

move_from : (from to i : ℕ) (ls : List Live) → map (moved from to) (packed (live_cells (from + i) ls)) ≡ packed (live_cells (to + i) ls)
move_from from to i [] = refl
move_from from to i (l ∷ ls) =
    ap (map (moved from to)) (packed_put (from + i) l.unit l.mark (live_cells (from + i + 1) ls))
    ∙ move_put from to i l.unit l.mark (packed (live_cells (from + i + 1) ls)) (lined_cells (from + i + 1) ls)
    ∙ ap (put_cell (to + i) l.unit l.mark) (ap (λ (q : ℕ). map (moved from to) (packed (live_cells q ls))) (omega arith) ∙ move_from from to (i + 1) ls ∙ ap (λ (q : ℕ). packed (live_cells q ls)) (omega arith))
    ∙ sym (packed_put (to + i) l.unit l.mark (live_cells (to + i + 1) ls))

pub moved_cells : (from to : ℕ) (ls : List Live) → map (moved from to) (packed (live_cells from ls)) ≡ packed (live_cells to ls)
moved_cells from to ls = ap (λ (q : ℕ). map (moved from to) (packed (live_cells q ls))) (omega arith) ∙ move_from from to 0 ls ∙ ap (λ (q : ℕ). packed (live_cells q ls)) (omega arith)

-- no change bears this mark
abbrev pub IsNew : Mark → List Change → Type 0
IsNew new [] = Unit {0}
IsNew new (c ∷ cs) = (mark_of c ≡ new → ⊥) × IsNew new cs

-- a torn mark gives way to a new one
exchange_of : (old new m : Mark) → ((m ≡ old) × (exchanged_mark old new m ≡ new)) ⊎ ((m ≡ old → ⊥) × (exchanged_mark old new m ≡ m))
exchange_of old new m = ⊎_elim {C = ((m ≡ old) × (exchanged_mark old new m ≡ new)) ⊎ ((m ≡ old → ⊥) × (exchanged_mark old new m ≡ m))}
    (λ t. inl (same_mark_is m old t, rw t refl))
    (λ t. inr (not_from_Decides (same_mark m old) (same_mark-Decides m old) t, rw t refl))
    (cases_Bool (same_mark m old))

exchange_back : (old new m n : Mark) → (m ≡ new → ⊥) → (n ≡ new → ⊥) → exchanged_mark old new m ≡ exchanged_mark old new n → m ≡ n
exchange_back old new m n fm fn e = go (exchange_of old new m) (exchange_of old new n)
  where
    go : ((m ≡ old) × (exchanged_mark old new m ≡ new)) ⊎ ((m ≡ old → ⊥) × (exchanged_mark old new m ≡ m)) → ((n ≡ old) × (exchanged_mark old new n ≡ new)) ⊎ ((n ≡ old → ⊥) × (exchanged_mark old new n ≡ n)) → m ≡ n
    go (inl a) (inl b) = a.0 ∙ sym b.0
    go (inl a) (inr b) = absurd (fn (sym b.1 ∙ sym e ∙ a.1))
    go (inr a) (inl b) = absurd (fm (sym a.1 ∙ e ∙ b.1))
    go (inr a) (inr b) = sym a.1 ∙ e ∙ b.1

same_exchanged : (old new m n : Mark) → (m ≡ new → ⊥) → (n ≡ new → ⊥) → same_mark (exchanged_mark old new m) (exchanged_mark old new n) ≡ same_mark m n
same_exchanged old new m n fm fn = same_from_decides _ _ (same_mark-Decides (exchanged_mark old new m) (exchanged_mark old new n))
    (Decides-like {P = m ≡ n} (same_mark m n) (λ e. ap (exchanged_mark old new) e) (exchange_back old new m n fm fn) (same_mark-Decides m n))

exchange_touch : (old new : Mark) (at u : ℕ) (m : Mark) (gs : List Change) → (m ≡ new → ⊥) → IsNew new gs → map (exchanged_in old new) (touch (cell at u m) gs) ≡ touch (cell at u (exchanged_mark old new m)) (map (exchanged_in old new) gs)
exchange_touch old new at u m [] fm h = refl
exchange_touch old new at u m (d ∷ ds) fm h = ⊎_elim {C = map (exchanged_in old new) (touch (cell at u m) (d ∷ ds)) ≡ touch (cell at u (exchanged_mark old new m)) (map (exchanged_in old new) (d ∷ ds))}
    (λ t. ap (map (exchanged_in old new)) (touch_met (cell at u m) d ds t) ∙ sym (touch_met (cell at u (exchanged_mark old new m)) (exchanged_in old new d) (map (exchanged_in old new) ds) (same ∙ t)))
    (λ t. ap (map (exchanged_in old new)) (touch_apart (cell at u m) d ds t) ∙ sym (touch_apart (cell at u (exchanged_mark old new m)) (exchanged_in old new d) (map (exchanged_in old new) ds) (same ∙ t)))
    (cases_Bool (meets (cell at u m) d))
  where
    same : meets (cell at u (exchanged_mark old new m)) (exchanged_in old new d) ≡ meets (cell at u m) d
    same = ap (λ (b : Bool). same_kind Inserted d.kind && ((at + 1 == d.at) && b)) (same_exchanged old new m (mark_of d) fm h.0)

-- what is new to a cell before others is new to both
new_touch : (new : Mark) (at u : ℕ) (m : Mark) (gs : List Change) → IsNew new (touch (cell at u m) gs) → (m ≡ new → ⊥) × IsNew new gs
new_touch new at u m [] h = (h.0, tt)
new_touch new at u m (d ∷ ds) h = ⊎_elim {C = (m ≡ new → ⊥) × IsNew new (d ∷ ds)}
    (λ t. let f : IsNew new (fused (cell at u m) d ∷ ds) = subst (λ (x : List Change). IsNew new x) (touch_met (cell at u m) d ds t) h in met (met_by at u m d t) f)
    (λ t. let f : IsNew new (cell at u m ∷ d ∷ ds) = subst (λ (x : List Change). IsNew new x) (touch_apart (cell at u m) d ds t) h in apart f)
    (cases_Bool (meets (cell at u m) d))
  where
    met : Met at m d → IsNew new (fused (cell at u m) d ∷ ds) → (m ≡ new → ⊥) × IsNew new (d ∷ ds)
    met k f = (f.0, (λ e. f.0 (k.mark_is ∙ e), f.1))

    apart : IsNew new (cell at u m ∷ d ∷ ds) → (m ≡ new → ⊥) × IsNew new (d ∷ ds)
    apart f = (f.0, f.1)

exchange_put : (old new : Mark) (at u : ℕ) (o : Option Mark) (gs : List Change) → IsNew new (put_cell at u o gs) → map (exchanged_in old new) (put_cell at u o gs) ≡ put_cell at u (exchanged old new o) (map (exchanged_in old new) gs)
exchange_put old new at u None gs h = refl
exchange_put old new at u (Some m) gs h = exchange_touch old new at u m gs (new_touch new at u m gs h).0 (new_touch new at u m gs h).1 ∙ ap (λ (o : Option Mark). put_cell at u o (map (exchanged_in old new) gs)) (go (same_mark m old))
  where
    go : (b : Bool) → Some (if b then new else m) ≡ (if b then Some new else Some m)
    go true = refl
    go false = refl

new_put : (new : Mark) (at u : ℕ) (o : Option Mark) (gs : List Change) → IsNew new (put_cell at u o gs) → IsNew new gs
new_put new at u None gs h = h
new_put new at u (Some m) gs h = (new_touch new at u m gs h).1

pub exchanged_cells : (old new : Mark) (at : ℕ) (ls : List Live) → IsNew new (packed (live_cells at ls)) → map (exchanged_in old new) (packed (live_cells at ls)) ≡ packed (live_cells at (map (λ (l : Live). record { unit = l.unit; mark = exchanged old new l.mark }) ls))
exchanged_cells old new at [] h = refl
exchanged_cells old new at (l ∷ ls) h =
    let rest : List Change = packed (live_cells (at + 1) ls) in
    let h2 : IsNew new (put_cell at l.unit l.mark rest) = subst (λ (x : List Change). IsNew new x) (packed_put at l.unit l.mark (live_cells (at + 1) ls)) h in
    ap (map (exchanged_in old new)) (packed_put at l.unit l.mark (live_cells (at + 1) ls))
    ∙ exchange_put old new at l.unit l.mark rest h2
    ∙ ap (put_cell at l.unit (exchanged old new l.mark)) (exchanged_cells old new (at + 1) ls (new_put new at l.unit l.mark rest h2))
    ∙ sym (packed_put at l.unit (exchanged old new l.mark) (live_cells (at + 1) (map (λ (x : Live). record { unit = x.unit; mark = exchanged old new x.mark }) ls)))

-- new cells of one mark
unmarked_none : (at : ℕ) (us : List ℕ) → live_cells at (new_lives us None) ≡ []
unmarked_none at [] = refl
unmarked_none at (u ∷ us) = unmarked_none (at + 1) us

one_run : (at u : ℕ) (us : List ℕ) (m : Mark) → packed (live_cells at (new_lives (u ∷ us) (Some m))) ≡ change Inserted at (u ∷ us) m ∷ []
one_run at u [] m = refl
one_run at u (v ∷ vs) m =
    let same : meets (cell at u m) (change Inserted (at + 1) (v ∷ vs) m) ≡ true = rw (eq-eqb (at + 1) (at + 1) refl, same_mark_self m) refl in
    ap (touch (cell at u m)) (one_run (at + 1) v vs m) ∙ touch_met (cell at u m) (change Inserted (at + 1) (v ∷ vs) m) [] same

pub new_cells : (at : ℕ) (us : List ℕ) (o : Option Mark) → packed (live_cells at (new_lives us o)) ≡ new_insert at us o
new_cells at [] o = refl
new_cells at (u ∷ us) None = ap packed (unmarked_none (at + 1) us)
new_cells at (u ∷ us) (Some m) = one_run at u us m

pub pack_three : (xs bs cs : List Change) → packed (packed xs ++ (packed bs ++ packed cs)) ≡ packed (xs ++ (bs ++ cs))
pack_three xs bs cs = packed-append (packed xs) (packed bs ++ packed cs) ∙ onto-packed xs (packed (packed bs ++ packed cs)) ∙ ap (onto xs) (packed_parts bs cs) ∙ sym (packed-append xs (bs ++ cs))

-- the row's inserts after an insert
pub insert_cells : (at : ℕ) (x y new : List Live) (n : ℕ) → at ≡ length x → n ≡ length new →
    packed (live_cells 0 (x ++ (new ++ y))) ≡ packed (packed (live_cells 0 x) ++ (packed (live_cells at new) ++ packed (live_cells (at + n) y)))
insert_cells at x y new n e f =
    ap packed (live_cells-append 0 x (new ++ y) ∙ ap (λ (z : List Change). live_cells 0 x ++ z) (ap (λ (q : ℕ). live_cells q (new ++ y)) (omega arith) ∙ live_cells-append at new y ∙ ap (λ (q : ℕ). live_cells at new ++ live_cells q y) (omega arith)))
    ∙ sym (pack_three (live_cells 0 x) (live_cells at new) (live_cells (at + n) y))

pub cut_cells : (at : ℕ) (x y : List Live) → at ≡ length x → packed (live_cells 0 (x ++ y)) ≡ packed (packed (live_cells 0 x) ++ packed (live_cells at y))
cut_cells at x y e = ap packed (live_cells-append 0 x y ∙ ap (λ (q : ℕ). live_cells 0 x ++ live_cells q y) (omega arith)) ∙ sym (packed_parts (live_cells 0 x) (live_cells at y))

not_new : (old : Mark) (stamp : Stamp) (k j : ℕ) (c : Change) → IsOlder stamp.version k c → k ≤ j → mark_of c ≡ renewed old stamp j → ⊥
not_new old stamp k j c h le e =
    let v : c.version ≡ stamp.version = ap (λ (m : Mark). m.version) e in
    let n : c.k ≡ j = ap (λ (m : Mark). m.k) e in
    let lt : c.k < k = h.1 v in
    omega arith

new_tail : (old : Mark) (stamp : Stamp) (k j p : ℕ) (c : Change) (gs : List Change) → IsOlder stamp.version k c → k ≤ j → IsNew (renewed old stamp j) gs → (b : Bool) → IsNew (renewed old stamp j) ((if b then piece c (if nat_lt c.at p then p else c.at) (drop (p - c.at) c.text) ∷ [] else []) ++ gs)
new_tail old stamp k j p c gs h le rest true = (not_new old stamp k j c h le, rest)
new_tail old stamp k j p c gs h le rest false = rest

pub new_tails : (old : Mark) (stamp : Stamp) (k j p : ℕ) (cs : List Change) → Older stamp.version k cs → k ≤ j → IsNew (renewed old stamp j) (tails p cs)
new_tails old stamp k j p [] h le = tt
new_tails old stamp k j p (c ∷ cs) h le = new_tail old stamp k j p c (tails p cs) h.0 le (new_tails old stamp k j p cs h.1 le) (nat_lt p (c.at + length c.text))

remarked_cells : (o : Option Mark) (stamp : Stamp) (k j p : ℕ) (cs : List Change) (ls : List Live) → tails p cs ≡ packed (live_cells p ls) → Older stamp.version k cs → k ≤ j → renewed_in o stamp j (tails p cs) ≡ packed (live_cells p (remarked o stamp j ls))
remarked_cells None stamp k j p cs ls e h le = e
remarked_cells (Some old) stamp k j p cs ls e h le =
    let new : IsNew (renewed old stamp j) (packed (live_cells p ls)) = subst (λ (x : List Change). IsNew (renewed old stamp j) x) e (new_tails old stamp k j p cs h le) in
    ap (map (exchanged_in old (renewed old stamp j))) e ∙ exchanged_cells old (renewed old stamp j) p ls new

over_before_is : (at : ℕ) (ls : List Live) → over_before at (packed (live_cells 0 ls)) ≡ mark_before ls at
over_before_is zero ls = refl
over_before_is (suc at) ls = mark_over_is at 0 at ls (omega arith)

-- what the inserts become, for whatever marks stand around the place
insert_with : (at : ℕ) (part : List ℕ) (stamp : Stamp) (k : ℕ) (lives : List Live) (by : Option Mark) (old : Option Mark) (j : ℕ) →
    at ≤ length lives → Older stamp.version k (packed (live_cells 0 lives)) → k ≤ j →
    packed (heads at (packed (live_cells 0 lives)) ++ (new_insert at part by ++ map (moved at (at + length part)) (renewed_in old stamp j (tails at (packed (live_cells 0 lives))))))
    ≡ packed (live_cells 0 (take at lives ++ (new_lives part by ++ remarked old stamp j (drop at lives))))
insert_with at part stamp k lives by old j le h kj =
    let count_new : (us : List ℕ) → length us ≡ length (new_lives us by) = λ us. sym (length-map us (λ (u : ℕ). record { unit = u; mark = by })) in
    let x = take at lives in
    let y = drop at lives in
    let whole : x ++ y ≡ lives = take-append-drop at lives in
    let n : at ≡ length x = sym (length-take-le at lives le) in
    let is = packed (live_cells 0 lives) in
    let front : heads at is ≡ packed (live_cells 0 x) = ap (λ (q : List Live). heads at (packed (live_cells 0 q))) (sym whole) ∙ heads_cells at 0 x y (omega arith) in
    let back : tails at is ≡ packed (live_cells at y) = ap (λ (q : List Live). tails at (packed (live_cells 0 q))) (sym whole) ∙ tails_cells at 0 x y (omega arith) in
    let back2 : map (moved at (at + length part)) (renewed_in old stamp j (tails at is)) ≡ packed (live_cells (at + length part) (remarked old stamp j y)) = ap (map (moved at (at + length part))) (remarked_cells old stamp k j at is y back h kj) ∙ moved_cells at (at + length part) (remarked old stamp j y) in
    let mid : new_insert at part by ≡ packed (live_cells at (new_lives part by)) = sym (new_cells at part by) in
    ap packed (ap₂ (λ (a b : List Change). a ++ b) front (ap₂ (λ (a b : List Change). a ++ b) mid back2))
    ∙ sym (insert_cells at x (remarked old stamp j y) (new_lives part by) (length part) n (count_new part))

-- the inserts of a row after an insert, and the count of fresh marks
pub insert_law : (row : Row) (at : ℕ) (part : List ℕ) (stamp : Stamp) (k : ℕ) → at ≤ length row.lives → Older stamp.version k (packed (live_cells 0 row.lives)) →
    insert_in (packed (live_cells 0 row.lives)) at part stamp k ≡ record { changes = packed (live_cells 0 (inserted row at part stamp k).row.lives); marks = (inserted row at part stamp k).marks }
insert_law row at part stamp k le h =
    let is = packed (live_cells 0 row.lives) in
    let f : Option Mark → Option Mark → Marked = λ a b.
    let by = chosen a b stamp k in
    let old = torn a b by.mark in
    record { changes = packed (heads at is ++ (new_insert at part by.mark ++ map (moved at (at + length part)) (renewed_in old stamp (k + by.fresh) (tails at is)))); marks = k + by.fresh + count old } in
    let by = chosen (mark_before row.lives at) (mark_at row.lives at) stamp k in
    let old = torn (mark_before row.lives at) (mark_at row.lives at) by.mark in
    ap₂ f (over_before_is at row.lives) (mark_over_is at 0 at row.lives (omega arith))
    ∙ ap (λ (x : List Change). record { changes = x; marks = k + by.fresh + count old }) (insert_with at part stamp k row.lives by.mark old (k + by.fresh) le h (omega arith))

-- the inserts of a row after a delete
pub cut_law : (lives : List Live) (at n : ℕ) → at + n ≤ length lives → cut_in (packed (live_cells 0 lives)) at n ≡ packed (live_cells 0 (take at lives ++ drop (at + n) lives))
cut_law lives at n le =
    let x = take at lives in
    let z = drop (at + n) lives in
    let is = packed (live_cells 0 lives) in
    let whole : take at lives ++ drop at lives ≡ lives = take-append-drop at lives in
    let whole2 : take (at + n) lives ++ z ≡ lives = take-append-drop (at + n) lives in
    let e : length x ≡ at = length-take-le at lives (omega arith) in
    let e2 : length (take (at + n) lives) ≡ at + n = length-take-le (at + n) lives le in
    let front : heads at is ≡ packed (live_cells 0 x) = ap (λ (q : List Live). heads at (packed (live_cells 0 q))) (sym whole) ∙ heads_cells at 0 x (drop at lives) (omega arith) in
    let back : tails (at + n) is ≡ packed (live_cells (at + n) z) = ap (λ (q : List Live). tails (at + n) (packed (live_cells 0 q))) (sym whole2) ∙ tails_cells (at + n) 0 (take (at + n) lives) z (omega arith) in
    ap packed (ap₂ (λ (a b : List Change). a ++ b) front (ap (map (moved (at + n) at)) back ∙ moved_cells (at + n) at z))
    ∙ sym (cut_cells at x z (sym e))
