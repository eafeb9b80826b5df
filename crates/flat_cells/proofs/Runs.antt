-- The live cells of one mark follow each other, before and after a step.
use Rattle.std.proofs.Common.{◌≡◌, ℕ, zero, suc, ◌+◌, ◌-◌, ◌<◌, ◌≤◌, Bool, true, false, List, [], ◌∷◌, ◌++◌, refl, ap, ap₂, sym, ◌∙◌, length, arith, map, take, drop, Option, Some, None, ⊎_elim, ◌⊎◌, inl, inr}
use Rattle.std.specs.Prelude.{◌&&◌, not}
use Rattle.std.proofs.lemmas.Bool.{cases_Bool, cases_lt, cond-true, cond-false}
use Rattle.std.proofs.lemmas.List.{length-take-le}
use Rattle.ranges_tracker.specs.declared.mark.Mark.{Mark}
use Rattle.ranges_tracker.specs.declared.stamp.Stamp.{Stamp}
use Rattle.ranges_tracker.specs.Cells.{Live as LiveUnit, same_mark, bears, mark_at, mark_before, chosen, torn, renewed, exchanged, remarked, new_lives, fresh_mark, raised}
use Rattle.ranges_tracker.specs.declared.mark.Chosen.{Chosen}
use Rattle.ranges_tracker.proofs.Packing.{same_mark_is, same_mark_self}
use Rattle.flat_cells.proofs.Edges.{raised_low, raised_high}
use Rattle.flat_cells.proofs.Marks.{chosen_cases}
use Rattle.ranges_tracker.proofs.Together.{bears_is}
use Rattle.std.proofs.lemmas.Option.{same_Some}
use Rattle.ranges_tracker.proofs.Keeping.{new_length}

-- between two live cells of one mark each bears it
abbrev pub InRuns : List LiveUnit → Type 0
InRuns ls = (m : Mark) (i j k : ℕ) → i ≤ j → j ≤ k → mark_at ls i ≡ Some m → mark_at ls k ≡ Some m → mark_at ls j ≡ Some m

at_front : (xs ys : List LiveUnit) (i : ℕ) → i < length xs → mark_at (xs ++ ys) i ≡ mark_at xs i
at_front [] ys i lt = absurd (omega (arith, lt))
at_front (x ∷ xs) ys zero lt = refl
at_front (x ∷ xs) ys (suc i) lt = at_front xs ys i (omega (arith, lt))

at_back : (xs ys : List LiveUnit) (n i : ℕ) → n ≡ length xs + i → mark_at (xs ++ ys) n ≡ mark_at ys i
at_back [] ys n i e = ap (mark_at ys) (omega (arith, e))
at_back (x ∷ xs) ys zero i e = absurd (omega (arith, e))
at_back (x ∷ xs) ys (suc n) i e = at_back xs ys n i (omega (arith, e))

at_take : (p : ℕ) (ls : List LiveUnit) (i : ℕ) → i < p → mark_at (take p ls) i ≡ mark_at ls i
at_take zero ls i lt = absurd (omega (arith, lt))
at_take (suc p) [] i lt = refl
at_take (suc p) (l ∷ ls) zero lt = refl
at_take (suc p) (l ∷ ls) (suc i) lt = at_take p ls i (omega (arith, lt))

at_none : (i : ℕ) → mark_at [] i ≡ None
at_none zero = refl
at_none (suc i) = refl

at_drop : (p : ℕ) (ls : List LiveUnit) (i : ℕ) → mark_at (drop p ls) i ≡ mark_at ls (p + i)
at_drop zero ls i = ap (mark_at ls) (omega arith)
at_drop (suc p) [] i = at_none i ∙ sym (at_none (suc p + i))
at_drop (suc p) (l ∷ ls) i = at_drop p ls i ∙ ap (mark_at (l ∷ ls)) {x = suc (p + i)} (omega arith)

-- after a delete
abbrev pub cut_lives : List LiveUnit → ℕ → ℕ → List LiveUnit
cut_lives ls at n = take at ls ++ drop (at + n) ls

cut_mark : (ls : List LiveUnit) (at n i : ℕ) → at ≤ length ls → mark_at (cut_lives ls at n) i ≡ mark_at ls (raised at n i)
cut_mark ls at n i le = ⊎_elim {C = mark_at (cut_lives ls at n) i ≡ mark_at ls (raised at n i)}
    (λ lt. at_front (take at ls) (drop (at + n) ls) i (omega (arith, lt, length-take-le at ls le)) ∙ at_take at ls i lt ∙ ap (mark_at ls) (sym (raised_low at n i lt)))
    (λ ge. at_back (take at ls) (drop (at + n) ls) i (i - at) (omega (arith, ge, length-take-le at ls le)) ∙ at_drop (at + n) ls (i - at) ∙ ap (mark_at ls) (omega (arith, ge, raised_high at n i ge)))
    (cases_lt i at)

raised_mono : (p n i j : ℕ) → i ≤ j → raised p n i ≤ raised p n j
raised_mono p n i j le = ⊎_elim {C = raised p n i ≤ raised p n j}
    (λ lt. ⊎_elim {C = raised p n i ≤ raised p n j} (λ lt2. omega (arith, raised_low p n i lt, raised_low p n j lt2, le)) (λ ge. omega (arith, raised_low p n i lt, raised_high p n j ge, le)) (cases_lt j p))
    (λ ge. omega (arith, raised_high p n i ge, raised_high p n j (omega (arith, ge, le)), le))
    (cases_lt i p)

pub runs_cut : (ls : List LiveUnit) (at n : ℕ) → at ≤ length ls → InRuns ls → InRuns (cut_lives ls at n)
runs_cut ls at n le h m i j k a b e f =
    cut_mark ls at n j le ∙ h m (raised at n i) (raised at n j) (raised at n k) (raised_mono at n i j a) (raised_mono at n j k b) (sym (cut_mark ls at n i le) ∙ e) (sym (cut_mark ls at n k le) ∙ f)

-- after an insert
abbrev pub exchanged_by : Option Mark → Stamp → ℕ → Option Mark → Option Mark
exchanged_by None stamp j o = o
exchanged_by (Some old) stamp j o = exchanged old (renewed old stamp j) o

at_exchanged : (old new : Mark) (ls : List LiveUnit) (i : ℕ) → mark_at (map (λ (l : LiveUnit). record { unit = l.unit; mark = exchanged old new l.mark }) ls) i ≡ exchanged old new (mark_at ls i)
at_exchanged old new [] zero = refl
at_exchanged old new [] (suc i) = refl
at_exchanged old new (l ∷ ls) zero = refl
at_exchanged old new (l ∷ ls) (suc i) = at_exchanged old new ls i

at_remarked : (o : Option Mark) (stamp : Stamp) (j : ℕ) (ls : List LiveUnit) (i : ℕ) → mark_at (remarked o stamp j ls) i ≡ exchanged_by o stamp j (mark_at ls i)
at_remarked None stamp j ls i = refl
at_remarked (Some old) stamp j ls i = at_exchanged old (renewed old stamp j) ls i

at_new : (us : List ℕ) (o : Option Mark) (i : ℕ) → i < length us → mark_at (new_lives us o) i ≡ o
at_new [] o i lt = absurd (omega (arith, lt))
at_new (u ∷ us) o zero lt = refl
at_new (u ∷ us) o (suc i) lt = at_new us o i (omega (arith, lt))

abbrev pub put_lives : List LiveUnit → ℕ → List ℕ → Option Mark → Option Mark → Stamp → ℕ → List LiveUnit
put_lives ls at part by old stamp j = take at ls ++ (new_lives part by ++ remarked old stamp j (drop at ls))

-- where a live cell comes from: before the place, from the new cells, or from behind them
record IsLow (ls made : List LiveUnit) (at i : ℕ) : Type 0 where
  low : i < at
  mark_is : mark_at made i ≡ mark_at ls i

record IsMid (made : List LiveUnit) (at n : ℕ) (by : Option Mark) (i : ℕ) : Type 0 where
  from : at ≤ i
  to : i < at + n
  mark_is : mark_at made i ≡ by

record IsHigh (ls made : List LiveUnit) (at n : ℕ) (old : Option Mark) (stamp : Stamp) (j i : ℕ) : Type 0 where
  from : at + n ≤ i
  mark_is : mark_at made i ≡ exchanged_by old stamp j (mark_at ls (i - n))

zone_of : (ls : List LiveUnit) (at : ℕ) (part : List ℕ) (by old : Option Mark) (stamp : Stamp) (j i : ℕ) → at ≤ length ls →
    IsLow ls (put_lives ls at part by old stamp j) at i ⊎ (IsMid (put_lives ls at part by old stamp j) at (length part) by i ⊎ IsHigh ls (put_lives ls at part by old stamp j) at (length part) old stamp j i)
zone_of ls at part by old stamp j i le =
    let n = length part in
    let made = put_lives ls at part by old stamp j in
    let rest = new_lives part by ++ remarked old stamp j (drop at ls) in
    let count : length (take at ls) ≡ at = length-take-le at ls le in
    ⊎_elim {C = IsLow ls made at i ⊎ (IsMid made at n by i ⊎ IsHigh ls made at n old stamp j i)}
    (λ lt. inl (record { low = lt; mark_is = at_front (take at ls) rest i (omega (arith, lt, count)) ∙ at_take at ls i lt }))
    (λ ge. ⊎_elim {C = IsLow ls made at i ⊎ (IsMid made at n by i ⊎ IsHigh ls made at n old stamp j i)}
    (λ lt. inr (inl (record { from = ge; to = lt; mark_is = at_back (take at ls) rest i (i - at) (omega (arith, ge, count)) ∙ at_front (new_lives part by) (remarked old stamp j (drop at ls)) (i - at) (omega (arith, ge, lt, new_length part by)) ∙ at_new part by (i - at) (omega (arith, ge, lt)) })))
    (λ far. inr (inr (record { from = far; mark_is = at_back (take at ls) rest i (i - at) (omega (arith, ge, count)) ∙ at_back (new_lives part by) (remarked old stamp j (drop at ls)) (i - at) (i - at - n) (omega (arith, far, new_length part by)) ∙ at_remarked old stamp j (drop at ls) (i - at - n) ∙ ap (exchanged_by old stamp j) (at_drop at ls (i - at - n) ∙ ap (mark_at ls) (omega (arith, far))) })))
    (cases_lt i (at + n)))
    (cases_lt i at)

-- an exchanged mark is one that is not torn, or a renewed one
record IsStill (old : Option Mark) (o : Option Mark) (m : Mark) : Type 0 where
  bears_it : o ≡ Some m
  not_torn : old ≡ Some m → ⊥

record IsExchanged (old : Option Mark) (stamp : Stamp) (j : ℕ) (o : Option Mark) (m : Mark) : Type 0 where
  torn_mark : Mark
  torn_is : old ≡ Some torn_mark
  bore : o ≡ Some torn_mark
  mark_is : m ≡ renewed torn_mark stamp j

none_some : (m : Mark) → None ≡ Some m → ⊥
none_some m e = cc

self_false : (m : Mark) → same_mark m m ≡ false → ⊥
self_false m e = no (sym (same_mark_self m) ∙ e)
  where
    no : true ≡ false → ⊥
    no x = cc

exchanged_cases : (old : Option Mark) (stamp : Stamp) (j : ℕ) (o : Option Mark) (m : Mark) → exchanged_by old stamp j o ≡ Some m → IsStill old o m ⊎ IsExchanged old stamp j o m
exchanged_cases None stamp j o m e = inl (record { bears_it = e; not_torn = λ x. none_some m x })
exchanged_cases (Some old) stamp j None m e = absurd (none_some m e)
exchanged_cases (Some old) stamp j (Some q) m e = ⊎_elim {C = IsStill (Some old) (Some q) m ⊎ IsExchanged (Some old) stamp j (Some q) m}
    (λ t. inr (record { torn_mark = old; torn_is = refl; bore = ap Some (same_mark_is q old t); mark_is = sym (same_Some (renewed old stamp j) m (sym (cond-true (same_mark q old) (Some (renewed old stamp j)) (Some q) t) ∙ e)) }))
    (λ t. let same : q ≡ m = same_Some q m (sym (cond-false (same_mark q old) (Some (renewed old stamp j)) (Some q) t) ∙ e) in
    inl (record { bears_it = ap Some same; not_torn = λ x. self_false m (ap₂ same_mark (sym same) (sym (same_Some old m x)) ∙ t) }))
    (cases_Bool (same_mark q old))

still_exchanged : (old : Option Mark) (stamp : Stamp) (j : ℕ) (o : Option Mark) (m : Mark) → o ≡ Some m → (old ≡ Some m → ⊥) → exchanged_by old stamp j o ≡ Some m
still_exchanged None stamp j o m e n = e
still_exchanged (Some old) stamp j o m e n =
    ap (exchanged old (renewed old stamp j)) e ∙ cond-false (same_mark m old) (Some (renewed old stamp j)) (Some m) (⊎_elim {C = same_mark m old ≡ false} (λ t. absurd (n (ap Some (sym (same_mark_is m old t))))) (λ f. f) (cases_Bool (same_mark m old)))

now_exchanged : (old : Option Mark) (stamp : Stamp) (j : ℕ) (o : Option Mark) (x : Mark) → old ≡ Some x → o ≡ Some x → exchanged_by old stamp j o ≡ Some (renewed x stamp j)
now_exchanged old stamp j o x e f = ap₂ (λ (a b : Option Mark). exchanged_by a stamp j b) e f ∙ cond-true (same_mark x x) (Some (renewed x stamp j)) (Some x) (same_mark_self x)

not_torn_is : (left right by : Option Mark) (m : Mark) → left ≡ Some m → right ≡ Some m → (torn left right by ≡ Some m → ⊥) → by ≡ Some m
not_torn_is left right by m e f n = ⊎_elim {C = by ≡ Some m}
    (λ t. bears_is by m t)
    (λ t. absurd (n (ap₂ (λ (a b : Option Mark). torn a b by) e f ∙ cond-true (same_mark m m && not (bears by m)) (Some m) None (ap₂ (λ (a b : Bool). a && b) (same_mark_self m) (ap not t)))))
    (cases_Bool (bears by m))

before_is : (ls : List LiveUnit) (at : ℕ) → 1 ≤ at → mark_before ls at ≡ mark_at ls (at - 1)
before_is ls zero le = absurd (omega (arith, le))
before_is ls (suc p) le = ap (mark_at ls) (omega arith)

before_some : (ls : List LiveUnit) (at : ℕ) (m : Mark) → mark_before ls at ≡ Some m → 1 ≤ at
before_some ls zero m e = absurd (none_some m e)
before_some ls (suc p) m e = omega arith

-- marks that stand in a row aren't fresh ones
abbrev pub NotNew : List LiveUnit → Stamp → ℕ → Type 0
NotNew ls stamp k = (m : Mark) (i : ℕ) → mark_at ls i ≡ Some m → m.version ≡ stamp.version → m.k < k

not_renewed : (ls : List LiveUnit) (stamp : Stamp) (k j : ℕ) → NotNew ls stamp k → k ≤ j → (m x : Mark) (i : ℕ) → mark_at ls i ≡ Some m → m ≡ renewed x stamp j → ⊥
not_renewed ls stamp k j h le m x i e f = omega (arith, h m i e (ap (λ (n : Mark). n.version) f), le, ap (λ (n : Mark). n.k) f)

not_fresh : (ls : List LiveUnit) (stamp : Stamp) (k : ℕ) → NotNew ls stamp k → (m : Mark) (i : ℕ) → mark_at ls i ≡ Some m → m ≡ fresh_mark stamp k → ⊥
not_fresh ls stamp k h m i e f = omega (arith, h m i e (ap (λ (n : Mark). n.version) f), ap (λ (n : Mark). n.k) f)

-- the cell before the place bears a mark that stands before it and that the new cells took over
left_bears : (ls : List LiveUnit) (at : ℕ) (stamp : Stamp) (k : ℕ) → InRuns ls → NotNew ls stamp k → (m : Mark) (i : ℕ) → i < at → mark_at ls i ≡ Some m → (chosen (mark_before ls at) (mark_at ls at) stamp k).mark ≡ Some m → mark_at ls (at - 1) ≡ Some m
left_bears ls at stamp k h older m i lt e f = ⊎_elim {C = mark_at ls (at - 1) ≡ Some m}
    (λ a. sym (before_is ls at (before_some ls at m a)) ∙ a)
    (λ b. ⊎_elim {C = mark_at ls (at - 1) ≡ Some m} (λ r. h m i (at - 1) at (omega (arith, lt)) (omega (arith, lt)) e r) (λ r. absurd (not_fresh ls stamp k older m i e r.1)) b)
    (chosen_cases (mark_before ls at) (mark_at ls at) stamp k m f)

-- from the new cells' mark on to a place behind
right_bears : (ls : List LiveUnit) (at : ℕ) (stamp : Stamp) (k : ℕ) → InRuns ls → NotNew ls stamp k → (m : Mark) (i q : ℕ) → at ≤ q → q ≤ i → mark_at ls i ≡ Some m → (chosen (mark_before ls at) (mark_at ls at) stamp k).mark ≡ Some m → mark_at ls q ≡ Some m
right_bears ls at stamp k h older m i q a b e f = ⊎_elim {C = mark_at ls q ≡ Some m}
    (λ l. h m (at - 1) q i (omega (arith, a)) b (sym (before_is ls at (before_some ls at m l)) ∙ l) e)
    (λ r. ⊎_elim {C = mark_at ls q ≡ Some m} (λ x. h m at q i a b x e) (λ x. absurd (not_fresh ls stamp k older m i e x.1)) r)
    (chosen_cases (mark_before ls at) (mark_at ls at) stamp k m f)

not_both : (ls : List LiveUnit) (at : ℕ) (stamp : Stamp) (k : ℕ) → NotNew ls stamp k → (m x : Mark) → (chosen (mark_before ls at) (mark_at ls at) stamp k).mark ≡ Some m → m ≡ renewed x stamp (k + (chosen (mark_before ls at) (mark_at ls at) stamp k).fresh) → ⊥
not_both ls at stamp k older m x e f =
    let by = chosen (mark_before ls at) (mark_at ls at) stamp k in
    ⊎_elim {C = ⊥}
    (λ l. not_renewed ls stamp k (k + by.fresh) older (omega arith) m x (at - 1) (sym (before_is ls at (before_some ls at m l)) ∙ l) f)
    (λ r. ⊎_elim {C = ⊥} (λ y. not_renewed ls stamp k (k + by.fresh) older (omega arith) m x at y f) (λ y. omega (arith, y.0, ap (λ (n : Mark). n.k) y.1, ap (λ (n : Mark). n.k) f)) r)
    (chosen_cases (mark_before ls at) (mark_at ls at) stamp k m e)

abbrev by_of : List LiveUnit → ℕ → Stamp → ℕ → Chosen
by_of ls at stamp k = chosen (mark_before ls at) (mark_at ls at) stamp k

abbrev torn_of : List LiveUnit → ℕ → Stamp → ℕ → Option Mark
torn_of ls at stamp k = torn (mark_before ls at) (mark_at ls at) (by_of ls at stamp k).mark

abbrev exchanged_of : List LiveUnit → ℕ → Stamp → ℕ → ℕ → Option Mark
exchanged_of ls at stamp k i = exchanged_by (torn_of ls at stamp k) stamp (k + (by_of ls at stamp k).fresh) (mark_at ls i)

abbrev made_of : List LiveUnit → ℕ → List ℕ → Stamp → ℕ → List LiveUnit
made_of ls at part stamp k = put_lives ls at part (by_of ls at stamp k).mark (torn_of ls at stamp k) stamp (k + (by_of ls at stamp k).fresh)

-- a live cell bears a mark by where it comes from
by_zone : (ls : List LiveUnit) (at : ℕ) (part : List ℕ) (stamp : Stamp) (k b : ℕ) (m : Mark) → at ≤ length ls → (b < at → mark_at ls b ≡ Some m) → (at ≤ b → b < at + length part → (by_of ls at stamp k).mark ≡ Some m) → (at + length part ≤ b → exchanged_of ls at stamp k (b - length part) ≡ Some m) → mark_at (made_of ls at part stamp k) b ≡ Some m
by_zone ls at part stamp k b m le low mid high = ⊎_elim {C = mark_at (made_of ls at part stamp k) b ≡ Some m}
    (λ z. z.mark_is ∙ low z.low)
    (λ y. ⊎_elim {C = mark_at (made_of ls at part stamp k) b ≡ Some m} (λ z. z.mark_is ∙ mid z.from z.to) (λ z. z.mark_is ∙ high z.from) y)
    (zone_of ls at part (by_of ls at stamp k).mark (torn_of ls at stamp k) stamp (k + (by_of ls at stamp k).fresh) b le)

low_low : (ls : List LiveUnit) (at : ℕ) (part : List ℕ) (stamp : Stamp) (k a b c : ℕ) (m : Mark) → at ≤ length ls → InRuns ls → a ≤ b → b ≤ c → c < at → mark_at ls a ≡ Some m → mark_at ls c ≡ Some m → mark_at (made_of ls at part stamp k) b ≡ Some m
low_low ls at part stamp k a b c m le h ab bc lt ea ec = by_zone ls at part stamp k b m le (λ x. h m a b c ab bc ea ec) (λ x y. absurd (omega (arith, x, bc, lt))) (λ x. absurd (omega (arith, x, bc, lt)))

low_mid : (ls : List LiveUnit) (at : ℕ) (part : List ℕ) (stamp : Stamp) (k a b c : ℕ) (m : Mark) → at ≤ length ls → InRuns ls → NotNew ls stamp k → a ≤ b → b ≤ c → a < at → c < at + length part → mark_at ls a ≡ Some m → (by_of ls at stamp k).mark ≡ Some m → mark_at (made_of ls at part stamp k) b ≡ Some m
low_mid ls at part stamp k a b c m le h older ab bc la lc ea ec = by_zone ls at part stamp k b m le
    (λ x. h m a b (at - 1) ab (omega (arith, x)) ea (left_bears ls at stamp k h older m a la ea ec)) (λ x y. ec) (λ x. absurd (omega (arith, x, bc, lc)))

low_high : (ls : List LiveUnit) (at : ℕ) (part : List ℕ) (stamp : Stamp) (k a b c : ℕ) (m : Mark) → at ≤ length ls → InRuns ls → NotNew ls stamp k → a ≤ b → b ≤ c → a < at → at + length part ≤ c → mark_at ls a ≡ Some m → exchanged_of ls at stamp k (c - length part) ≡ Some m → mark_at (made_of ls at part stamp k) b ≡ Some m
low_high ls at part stamp k a b c m le h older ab bc la lc ea ec =
    let n = length part in
    let by = by_of ls at stamp k in
    let old = torn_of ls at stamp k in
    ⊎_elim {C = mark_at (made_of ls at part stamp k) b ≡ Some m}
    (λ s. by_zone ls at part stamp k b m le
    (λ x. h m a b (c - n) ab (omega (arith, x, lc)) ea s.bears_it)
    (λ x y. not_torn_is (mark_before ls at) (mark_at ls at) by.mark m (before_is ls at (omega (arith, la)) ∙ h m a (at - 1) (c - n) (omega (arith, la)) (omega (arith, lc)) ea s.bears_it) (h m a at (c - n) (omega (arith, la)) (omega (arith, lc)) ea s.bears_it) s.not_torn)
    (λ x. still_exchanged old stamp (k + by.fresh) (mark_at ls (b - n)) m (h m a (b - n) (c - n) (omega (arith, la, x)) (omega (arith, bc)) ea s.bears_it) s.not_torn))
    (λ s. absurd (not_renewed ls stamp k (k + by.fresh) older (omega arith) m s.torn_mark a ea s.mark_is))
    (exchanged_cases old stamp (k + by.fresh) (mark_at ls (c - n)) m ec)

mid_high : (ls : List LiveUnit) (at : ℕ) (part : List ℕ) (stamp : Stamp) (k a b c : ℕ) (m : Mark) → at ≤ length ls → InRuns ls → NotNew ls stamp k → a ≤ b → b ≤ c → at ≤ a → (by_of ls at stamp k).mark ≡ Some m → exchanged_of ls at stamp k (c - length part) ≡ Some m → mark_at (made_of ls at part stamp k) b ≡ Some m
mid_high ls at part stamp k a b c m le h older ab bc la ea ec =
    let n = length part in
    let by = by_of ls at stamp k in
    let old = torn_of ls at stamp k in
    ⊎_elim {C = mark_at (made_of ls at part stamp k) b ≡ Some m}
    (λ s. by_zone ls at part stamp k b m le (λ x. absurd (omega (arith, x, ab, la))) (λ x y. ea)
    (λ x. still_exchanged old stamp (k + by.fresh) (mark_at ls (b - n)) m (right_bears ls at stamp k h older m (c - n) (b - n) (omega (arith, x)) (omega (arith, bc)) s.bears_it ea) s.not_torn))
    (λ s. absurd (not_both ls at stamp k older m s.torn_mark ea s.mark_is))
    (exchanged_cases old stamp (k + by.fresh) (mark_at ls (c - n)) m ec)

high_high : (ls : List LiveUnit) (at : ℕ) (part : List ℕ) (stamp : Stamp) (k a b c : ℕ) (m : Mark) → at ≤ length ls → InRuns ls → NotNew ls stamp k → a ≤ b → b ≤ c → at + length part ≤ a → exchanged_of ls at stamp k (a - length part) ≡ Some m → exchanged_of ls at stamp k (c - length part) ≡ Some m → mark_at (made_of ls at part stamp k) b ≡ Some m
high_high ls at part stamp k a b c m le h older ab bc la ea ec =
    let n = length part in
    let by = by_of ls at stamp k in
    let old = torn_of ls at stamp k in
    let j = k + by.fresh in
    ⊎_elim {C = mark_at (made_of ls at part stamp k) b ≡ Some m}
    (λ s. ⊎_elim {C = mark_at (made_of ls at part stamp k) b ≡ Some m}
    (λ t. by_zone ls at part stamp k b m le (λ x. absurd (omega (arith, x, ab, la))) (λ x y. absurd (omega (arith, y, ab, la))) (λ x. still_exchanged old stamp j (mark_at ls (b - n)) m (h m (a - n) (b - n) (c - n) (omega (arith, ab)) (omega (arith, bc)) s.bears_it t.bears_it) s.not_torn))
    (λ t. absurd (not_renewed ls stamp k j older (omega arith) m t.torn_mark (a - n) s.bears_it t.mark_is))
    (exchanged_cases old stamp j (mark_at ls (c - n)) m ec))
    (λ s. ⊎_elim {C = mark_at (made_of ls at part stamp k) b ≡ Some m}
    (λ t. absurd (not_renewed ls stamp k j older (omega arith) m s.torn_mark (c - n) t.bears_it s.mark_is))
    (λ t. let same : t.torn_mark ≡ s.torn_mark = same_Some t.torn_mark s.torn_mark (sym t.torn_is ∙ s.torn_is) in
    by_zone ls at part stamp k b m le (λ x. absurd (omega (arith, x, ab, la))) (λ x y. absurd (omega (arith, y, ab, la)))
    (λ x. now_exchanged old stamp j (mark_at ls (b - n)) s.torn_mark s.torn_is (h s.torn_mark (a - n) (b - n) (c - n) (omega (arith, ab)) (omega (arith, bc)) s.bore (t.bore ∙ ap Some same)) ∙ ap Some (sym s.mark_is)))
    (exchanged_cases old stamp j (mark_at ls (c - n)) m ec))
    (exchanged_cases old stamp j (mark_at ls (a - n)) m ea)

pub runs_put : (ls : List LiveUnit) (at : ℕ) (part : List ℕ) (stamp : Stamp) (k : ℕ) → at ≤ length ls → InRuns ls → NotNew ls stamp k → InRuns (made_of ls at part stamp k)
runs_put ls at part stamp k le h older m a b c ab bc ea ec =
    let by = by_of ls at stamp k in
    let old = torn_of ls at stamp k in
    let j = k + by.fresh in
    ⊎_elim {C = mark_at (made_of ls at part stamp k) b ≡ Some m}
    (λ za. ⊎_elim {C = mark_at (made_of ls at part stamp k) b ≡ Some m}
    (λ zc. low_low ls at part stamp k a b c m le h ab bc zc.low (sym za.mark_is ∙ ea) (sym zc.mark_is ∙ ec))
    (λ y. ⊎_elim {C = mark_at (made_of ls at part stamp k) b ≡ Some m}
    (λ zc. low_mid ls at part stamp k a b c m le h older ab bc za.low zc.to (sym za.mark_is ∙ ea) (sym zc.mark_is ∙ ec))
    (λ zc. low_high ls at part stamp k a b c m le h older ab bc za.low zc.from (sym za.mark_is ∙ ea) (sym zc.mark_is ∙ ec)) y)
    (zone_of ls at part by.mark old stamp j c le))
    (λ x. ⊎_elim {C = mark_at (made_of ls at part stamp k) b ≡ Some m}
    (λ za. ⊎_elim {C = mark_at (made_of ls at part stamp k) b ≡ Some m}
    (λ zc. absurd (omega (arith, za.from, ab, bc, zc.low)))
    (λ y. ⊎_elim {C = mark_at (made_of ls at part stamp k) b ≡ Some m}
    (λ zc. by_zone ls at part stamp k b m le (λ v. absurd (omega (arith, v, ab, za.from))) (λ v w. sym za.mark_is ∙ ea) (λ v. absurd (omega (arith, v, bc, zc.to))))
    (λ zc. mid_high ls at part stamp k a b c m le h older ab bc za.from (sym za.mark_is ∙ ea) (sym zc.mark_is ∙ ec)) y)
    (zone_of ls at part by.mark old stamp j c le))
    (λ za. ⊎_elim {C = mark_at (made_of ls at part stamp k) b ≡ Some m}
    (λ zc. absurd (omega (arith, za.from, ab, bc, zc.low)))
    (λ y. ⊎_elim {C = mark_at (made_of ls at part stamp k) b ≡ Some m}
    (λ zc. absurd (omega (arith, za.from, ab, bc, zc.to)))
    (λ zc. high_high ls at part stamp k a b c m le h older ab bc za.from (sym za.mark_is ∙ ea) (sym zc.mark_is ∙ ec)) y)
    (zone_of ls at part by.mark old stamp j c le)) x)
    (zone_of ls at part by.mark old stamp j a le)
