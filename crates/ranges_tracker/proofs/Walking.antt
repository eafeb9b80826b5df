-- Walks along ordered inserts and deletes, place by place.
use Rattle.std.proofs.Common.{◌≡◌, ℕ, zero, suc, ◌+◌, ◌<◌, ◌≤◌, Bool, true, false, List, [], ◌∷◌, ◌++◌, refl, ap, ap₂, sym, ◌∙◌, length, arith, get_or, drop, Option, Some, subst, ⊎_elim}
use Rattle.std.specs.Prelude.{◌&&◌, ◌||◌, not, is_some, slice_index, nat_le, if◌then◌else◌}
use Rattle.std.proofs.lemmas.Bool.{cases_lt, lt-ltb, le-ltb, le-leb, lt-leb, ne_eqb}
use Rattle.std.proofs.lemmas.List.{at_drop_more, drop_all}
use Rattle.ranges_tracker.specs.Cells.{Mark}
use Rattle.ranges_tracker.specs.declared.change.Change.{Change}
use Rattle.ranges_tracker.specs.Shown.{mark_of, past}
use Rattle.ranges_tracker.specs.Tracked.{mark_over, texts_in, mixed_in, some_bare}
use Rattle.ranges_tracker.specs.Ordered.{Lined, Rising, ending_past, from_gap}
use Rattle.ranges_tracker.proofs.Cutting.{over_none}

-- inserts that end before a place stand over none from it on
skip_test : (b : Bool) (o : Option Mark) (m : Mark) → (if b && false then Some m else o) ≡ o
skip_test true o m = refl
skip_test false o m = refl

pub over_past : (i : ℕ) (c : Change) (cs : List Change) → c.at + length c.text ≤ i → mark_over i (c ∷ cs) ≡ mark_over i cs
over_past i c cs le = rw (le-ltb i (c.at + length c.text) le) (skip_test (nat_le c.at i) (mark_over i cs) (mark_of c))

pub over_ending : (i p : ℕ) (cs : List Change) → i ≤ p → mark_over p (ending_past i cs) ≡ mark_over p cs
over_ending i p [] le = refl
over_ending i p (c ∷ cs) le = ⊎_elim {C = mark_over p (ending_past i (c ∷ cs)) ≡ mark_over p (c ∷ cs)}
    (λ lt. ap (λ (b : Bool). mark_over p (if b then ending_past i cs else c ∷ cs)) (lt-leb (c.at + length c.text) i lt))
    (λ ge. ap (λ (b : Bool). mark_over p (if b then ending_past i cs else c ∷ cs)) (le-leb (c.at + length c.text) i ge) ∙ over_ending i p cs le ∙ sym (over_past p c cs (omega arith)))
    (cases_lt i (c.at + length c.text))

lined_less : (a b : ℕ) (cs : List Change) → a ≤ b → Lined b cs → Lined a cs
lined_less a b [] le h = tt
lined_less a b (c ∷ cs) le h = (omega (arith, h.0), h.1, h.2)

pub lined_drop : (a k : ℕ) (cs : List Change) → Lined a cs → Lined a (drop k cs)
lined_drop a zero cs h = h
lined_drop a (suc k) [] h = tt
lined_drop a (suc k) (c ∷ cs) h = lined_drop a k cs (lined_less a (c.at + length c.text) cs (omega (arith, h.0)) h.2)

ends_past : (i : ℕ) (c : Change) (cs rest : List Change) → ending_past i cs ≡ c ∷ rest → i < c.at + length c.text
ends_past i c [] rest e = cc
ends_past i c (d ∷ ds) rest e = ⊎_elim {C = i < c.at + length c.text}
    (λ lt. first lt (sym (ap (λ (b : Bool). if b then ending_past i ds else d ∷ ds) (lt-leb (d.at + length d.text) i lt)) ∙ e))
    (λ ge. ends_past i c ds rest (sym (ap (λ (b : Bool). if b then ending_past i ds else d ∷ ds) (le-leb (d.at + length d.text) i ge)) ∙ e))
    (cases_lt i (d.at + length d.text))
  where
    first : i < d.at + length d.text → d ∷ ds ≡ c ∷ rest → i < c.at + length c.text
    first lt f = let same : d ≡ c = cc in subst (λ (x : Change). i < x.at + length x.text) same lt

-- whether the first that ends behind a place stands over it
pub first_over : (i a : ℕ) (cs : List Change) (c : Change) (rest : List Change) → Lined a (c ∷ rest) → ending_past i cs ≡ c ∷ rest → is_some (mark_over i cs) ≡ nat_le c.at i
first_over i a cs c rest h e =
    ap is_some (sym (over_ending i i cs (omega arith)) ∙ ap (mark_over i) e)
    ∙ ⊎_elim {C = is_some (mark_over i (c ∷ rest)) ≡ nat_le c.at i}
    (λ lt. ap is_some (over_none i c.at (c ∷ rest) (omega arith, h.1, h.2) lt) ∙ sym (lt-leb c.at i lt))
    (λ ge. rw (le-leb c.at i ge, lt-ltb i (c.at + length c.text) (ends_past i c cs rest e)) refl)
    (cases_lt i c.at)

pub none_over : (i : ℕ) (cs : List Change) → ending_past i cs ≡ [] → is_some (mark_over i cs) ≡ false
none_over i cs e = ap is_some (sym (over_ending i i cs (omega arith)) ∙ ap (mark_over i) e)

-- the same marks, the same bare units
pub bare_same : (at : ℕ) (us : List ℕ) (xs ys : List Change) → ((i : ℕ) → at ≤ i → mark_over i xs ≡ mark_over i ys) → some_bare at us xs ≡ some_bare at us ys
bare_same at [] xs ys f = refl
bare_same at (u ∷ us) xs ys f = ap₂ (λ (o : Option Mark) (b : Bool). not (is_some o) || b) (f at (omega arith)) (bare_same (at + 1) us xs ys (λ i le. f i (omega arith)))

pub bare_walk : (at j : ℕ) (part : List ℕ) (xs ys : List Change) (b : Bool) → j < length part → b ≡ is_some (mark_over (at + j) xs) → ys ≡ ending_past (at + j) xs →
    some_bare (at + j) (drop j part) xs ≡ (not b || some_bare (at + (j + 1)) (drop (j + 1) part) ys)
bare_walk at j part xs ys b lt e f =
    at_drop_more (λ (x : List ℕ). some_bare (at + j) x xs) part j 0 lt
    ∙ ap (λ (x : ℕ). not (is_some (mark_over (at + j) xs)) || some_bare x (drop (j + 1) part) xs) (omega arith)
    ∙ ap₂ (λ (x y : Bool). not x || y) (sym e) (bare_same (at + (j + 1)) (drop (j + 1) part) xs (ending_past (at + j) xs) (λ i le. sym (over_ending (at + j) i xs (omega arith))) ∙ ap (some_bare (at + (j + 1)) (drop (j + 1) part)) (sym f))

-- deletes at a place
pub texts_from : (at g : ℕ) (ds : List Change) → at ≤ g → texts_in g (from_gap at ds) ≡ texts_in g ds
texts_from at g [] le = refl
texts_from at g (d ∷ ds) le = ⊎_elim {C = texts_in g (from_gap at (d ∷ ds)) ≡ texts_in g (d ∷ ds)}
    (λ lt. ap (λ (b : Bool). texts_in g (if b then from_gap at ds else d ∷ ds)) (lt-ltb d.at at lt) ∙ texts_from at g ds le ∙ sym (ap (λ (b : Bool). (if b then d.text else []) ++ texts_in g ds) (ne_eqb d.at g (λ e. omega arith))))
    (λ ge. ap (λ (b : Bool). texts_in g (if b then from_gap at ds else d ∷ ds)) (le-ltb d.at at ge))
    (cases_lt d.at at)

pub texts_past : (at g : ℕ) (ds : List Change) → at < g → texts_in g (past at ds) ≡ texts_in g ds
texts_past at g [] lt = refl
texts_past at g (d ∷ ds) lt = ⊎_elim {C = texts_in g (past at (d ∷ ds)) ≡ texts_in g (d ∷ ds)}
    (λ high. ap (λ (b : Bool). texts_in g (if b then past at ds else d ∷ ds)) (lt-leb d.at at high))
    (λ low. ap (λ (b : Bool). texts_in g (if b then past at ds else d ∷ ds)) (le-leb d.at at low) ∙ texts_past at g ds lt ∙ sym (ap (λ (b : Bool). (if b then d.text else []) ++ texts_in g ds) (ne_eqb d.at g (λ e. omega arith))))
    (cases_lt at d.at)

pub rising_from : (a at : ℕ) (ds : List Change) → Rising a ds → Rising at (from_gap at ds)
rising_from a at [] h = tt
rising_from a at (d ∷ ds) h = ⊎_elim {C = Rising at (from_gap at (d ∷ ds))}
    (λ lt. subst (λ (x : List Change). Rising at x) (sym (ap (λ (b : Bool). if b then from_gap at ds else d ∷ ds) (lt-ltb d.at at lt))) (rising_from d.at at ds h.1))
    (λ ge. subst (λ (x : List Change). Rising at x) (sym (ap (λ (b : Bool). if b then from_gap at ds else d ∷ ds) (le-ltb d.at at ge))) (ge, h.1))
    (cases_lt d.at at)

pub rising_next : (at a : ℕ) (ds : List Change) → Rising a ds → Rising (at + 1) (past at ds)
rising_next at a [] h = tt
rising_next at a (d ∷ ds) h = ⊎_elim {C = Rising (at + 1) (past at (d ∷ ds))}
    (λ lt. subst (λ (x : List Change). Rising (at + 1) x) (sym (ap (λ (b : Bool). if b then past at ds else d ∷ ds) (lt-leb d.at at lt))) (omega arith, h.1))
    (λ ge. subst (λ (x : List Change). Rising (at + 1) x) (sym (ap (λ (b : Bool). if b then past at ds else d ∷ ds) (le-leb d.at at ge))) (rising_next at d.at ds h.1))
    (cases_lt at d.at)

pub none_at : (at a : ℕ) (ds : List Change) → at < a → Rising a ds → texts_in at ds ≡ []
none_at at a [] lt h = refl
none_at at a (d ∷ ds) lt h = ap₂ (λ (b : Bool) (x : List ℕ). (if b then d.text else []) ++ x) (ne_eqb d.at at (λ e. omega (arith, h.0))) (none_at at d.at ds (omega (arith, h.0)) h.1)

-- the same marks and the same gone units, the same text
pub mixed_same : (at : ℕ) (us : List ℕ) (xs ys ds es : List Change) → ((i : ℕ) → at ≤ i → mark_over i xs ≡ mark_over i ys) → ((g : ℕ) → at ≤ g → texts_in g ds ≡ texts_in g es) → mixed_in at us xs ds ≡ mixed_in at us ys es
mixed_same at [] xs ys ds es f h = h at (omega arith)
mixed_same at (u ∷ us) xs ys ds es f h =
    ap₂ (λ (x y : List ℕ). x ++ y) (h at (omega arith))
    (ap₂ (λ (o : Option Mark) (y : List ℕ). (if is_some o then [] else u ∷ []) ++ y) (f at (omega arith)) (mixed_same (at + 1) us xs ys ds es (λ i le. f i (omega arith)) (λ g le. h g (omega arith))))

pub mixed_start : (at : ℕ) (us : List ℕ) (is ds es : List Change) → es ≡ from_gap at ds → mixed_in at us is es ≡ mixed_in at us is ds
mixed_start at us is ds es e = ap (mixed_in at us is) e ∙ mixed_same at us is is (from_gap at ds) ds (λ i le. refl) (λ g le. texts_from at g ds le)

-- one unit
pub mixed_walk : (at j : ℕ) (part : List ℕ) (xs ys ds es : List Change) (b : Bool) → j < length part → b ≡ is_some (mark_over (at + j) xs) → ys ≡ ending_past (at + j) xs → es ≡ past (at + j) ds →
    mixed_in (at + j) (drop j part) xs ds ≡ texts_in (at + j) ds ++ ((if b then [] else slice_index part j ∷ []) ++ mixed_in (at + (j + 1)) (drop (j + 1) part) ys es)
mixed_walk at j part xs ys ds es b lt e f g =
    at_drop_more (λ (x : List ℕ). mixed_in (at + j) x xs ds) part j 0 lt
    ∙ ap (λ (x : ℕ). texts_in (at + j) ds ++ ((if is_some (mark_over (at + j) xs) then [] else slice_index part j ∷ []) ++ mixed_in x (drop (j + 1) part) xs ds)) (omega arith)
    ∙ ap₂ (λ (x : Bool) (y : List ℕ). texts_in (at + j) ds ++ ((if x then [] else slice_index part j ∷ []) ++ y)) (sym e)
    (mixed_same (at + (j + 1)) (drop (j + 1) part) xs (ending_past (at + j) xs) ds (past (at + j) ds) (λ i le. sym (over_ending (at + j) i xs (omega arith))) (λ k le. sym (texts_past (at + j) k ds (omega arith)))
    ∙ ap₂ (λ (x y : List Change). mixed_in (at + (j + 1)) (drop (j + 1) part) x y) (sym f) (sym g))

-- the same at a number of a list
pub over_at : (i a from k : ℕ) (xs : List Change) (c : Change) → Lined a xs → k < length xs → c ≡ get_or xs k c → drop k xs ≡ ending_past i (drop from xs) → nat_le c.at i ≡ is_some (mark_over i (drop from xs))
over_at i a from k xs c h lt is e =
    let parts : drop k xs ≡ c ∷ drop (k + 1) xs = at_drop_more (λ (x : List Change). x) xs k c lt ∙ ap (λ (x : Change). x ∷ drop (k + 1) xs) (sym is) in
    sym (first_over i a (drop from xs) c (drop (k + 1) xs) (subst (λ (x : List Change). Lined a x) parts (lined_drop a k xs h)) (sym e ∙ parts))

pub over_end : (i from k : ℕ) (xs : List Change) → length xs ≤ k → drop k xs ≡ ending_past i (drop from xs) → is_some (mark_over i (drop from xs)) ≡ false
over_end i from k xs le e = none_over i (drop from xs) (sym e ∙ drop_all k xs le)

pub none_here : (at k : ℕ) (ds : List Change) (d : Change) → k < length ds → d ≡ get_or ds k d → at < d.at → Rising at (drop k ds) → texts_in at (drop k ds) ≡ []
none_here at k ds d lt is high h =
    let parts : drop k ds ≡ d ∷ drop (k + 1) ds = at_drop_more (λ (x : List Change). x) ds k d lt ∙ ap (λ (x : Change). x ∷ drop (k + 1) ds) (sym is) in
    let r : Rising at (d ∷ drop (k + 1) ds) = subst (λ (x : List Change). Rising at x) parts h in
    ap (texts_in at) parts ∙ none_at at d.at (d ∷ drop (k + 1) ds) high (omega arith, r.1)
