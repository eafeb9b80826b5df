-- What a step needs of a row, the row after the step has too.
use Rattle.std.proofs.Common.{◌≡◌, ℕ, zero, suc, ◌+◌, ◌-◌, ◌<◌, ◌≤◌, Bool, true, false, List, [], ◌∷◌, ◌++◌, refl, sym, ◌∙◌, arith, map, take, drop, Option, Some, None, subst, ⊎_elim, ◌⊎◌, inl, inr}
use Rattle.std.specs.Prelude.{nat_le, nat_lt, ◌||◌, ◌&&◌, ◌==◌, if◌then◌else◌}
use Rattle.std.specs.Str.{bytes_eq}
use Rattle.std.proofs.lemmas.Bool.{cases_lt, cases_Bool, lt-ltb, le-ltb, le-leb, lt-leb}
use Rattle.ranges_tracker.specs.Cells.{Mark, Live, Gone, Thread, Stamp, Chosen, raised, squashed, shifted, set_thread, own, first_of, chosen, torn, renewed, remarked, new_lives, exchanged, same_mark, count, fresh_mark, mark_at, mark_before}
use Rattle.ranges_tracker.specs.declared.change.Change.{Change}
use Rattle.ranges_tracker.specs.Shown.{change, mark_of, meets, fused, touch, packed, live_cell, live_cells}
use Rattle.std.proofs.lemmas.Bool.Decides.{same_from_decides, Decides-like}
use Rattle.ranges_tracker.specs.declared.change.ChangeKind.TheVariants.{Deleted}
use Rattle.ranges_tracker.specs.Tracked.{placed, kept, new_delete}
use Rattle.ranges_tracker.specs.Steady.{RisingGone, Within, OlderMark, OlderLives, NoMark, Distinct}
use Rattle.ranges_tracker.proofs.Packing.{touch_met, touch_apart}
use Rattle.ranges_tracker.proofs.Inserting.{Older, same_mark-Decides}
use Rattle.ranges_tracker.proofs.Placing.{Differ, GapsBelow}
use Rattle.ranges_tracker.proofs.Commenting.{thread_with, thread_without}

-- gaps stay in order
pub rising_less : (a b : ℕ) (gs : List Gone) → b ≤ a → RisingGone a gs → RisingGone b gs
rising_less a b [] le h = tt
rising_less a b (g ∷ gs) le h = (omega (arith, h.0), h.1)

rising_map : (f : ℕ → ℕ) (a : ℕ) (gs : List Gone) → ((x y : ℕ) → x ≤ y → f x ≤ f y) → RisingGone a gs → RisingGone (f a) (map (shifted f) gs)
rising_map f a [] mono h = tt
rising_map f a (g ∷ gs) mono h = (mono a g.gap h.0, rising_map f g.gap gs mono h.1)

pub raised_cases : (at n z : ℕ) → (raised at n z ≡ z + n) × (at ≤ z) ⊎ ((raised at n z ≡ z) × (z < at))
raised_cases at n z = ⊎_elim {C = (raised at n z ≡ z + n) × (at ≤ z) ⊎ ((raised at n z ≡ z) × (z < at))} (λ lt. inr (rw (lt-leb at z lt) refl, lt)) (λ ge. inl (rw (le-leb at z ge) refl, ge)) (cases_lt z at)

raised_mono : (at n x y : ℕ) → x ≤ y → raised at n x ≤ raised at n y
raised_mono at n x y le = go (raised_cases at n x) (raised_cases at n y)
  where
    go : (raised at n x ≡ x + n) × (at ≤ x) ⊎ ((raised at n x ≡ x) × (x < at)) → (raised at n y ≡ y + n) × (at ≤ y) ⊎ ((raised at n y ≡ y) × (y < at)) → raised at n x ≤ raised at n y
    go (inl a) (inl b) = omega (arith, a.0, b.0)
    go (inl a) (inr b) = omega (arith, a.0, a.1, b.0, b.1)
    go (inr a) (inl b) = omega (arith, a.0, b.0)
    go (inr a) (inr b) = omega (arith, a.0, b.0)

record Squash (at n z : ℕ) : Type 0 where
  pub is : (squashed at n z ≡ z) × (z < at) ⊎ (((squashed at n z ≡ at) × (at ≤ z) × (z ≤ at + n)) ⊎ ((squashed at n z ≡ z - n) × (at + n < z)))

squash_cases : (at n z : ℕ) → Squash at n z
squash_cases at n z = ⊎_elim {C = Squash at n z}
    (λ lt. record { is = inl (rw (lt-ltb z at lt) refl, lt) })
    (λ ge. ⊎_elim {C = Squash at n z} (λ lt. record { is = inr (inr (rw (le-ltb z at ge, lt-leb z (at + n) lt) refl, lt)) }) (λ le. record { is = inr (inl (rw (le-ltb z at ge, le-leb z (at + n) le) refl, ge, le)) }) (cases_lt (at + n) z))
    (cases_lt z at)

squash_mono : (at n x y : ℕ) → x ≤ y → squashed at n x ≤ squashed at n y
squash_mono at n x y le = go (squash_cases at n x).is (squash_cases at n y).is
  where
    go : (squashed at n x ≡ x) × (x < at) ⊎ (((squashed at n x ≡ at) × (at ≤ x) × (x ≤ at + n)) ⊎ ((squashed at n x ≡ x - n) × (at + n < x))) → (squashed at n y ≡ y) × (y < at) ⊎ (((squashed at n y ≡ at) × (at ≤ y) × (y ≤ at + n)) ⊎ ((squashed at n y ≡ y - n) × (at + n < y))) → squashed at n x ≤ squashed at n y
    go (inl a) (inl b) = omega (arith, a.0, b.0)
    go (inl a) (inr (inl b)) = omega (arith, a.0, a.1, b.0)
    go (inl a) (inr (inr b)) = omega (arith, a.0, a.1, b.0, b.1)
    go (inr (inl a)) (inl b) = omega (arith, a.0, a.1, b.0, b.1)
    go (inr (inl a)) (inr (inl b)) = omega (arith, a.0, b.0)
    go (inr (inl a)) (inr (inr b)) = omega (arith, a.0, b.0, b.1)
    go (inr (inr a)) (inl b) = omega (arith, a.0, a.1, b.0, b.1)
    go (inr (inr a)) (inr (inl b)) = omega (arith, a.1, b.2)
    go (inr (inr a)) (inr (inr b)) = omega (arith, a.0, b.0)

pub squash_within : (at n z m : ℕ) → z ≤ m → at + n ≤ m → squashed at n z ≤ m - n
squash_within at n z m le room = go (squash_cases at n z).is
  where
    go : (squashed at n z ≡ z) × (z < at) ⊎ (((squashed at n z ≡ at) × (at ≤ z) × (z ≤ at + n)) ⊎ ((squashed at n z ≡ z - n) × (at + n < z))) → squashed at n z ≤ m - n
    go (inl a) = omega (arith, a.0, a.1)
    go (inr (inl a)) = omega (arith, a.0)
    go (inr (inr a)) = omega (arith, a.0, a.1)

pub raised_rises : (at n : ℕ) (gs : List Gone) → RisingGone 0 gs → RisingGone 0 (map (shifted (raised at n)) gs)
raised_rises at n gs h = rising_less (raised at n 0) 0 (map (shifted (raised at n)) gs) (omega arith) (rising_map (raised at n) 0 gs (raised_mono at n) h)

pub squashed_rises : (at n : ℕ) (gs : List Gone) → RisingGone 0 gs → RisingGone 0 (map (shifted (squashed at n)) gs)
squashed_rises at n gs h = rising_less (squashed at n 0) 0 (map (shifted (squashed at n)) gs) (omega arith) (rising_map (squashed at n) 0 gs (squash_mono at n) h)

pub rising_join : (a q : ℕ) (xs ys : List Gone) → a ≤ q → RisingGone a xs → GapsBelow q xs → RisingGone q ys → RisingGone a (xs ++ ys)
rising_join a q [] ys le h b k = rising_less q a ys le k
rising_join a q (x ∷ xs) ys le h b k = (h.0, rising_join x.gap q xs ys (omega (arith, b.0)) h.1 b.1 k)

-- threads stay within the text
with_end : (at n from to : ℕ) → from ≤ to → (raised at n from ≤ (if nat_le at from || nat_lt at to then to + n else to)) × ((if nat_le at from || nat_lt at to then to + n else to) ≤ to + n)
with_end at n from to le = ⊎_elim {C = (raised at n from ≤ (if nat_le at from || nat_lt at to then to + n else to)) × ((if nat_le at from || nat_lt at to then to + n else to) ≤ to + n)}
    (λ lt. ⊎_elim {C = (raised at n from ≤ (if nat_le at from || nat_lt at to then to + n else to)) × ((if nat_le at from || nat_lt at to then to + n else to) ≤ to + n)}
    (λ low. rw (lt-leb at from lt, lt-ltb at to low) (omega arith, omega arith))
    (λ high. rw (lt-leb at from lt, le-ltb at to high) (omega arith, omega arith))
    (cases_lt at to))
    (λ ge. rw (le-leb at from ge) (omega arith, omega arith))
    (cases_lt from at)

pub within_with : (m at n : ℕ) (ts : List Thread) → Within m ts → Within (m + n) (map (thread_with at n) ts)
within_with m at n [] h = tt
within_with m at n (t ∷ ts) h = let e = with_end at n t.from t.to h.0 in (e.0, omega (arith, e.1, h.1), within_with m at n ts h.2)

pub within_without : (m at n : ℕ) (ts : List Thread) → at + n ≤ m → Within m ts → Within (m - n) (map (thread_without at n) ts)
within_without m at n [] room h = tt
within_without m at n (t ∷ ts) room h = (squash_mono at n t.from t.to h.0, squash_within at n t.to m h.1 room, within_without m at n ts room h.2)

within_either : (b : Bool) (m : ℕ) (x y : List Thread) → Within m x → Within m y → Within m (if b then x else y)
within_either true m x y h k = h
within_either false m x y h k = k

pub within_set : (m thread from to : ℕ) (ts : List Thread) → from ≤ to → to ≤ m → Within m ts → Within m (set_thread thread from to ts)
within_set m thread from to [] le room h = (le, room, tt)
within_set m thread from to (t ∷ ts) le room h = within_either (t.thread == thread) m (record { thread = thread; from = from; to = to } ∷ ts) (t ∷ set_thread thread from to ts) (le, room, h.2) (h.0, h.1, within_set m thread from to ts le room h.2)

pub older_touch : (v k : ℕ) (c : Change) (cs : List Change) → (c.version ≤ v) × (c.version ≡ v → c.k < k) → Older v k cs → Older v k (touch c cs)
older_touch v k c [] e h = (e, tt)
older_touch v k c (d ∷ ds) e h = ⊎_elim {C = Older v k (touch c (d ∷ ds))}
    (λ t. subst (λ (x : List Change). Older v k x) (sym (touch_met c d ds t)) met)
    (λ t. subst (λ (x : List Change). Older v k x) (sym (touch_apart c d ds t)) apart)
    (cases_Bool (meets c d))
  where
    met : Older v k (fused c d ∷ ds)
    met = (e, h.1)

    apart : Older v k (c ∷ d ∷ ds)
    apart = (e, h)

older_cell : (v k at u : ℕ) (o : Option Mark) (cs : List Change) → OlderMark v k o → Older v k (packed cs) → Older v k (packed (live_cell at u o ++ cs))
older_cell v k at u None cs e h = h
older_cell v k at u (Some m) cs e h = older_touch v k _ (packed cs) e h

pub older_packed : (v k at : ℕ) (ls : List Live) → OlderLives v k ls → Older v k (packed (live_cells at ls))
older_packed v k at [] h = tt
older_packed v k at (l ∷ ls) h = older_cell v k at l.unit l.mark (live_cells (at + 1) ls) h.0 (older_packed v k (at + 1) ls h.1)

mark_more : (v k j : ℕ) (o : Option Mark) → k ≤ j → OlderMark v k o → OlderMark v j o
mark_more v k j None le h = tt
mark_more v k j (Some m) le h = (h.0, λ e. let lt : m.k < k = h.1 e in omega arith)

pub lives_more : (v k j : ℕ) (ls : List Live) → k ≤ j → OlderLives v k ls → OlderLives v j ls
lives_more v k j [] le h = tt
lives_more v k j (l ∷ ls) le h = (mark_more v k j l.mark le h.0, lives_more v k j ls le h.1)

lives_append : (v k : ℕ) (xs ys : List Live) → OlderLives v k xs → OlderLives v k ys → OlderLives v k (xs ++ ys)
lives_append v k [] ys h e = e
lives_append v k (x ∷ xs) ys h e = (h.0, lives_append v k xs ys h.1 e)

lives_take : (v k n : ℕ) (ls : List Live) → OlderLives v k ls → OlderLives v k (take n ls)
lives_take v k zero ls h = tt
lives_take v k (suc n) [] h = tt
lives_take v k (suc n) (l ∷ ls) h = (h.0, lives_take v k n ls h.1)

lives_drop : (v k n : ℕ) (ls : List Live) → OlderLives v k ls → OlderLives v k (drop n ls)
lives_drop v k zero ls h = h
lives_drop v k (suc n) [] h = tt
lives_drop v k (suc n) (l ∷ ls) h = lives_drop v k n ls h.1

lives_new : (v k : ℕ) (us : List ℕ) (o : Option Mark) → OlderMark v k o → OlderLives v k (new_lives us o)
lives_new v k [] o h = tt
lives_new v k (u ∷ us) o h = (h, lives_new v k us o h)

older_exchanged : (old : Mark) (stamp : Stamp) (j : ℕ) (o : Option Mark) → OlderMark stamp.version (j + 1) o → OlderMark stamp.version (j + 1) (exchanged old (renewed old stamp j) o)
older_exchanged old stamp j None h = tt
older_exchanged old stamp j (Some m) h = go (same_mark m old)
  where
    go : (b : Bool) → OlderMark stamp.version (j + 1) (if b then Some (renewed old stamp j) else Some m)
    go true = (omega arith, λ e. omega arith)
    go false = h

lives_remarked : (old : Option Mark) (stamp : Stamp) (j : ℕ) (ls : List Live) → OlderLives stamp.version (j + count old) ls → OlderLives stamp.version (j + count old) (remarked old stamp j ls)
lives_remarked None stamp j ls h = h
lives_remarked (Some old) stamp j [] h = tt
lives_remarked (Some old) stamp j (l ∷ ls) h = (older_exchanged old stamp j l.mark h.0, lives_remarked (Some old) stamp j ls h.1)

own_older : (v k : ℕ) (user : List ℕ) (o : Option Mark) → OlderMark v k o → OlderMark v k (own user o)
own_older v k user None h = tt
own_older v k user (Some m) h = go (bytes_eq user m.user)
  where
    go : (b : Bool) → OlderMark v k (if b then Some m else None)
    go true = h
    go false = tt

first_older : (stamp : Stamp) (k : ℕ) (a b : Option Mark) → OlderMark stamp.version k a → OlderMark stamp.version k b → OlderMark stamp.version (k + (first_of a b (fresh_mark stamp k)).fresh) (first_of a b (fresh_mark stamp k)).mark
first_older stamp k (Some m) b h e = mark_more stamp.version k (k + 0) (Some m) (omega arith) h
first_older stamp k None (Some m) h e = mark_more stamp.version k (k + 0) (Some m) (omega arith) e
first_older stamp k None None h e = (omega arith, λ _. omega arith)

chosen_older : (stamp : Stamp) (k : ℕ) (a b : Option Mark) → OlderMark stamp.version k a → OlderMark stamp.version k b → OlderMark stamp.version (k + (chosen a b stamp k).fresh) (chosen a b stamp k).mark
chosen_older stamp k a b h e = go stamp.track
  where
    go : (t : Bool) → OlderMark stamp.version (k + (if t then first_of (own stamp.user a) (own stamp.user b) (fresh_mark stamp k) else record { mark = None; fresh = 0 }).fresh) (if t then first_of (own stamp.user a) (own stamp.user b) (fresh_mark stamp k) else record { mark = None; fresh = 0 }).mark
    go true = first_older stamp k (own stamp.user a) (own stamp.user b) (own_older stamp.version k stamp.user a h) (own_older stamp.version k stamp.user b e)
    go false = tt

older_at : (v k n : ℕ) (ls : List Live) → OlderLives v k ls → OlderMark v k (mark_at ls n)
older_at v k n [] h = tt
older_at v k zero (l ∷ ls) h = h.0
older_at v k (suc n) (l ∷ ls) h = older_at v k n ls h.1

older_before : (v k n : ℕ) (ls : List Live) → OlderLives v k ls → OlderMark v k (mark_before ls n)
older_before v k zero ls h = tt
older_before v k (suc n) ls h = older_at v k n ls h

-- after an insert each live mark is older than the next fresh one
pub lives_inserted : (stamp : Stamp) (k at : ℕ) (part : List ℕ) (ls : List Live) → OlderLives stamp.version k ls →
    (let by : Chosen = chosen (mark_before ls at) (mark_at ls at) stamp k in let old : Option Mark = torn (mark_before ls at) (mark_at ls at) by.mark in
    OlderLives stamp.version (k + by.fresh + count old) (take at ls ++ (new_lives part by.mark ++ remarked old stamp (k + by.fresh) (drop at ls))))
lives_inserted stamp k at part ls h =
    let by = chosen (mark_before ls at) (mark_at ls at) stamp k in
    let old = torn (mark_before ls at) (mark_at ls at) by.mark in
    let n = k + by.fresh + count old in
    let v = stamp.version in
    lives_append v n (take at ls) _ (lives_more v k n (take at ls) (omega arith) (lives_take v k at ls h))
    (lives_append v n (new_lives part by.mark) _ (lives_new v n part by.mark (mark_more v (k + by.fresh) n by.mark (omega arith) (chosen_older stamp k (mark_before ls at) (mark_at ls at) (older_before v k at ls h) (older_at v k at ls h))))
    (lives_remarked old stamp (k + by.fresh) (drop at ls) (lives_more v k n (drop at ls) (omega arith) (lives_drop v k at ls h))))

pub lives_deleted : (v k at n : ℕ) (ls : List Live) → OlderLives v k ls → OlderLives v k (take at ls ++ drop (at + n) ls)
lives_deleted v k at n ls h = lives_append v k (take at ls) (drop (at + n) ls) (lives_take v k at ls h) (lives_drop v k (at + n) ls h)

pub distinct_differ : (cs : List Change) → Distinct cs → Differ cs
distinct_differ [] h = tt
distinct_differ (c ∷ []) h = tt
distinct_differ (c ∷ d ∷ ds) h = (h.0.0, distinct_differ (d ∷ ds) h.1)

no_mark_placed : (f : ℕ → ℕ) (m : Mark) (cs : List Change) → NoMark m cs → NoMark m (map (placed f) cs)
no_mark_placed f m [] h = tt
no_mark_placed f m (c ∷ cs) h = (h.0, no_mark_placed f m cs h.1)

-- a shift of places keeps marks distinct
pub distinct_placed : (f : ℕ → ℕ) (cs : List Change) → Distinct cs → Distinct (map (placed f) cs)
distinct_placed f [] h = tt
distinct_placed f (c ∷ cs) h = (no_mark_placed f (mark_of c) cs h.0, distinct_placed f cs h.1)

no_mark_either : (b : Bool) (m : Mark) (c : Change) (cs : List Change) → (same_mark m (mark_of c) ≡ false) → NoMark m cs → NoMark m (if b then c ∷ cs else cs)
no_mark_either true m c cs e h = (e, h)
no_mark_either false m c cs e h = h

no_mark_kept : (test : ℕ → Bool) (m : Mark) (cs : List Change) → NoMark m cs → NoMark m (kept test cs)
no_mark_kept test m [] h = tt
no_mark_kept test m (c ∷ cs) h = no_mark_either (test c.at) m c (kept test cs) h.0 (no_mark_kept test m cs h.1)

no_mark_append : (m : Mark) (xs ys : List Change) → NoMark m xs → NoMark m ys → NoMark m (xs ++ ys)
no_mark_append m [] ys h k = k
no_mark_append m (x ∷ xs) ys h k = (h.0, no_mark_append m xs ys h.1 k)

distinct_either : (b : Bool) (c : Change) (cs : List Change) → NoMark (mark_of c) cs → Distinct cs → Distinct (if b then c ∷ cs else cs)
distinct_either true c cs e h = (e, h)
distinct_either false c cs e h = h

distinct_kept : (test : ℕ → Bool) (cs : List Change) → Distinct cs → Distinct (kept test cs)
distinct_kept test [] h = tt
distinct_kept test (c ∷ cs) h = distinct_either (test c.at) c (kept test cs) (no_mark_kept test (mark_of c) cs h.0) (distinct_kept test cs h.1)

-- no mark of the first stands in the second
abbrev pub Cross : List Change → List Change → Type 0
Cross [] ys = Unit {0}
Cross (x ∷ xs) ys = NoMark (mark_of x) ys × Cross xs ys

distinct_append : (xs ys : List Change) → Distinct xs → Distinct ys → Cross xs ys → Distinct (xs ++ ys)
distinct_append [] ys h k c = k
distinct_append (x ∷ xs) ys h k c = (no_mark_append (mark_of x) xs ys h.0 c.0, distinct_append xs ys h.1 k c.1)

same_mark_swap : (m n : Mark) → same_mark m n ≡ same_mark n m
same_mark_swap m n = same_from_decides _ _ (same_mark-Decides m n) (Decides-like {P = n ≡ m} (same_mark n m) (λ e. sym e) (λ e. sym e) (same_mark-Decides n m))

cross_cons : (xs ys : List Change) (c : Change) → NoMark (mark_of c) xs → Cross xs ys → Cross xs (c ∷ ys)
cross_cons [] ys c h k = tt
cross_cons (x ∷ xs) ys c h k = ((same_mark_swap (mark_of x) (mark_of c) ∙ h.0, k.0), cross_cons xs ys c h.1 k.1)

cross_either : (a b : Bool) (c : Change) (xs ys : List Change) → (a && b) ≡ false → NoMark (mark_of c) xs → NoMark (mark_of c) ys → Cross xs ys → Cross (if a then c ∷ xs else xs) (if b then c ∷ ys else ys)
cross_either true true c xs ys e h k w = cc
cross_either true false c xs ys e h k w = (k, w)
cross_either false true c xs ys e h k w = cross_cons xs ys c h w
cross_either false false c xs ys e h k w = w

cross_kept : (low high : ℕ → Bool) (cs : List Change) → ((x : ℕ) → (low x && high x) ≡ false) → Distinct cs → Cross (kept low cs) (kept high cs)
cross_kept low high [] apart h = tt
cross_kept low high (c ∷ cs) apart h = cross_either (low c.at) (high c.at) c (kept low cs) (kept high cs) (apart c.at) (no_mark_kept low (mark_of c) cs h.0) (no_mark_kept high (mark_of c) cs h.0) (cross_kept low high cs apart h.1)

cross_placed : (f : ℕ → ℕ) (xs ys : List Change) → Cross xs ys → Cross xs (map (placed f) ys)
cross_placed f [] ys h = tt
cross_placed f (x ∷ xs) ys h = (no_mark_placed f (mark_of x) ys h.0, cross_placed f xs ys h.1)

cross_new : (xs ys : List Change) (at : ℕ) (us : List ℕ) (m : Mark) → NoMark m xs → Cross xs ys → Cross xs (new_delete at us m ++ ys)
cross_new xs ys at [] m h k = k
cross_new xs ys at (u ∷ us) m h k = cross_cons xs ys (change Deleted at (u ∷ us) m) h k

distinct_new : (ys : List Change) (at : ℕ) (us : List ℕ) (m : Mark) → NoMark m ys → Distinct ys → Distinct (new_delete at us m ++ ys)
distinct_new ys at [] m h k = k
distinct_new ys at (u ∷ us) m h k = (h, k)

low_apart : (at n x : ℕ) → (nat_lt x at && nat_lt (at + n) x) ≡ false
low_apart at n x = ⊎_elim {C = (nat_lt x at && nat_lt (at + n) x) ≡ false} (λ lt. rw (lt-ltb x at lt, le-ltb (at + n) x (omega arith)) refl) (λ ge. rw (le-ltb x at ge) refl) (cases_lt x at)

-- the marks stay distinct where a fresh one takes over
pub distinct_taken : (ds : List Change) (at n : ℕ) (us : List ℕ) (m : Mark) → Distinct ds → NoMark m ds →
    Distinct (kept (λ x. nat_lt x at) ds ++ (new_delete at us m ++ map (placed (λ x. x - n)) (kept (λ x. nat_lt (at + n) x) ds)))
distinct_taken ds at n us m h new =
    let low = kept (λ x. nat_lt x at) ds in
    let high = kept (λ x. nat_lt (at + n) x) ds in
    let last = map (placed (λ x. x - n)) high in
    distinct_append low (new_delete at us m ++ last) (distinct_kept (λ x. nat_lt x at) ds h)
    (distinct_new last at us m (no_mark_placed (λ x. x - n) m high (no_mark_kept (λ x. nat_lt (at + n) x) m ds new)) (distinct_placed (λ x. x - n) high (distinct_kept (λ x. nat_lt (at + n) x) ds h)))
    (cross_new low last at us m (no_mark_kept (λ x. nat_lt x at) m ds new) (cross_placed (λ x. x - n) low high (cross_kept (λ x. nat_lt x at) (λ x. nat_lt (at + n) x) ds (low_apart at n) h)))
