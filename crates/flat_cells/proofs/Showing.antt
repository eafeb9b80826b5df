-- What a flat row shows is what its coordinates show.
use Rattle.std.proofs.Common.{◌≡◌, ℕ, ◌+◌, ◌-◌, ◌<◌, ◌≤◌, Bool, true, false, List, [], ◌∷◌, ◌++◌, refl, ap, ap₂, sym, ◌∙◌, length, arith, append_assoc, map, take, drop, cond, Option, Some, None, subst, ⊎_elim, All, true≢false}
use Rattle.std.specs.Prelude.{◌||◌, ◌&&◌, ◌==◌, if◌then◌else◌, nat_le}
use Rattle.std.specs.List.{list_any}
use Rattle.std.proofs.lemmas.Bool.{cases_Bool, or_parts, and_parts, cond-true, cond-false, leb-true, le-leb, lt-leb, ne_eqb, and_right, eqb-true, eq-eqb}
use Rattle.std.proofs.lemmas.List.{take-map, drop-map}
use Rattle.std.proofs.lemmas.List.Elements.{All-head, All-tail}
use Rattle.ranges_tracker.specs.declared.mark.Mark.{Mark}
use Rattle.ranges_tracker.specs.Cells.{Live as LiveUnit, Gone as GoneUnit, same_mark, text_of}
use Rattle.ranges_tracker.specs.declared.change.Change.{Change}
use Rattle.ranges_tracker.specs.declared.comment.Comment.{Comment}
use Rattle.ranges_tracker.specs.declared.change.ChangeKind.{ChangeKind}
use Rattle.ranges_tracker.specs.declared.change.ChangeKind.TheVariants.{Inserted, Deleted}
use Rattle.ranges_tracker.specs.Shown.{change, mark_of, reach, same_kind, meets, fused, touch, packed, live_cells, gone_cells, up_to, past, merged, shown, shown_comments}
use Rattle.ranges_tracker.specs.Steady.{RisingGone}
use Rattle.flat_cells.specs.Row.{Cell, Live, Gone, Start, End, FlatRow, is_start, is_end, lives_of, gone_from, until, past_first, gap_of, thread_of, row_of}
use Rattle.flat_cells.specs.Shown.{grown, others, in_front, flat_changes, flat_comment, flat_shown}
use Rattle.flat_cells.specs.Form.{IsThread, IsWellFormedFlat, is_gone_of, past_gone, AreNeighbours}
use Rattle.ranges_tracker.proofs.Packing.{same_mark_is, same_mark_self, touch_met, touch_apart}
use Rattle.ranges_tracker.proofs.Cutting.{Lined, lined_cells}
use Rattle.ranges_tracker.proofs.Merging.{Of, of_lives, of_gone}
use Rattle.ranges_tracker.proofs.Placing.{Rising, rising_cells}
use Rattle.ranges_tracker.proofs.Forms.{up_to_past}

-- changes that one does not go on with
abbrev pub MeetsNone : Change → List Change → Type 0
MeetsNone c [] = Unit {0}
MeetsNone c (d ∷ ds) = (meets c d ≡ false) × MeetsNone c ds

grown_past : (c : Change) (xs ys : List Change) → MeetsNone c xs → grown c (xs ++ ys) ≡ grown c ys
grown_past c [] ys h = refl
grown_past c (x ∷ xs) ys h = cond-false (meets c x) (fused c x) (grown c (xs ++ ys)) h.0 ∙ grown_past c xs ys h.1

others_past : (c : Change) (xs ys : List Change) → MeetsNone c xs → others c (xs ++ ys) ≡ xs ++ others c ys
others_past c [] ys h = refl
others_past c (x ∷ xs) ys h = cond-false (meets c x) (xs ++ ys) (x ∷ others c (xs ++ ys)) h.0 ∙ ap (λ (z : List Change). x ∷ z) (others_past c xs ys h.1)

alone : (c : Change) (xs : List Change) → MeetsNone c xs → in_front c xs ≡ c ∷ xs
alone c xs h = go c xs h
  where
    go : (c : Change) (xs : List Change) → MeetsNone c xs → in_front c xs ≡ c ∷ xs
    go c xs h = ap₂ (λ (x : Change) (y : List Change). x ∷ y) (one xs h) (rest xs h)
      where
        one : (xs : List Change) → MeetsNone c xs → grown c xs ≡ c
        one [] h = refl
        one (x ∷ xs) h = cond-false (meets c x) (fused c x) (grown c xs) h.0 ∙ one xs h.1

        rest : (xs : List Change) → MeetsNone c xs → others c xs ≡ xs
        rest [] h = refl
        rest (x ∷ xs) h = cond-false (meets c x) xs (x ∷ others c xs) h.0 ∙ ap (λ (z : List Change). x ∷ z) (rest xs h.1)

none_append : (c : Change) (xs ys : List Change) → MeetsNone c xs → MeetsNone c ys → MeetsNone c (xs ++ ys)
none_append c [] ys h k = k
none_append c (x ∷ xs) ys h k = (h.0, none_append c xs ys h.1 k)

none_either : (b : Bool) (c : Change) (xs ys : List Change) → MeetsNone c xs → MeetsNone c ys → MeetsNone c (if b then xs else ys)
none_either true c xs ys h k = h
none_either false c xs ys h k = k

none_up_to : (at : ℕ) (c : Change) (ds : List Change) → MeetsNone c ds → MeetsNone c (up_to at ds)
none_up_to at c [] h = tt
none_up_to at c (d ∷ ds) h = none_either (nat_le d.at at) c (d ∷ up_to at ds) [] (h.0, none_up_to at c ds h.1) tt

none_beyond : (at : ℕ) (c : Change) (ds : List Change) → MeetsNone c ds → MeetsNone c (past at ds)
none_beyond at c [] h = tt
none_beyond at c (d ∷ ds) h = none_either (nat_le d.at at) c (past at ds) (d ∷ ds) (none_beyond at c ds h.1) h

none_merged : (c : Change) (is ds : List Change) → MeetsNone c is → MeetsNone c ds → MeetsNone c (merged is ds)
none_merged c [] ds h k = k
none_merged c (i ∷ is) ds h k = none_append c (up_to i.at ds) (i ∷ merged is (past i.at ds)) (none_up_to i.at c ds k) (h.0, none_merged c is (past i.at ds) h.1 (none_beyond i.at c ds k))

-- an insert doesn't meet deletes, nor a delete inserts
insert_meets : (c : Change) (ds : List Change) → c.kind ≡ Inserted → Of Deleted ds → MeetsNone c ds
insert_meets c [] e h = tt
insert_meets c (d ∷ ds) e h = (ap₂ (λ (x y : ChangeKind). same_kind x y && ((reach c == d.at) && same_mark (mark_of c) (mark_of d))) e h.0, insert_meets c ds e h.1)

delete_meets : (c : Change) (is : List Change) → c.kind ≡ Deleted → Of Inserted is → MeetsNone c is
delete_meets c [] e h = tt
delete_meets c (i ∷ is) e h = (ap₂ (λ (x y : ChangeKind). same_kind x y && ((reach c == i.at) && same_mark (mark_of c) (mark_of i))) e h.0, delete_meets c is e h.1)

-- inserts further on don't meet one
far_apart : (c d : Change) → reach c < d.at → meets c d ≡ false
far_apart c d lt = and_right (same_kind c.kind d.kind) ((reach c == d.at) && same_mark (mark_of c) (mark_of d)) (ap (λ (b : Bool). b && same_mark (mark_of c) (mark_of d)) (ne_eqb (reach c) d.at (λ e. omega (arith, lt, e))))

far_meets : (c : Change) (q : ℕ) (is : List Change) → reach c < q → Lined q is → MeetsNone c is
far_meets c q [] lt h = tt
far_meets c q (i ∷ is) lt h = (far_apart c i (omega (arith, lt, h.0)), far_meets c (i.at + length i.text) is (omega (arith, lt, h.0)) h.2)

-- deletes past a place
up_to_none : (at : ℕ) (ds : List Change) → Rising (at + 1) ds → up_to at ds ≡ []
up_to_none at [] h = refl
up_to_none at (d ∷ ds) h = cond-false (nat_le d.at at) (d ∷ up_to at ds) [] (lt-leb d.at at (omega (arith, h.0)))

past_all : (at : ℕ) (ds : List Change) → Rising (at + 1) ds → past at ds ≡ ds
past_all at [] h = refl
past_all at (d ∷ ds) h = cond-false (nat_le d.at at) (past at ds) (d ∷ ds) (lt-leb d.at at (omega (arith, h.0)))

-- up to one place and then up to a further one
up_to_on : (a b : ℕ) (ds : List Change) → a ≤ b → up_to a ds ++ up_to b (past a ds) ≡ up_to b ds
up_to_on a b [] le = refl
up_to_on a b (d ∷ ds) le = ⊎_elim {C = up_to a (d ∷ ds) ++ up_to b (past a (d ∷ ds)) ≡ up_to b (d ∷ ds)}
    (λ t. ap₂ (λ (x y : List Change). x ++ up_to b y) (cond-true (nat_le d.at a) (d ∷ up_to a ds) [] t) (cond-true (nat_le d.at a) (past a ds) (d ∷ ds) t)
    ∙ ap (λ (x : List Change). d ∷ x) (up_to_on a b ds le) ∙ sym (cond-true (nat_le d.at b) (d ∷ up_to b ds) [] (le-leb d.at b (omega (arith, leb-true d.at a t, le)))))
    (λ t. ap₂ (λ (x y : List Change). x ++ up_to b y) (cond-false (nat_le d.at a) (d ∷ up_to a ds) [] t) (cond-false (nat_le d.at a) (past a ds) (d ∷ ds) t))
    (cases_Bool (nat_le d.at a))

past_on : (a b : ℕ) (ds : List Change) → a ≤ b → past b (past a ds) ≡ past b ds
past_on a b [] le = refl
past_on a b (d ∷ ds) le = ⊎_elim {C = past b (past a (d ∷ ds)) ≡ past b (d ∷ ds)}
    (λ t. ap (past b) (cond-true (nat_le d.at a) (past a ds) (d ∷ ds) t) ∙ past_on a b ds le ∙ sym (cond-true (nat_le d.at b) (past b ds) (d ∷ ds) (le-leb d.at b (omega (arith, leb-true d.at a t, le)))))
    (λ t. ap (past b) (cond-false (nat_le d.at a) (past a ds) (d ∷ ds) t))
    (cases_Bool (nat_le d.at a))

-- deletes before inserts that stand no nearer
merged_on : (a : ℕ) (is ds : List Change) → Lined a is → up_to a ds ++ merged is (past a ds) ≡ merged is ds
merged_on a [] ds h = up_to_past a ds
merged_on a (i ∷ is) ds h =
    sym (append_assoc (up_to a ds) (up_to i.at (past a ds)) (i ∷ merged is (past i.at (past a ds))))
    ∙ ap₂ (λ (x y : List Change). x ++ (i ∷ merged is y)) (up_to_on a i.at ds h.0) (past_on a i.at ds h.0)

lined_less : (a b : ℕ) (gs : List Change) → b ≤ a → Lined a gs → Lined b gs
lined_less a b [] le h = tt
lined_less a b (g ∷ gs) le h = (omega (arith, h.0), h.1, h.2)

-- an insert of one cell in front of the changes behind it
insert_front : (at u : ℕ) (m : Mark) (is ds : List Change) → Of Deleted ds → Rising (at + 1) ds → Lined (at + 1) is → in_front (change Inserted at (u ∷ []) m) (merged is ds) ≡ merged (touch (change Inserted at (u ∷ []) m) is) ds
insert_front at u m [] ds o r l =
    alone (change Inserted at (u ∷ []) m) ds (insert_meets (change Inserted at (u ∷ []) m) ds refl o)
    ∙ sym (ap₂ (λ (x y : List Change). x ++ (change Inserted at (u ∷ []) m ∷ y)) (up_to_none at ds r) (past_all at ds r))
insert_front at u m (i ∷ is) ds o r l =
    let c = change Inserted at (u ∷ []) m in
    let clear : MeetsNone c ds = insert_meets c ds refl o in
    let far : MeetsNone c is = far_meets c (i.at + length i.text) is (omega (arith, l.0, l.1)) l.2 in
    ⊎_elim {C = in_front c (merged (i ∷ is) ds) ≡ merged (touch c (i ∷ is)) ds}
    (λ t. ap₂ (λ (x : Change) (y : List Change). x ∷ y)
    (grown_past c (up_to i.at ds) (i ∷ merged is (past i.at ds)) (none_up_to i.at c ds clear) ∙ cond-true (meets c i) (fused c i) (grown c (merged is (past i.at ds))) t)
    (others_past c (up_to i.at ds) (i ∷ merged is (past i.at ds)) (none_up_to i.at c ds clear) ∙ ap (λ (x : List Change). up_to i.at ds ++ x) (cond-true (meets c i) (merged is (past i.at ds)) (i ∷ others c (merged is (past i.at ds))) t) ∙ merged_on i.at is ds (lined_less (i.at + length i.text) i.at is (omega arith) l.2))
    ∙ sym (ap (λ (x : List Change). merged x ds) (touch_met c i is t) ∙ ap₂ (λ (x y : List Change). x ++ (fused c i ∷ merged is y)) (up_to_none at ds r) (past_all at ds r)))
    (λ t. alone c (merged (i ∷ is) ds) (none_merged c (i ∷ is) ds (t, far) clear)
    ∙ sym (ap (λ (x : List Change). merged x ds) (touch_apart c i is t) ∙ ap₂ (λ (x y : List Change). x ++ (c ∷ merged (i ∷ is) y)) (up_to_none at ds r) (past_all at ds r)))
    (cases_Bool (meets c i))

-- a delete at the first place stands before all inserts
merged_first : (d : Change) (at : ℕ) (is ds : List Change) → d.at ≤ at → Lined at is → merged is (d ∷ ds) ≡ d ∷ merged is ds
merged_first d at [] ds le l = refl
merged_first d at (i ∷ is) ds le l =
    let t : nat_le d.at i.at ≡ true = le-leb d.at i.at (omega (arith, le, l.0)) in
    ap₂ (λ (x y : List Change). x ++ (i ∷ merged is y)) (cond-true (nat_le d.at i.at) (d ∷ up_to i.at ds) [] t) (cond-true (nat_le d.at i.at) (past i.at ds) (d ∷ ds) t)

-- deletes of which one, if it goes on with this one, is the first
abbrev pub MeetsFirst : Change → List Change → Type 0
MeetsFirst c [] = Unit {0}
MeetsFirst c (d ∷ ds) = meets c d ≡ false → MeetsNone c ds

delete_front : (at u : ℕ) (m : Mark) (is ds : List Change) → Of Inserted is → Lined at is → MeetsFirst (change Deleted at (u ∷ []) m) ds → in_front (change Deleted at (u ∷ []) m) (merged is ds) ≡ merged is (touch (change Deleted at (u ∷ []) m) ds)
delete_front at u m is [] o l f =
    let c = change Deleted at (u ∷ []) m in
    alone c (merged is []) (none_merged c is [] (delete_meets c is refl o) tt) ∙ sym (merged_first c at is [] (omega arith) l)
delete_front at u m is (d ∷ ds) o l f =
    let c = change Deleted at (u ∷ []) m in
    let clear : MeetsNone c is = delete_meets c is refl o in
    ⊎_elim {C = in_front c (merged is (d ∷ ds)) ≡ merged is (touch c (d ∷ ds))}
    (λ t. ap (in_front c) (merged_first d at is ds (near t) l)
    ∙ ap₂ (λ (x : Change) (y : List Change). x ∷ y) (cond-true (meets c d) (fused c d) (grown c (merged is ds)) t) (cond-true (meets c d) (merged is ds) (d ∷ others c (merged is ds)) t)
    ∙ sym (ap (merged is) (touch_met c d ds t) ∙ merged_first (fused c d) at is ds (omega arith) l))
    (λ t. alone c (merged is (d ∷ ds)) (none_merged c is (d ∷ ds) clear (t, f t))
    ∙ sym (ap (merged is) (touch_apart c d ds t) ∙ merged_first c at is (d ∷ ds) (omega arith) l))
    (cases_Bool (meets c d))
  where
    near : meets (change Deleted at (u ∷ []) m) d ≡ true → d.at ≤ at
    near t =
        let a = and_parts (same_kind Deleted d.kind) ((at == d.at) && same_mark m (mark_of d)) t in
        let b = and_parts (at == d.at) (same_mark m (mark_of d)) a.1 in
        omega (arith, eqb-true at d.at b.0)

-- the gone cells of a row rise
rising_more : (a b : ℕ) (gs : List GoneUnit) → b ≤ a → RisingGone a gs → RisingGone b gs
rising_more a b [] le h = tt
rising_more a b (g ∷ gs) le h = (omega (arith, h.0), h.1)

pub rising_from : (at : ℕ) (cells : List Cell) → RisingGone at (gone_from at cells)
rising_from at [] = tt
rising_from at (Live u o ∷ cs) = rising_more (at + 1) at (gone_from (at + 1) cs) (omega arith) (rising_from (at + 1) cs)
rising_from at (Gone u m ∷ cs) = (omega arith, rising_from at cs)
rising_from at (Start t ∷ cs) = rising_from at cs
rising_from at (End t ∷ cs) = rising_from at cs

-- neighbours of one mark: a gone cell goes on with the next one only
other_mark : (c d : Change) → same_mark (mark_of d) (mark_of c) ≡ false → meets c d ≡ false
other_mark c d e = and_right (same_kind c.kind d.kind) ((reach c == d.at) && same_mark (mark_of c) (mark_of d)) (and_right (reach c == d.at) (same_mark (mark_of c) (mark_of d)) (⊎_elim {C = same_mark (mark_of c) (mark_of d) ≡ false}
    (λ t. absurd (true≢false (sym (same_mark_self (mark_of d)) ∙ ap (same_mark (mark_of d)) (sym (same_mark_is (mark_of c) (mark_of d) t)) ∙ e)))
    (λ t. t)
    (cases_Bool (same_mark (mark_of c) (mark_of d)))))

none_touch : (c d : Change) (ds : List Change) → meets c d ≡ false → same_mark (mark_of d) (mark_of c) ≡ false → MeetsNone c ds → MeetsNone c (touch d ds)
none_touch c d [] e f h = (e, tt)
none_touch c d (x ∷ xs) e f h = ⊎_elim {C = MeetsNone c (touch d (x ∷ xs))}
    (λ t. subst (λ (z : List Change). MeetsNone c z) (sym (touch_met d x xs t)) (fused_apart, h.1))
    (λ t. subst (λ (z : List Change). MeetsNone c z) (sym (touch_apart d x xs t)) (apart_first, h))
    (cases_Bool (meets d x))
  where
    fused_apart : meets c (fused d x) ≡ false
    fused_apart = other_mark c (fused d x) f

    apart_first : meets c d ≡ false
    apart_first = e

no_gone_meets : (c : Change) (at : ℕ) (cells : List Cell) → list_any (is_gone_of (mark_of c)) cells ≡ false → MeetsNone c (packed (gone_cells (gone_from at cells)))
no_gone_meets c at [] e = tt
no_gone_meets c at (Live u o ∷ cs) e = no_gone_meets c (at + 1) cs e
no_gone_meets c at (Gone u m ∷ cs) e =
    let p = or_parts (same_mark m (mark_of c)) (list_any (is_gone_of (mark_of c)) cs) e in
    none_touch c (change Deleted at (u ∷ []) m) (packed (gone_cells (gone_from at cs))) (other_mark c (change Deleted at (u ∷ []) m) p.0) p.0 (no_gone_meets c at cs p.1)
no_gone_meets c at (Start t ∷ cs) e = no_gone_meets c at cs e
no_gone_meets c at (End t ∷ cs) e = no_gone_meets c at cs e

first_of_none : (c : Change) (ds : List Change) → MeetsNone c ds → MeetsFirst c ds
first_of_none c [] h = tt
first_of_none c (d ∷ ds) h = λ e. h.1

-- a change that meets the first of others
first_touch : (c d : Change) (ds : List Change) → meets c d ≡ true → c.kind ≡ Deleted → MeetsFirst c (touch d ds)
first_touch c d [] e k = λ f. tt
first_touch c d (x ∷ xs) e k = ⊎_elim {C = MeetsFirst c (touch d (x ∷ xs))}
    (λ t. subst (λ (z : List Change). MeetsFirst c z) (sym (touch_met d x xs t)) (λ f. absurd (true≢false (sym e ∙ f))))
    (λ t. subst (λ (z : List Change). MeetsFirst c z) (sym (touch_apart d x xs t)) (λ f. absurd (true≢false (sym e ∙ f))))
    (cases_Bool (meets d x))

gone_first : (at u : ℕ) (m : Mark) (cells : List Cell) → list_any (is_gone_of m) (past_gone m cells) ≡ false → MeetsFirst (change Deleted at (u ∷ []) m) (packed (gone_cells (gone_from at cells)))
gone_first at u m [] e = tt
gone_first at u m (Live v o ∷ cs) e = first_of_none (change Deleted at (u ∷ []) m) (packed (gone_cells (gone_from at (Live v o ∷ cs)))) (no_gone_meets (change Deleted at (u ∷ []) m) at (Live v o ∷ cs) e)
gone_first at u m (Gone v n ∷ cs) e = ⊎_elim {C = MeetsFirst (change Deleted at (u ∷ []) m) (packed (gone_cells (gone_from at (Gone v n ∷ cs))))}
    (λ t. first_touch (change Deleted at (u ∷ []) m) (change Deleted at (v ∷ []) n) (packed (gone_cells (gone_from at cs))) (met t) refl)
    (λ t. first_of_none (change Deleted at (u ∷ []) m) (packed (gone_cells (gone_from at (Gone v n ∷ cs)))) (no_gone_meets (change Deleted at (u ∷ []) m) at (Gone v n ∷ cs) (apart t)))
    (cases_Bool (same_mark n m))
  where
    met : same_mark n m ≡ true → meets (change Deleted at (u ∷ []) m) (change Deleted at (v ∷ []) n) ≡ true
    met t = ap₂ (λ (x y : Bool). x && y) (eq-eqb at at refl) (ap (λ (x : Mark). same_mark m x) (same_mark_is n m t) ∙ same_mark_self m)

    apart : same_mark n m ≡ false → list_any (is_gone_of m) (Gone v n ∷ cs) ≡ false
    apart t = sym (ap (λ (x : List Cell). list_any (is_gone_of m) x) (cond-false (same_mark n m) (past_gone m cs) (Gone v n ∷ cs) t)) ∙ e
gone_first at u m (Start t ∷ cs) e = first_of_none (change Deleted at (u ∷ []) m) (packed (gone_cells (gone_from at (Start t ∷ cs)))) (no_gone_meets (change Deleted at (u ∷ []) m) at (Start t ∷ cs) e)
gone_first at u m (End t ∷ cs) e = first_of_none (change Deleted at (u ∷ []) m) (packed (gone_cells (gone_from at (End t ∷ cs)))) (no_gone_meets (change Deleted at (u ∷ []) m) at (End t ∷ cs) e)

-- the changes of a flat row, where gone cells of one mark are neighbours
pub changes_agree : (at : ℕ) (cells : List Cell) → AreNeighbours cells → flat_changes at cells ≡ merged (packed (live_cells at (lives_of cells))) (packed (gone_cells (gone_from at cells)))
changes_agree at [] h = refl
changes_agree at (Live u None ∷ cs) h = changes_agree (at + 1) cs h
changes_agree at (Live u (Some m) ∷ cs) h =
    ap (in_front (change Inserted at (u ∷ []) m)) (changes_agree (at + 1) cs h)
    ∙ insert_front at u m (packed (live_cells (at + 1) (lives_of cs))) (packed (gone_cells (gone_from (at + 1) cs))) (of_gone (gone_from (at + 1) cs)) (rising_cells (at + 1) (gone_from (at + 1) cs) (rising_from (at + 1) cs)) (lined_cells (at + 1) (lives_of cs))
changes_agree at (Gone u m ∷ cs) h =
    ap (in_front (change Deleted at (u ∷ []) m)) (changes_agree at cs h.1)
    ∙ delete_front at u m (packed (live_cells at (lives_of cs))) (packed (gone_cells (gone_from at cs))) (of_lives at (lives_of cs)) (lined_cells at (lives_of cs)) (gone_first at u m cs h.0)
changes_agree at (Start t ∷ cs) h = changes_agree at cs h
changes_agree at (End t ∷ cs) h = changes_agree at cs h

-- the text of a thread
take_either : (b : Bool) (cs us : List Cell) (c : Cell) → lives_of (c ∷ us) ≡ lives_of us → lives_of us ≡ take (length (lives_of us)) (lives_of cs) → lives_of (cond b [] (c ∷ us)) ≡ take (length (lives_of (cond b [] (c ∷ us)))) (lives_of cs)
take_either true cs us c k e = refl
take_either false cs us c k e = k ∙ e ∙ sym (ap (λ (x : List LiveUnit). take (length x) (lives_of cs)) k)

until_take : (test : Cell → Bool) (cells : List Cell) → ((u : ℕ) (o : Option Mark) → test (Live u o) ≡ false) → lives_of (until test cells) ≡ take (gap_of test cells) (lives_of cells)
until_take test [] f = refl
until_take test (Live u o ∷ cs) f =
    let e : until test (Live u o ∷ cs) ≡ Live u o ∷ until test cs = cond-false (test (Live u o)) [] (Live u o ∷ until test cs) (f u o) in
    ap lives_of e ∙ ap (λ (x : List LiveUnit). record { unit = u; mark = o } ∷ x) (until_take test cs f)
    ∙ sym (ap (λ (x : List Cell). take (length (lives_of x)) (lives_of (Live u o ∷ cs))) e)
until_take test (Gone u m ∷ cs) f = take_either (test (Gone u m)) cs (until test cs) (Gone u m) refl (until_take test cs f)
until_take test (Start t ∷ cs) f = take_either (test (Start t)) cs (until test cs) (Start t) refl (until_take test cs f)
until_take test (End t ∷ cs) f = take_either (test (End t)) cs (until test cs) (End t) refl (until_take test cs f)

-- the live cells between the start and the end of a thread
between_start : (b : Bool) (t s : ℕ) (cs : List Cell) → ((u : ℕ) (o : Option Mark) → is_end t (Live u o) ≡ false) → (list_any (is_start t) (until (is_end t) cs) ≡ true → lives_of (until (is_end t) (past_first (is_start t) cs)) ≡ take (gap_of (is_end t) cs - gap_of (is_start t) cs) (drop (gap_of (is_start t) cs) (lives_of cs))) → (b || list_any (is_start t) (until (is_end t) cs)) ≡ true →
    lives_of (until (is_end t) (if b then cs else past_first (is_start t) cs)) ≡ take (gap_of (is_end t) cs - length (lives_of (if b then [] else Start s ∷ until (is_start t) cs))) (drop (length (lives_of (if b then [] else Start s ∷ until (is_start t) cs))) (lives_of cs))
between_start true t s cs f i h = until_take (is_end t) cs f ∙ ap (λ (n : ℕ). take n (lives_of cs)) (omega arith)
between_start false t s cs f i h = i h

between_end : (b : Bool) (t s : ℕ) (cs : List Cell) → (list_any (is_start t) (until (is_end t) cs) ≡ true → lives_of (until (is_end t) (past_first (is_start t) cs)) ≡ take (gap_of (is_end t) cs - gap_of (is_start t) cs) (drop (gap_of (is_start t) cs) (lives_of cs))) → list_any (is_start t) (if b then [] else End s ∷ until (is_end t) cs) ≡ true →
    lives_of (until (is_end t) (past_first (is_start t) cs)) ≡ take (length (lives_of (if b then [] else End s ∷ until (is_end t) cs)) - gap_of (is_start t) cs) (drop (gap_of (is_start t) cs) (lives_of cs))
between_end true t s cs i h = cc
between_end false t s cs i h = i h

between : (t : ℕ) (cells : List Cell) → list_any (is_start t) (until (is_end t) cells) ≡ true → lives_of (until (is_end t) (past_first (is_start t) cells)) ≡ take (gap_of (is_end t) cells - gap_of (is_start t) cells) (drop (gap_of (is_start t) cells) (lives_of cells))
between t [] h = cc
between t (Live u o ∷ cs) h = between t cs h ∙ ap (λ (n : ℕ). take n (drop (gap_of (is_start t) cs) (lives_of cs))) (omega arith)
between t (Gone u m ∷ cs) h = between t cs h
between t (Start s ∷ cs) h = between_start (s == t) t s cs (λ u o. refl) (between t cs) h
between t (End s ∷ cs) h = between_end (s == t) t s cs (between t cs) h

comment_agrees : (cells : List Cell) (t : ℕ) → list_any (is_start t) (until (is_end t) cells) ≡ true →
    flat_comment cells t ≡ record { thread = t; at = gap_of (is_start t) cells; text = take (gap_of (is_end t) cells - gap_of (is_start t) cells) (drop (gap_of (is_start t) cells) (text_of (lives_of cells))) }
comment_agrees cells t h = ap (λ (x : List ℕ). record { thread = t; at = gap_of (is_start t) cells; text = x })
    (ap text_of (between t cells h) ∙ sym (take-map (λ (l : LiveUnit). l.unit) (gap_of (is_end t) cells - gap_of (is_start t) cells) (drop (gap_of (is_start t) cells) (lives_of cells)))
    ∙ ap (take (gap_of (is_end t) cells - gap_of (is_start t) cells)) (sym (drop-map (λ (l : LiveUnit). l.unit) (gap_of (is_start t) cells) (lives_of cells))))

comments_agree : (cells : List Cell) (ts : List ℕ) → All (IsThread cells) ts → map (flat_comment cells) ts ≡ shown_comments (record { lives = lives_of cells; gone = []; threads = map (thread_of cells) ts })
comments_agree cells [] h = refl
comments_agree cells (t ∷ ts) h =
    let one : IsThread cells t = All-head (IsThread cells) t ts h in
    ap₂ (λ (x : Comment) (xs : List Comment). x ∷ xs) (comment_agrees cells t one.in_order) (comments_agree cells ts (All-tail (IsThread cells) t ts h))

-- a well-formed flat row shows what its coordinates show
pub shown_agree : (row : FlatRow) → IsWellFormedFlat row → flat_shown row ≡ shown (row_of row)
shown_agree row h = ap₂ (λ (x : List Change) (y : List Comment). (x, y)) (changes_agree 0 row.cells h.neighbours) (comments_agree row.cells row.threads h.threads)
