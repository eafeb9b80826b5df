-- A row of which ranges of the kept form are what is shown.
use Rattle.std.proofs.Common.{◌≡◌, ℕ, suc, ◌+◌, ◌<◌, ◌≤◌, Bool, true, false, List, [], ◌∷◌, ◌++◌, refl, ap, ap₂, sym, ◌∙◌, length, arith, length-append, map, take, drop, Option, Some, None, subst, ⊎_elim, ◌⊎◌, inl, inr, take-append-drop}
use Rattle.std.specs.Prelude.{◌&&◌, nat_lt, filter, if◌then◌else◌}
use Rattle.std.proofs.lemmas.Bool.{cases_Bool, cases_lt, le-leb, lt-leb, lt-ltb, eq-eqb}
use Rattle.std.proofs.lemmas.List.{length-map, length-take-le}
use Rattle.ot_op.specs.Apply.{stands}
use Rattle.ranges_tracker.specs.Cells.{Mark, Live, Gone, Thread, Row, same_mark, gone_at, text_of}
use Rattle.ranges_tracker.specs.declared.change.Change.{Change}
use Rattle.ranges_tracker.specs.declared.change.ChangeKind.{ChangeKind}
use Rattle.ranges_tracker.specs.declared.change.ChangeKind.TheVariants.{Inserted, Deleted}
use Rattle.ranges_tracker.specs.declared.comment.Comment.{Comment}
use Rattle.ranges_tracker.specs.Shown.{change, mark_of, same_kind, meets, touch, packed, live_cell, live_cells, gone_cells, up_to, past, merged}
use Rattle.ranges_tracker.specs.Commented.{comment_of}
use Rattle.ranges_tracker.specs.Tracked.{mark_over, new_delete, inserts_of, deletes_of}
use Rattle.ranges_tracker.specs.Steady.{GapsWithin, RisingGone, Within, NoMark, Distinct}
use Rattle.ranges_tracker.specs.WellFormed.{NotListed, ListedOnce, OnLive, OnGone, OnRow, same_id, IsWellFormed}
use Rattle.ranges_tracker.specs.Agree.{IsBehind, first_behind, IdsDiffer, StandsAs, StandsIn, ThreadsDiffer, IsKeptForm, Agree}
use Rattle.ranges_tracker.proofs.Packing.{same_mark_is, same_mark_self, touch_met, touch_apart, packed_parts, packed_twice}
use Rattle.ranges_tracker.proofs.Cutting.{Lined, over_none, cell}
use Rattle.ranges_tracker.proofs.Placing.{Rising}
use Rattle.ranges_tracker.proofs.Deleting.{one_block, gone_cells-append, new_rising}
use Rattle.ranges_tracker.proofs.Merging.{Of}
use Rattle.ranges_tracker.proofs.Commenting.{shown_on}
use Rattle.ranges_tracker.proofs.Stepping.{Stands, stands_of}
use Rattle.ranges_tracker.proofs.Marks.{same_id_turned, HasMark, lives_has, gone_has, meets_mark, lives_together, gone_together}
use Rattle.ranges_tracker.proofs.Forms.{Each, Pairs, all_each, all_pairs, each_weaker, each_both, each_filter, pairs_filter}
use Rattle.ranges_tracker.proofs.Walking.{over_past}
use Rattle.ranges_tracker.proofs.Formed.{Here, of_each}

-- inserts and deletes of changes in order
keep_kind : (j : ChangeKind) (c : Change) (cs : List Change) → c.kind ≡ j → (k : ChangeKind) → filter (λ (x : Change). same_kind x.kind k) (c ∷ cs) ≡ (if same_kind j k then c ∷ filter (λ (x : Change). same_kind x.kind k) cs else filter (λ (x : Change). same_kind x.kind k) cs)
keep_kind j c cs e k = ap (λ (x : ChangeKind). if same_kind x k then c ∷ filter (λ (y : Change). same_kind y.kind k) cs else filter (λ (y : Change). same_kind y.kind k) cs) e

merged_delete : (c : Change) (is ds : List Change) → Each (λ (i : Change). c.at ≤ i.at) is → merged is (c ∷ ds) ≡ c ∷ merged is ds
merged_delete c [] ds h = refl
merged_delete c (i ∷ is) ds h = rw (le-leb c.at i.at h.0) refl

none_up_to : (at : ℕ) (ds : List Change) → Each (λ (d : Change). at < d.at) ds → (up_to at ds ≡ []) × (past at ds ≡ ds)
none_up_to at [] h = (refl, refl)
none_up_to at (d ∷ ds) h = (ap (λ (b : Bool). if b then d ∷ up_to at ds else []) (lt-leb d.at at h.0), ap (λ (b : Bool). if b then past at ds else d ∷ ds) (lt-leb d.at at h.0))

merged_insert : (c : Change) (is ds : List Change) → Each (λ (d : Change). c.at < d.at) ds → merged (c ∷ is) ds ≡ c ∷ merged is ds
merged_insert c is ds h = let n = none_up_to c.at ds h in ap₂ (λ (us ps : List Change). us ++ (c ∷ merged is ps)) n.0 n.1

of_filter : (k : ChangeKind) (cs : List Change) → Of k (filter (λ (x : Change). same_kind x.kind k) cs)
of_filter k [] = tt
of_filter k (c ∷ cs) = go (cases_Bool (same_kind c.kind k)) (of_filter k cs)
  where
    same : (j l : ChangeKind) → same_kind j l ≡ true → j ≡ l
    same Inserted Inserted e = refl
    same Inserted Deleted e = cc
    same Deleted Inserted e = cc
    same Deleted Deleted e = refl

    go : (same_kind c.kind k ≡ true) ⊎ (same_kind c.kind k ≡ false) → Of k (filter (λ (x : Change). same_kind x.kind k) cs) → Of k (filter (λ (x : Change). same_kind x.kind k) (c ∷ cs))
    go (inl t) h = subst (λ (x : List Change). Of k x) (sym (ap (λ (b : Bool). if b then c ∷ filter (λ (x : Change). same_kind x.kind k) cs else filter (λ (x : Change). same_kind x.kind k) cs) t)) (same c.kind k t, h)
    go (inr f) h = subst (λ (x : List Change). Of k x) (sym (ap (λ (b : Bool). if b then c ∷ filter (λ (x : Change). same_kind x.kind k) cs else filter (λ (x : Change). same_kind x.kind k) cs) f)) h

behind_is : (c d : Change) (j k : ChangeKind) → c.kind ≡ j → d.kind ≡ k → IsBehind c d → first_behind j c.at (length c.text) k ≤ d.at
behind_is c d j k e f h = subst (λ (x : ChangeKind). first_behind j c.at (length c.text) x ≤ d.at) f (subst (λ (x : ChangeKind). first_behind x c.at (length c.text) d.kind ≤ d.at) e h)

split_merged : (cs : List Change) → Pairs IsBehind cs → merged (inserts_of cs) (deletes_of cs) ≡ cs
split_merged [] h = refl
split_merged (c ∷ cs) h = go c.kind refl (split_merged cs h.1)
  where
    later : (k : ChangeKind) → Each (λ (d : Change). IsBehind c d × (d.kind ≡ k)) (filter (λ (x : Change). same_kind x.kind k) cs)
    later k = each_both (IsBehind c) (λ (d : Change). d.kind ≡ k) (λ (d : Change). IsBehind c d × (d.kind ≡ k)) (filter (λ (x : Change). same_kind x.kind k) cs) (λ d x y. (x, y)) (each_filter (IsBehind c) (λ (x : Change). same_kind x.kind k) cs h.0) (of_each k (filter (λ (x : Change). same_kind x.kind k) cs) (of_filter k cs))

    go : (j : ChangeKind) → c.kind ≡ j → merged (inserts_of cs) (deletes_of cs) ≡ cs → merged (inserts_of (c ∷ cs)) (deletes_of (c ∷ cs)) ≡ c ∷ cs
    go Deleted e rest =
        ap₂ merged (keep_kind Deleted c cs e Inserted) (keep_kind Deleted c cs e Deleted)
        ∙ merged_delete c (inserts_of cs) (deletes_of cs) (each_weaker (λ (d : Change). IsBehind c d × (d.kind ≡ Inserted)) (λ (d : Change). c.at ≤ d.at) (inserts_of cs) (λ d x. behind_is c d Deleted Inserted e x.1 x.0) (later Inserted))
        ∙ ap (λ (x : List Change). c ∷ x) rest
    go Inserted e rest =
        ap₂ merged (keep_kind Inserted c cs e Inserted) (keep_kind Inserted c cs e Deleted)
        ∙ merged_insert c (inserts_of cs) (deletes_of cs) (each_weaker (λ (d : Change). IsBehind c d × (d.kind ≡ Deleted)) (λ (d : Change). c.at < d.at) (deletes_of cs) (λ d x. let le : c.at + 1 ≤ d.at = behind_is c d Inserted Deleted e x.1 x.0 in omega arith) (later Deleted))
        ∙ ap (λ (x : List Change). c ∷ x) rest

lined_of : (a : ℕ) (is : List Change) → Each (λ (c : Change). a ≤ c.at) is → Pairs IsBehind is → Of Inserted is → Each (λ (c : Change). 0 < length c.text) is → Lined a is
lined_of a [] h p o f = tt
lined_of a (c ∷ cs) h p o f = (h.0, f.0, lined_of (c.at + length c.text) cs (each_both (IsBehind c) (λ (d : Change). d.kind ≡ Inserted) (λ (d : Change). c.at + length c.text ≤ d.at) cs (λ d b e. behind_is c d Inserted Inserted o.0 e b) p.0 (of_each Inserted cs o.1)) p.1 o.1 f.1)

rising_of : (a : ℕ) (ds : List Change) → Each (λ (c : Change). a ≤ c.at) ds → Pairs IsBehind ds → Of Deleted ds → Rising a ds
rising_of a [] h p o = tt
rising_of a (c ∷ cs) h p o = (h.0, rising_of c.at cs (each_both (IsBehind c) (λ (d : Change). d.kind ≡ Deleted) (λ (d : Change). c.at ≤ d.at) cs (λ d b e. behind_is c d Deleted Deleted o.0 e b) p.0 (of_each Deleted cs o.1)) p.1 o.1)

any_place : (cs : List Change) → Each (λ (c : Change). 0 ≤ c.at) cs
any_place [] = tt
any_place (c ∷ cs) = (omega arith, any_place cs)

-- ids that differ are marks that differ
same_id_self : (m : Mark) → same_id m m ≡ true
same_id_self m = rw (eq-eqb m.version m.version refl, eq-eqb m.k m.k refl) refl

marks_differ : (c d : Change) → IdsDiffer c d → same_mark (mark_of c) (mark_of d) ≡ false
marks_differ c d h = go (cases_Bool (same_mark (mark_of c) (mark_of d)))
  where
    go : (same_mark (mark_of c) (mark_of d) ≡ true) ⊎ (same_mark (mark_of c) (mark_of d) ≡ false) → same_mark (mark_of c) (mark_of d) ≡ false
    go (inl t) = let s : same_id (mark_of c) (mark_of d) ≡ true = ap (same_id (mark_of c)) (sym (same_mark_is (mark_of c) (mark_of d) t)) ∙ same_id_self (mark_of c) in cc
    go (inr f) = f

no_mark_of : (c : Change) (cs : List Change) → Each (IdsDiffer c) cs → NoMark (mark_of c) cs
no_mark_of c [] h = tt
no_mark_of c (d ∷ ds) h = (marks_differ c d h.0, no_mark_of c ds h.1)

distinct_of : (cs : List Change) → Pairs IdsDiffer cs → Distinct cs
distinct_of [] h = tt
distinct_of (c ∷ cs) h = (no_mark_of c cs h.0, distinct_of cs h.1)

one_of : (c : Change) (cs : List Change) (n : Mark) → Each (IdsDiffer c) cs → HasMark n cs → same_id (mark_of c) n ≡ true → ⊥
one_of c [] n h on t = on
one_of c (d ∷ ds) n h (inl e) t = let f : same_id (mark_of c) n ≡ false = ap (same_id (mark_of c)) (sym e) ∙ h.0 in cc
one_of c (d ∷ ds) n h (inr on) t = one_of c ds n h.1 on t

one_mark : (cs : List Change) → Pairs IdsDiffer cs → (m n : Mark) → HasMark m cs → HasMark n cs → same_id m n ≡ true → m ≡ n
one_mark [] h m n on on2 t = absurd on
one_mark (c ∷ cs) h m n (inl e) (inl f) t = sym e ∙ f
one_mark (c ∷ cs) h m n (inl e) (inr on2) t = absurd (one_of c cs n h.0 on2 (ap (λ (x : Mark). same_id x n) e ∙ t))
one_mark (c ∷ cs) h m n (inr on) (inl f) t = absurd (one_of c cs m h.0 on (ap (λ (x : Mark). same_id x m) f ∙ same_id_turned m n t))
one_mark (c ∷ cs) h m n (inr on) (inr on2) t = one_mark cs h.1 m n on on2 t

has_filter : (test : Change → Bool) (m : Mark) (cs : List Change) → HasMark m (filter test cs) → HasMark m cs
has_filter test m [] on = on
has_filter test m (c ∷ cs) on = go (cases_Bool (test c)) (has_filter test m cs)
  where
    hit : (mark_of c ≡ m) ⊎ HasMark m (filter test cs) → (HasMark m (filter test cs) → HasMark m cs) → HasMark m (c ∷ cs)
    hit (inl e) f = inl e
    hit (inr k) f = inr (f k)

    go : (test c ≡ true) ⊎ (test c ≡ false) → (HasMark m (filter test cs) → HasMark m cs) → HasMark m (c ∷ cs)
    go (inl t) f = hit (subst (λ (x : List Change). HasMark m x) (ap (λ (b : Bool). if b then c ∷ filter test cs else filter test cs) t) on) f
    go (inr e) f = inr (f (subst (λ (x : List Change). HasMark m x) (ap (λ (b : Bool). if b then c ∷ filter test cs else filter test cs) e) on))

-- no mark is both on an insert and on a delete
kinds_apart : (cs : List Change) → Pairs IdsDiffer cs → (m : Mark) → HasMark m (inserts_of cs) → HasMark m (deletes_of cs) → ⊥
kinds_apart [] h m on on2 = on
kinds_apart (c ∷ cs) h m on on2 = go c.kind refl (kinds_apart cs h.1 m)
  where
    head_off : (test : Change → Bool) → mark_of c ≡ m → HasMark m (filter test cs) → ⊥
    head_off test e k = one_of c cs m h.0 (has_filter test m cs k) (ap (λ (x : Mark). same_id x m) e ∙ same_id_self m)

    first : (test : Change → Bool) → (mark_of c ≡ m) ⊎ HasMark m (inserts_of cs) → HasMark m (deletes_of cs) → (HasMark m (inserts_of cs) → HasMark m (deletes_of cs) → ⊥) → ⊥
    first test (inl e) k f = head_off (λ (x : Change). same_kind x.kind Deleted) e k
    first test (inr k) l f = f k l

    second : HasMark m (inserts_of cs) → (mark_of c ≡ m) ⊎ HasMark m (deletes_of cs) → (HasMark m (inserts_of cs) → HasMark m (deletes_of cs) → ⊥) → ⊥
    second k (inl e) f = head_off (λ (x : Change). same_kind x.kind Inserted) e k
    second k (inr l) f = f k l

    go : (j : ChangeKind) → c.kind ≡ j → (HasMark m (inserts_of cs) → HasMark m (deletes_of cs) → ⊥) → ⊥
    go Inserted e f = first (λ x. true) (subst (λ (x : List Change). HasMark m x) (keep_kind Inserted c cs e Inserted) on) (subst (λ (x : List Change). HasMark m x) (keep_kind Inserted c cs e Deleted) on2) f
    go Deleted e f = second (subst (λ (x : List Change). HasMark m x) (keep_kind Deleted c cs e Inserted) on) (subst (λ (x : List Change). HasMark m x) (keep_kind Deleted c cs e Deleted) on2) f

-- the live cells of a text under inserts
abbrev pub lives_under : ℕ → List ℕ → List Change → List Live
lives_under at [] is = []
lives_under at (u ∷ us) is = record { unit = u; mark = mark_over at is } ∷ lives_under (at + 1) us is

lives_text : (at : ℕ) (us : List ℕ) (is : List Change) → text_of (lives_under at us is) ≡ us
lives_text at [] is = refl
lives_text at (u ∷ us) is = ap (λ (x : List ℕ). u ∷ x) (lives_text (at + 1) us is)

lives_same : (at : ℕ) (us : List ℕ) (xs ys : List Change) → ((i : ℕ) → at ≤ i → mark_over i xs ≡ mark_over i ys) → lives_under at us xs ≡ lives_under at us ys
lives_same at [] xs ys f = refl
lives_same at (u ∷ us) xs ys f = ap₂ (λ (o : Option Mark) (ls : List Live). record { unit = u; mark = o } ∷ ls) (f at (omega arith)) (lives_same (at + 1) us xs ys (λ i le. f i (omega arith)))

-- an insert in its parts
normal : (c : Change) (at : ℕ) (text : List ℕ) → c.kind ≡ Inserted → c.at ≡ at → c.text ≡ text → c ≡ change Inserted at text (mark_of c)
normal c at text k a t =
    ap (λ (x : ChangeKind). change x c.at c.text (mark_of c)) k
    ∙ ap (λ (x : ℕ). change Inserted x c.text (mark_of c)) a
    ∙ ap (λ (x : List ℕ). change Inserted at x (mark_of c)) t

here_next : (at u : ℕ) (us : List ℕ) (c : Change) → at < c.at → Here at (u ∷ us) c → Here (at + 1) us c
here_next at u us c lt h = go h.front h.is h.at_is
  where
    go : (front : List ℕ) → u ∷ us ≡ front ++ (c.text ++ h.rest) → c.at ≡ at + length front → Here (at + 1) us c
    go [] e a = absurd (omega (arith, a))
    go (x ∷ xs) e a = record { front = xs; rest = h.rest; is = tails e; at_is = omega (arith, a) }
      where
        tails : u ∷ us ≡ x ∷ (xs ++ (c.text ++ h.rest)) → us ≡ xs ++ (c.text ++ h.rest)
        tails f = cc

-- an insert that begins at a unit
record Begins (u : ℕ) (us : List ℕ) (c : Change) : Type 0 where
  pub more : List ℕ
  pub rest : List ℕ
  pub text_is : c.text ≡ u ∷ more
  pub units_are : us ≡ more ++ rest

begins : (at u : ℕ) (us : List ℕ) (c : Change) → c.at ≡ at → 0 < length c.text → Here at (u ∷ us) c → Begins u us c
begins at u us c a filled h = go h.front c.text refl h.is (omega (arith, a, h.at_is))
  where
    go : (front text : List ℕ) → c.text ≡ text → u ∷ us ≡ front ++ (c.text ++ h.rest) → length front ≡ 0 → Begins u us c
    go (x ∷ xs) text t e n = cc
    go [] [] t e n = absurd (omega (arith, ap length t))
    go [] (v ∷ vs) t e n = both (e ∙ ap (λ (x : List ℕ). x ++ h.rest) t)
      where
        both : u ∷ us ≡ v ∷ (vs ++ h.rest) → Begins u us c
        both f = let same : v ≡ u = cc in record { more = vs; rest = h.rest; text_is = t ∙ ap (λ (x : ℕ). x ∷ vs) same; units_are = cc }

-- what is left to show of one unit
over_first : (at : ℕ) (c : Change) (cs : List Change) → c.at ≡ at → 0 < length c.text → mark_over at (c ∷ cs) ≡ Some (mark_of c)
over_first at c cs a f = rw (le-leb c.at at (omega (arith, a)), lt-ltb at (c.at + length c.text) (omega (arith, a))) refl

over_shorter : (i at u : ℕ) (more : List ℕ) (m : Mark) (cs : List Change) → at + 1 ≤ i → mark_over i (change Inserted at (u ∷ more) m ∷ cs) ≡ mark_over i (change Inserted (at + 1) more m ∷ cs)
over_shorter i at u more m cs le =
    let n : at + length (u ∷ more) ≡ at + 1 + length more = omega arith in
    ap₂ (λ (a : Bool) (b : ℕ). if a && nat_lt i b then Some m else mark_over i cs) (le-leb at i (omega arith) ∙ sym (le-leb (at + 1) i le)) n

touch_alone : (c : Change) (cs : List Change) → NoMark (mark_of c) cs → touch c cs ≡ c ∷ cs
touch_alone c [] h = refl
touch_alone c (d ∷ ds) h = touch_apart c d ds (apart (cases_Bool (meets c d)))
  where
    apart : (meets c d ≡ true) ⊎ (meets c d ≡ false) → meets c d ≡ false
    apart (inl t) = let same : same_mark (mark_of c) (mark_of d) ≡ true = ap (same_mark (mark_of c)) (sym (meets_mark c d t)) ∙ same_mark_self (mark_of c) in cc
    apart (inr f) = f

grow : (at u v : ℕ) (more : List ℕ) (m : Mark) (cs : List Change) → touch (cell at u m) (change Inserted (at + 1) (v ∷ more) m ∷ cs) ≡ change Inserted at (u ∷ v ∷ more) m ∷ cs
grow at u v more m cs = touch_met (cell at u m) (change Inserted (at + 1) (v ∷ more) m) cs (ap₂ (λ (x y : Bool). x && y) (eq-eqb (at + 1) (at + 1) refl) (same_mark_self m))

cell_mark : (at u : ℕ) (o p : Option Mark) (cs : List Change) → o ≡ p → packed (live_cell at u o ++ cs) ≡ packed (live_cell at u p ++ cs)
cell_mark at u o p cs e = ap (λ (x : Option Mark). packed (live_cell at u x ++ cs)) e

-- the cells under inserts show them
record Under (at : ℕ) (us : List ℕ) (is : List Change) : Type 0 where
  pub lined : Lined at is
  pub kinds : Of Inserted is
  pub here : Each (Here at us) is
  pub distinct : Distinct is

above_lined : (at a : ℕ) (cs : List Change) → at < a → Lined a cs → Each (λ (c : Change). at < c.at) cs
above_lined at a [] lt h = tt
above_lined at a (c ∷ cs) lt h = (omega (arith, h.0), above_lined at (c.at + length c.text) cs (omega (arith, h.0)) h.2)

next_here : (at u : ℕ) (us : List ℕ) (cs : List Change) → Each (λ (c : Change). at < c.at) cs → Each (Here at (u ∷ us)) cs → Each (Here (at + 1) us) cs
next_here at u us cs a h = each_both (λ (c : Change). at < c.at) (Here at (u ∷ us)) (Here (at + 1) us) cs (here_next at u us) a h

no_here : (at : ℕ) (c : Change) → 0 < length c.text → Here at [] c → ⊥
no_here at c f h = let n : length (h.front ++ (c.text ++ h.rest)) ≡ 0 = ap length (sym h.is) in omega (arith, n, length-append h.front (c.text ++ h.rest), length-append c.text h.rest)

from_place : (at a : ℕ) (cs : List Change) → a ≤ at → Lined at cs → Lined a cs
from_place at a [] le h = tt
from_place at a (c ∷ cs) le h = (omega (arith, h.0), h.1, h.2)

step_later : (at u : ℕ) (us : List ℕ) (c : Change) (cs : List Change) → at < c.at → Under at (u ∷ us) (c ∷ cs) → Under (at + 1) us (c ∷ cs)
step_later at u us c cs lt h = record { lined = (omega arith, h.lined.1, h.lined.2); kinds = h.kinds; here = next_here at u us (c ∷ cs) (lt, above_lined at (c.at + length c.text) cs (omega arith) h.lined.2) h.here; distinct = h.distinct }

step_over : (at u : ℕ) (us : List ℕ) (c : Change) (cs : List Change) → c.at ≡ at → length c.text ≡ 1 → Under at (u ∷ us) (c ∷ cs) → Under (at + 1) us cs
step_over at u us c cs a n h = record { lined = subst (λ (q : ℕ). Lined q cs) (omega (arith, a, n)) h.lined.2; kinds = h.kinds.1; here = next_here at u us cs (above_lined at (c.at + length c.text) cs (omega (arith, a, n)) h.lined.2) h.here.1; distinct = h.distinct.1 }

step_in : (at u v : ℕ) (us more : List ℕ) (c : Change) (cs : List Change) → c.at ≡ at → c.text ≡ u ∷ v ∷ more → Under at (u ∷ us) (c ∷ cs) → (rest : List ℕ) → us ≡ (v ∷ more) ++ rest → Under (at + 1) us (change Inserted (at + 1) (v ∷ more) (mark_of c) ∷ cs)
step_in at u v us more c cs a t h rest e =
    let n : length c.text ≡ suc (suc (length more)) = ap length t in
    record {
      lined = (omega arith, omega arith, subst (λ (q : ℕ). Lined q cs) (omega (arith, a, n)) h.lined.2);
      kinds = (refl, h.kinds.1);
      here = (record { front = []; rest = rest; is = e; at_is = omega arith }, next_here at u us cs (above_lined at (c.at + length c.text) cs (omega (arith, a, n)) h.lined.2) h.here.1);
      distinct = h.distinct;
    }

under_shown : (at : ℕ) (us : List ℕ) (is : List Change) → Under at us is → packed (live_cells at (lives_under at us is)) ≡ is
under_shown at [] [] h = refl
under_shown at [] (c ∷ cs) h = absurd (no_here at c h.lined.1 h.here.0)
under_shown at (u ∷ us) [] h = under_shown (at + 1) us [] (record { lined = tt; kinds = tt; here = tt; distinct = tt })
under_shown at (u ∷ us) (c ∷ cs) h = ⊎_elim {C = packed (live_cells at (lives_under at (u ∷ us) (c ∷ cs))) ≡ c ∷ cs}
    (λ lt. cell_mark at u (mark_over at (c ∷ cs)) None (live_cells (at + 1) (lives_under (at + 1) us (c ∷ cs))) (over_none at c.at (c ∷ cs) (omega arith, h.lined.1, h.lined.2) lt) ∙ under_shown (at + 1) us (c ∷ cs) (step_later at u us c cs lt h))
    (λ le. let a : c.at ≡ at = omega (arith, h.lined.0) in
    let b : Begins u us c = begins at u us c a h.lined.1 h.here.0 in
    cell_mark at u (mark_over at (c ∷ cs)) (Some (mark_of c)) (live_cells (at + 1) (lives_under (at + 1) us (c ∷ cs))) (over_first at c cs a h.lined.1)
    ∙ at_unit a b.more b.rest b.text_is b.units_are (λ n. under_shown (at + 1) us cs (step_over at u us c cs a n h)) (λ v more t e. under_shown (at + 1) us (change Inserted (at + 1) (v ∷ more) (mark_of c) ∷ cs) (step_in at u v us more c cs a t h b.rest e)))
    (cases_lt at c.at)
  where
    at_unit : c.at ≡ at → (more rest : List ℕ) → c.text ≡ u ∷ more → us ≡ more ++ rest →
        (length c.text ≡ 1 → packed (live_cells (at + 1) (lives_under (at + 1) us cs)) ≡ cs) →
        ((v : ℕ) (vs : List ℕ) → c.text ≡ u ∷ v ∷ vs → us ≡ (v ∷ vs) ++ rest → packed (live_cells (at + 1) (lives_under (at + 1) us (change Inserted (at + 1) (v ∷ vs) (mark_of c) ∷ cs))) ≡ change Inserted (at + 1) (v ∷ vs) (mark_of c) ∷ cs) →
        touch (cell at u (mark_of c)) (packed (live_cells (at + 1) (lives_under (at + 1) us (c ∷ cs)))) ≡ c ∷ cs
    at_unit a [] rest t e last longer =
        let n : length c.text ≡ 1 = ap length t in
        ap (λ (ls : List Live). touch (cell at u (mark_of c)) (packed (live_cells (at + 1) ls))) (lives_same (at + 1) us (c ∷ cs) cs (λ i le. over_past i c cs (omega (arith, a, n))))
        ∙ ap (touch (cell at u (mark_of c))) (last n)
        ∙ touch_alone (cell at u (mark_of c)) cs h.distinct.0
        ∙ ap (λ (x : Change). x ∷ cs) (sym (normal c at (u ∷ []) h.kinds.0 a t))
    at_unit a (v ∷ vs) rest t e last longer =
        let is : c ≡ change Inserted at (u ∷ v ∷ vs) (mark_of c) = normal c at (u ∷ v ∷ vs) h.kinds.0 a t in
        ap (λ (ls : List Live). touch (cell at u (mark_of c)) (packed (live_cells (at + 1) ls)))
        (lives_same (at + 1) us (c ∷ cs) (change Inserted (at + 1) (v ∷ vs) (mark_of c) ∷ cs) (λ i le. ap (λ (x : Change). mark_over i (x ∷ cs)) is ∙ over_shorter i at u (v ∷ vs) (mark_of c) cs le))
        ∙ ap (touch (cell at u (mark_of c))) (longer v vs t e)
        ∙ grow at u v vs (mark_of c) cs
        ∙ ap (λ (x : Change). x ∷ cs) (sym is)

-- the gone cells of deletes
abbrev pub gone_of : List Change → List Gone
gone_of [] = []
gone_of (d ∷ ds) = map (gone_at d.at (mark_of d)) d.text ++ gone_of ds

new_is : (d : Change) → d.kind ≡ Deleted → 0 < length d.text → new_delete d.at d.text (mark_of d) ≡ d ∷ []
new_is d k f = go d.text refl
  where
    go : (text : List ℕ) → d.text ≡ text → new_delete d.at d.text (mark_of d) ≡ d ∷ []
    go [] t = absurd (omega (arith, ap length t))
    go (u ∷ us) t =
        ap (λ (x : List ℕ). new_delete d.at x (mark_of d)) t
        ∙ ap (λ (x : List ℕ). change Deleted d.at x (mark_of d) ∷ []) (sym t)
        ∙ ap (λ (x : ChangeKind). change x d.at d.text (mark_of d) ∷ []) (sym k)

gone_shown : (ds : List Change) → Of Deleted ds → Each (λ (c : Change). 0 < length c.text) ds → Distinct ds → packed (gone_cells (gone_of ds)) ≡ ds
gone_shown [] k f h = refl
gone_shown (d ∷ ds) k f h =
    let rest : packed (gone_cells (gone_of ds)) ≡ ds = gone_shown ds k.1 f.1 h.1 in
    let again : packed ds ≡ ds = ap packed (sym rest) ∙ packed_twice (gone_cells (gone_of ds)) ∙ rest in
    ap packed (gone_cells-append (map (gone_at d.at (mark_of d)) d.text) (gone_of ds))
    ∙ sym (packed_parts (gone_cells (map (gone_at d.at (mark_of d)) d.text)) (gone_cells (gone_of ds)))
    ∙ ap packed (ap₂ (λ (x y : List Change). x ++ y) (one_block d.at d.text (mark_of d) ∙ new_is d k.0 f.0) rest)
    ∙ ap (touch d) again
    ∙ touch_alone d ds h.0

gone_rises : (a : ℕ) (ds : List Change) → Rising a ds → RisingGone a (gone_of ds)
gone_rises a [] h = tt
gone_rises a (d ∷ ds) h = lower (map (gone_at d.at (mark_of d)) d.text ++ gone_of ds) (new_rising d.at (mark_of d) d.text (gone_of ds) (gone_rises d.at ds h.1))
  where
    lower : (gs : List Gone) → RisingGone d.at gs → RisingGone a gs
    lower [] k = tt
    lower (g ∷ gs) k = (omega (arith, k.0, h.0), k.1)

gone_within : (m : ℕ) (ds : List Change) → Each (λ (c : Change). c.at ≤ m) ds → GapsWithin m (gone_of ds)
gone_within m [] h = tt
gone_within m (d ∷ ds) h = put d.text (gone_within m ds h.1)
  where
    put : (us : List ℕ) → GapsWithin m (gone_of ds) → GapsWithin m (map (gone_at d.at (mark_of d)) us ++ gone_of ds)
    put [] k = k
    put (u ∷ us) k = (h.0, put us k)

-- the threads of comments
abbrev pub thread_of : Comment → Thread
thread_of c = record { thread = c.thread; from = c.at; to = c.at + length c.text }

threads_shown : (text : List ℕ) (ms : List Comment) → Each (λ (c : Comment). stands text c.at c.text ≡ true) ms → map (shown_on text) (map thread_of ms) ≡ ms
threads_shown text [] h = refl
threads_shown text (c ∷ cs) h = ap₂ (λ (x : Comment) (xs : List Comment). x ∷ xs) one (threads_shown text cs h.1)
  where
    one : shown_on text (thread_of c) ≡ c
    one =
        let s : Stands text c.at c.text = stands_of text c.at c.text h.0 in
        ap (λ (n : ℕ). comment_of c.thread c.at (take n (drop c.at text))) (omega arith)
        ∙ ap (λ (t : List ℕ). comment_of c.thread c.at t) (sym s.part_is)

threads_within : (text : List ℕ) (ms : List Comment) → Each (λ (c : Comment). stands text c.at c.text ≡ true) ms → Within (length text) (map thread_of ms)
threads_within text [] h = tt
threads_within text (c ∷ cs) h = let s : Stands text c.at c.text = stands_of text c.at c.text h.0 in (omega arith, s.room, threads_within text cs h.1)

not_listed : (c : Comment) (cs : List Comment) → Each (ThreadsDiffer c) cs → NotListed c.thread (map thread_of cs)
not_listed c [] h = tt
not_listed c (d ∷ ds) h = (h.0, not_listed c ds h.1)

listed : (ms : List Comment) → Pairs ThreadsDiffer ms → ListedOnce (map thread_of ms)
listed [] h = tt
listed (c ∷ cs) h = (not_listed c cs h.0, listed cs h.1)

-- inserts stand where they should
insert_here : (text : List ℕ) (c : Change) → StandsIn text c → c.kind ≡ Inserted → Here 0 text c
insert_here text c h e =
    let s : Stands text c.at c.text = stands_of text c.at c.text (subst (λ (k : ChangeKind). StandsAs text k c.at c.text) e h) in
    let n : length (take c.at text) ≡ c.at = length-take-le c.at text (omega (arith, s.room)) in
    record {
      front = take c.at text;
      rest = drop (length c.text) (drop c.at text);
      is = sym (take-append-drop c.at text) ∙ ap (λ (x : List ℕ). take c.at text ++ x) (sym (take-append-drop (length c.text) (drop c.at text)) ∙ ap (λ (x : List ℕ). x ++ drop (length c.text) (drop c.at text)) (sym s.part_is));
      at_is = omega (arith, n);
    }

-- the row
abbrev pub row_under : List ℕ → List Change → List Comment → Row
row_under text cs ms = record { lives = lives_under 0 text (inserts_of cs); gone = gone_of (deletes_of cs); threads = map thread_of ms }

record Rebuilt (text : List ℕ) (cs : List Change) (ms : List Comment) : Type 0 where
  pub inserts : packed (live_cells 0 (lives_under 0 text (inserts_of cs))) ≡ inserts_of cs
  pub deletes : packed (gone_cells (gone_of (deletes_of cs))) ≡ deletes_of cs
  pub order : merged (inserts_of cs) (deletes_of cs) ≡ cs
  pub comments : map (shown_on text) (map thread_of ms) ≡ ms
  pub rises : RisingGone 0 (gone_of (deletes_of cs))
  pub gaps : GapsWithin (length text) (gone_of (deletes_of cs))

rebuilt : (text : List ℕ) (cs : List Change) (ms : List Comment) → IsKeptForm (cs, ms) text → Rebuilt text cs ms
rebuilt text cs ms h =
    let is = inserts_of cs in
    let ds = deletes_of cs in
    let filled : Each (λ (c : Change). 0 < length c.text) cs = all_each (λ (c : Change). 0 < length c.text) cs h.filled in
    let behind : Pairs IsBehind cs = all_pairs IsBehind cs h.places in
    let ids : Pairs IdsDiffer cs = all_pairs IdsDiffer cs h.ids in
    let standing : Each (StandsIn text) cs = all_each (StandsIn text) cs h.changes in
    let ins : Change → Bool = λ (x : Change). same_kind x.kind Inserted in
    let del : Change → Bool = λ (x : Change). same_kind x.kind Deleted in
    let oi : Of Inserted is = of_filter Inserted cs in
    let od : Of Deleted ds = of_filter Deleted cs in
    let lined : Lined 0 is = lined_of 0 is (any_place is) (pairs_filter IsBehind ins cs behind) oi (each_filter (λ (c : Change). 0 < length c.text) ins cs filled) in
    let rising : Rising 0 ds = rising_of 0 ds (any_place ds) (pairs_filter IsBehind del cs behind) od in
    record {
      inserts = under_shown 0 text is (record { lined = lined; kinds = oi; here = each_both (StandsIn text) (λ (c : Change). c.kind ≡ Inserted) (Here 0 text) is (insert_here text) (each_filter (StandsIn text) ins cs standing) (of_each Inserted is oi); distinct = distinct_of is (pairs_filter IdsDiffer ins cs ids) });
      deletes = gone_shown ds od (each_filter (λ (c : Change). 0 < length c.text) del cs filled) (distinct_of ds (pairs_filter IdsDiffer del cs ids));
      order = split_merged cs behind;
      comments = threads_shown text ms (all_each (λ (c : Comment). stands text c.at c.text ≡ true) ms h.comments);
      rises = gone_rises 0 ds rising;
      gaps = gone_within (length text) ds (each_both (StandsIn text) (λ (c : Change). c.kind ≡ Deleted) (λ (c : Change). c.at ≤ length text) ds (λ c s e. subst (λ (k : ChangeKind). StandsAs text k c.at c.text) e s) (each_filter (StandsIn text) del cs standing) (of_each Deleted ds od));
    }

well_rebuilt : (text : List ℕ) (cs : List Change) (ms : List Comment) → IsKeptForm (cs, ms) text → Rebuilt text cs ms → IsWellFormed (row_under text cs ms)
well_rebuilt text cs ms h r = record {
  listed = listed ms (all_pairs ThreadsDiffer ms h.threads);
  threads = subst (λ (n : ℕ). Within n (map thread_of ms)) long (threads_within text ms (all_each (λ (c : Comment). stands text c.at c.text ≡ true) ms h.comments));
  rises = r.rises;
  gaps = subst (λ (n : ℕ). GapsWithin n (gone_of (deletes_of cs))) long r.gaps;
  ids = λ m n on on2 t. one_mark cs ids m n (on_row m on) (on_row n on2) t;
  lives = lives_together 0 (lives_under 0 text (inserts_of cs)) (subst (λ (x : List Change). Distinct x) (sym r.inserts) (distinct_of (inserts_of cs) (pairs_filter IdsDiffer (λ (x : Change). same_kind x.kind Inserted) cs ids)));
  gone = gone_together (gone_of (deletes_of cs)) (subst (λ (x : List Change). Distinct x) (sym r.deletes) (distinct_of (deletes_of cs) (pairs_filter IdsDiffer (λ (x : Change). same_kind x.kind Deleted) cs ids)));
  apart = λ m g l. kinds_apart cs ids m (on_lives m l) (on_gone m g);
}
  where
    ids : Pairs IdsDiffer cs
    ids = all_pairs IdsDiffer cs h.ids

    long : length text ≡ length (lives_under 0 text (inserts_of cs))
    long = ap length (sym (lives_text 0 text (inserts_of cs))) ∙ length-map (lives_under 0 text (inserts_of cs)) (λ (l : Live). l.unit)

    on_lives : (m : Mark) → OnLive m (lives_under 0 text (inserts_of cs)) → HasMark m (inserts_of cs)
    on_lives m on = subst (λ (x : List Change). HasMark m x) r.inserts (lives_has m 0 (lives_under 0 text (inserts_of cs)) on)

    on_gone : (m : Mark) → OnGone m (gone_of (deletes_of cs)) → HasMark m (deletes_of cs)
    on_gone m on = subst (λ (x : List Change). HasMark m x) r.deletes (gone_has m (gone_of (deletes_of cs)) on)

    on_row : (m : Mark) → OnRow m (row_under text cs ms) → HasMark m cs
    on_row m (inl on) = has_filter (λ (x : Change). same_kind x.kind Inserted) m cs (on_lives m on)
    on_row m (inr on) = has_filter (λ (x : Change). same_kind x.kind Deleted) m cs (on_gone m on)

pub form_agree : (ranges : List Change × List Comment) (text : List ℕ) → IsKeptForm ranges text → Agree ranges text
form_agree ranges text h =
    let cs = ranges.0 in
    let ms = ranges.1 in
    let r : Rebuilt text cs ms = rebuilt text cs ms h in
    let t : text_of (lives_under 0 text (inserts_of cs)) ≡ text = lives_text 0 text (inserts_of cs) in
    record {
      row = row_under text cs ms;
      well_formed = well_rebuilt text cs ms h r;
      text_is = t;
      is = ap₂ (λ (x : List Change) (y : List Comment). (x, y)) (ap₂ merged r.inserts r.deletes ∙ r.order) (ap (λ (x : List ℕ). map (shown_on x) (map thread_of ms)) t ∙ r.comments);
    }
