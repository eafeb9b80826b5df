-- The marks of a flat row after an insert and a delete.
use Rattle.std.proofs.Common.{◌≡◌, ℕ, ◌+◌, ◌<◌, ◌≤◌, Bool, true, false, List, [], ◌++◌, ap, sym, ◌∙◌, arith, filter, Option, Some, ⊎_elim, ◌⊎◌, inl, inr}
use Rattle.std.specs.Prelude.{not, if◌then◌else◌}
use Rattle.std.specs.List.{list_any}
use Rattle.ranges_tracker.specs.declared.mark.Mark.{Mark}
use Rattle.ranges_tracker.specs.declared.stamp.Stamp.{Stamp}
use Rattle.ranges_tracker.specs.Cells.{mark_at, mark_before, chosen, torn, renewed, fresh_mark, count}
use Rattle.ranges_tracker.specs.declared.mark.Chosen.{Chosen}
use Rattle.flat_cells.specs.Row.{Cell, lives_of, ends_earlier, earlier_ends, without_earlier_ends, grouped}
use Rattle.flat_cells.specs.Step.{remarked_cells, new_cells}
use Rattle.flat_cells.specs.Form.{is_live_of, is_gone_of, is_of, AreOlder}
use Rattle.flat_cells.proofs.Parts.{no_lives}
use Rattle.flat_cells.proofs.Edges.{any_grouped, grouped_lives}
use Rattle.flat_cells.proofs.Inserting.{live_bears, before_bears}
use Rattle.flat_cells.proofs.Deleting.{left_of, left_lives}
use Rattle.flat_cells.proofs.Marks.{clash, any_cases, any_left, any_right, any_more, live_is_of, gone_is_of, Marks, no_gone_new, no_live_in, new_bears, gone_remarked, IsRenewed, live_remarked, IsFresh, chosen_cases}
use Rattle.flat_cells.proofs.Neighbours.{left_gone_of}
use Rattle.std.proofs.lemmas.Option.{same_Some}

-- an older mark isn't fresh
older_not : (cells : List Cell) (stamp : Stamp) (k : ℕ) → AreOlder cells stamp k → (m : Mark) → m.version ≡ stamp.version → k ≤ m.k → list_any (is_of m) cells ≡ true → ⊥
older_not cells stamp k older m v le e = ⊎_elim {C = ⊥} (λ lt. omega (arith, lt, v)) (λ lt. omega (arith, lt.1, le)) (older m e)

-- the new marks of an insert
abbrev pub IsPut : Chosen → Option Mark → Stamp → ℕ → Mark → Type 0
IsPut by old stamp k m = IsFresh by stamp k m ⊎ IsRenewed old stamp (k + by.fresh) m

put_fresh : (by : Chosen) (old : Option Mark) (stamp : Stamp) (k : ℕ) (m : Mark) → IsPut by old stamp k m → (m.version ≡ stamp.version) × (k ≤ m.k) × (m.k < k + by.fresh + count old)
put_fresh by old stamp k m (inl f) = let is : m.k ≡ k = ap (λ (n : Mark). n.k) f.1 in (ap (λ (n : Mark). n.version) f.1, omega (arith, is), omega (arith, is, f.0))
put_fresh by old stamp k m (inr r) =
    let is : m.k ≡ k + by.fresh = ap (λ (n : Mark). n.k) r.mark_is in
    (ap (λ (n : Mark). n.version) r.mark_is, omega (arith, is), omega (arith, is, ap count r.torn_is))

put_one : (by : Chosen) (old : Option Mark) (stamp : Stamp) (k : ℕ) (m n : Mark) → IsPut by old stamp k m → IsPut by old stamp k n → m.k ≡ n.k → m ≡ n
put_one by old stamp k m n (inl f) (inl g) e = f.1 ∙ sym g.1
put_one by old stamp k m n (inl f) (inr r) e = absurd (omega (arith, ap (λ (x : Mark). x.k) f.1, ap (λ (x : Mark). x.k) r.mark_is, f.0, e))
put_one by old stamp k m n (inr r) (inl f) e = absurd (omega (arith, ap (λ (x : Mark). x.k) f.1, ap (λ (x : Mark). x.k) r.mark_is, f.0, e))
put_one by old stamp k m n (inr r) (inr s) e = r.mark_is ∙ ap (λ (x : Mark). renewed x stamp (k + by.fresh)) (same_Some r.old s.old (sym r.torn_is ∙ s.torn_is)) ∙ sym s.mark_is

-- what stands among the late cells of a gap and behind it stands in the row
late_in : (test f : Cell → Bool) (front gap rest : List Cell) → list_any test (filter f gap ++ rest) ≡ true → list_any test (front ++ (gap ++ rest)) ≡ true
late_in test f front gap rest e = any_right test front (gap ++ rest) (⊎_elim {C = list_any test (gap ++ rest) ≡ true} (λ a. any_left test gap rest (any_more test f gap a)) (λ a. any_right test gap rest a) (any_cases test (filter f gap) rest e))

abbrev pub put_cells : List Cell → List Cell → List Cell → List ℕ → Option Mark → Option Mark → Stamp → ℕ → List Cell
put_cells front gap rest us by old stamp j = front ++ (earlier_ends front gap ++ (new_cells us by ++ remarked_cells old stamp j (without_earlier_ends front gap ++ rest)))

pub put_any : (test : Cell → Bool) (front gap rest : List Cell) (us : List ℕ) (by old : Option Mark) (stamp : Stamp) (j : ℕ) → list_any test (new_cells us by) ≡ false → list_any test (remarked_cells old stamp j (without_earlier_ends front gap ++ rest)) ≡ list_any test (without_earlier_ends front gap ++ rest) →
    list_any test (put_cells front gap rest us by old stamp j) ≡ true → list_any test (front ++ (gap ++ rest)) ≡ true
put_any test front gap rest us by old stamp j none same e =
    let late = without_earlier_ends front gap ++ rest in
    ⊎_elim {C = list_any test (front ++ (gap ++ rest)) ≡ true}
    (λ a. any_left test front (gap ++ rest) a)
    (λ x. ⊎_elim {C = list_any test (front ++ (gap ++ rest)) ≡ true}
    (λ a. any_right test front (gap ++ rest) (any_left test gap rest (any_more test (ends_earlier front) gap a)))
    (λ y. ⊎_elim {C = list_any test (front ++ (gap ++ rest)) ≡ true}
    (λ a. clash (list_any test (new_cells us by)) a none)
    (λ a. late_in test (λ (c : Cell). not (ends_earlier front c)) front gap rest (sym same ∙ a))
    (any_cases test (new_cells us by) (remarked_cells old stamp j late) y))
    (any_cases test (earlier_ends front gap) (new_cells us by ++ remarked_cells old stamp j late) x))
    (any_cases test front (earlier_ends front gap ++ (new_cells us by ++ remarked_cells old stamp j late)) e)

put_gone : (front gap rest : List Cell) (us : List ℕ) (by old : Option Mark) (stamp : Stamp) (j : ℕ) → ((n : Mark) → old ≡ Some n → list_any (is_gone_of n) (without_earlier_ends front gap ++ rest) ≡ false) →
    (m : Mark) → list_any (is_gone_of m) (put_cells front gap rest us by old stamp j) ≡ true → list_any (is_gone_of m) (front ++ (gap ++ rest)) ≡ true
put_gone front gap rest us by old stamp j none m e = put_any (is_gone_of m) front gap rest us by old stamp j (no_gone_new m us by) (gone_remarked m old stamp j (without_earlier_ends front gap ++ rest) none) e

put_live : (front gap rest : List Cell) (us : List ℕ) (by old : Option Mark) (stamp : Stamp) (j : ℕ) → lives_of gap ≡ [] → (m : Mark) → list_any (is_live_of m) (put_cells front gap rest us by old stamp j) ≡ true →
    (list_any (is_live_of m) (front ++ (gap ++ rest)) ≡ true) ⊎ ((by ≡ Some m) ⊎ IsRenewed old stamp j m)
put_live front gap rest us by old stamp j none m e =
    let late = without_earlier_ends front gap ++ rest in
    ⊎_elim {C = (list_any (is_live_of m) (front ++ (gap ++ rest)) ≡ true) ⊎ ((by ≡ Some m) ⊎ IsRenewed old stamp j m)}
    (λ a. inl (any_left (is_live_of m) front (gap ++ rest) a))
    (λ x. ⊎_elim {C = (list_any (is_live_of m) (front ++ (gap ++ rest)) ≡ true) ⊎ ((by ≡ Some m) ⊎ IsRenewed old stamp j m)}
    (λ a. clash (list_any (is_live_of m) (earlier_ends front gap)) a (no_live_in m (earlier_ends front gap) (no_lives (ends_earlier front) gap none)))
    (λ y. ⊎_elim {C = (list_any (is_live_of m) (front ++ (gap ++ rest)) ≡ true) ⊎ ((by ≡ Some m) ⊎ IsRenewed old stamp j m)}
    (λ a. inr (inl (new_bears m us by a)))
    (λ a. ⊎_elim {C = (list_any (is_live_of m) (front ++ (gap ++ rest)) ≡ true) ⊎ ((by ≡ Some m) ⊎ IsRenewed old stamp j m)} (λ z. inl (late_in (is_live_of m) (λ (c : Cell). not (ends_earlier front c)) front gap rest z)) (λ z. inr (inr z)) (live_remarked m old stamp j late a))
    (any_cases (is_live_of m) (new_cells us by) (remarked_cells old stamp j late) y))
    (any_cases (is_live_of m) (earlier_ends front gap) (new_cells us by ++ remarked_cells old stamp j late) x))
    (any_cases (is_live_of m) front (earlier_ends front gap ++ (new_cells us by ++ remarked_cells old stamp j late)) e)

pub put_marks : (cells front gap rest : List Cell) (us : List ℕ) (at : ℕ) (stamp : Stamp) (k : ℕ) → front ++ (gap ++ rest) ≡ cells → lives_of gap ≡ [] → AreOlder cells stamp k →
    ((n : Mark) → torn (mark_before (lives_of cells) at) (mark_at (lives_of cells) at) (chosen (mark_before (lives_of cells) at) (mark_at (lives_of cells) at) stamp k).mark ≡ Some n → list_any (is_gone_of n) (without_earlier_ends front gap ++ rest) ≡ false) →
    Marks (IsPut (chosen (mark_before (lives_of cells) at) (mark_at (lives_of cells) at) stamp k) (torn (mark_before (lives_of cells) at) (mark_at (lives_of cells) at) (chosen (mark_before (lives_of cells) at) (mark_at (lives_of cells) at) stamp k).mark) stamp k)
    cells
    (put_cells front gap rest us (chosen (mark_before (lives_of cells) at) (mark_at (lives_of cells) at) stamp k).mark (torn (mark_before (lives_of cells) at) (mark_at (lives_of cells) at) (chosen (mark_before (lives_of cells) at) (mark_at (lives_of cells) at) stamp k).mark) stamp (k + (chosen (mark_before (lives_of cells) at) (mark_at (lives_of cells) at) stamp k).fresh))
    stamp k
    (k + (chosen (mark_before (lives_of cells) at) (mark_at (lives_of cells) at) stamp k).fresh + count (torn (mark_before (lives_of cells) at) (mark_at (lives_of cells) at) (chosen (mark_before (lives_of cells) at) (mark_at (lives_of cells) at) stamp k).mark))
put_marks cells front gap rest us at stamp k whole none older clear =
    let left = mark_before (lives_of cells) at in
    let right = mark_at (lives_of cells) at in
    let by = chosen left right stamp k in
    let old = torn left right by.mark in
    let j = k + by.fresh in
    let gone_was : (m : Mark) → list_any (is_gone_of m) (put_cells front gap rest us by.mark old stamp j) ≡ true → list_any (is_gone_of m) cells ≡ true = λ m e. sym (ap (list_any (is_gone_of m)) whole) ∙ put_gone front gap rest us by.mark old stamp j clear m e in
    record {
      live = λ m e. ⊎_elim {C = (list_any (is_live_of m) cells ≡ true) ⊎ IsPut by old stamp k m}
          (λ a. inl (sym (ap (list_any (is_live_of m)) whole) ∙ a))
          (λ x. ⊎_elim {C = (list_any (is_live_of m) cells ≡ true) ⊎ IsPut by old stamp k m}
          (λ b. ⊎_elim {C = (list_any (is_live_of m) cells ≡ true) ⊎ IsPut by old stamp k m} (λ l. inl (before_bears cells at m l)) (λ y. ⊎_elim {C = (list_any (is_live_of m) cells ≡ true) ⊎ IsPut by old stamp k m} (λ r. inl (live_bears cells at m r)) (λ f. inr (inl f)) y) (chosen_cases left right stamp k m b))
          (λ r. inr (inr r)) x)
          (put_live front gap rest us by.mark old stamp j none m e);
      gone = λ m e. inl (gone_was m e);
      one = put_one by old stamp k;
      fresh = put_fresh by old stamp k;
      apart = λ m n e f. let q = put_fresh by old stamp k m n in older_not cells stamp k older m q.0 q.1 (gone_is_of m cells (gone_was m e));
      more = omega arith;
    }

-- the new mark of a delete
abbrev pub IsCut : Bool → Stamp → ℕ → Mark → Type 0
IsCut b stamp k m = (b ≡ true) × (fresh_mark stamp k ≡ m)

cut_more : (b : Bool) (k : ℕ) → k ≤ (if b then k + 1 else k)
cut_more true k = omega arith
cut_more false k = omega arith

pub cut_marks : (cells front out rest : List Cell) (b : Bool) (stamp : Stamp) (k : ℕ) → front ++ (out ++ rest) ≡ cells → AreOlder cells stamp k →
    Marks (IsCut b stamp k) cells (front ++ (grouped front (left_of b (fresh_mark stamp k) out) ++ rest)) stamp k (if b then k + 1 else k)
cut_marks cells front out rest b stamp k whole older =
    let new = fresh_mark stamp k in
    let left = left_of b new out in
    let live_was : (m : Mark) → list_any (is_live_of m) (front ++ (grouped front left ++ rest)) ≡ true → list_any (is_live_of m) cells ≡ true = λ m e. sym (ap (list_any (is_live_of m)) whole) ∙ ⊎_elim {C = list_any (is_live_of m) (front ++ (out ++ rest)) ≡ true}
    (λ a. any_left (is_live_of m) front (out ++ rest) a)
    (λ x. ⊎_elim {C = list_any (is_live_of m) (front ++ (out ++ rest)) ≡ true} (λ a. clash (list_any (is_live_of m) (grouped front left)) a (no_live_in m (grouped front left) (grouped_lives front left (left_lives b new out)))) (λ a. any_right (is_live_of m) front (out ++ rest) (any_right (is_live_of m) out rest a)) (any_cases (is_live_of m) (grouped front left) rest x))
    (any_cases (is_live_of m) front (grouped front left ++ rest) e) in
    record {
      live = λ m e. inl (live_was m e);
      gone = λ m e. ⊎_elim {C = (list_any (is_gone_of m) cells ≡ true) ⊎ IsCut b stamp k m}
          (λ a. inl (sym (ap (list_any (is_gone_of m)) whole) ∙ any_left (is_gone_of m) front (out ++ rest) a))
          (λ x. ⊎_elim {C = (list_any (is_gone_of m) cells ≡ true) ⊎ IsCut b stamp k m}
          (λ a. ⊎_elim {C = (list_any (is_gone_of m) cells ≡ true) ⊎ IsCut b stamp k m} (λ y. inl (sym (ap (list_any (is_gone_of m)) whole) ∙ any_right (is_gone_of m) front (out ++ rest) (any_left (is_gone_of m) out rest y))) (λ y. inr y) (left_gone_of b m new out (sym (any_grouped (is_gone_of m) front left) ∙ a)))
          (λ a. inl (sym (ap (list_any (is_gone_of m)) whole) ∙ any_right (is_gone_of m) front (out ++ rest) (any_right (is_gone_of m) out rest a)))
          (any_cases (is_gone_of m) (grouped front left) rest x))
          (any_cases (is_gone_of m) front (grouped front left ++ rest) e);
      one = λ m n x y e. sym x.1 ∙ y.1;
      fresh = λ m x. (sym (ap (λ (n : Mark). n.version) x.1), omega (arith, ap (λ (n : Mark). n.k) x.1), omega (arith, ap (λ (n : Mark). n.k) x.1, ap (λ (c : Bool). if c then k + 1 else k) x.0));
      apart = λ m x e f. older_not cells stamp k older m (sym (ap (λ (n : Mark). n.version) x.1)) (omega (arith, ap (λ (n : Mark). n.k) x.1)) (live_is_of m cells (live_was m f));
      more = cut_more b k;
    }
