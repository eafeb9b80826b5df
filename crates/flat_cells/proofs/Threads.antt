-- Each thread keeps one start and one end behind it, through the parts of a flat row.
use Rattle.std.proofs.Common.{◌≡◌, ℕ, ◌+◌, Bool, true, false, List, [], ◌∷◌, ◌++◌, refl, ap, ap₂, sym, ◌∙◌, length, arith, length-append, map, filter, Option, Some, None, ⊎_elim}
use Rattle.std.specs.Prelude.{◌||◌, ◌&&◌, ◌==◌, not}
use Rattle.std.specs.List.{list_any, flat_map}
use Rattle.std.proofs.lemmas.Bool.{cases_Bool, or_parts, cond-true, cond-false, eqb-true}
use Rattle.std.proofs.lemmas.List.Folds.{list_any-append}
use Rattle.std.proofs.lemmas.List.Elements.{filter-append}
use Rattle.ranges_tracker.specs.declared.mark.Mark.{Mark}
use Rattle.ranges_tracker.specs.declared.stamp.Stamp.{Stamp}
use Rattle.ranges_tracker.specs.Cells.{renewed}
use Rattle.flat_cells.specs.Row.{Cell, Live, Gone, Start, End, is_live, is_gone, is_start, is_end, until, ends_earlier, earlier_ends, without_earlier_ends, sorted_by, grouped}
use Rattle.flat_cells.specs.Step.{exchanged_cell, remarked_cells, taken_out}
use Rattle.flat_cells.specs.Form.{IsThread}
use Rattle.flat_cells.proofs.Edges.{any_on, any_here, any_filter, any_grouped, filter_in, filter_out, start_earlier, start_late, end_earlier, end_late}
use Rattle.flat_cells.proofs.Inserting.{IsEdgeTest, start_test, end_test, none_left, same_test}
use Rattle.flat_cells.proofs.Deleting.{left_of, left_edges}

-- what stands up to the first that passes a test, of two parts
until_in : (test : Cell → Bool) (xs ys : List Cell) → list_any test xs ≡ true → until test (xs ++ ys) ≡ until test xs
until_in test [] ys h = cc
until_in test (x ∷ xs) ys h = ⊎_elim {C = until test ((x ∷ xs) ++ ys) ≡ until test (x ∷ xs)}
    (λ t. cond-true (test x) [] (x ∷ until test (xs ++ ys)) t ∙ sym (cond-true (test x) [] (x ∷ until test xs) t))
    (λ t. cond-false (test x) [] (x ∷ until test (xs ++ ys)) t ∙ ap (λ (z : List Cell). x ∷ z) (until_in test xs ys (sym (any_on test x xs t) ∙ h)) ∙ sym (cond-false (test x) [] (x ∷ until test xs) t))
    (cases_Bool (test x))

until_past : (test : Cell → Bool) (xs ys : List Cell) → list_any test xs ≡ false → until test (xs ++ ys) ≡ xs ++ until test ys
until_past test [] ys h = refl
until_past test (x ∷ xs) ys h =
    let p = or_parts (test x) (list_any test xs) h in
    cond-false (test x) [] (x ∷ until test (xs ++ ys)) p.0 ∙ ap (λ (z : List Cell). x ∷ z) (until_past test xs ys p.1)

-- whether a thread's start stands before its end
abbrev pub starts_first : ℕ → List Cell → Bool
starts_first t cells = list_any (is_start t) (until (is_end t) cells)

pub order_in : (t : ℕ) (xs ys : List Cell) → list_any (is_end t) xs ≡ true → starts_first t (xs ++ ys) ≡ starts_first t xs
order_in t xs ys h = ap (list_any (is_start t)) (until_in (is_end t) xs ys h)

pub order_past : (t : ℕ) (xs ys : List Cell) → list_any (is_end t) xs ≡ false → starts_first t (xs ++ ys) ≡ (list_any (is_start t) xs || starts_first t ys)
order_past t xs ys h = ap (list_any (is_start t)) (until_past (is_end t) xs ys h) ∙ list_any-append (is_start t) xs (until (is_end t) ys)

pub order_none : (t : ℕ) (xs ys : List Cell) → list_any (is_start t) xs ≡ false → list_any (is_end t) xs ≡ false → starts_first t (xs ++ ys) ≡ starts_first t ys
order_none t xs ys h k = order_past t xs ys k ∙ ap (λ (b : Bool). b || starts_first t ys) h

order_end : (t : ℕ) (c : Cell) (cs : List Cell) → is_end t c ≡ true → starts_first t (c ∷ cs) ≡ false
order_end t c cs e = ap (list_any (is_start t)) (cond-true (is_end t c) [] (c ∷ until (is_end t) cs) e)

pub order_start : (t : ℕ) (c : Cell) (cs : List Cell) → is_end t c ≡ false → is_start t c ≡ true → starts_first t (c ∷ cs) ≡ true
order_start t c cs e s = ap (list_any (is_start t)) (cond-false (is_end t c) [] (c ∷ until (is_end t) cs) e) ∙ any_here (is_start t) c (until (is_end t) cs) s

pub order_on : (t : ℕ) (c : Cell) (cs : List Cell) → is_end t c ≡ false → is_start t c ≡ false → starts_first t (c ∷ cs) ≡ starts_first t cs
order_on t c cs e s = ap (list_any (is_start t)) (cond-false (is_end t c) [] (c ∷ until (is_end t) cs) e) ∙ any_on (is_start t) c (until (is_end t) cs) s

-- a filter that passes the edges of a thread
pub order_filter : (t : ℕ) (f : Cell → Bool) → ((c : Cell) → is_start t c ≡ true → f c ≡ true) → ((c : Cell) → is_end t c ≡ true → f c ≡ true) → (xs : List Cell) → starts_first t (filter f xs) ≡ starts_first t xs
order_filter t f p q [] = refl
order_filter t f p q (x ∷ xs) = ⊎_elim {C = starts_first t (filter f (x ∷ xs)) ≡ starts_first t (x ∷ xs)}
    (λ e. ap (starts_first t) (filter_in f x xs (q x e)) ∙ order_end t x (filter f xs) e ∙ sym (order_end t x xs e))
    (λ e. ⊎_elim {C = starts_first t (filter f (x ∷ xs)) ≡ starts_first t (x ∷ xs)}
    (λ s. ap (starts_first t) (filter_in f x xs (p x s)) ∙ order_start t x (filter f xs) e s ∙ sym (order_start t x xs e s))
    (λ s. ⊎_elim {C = starts_first t (filter f (x ∷ xs)) ≡ starts_first t (x ∷ xs)}
    (λ k. ap (starts_first t) (filter_in f x xs k) ∙ order_on t x (filter f xs) e s ∙ order_filter t f p q xs ∙ sym (order_on t x xs e s))
    (λ k. ap (starts_first t) (filter_out f x xs k) ∙ order_filter t f p q xs ∙ sym (order_on t x xs e s))
    (cases_Bool (f x)))
    (cases_Bool (is_start t x)))
    (cases_Bool (is_end t x))

order_map : (t : ℕ) (f : Cell → Cell) → ((c : Cell) → is_start t (f c) ≡ is_start t c) → ((c : Cell) → is_end t (f c) ≡ is_end t c) → (xs : List Cell) → starts_first t (map f xs) ≡ starts_first t xs
order_map t f p q [] = refl
order_map t f p q (x ∷ xs) = ⊎_elim {C = starts_first t (map f (x ∷ xs)) ≡ starts_first t (x ∷ xs)}
    (λ e. order_end t (f x) (map f xs) (q x ∙ e) ∙ sym (order_end t x xs e))
    (λ e. ⊎_elim {C = starts_first t (map f (x ∷ xs)) ≡ starts_first t (x ∷ xs)}
    (λ s. order_start t (f x) (map f xs) (q x ∙ e) (p x ∙ s) ∙ sym (order_start t x xs e s))
    (λ s. order_on t (f x) (map f xs) (q x ∙ e) (p x ∙ s) ∙ order_map t f p q xs ∙ sym (order_on t x xs e s))
    (cases_Bool (is_start t x)))
    (cases_Bool (is_end t x))

order_taken : (t : ℕ) (new : Mark) (xs : List Cell) → starts_first t (flat_map (taken_out new) xs) ≡ starts_first t xs
order_taken t new [] = refl
order_taken t new (Live u None ∷ cs) = order_taken t new cs
order_taken t new (Live u (Some m) ∷ cs) = order_taken t new cs
order_taken t new (Gone u m ∷ cs) = order_taken t new cs
order_taken t new (Start s ∷ cs) = ap (λ (b : Bool). (s == t) || b) (order_taken t new cs)
order_taken t new (End s ∷ cs) = ⊎_elim {C = starts_first t (flat_map (taken_out new) (End s ∷ cs)) ≡ starts_first t (End s ∷ cs)}
    (λ e. order_end t (End s) (flat_map (taken_out new) cs) e ∙ sym (order_end t (End s) cs e))
    (λ e. order_on t (End s) (flat_map (taken_out new) cs) e refl ∙ order_taken t new cs ∙ sym (order_on t (End s) cs e refl))
    (cases_Bool (s == t))

-- how many pass a test
abbrev pub tally : (Cell → Bool) → List Cell → ℕ
tally test cells = length (filter test cells)

pub tally-append : (test : Cell → Bool) (xs ys : List Cell) → tally test (xs ++ ys) ≡ tally test xs + tally test ys
tally-append test xs ys = ap length (filter-append test xs ys) ∙ length-append (filter test xs) (filter test ys)

pub tally_in : (test : Cell → Bool) (x : Cell) (xs : List Cell) → test x ≡ true → tally test (x ∷ xs) ≡ 1 + tally test xs
tally_in test x xs e = ap length (filter_in test x xs e) ∙ omega arith

pub tally_out : (test : Cell → Bool) (x : Cell) (xs : List Cell) → test x ≡ false → tally test (x ∷ xs) ≡ tally test xs
tally_out test x xs e = ap length (filter_out test x xs e)

tally_cons : (test : Cell → Bool) (x y : Cell) (xs ys : List Cell) → test x ≡ test y → tally test xs ≡ tally test ys → tally test (x ∷ xs) ≡ tally test (y ∷ ys)
tally_cons test x y xs ys e f = ⊎_elim {C = tally test (x ∷ xs) ≡ tally test (y ∷ ys)}
    (λ t. tally_in test x xs (e ∙ t) ∙ ap (λ (n : ℕ). 1 + n) f ∙ sym (tally_in test y ys t))
    (λ t. tally_out test x xs (e ∙ t) ∙ f ∙ sym (tally_out test y ys t))
    (cases_Bool (test y))

pub tally_split : (test f : Cell → Bool) (xs : List Cell) → tally test (filter f xs) + tally test (filter (λ (c : Cell). not (f c)) xs) ≡ tally test xs
tally_split test f [] = omega arith
tally_split test f (x ∷ xs) =
    let g : Cell → Bool = λ c. not (f c) in
    ⊎_elim {C = tally test (filter f (x ∷ xs)) + tally test (filter g (x ∷ xs)) ≡ tally test (x ∷ xs)}
    (λ k. ap₂ (λ (a b : List Cell). tally test a + tally test b) (filter_in f x xs k) (filter_out g x xs (ap not k)) ∙ front (filter f xs) (filter g xs) xs (tally_split test f xs))
    (λ k. ap₂ (λ (a b : List Cell). tally test a + tally test b) (filter_out f x xs k) (filter_in g x xs (ap not k)) ∙ back (filter f xs) (filter g xs) xs (tally_split test f xs))
    (cases_Bool (f x))
  where
    front : (ps qs cs : List Cell) → tally test ps + tally test qs ≡ tally test cs → tally test (x ∷ ps) + tally test qs ≡ tally test (x ∷ cs)
    front ps qs cs e = ⊎_elim {C = tally test (x ∷ ps) + tally test qs ≡ tally test (x ∷ cs)}
        (λ t. omega (arith, tally_in test x ps t, tally_in test x cs t, e))
        (λ t. omega (arith, tally_out test x ps t, tally_out test x cs t, e))
        (cases_Bool (test x))

    back : (ps qs cs : List Cell) → tally test ps + tally test qs ≡ tally test cs → tally test ps + tally test (x ∷ qs) ≡ tally test (x ∷ cs)
    back ps qs cs e = ⊎_elim {C = tally test ps + tally test (x ∷ qs) ≡ tally test (x ∷ cs)}
        (λ t. omega (arith, tally_in test x qs t, tally_in test x cs t, e))
        (λ t. omega (arith, tally_out test x qs t, tally_out test x cs t, e))
        (cases_Bool (test x))

pub tally_none : (test : Cell → Bool) (xs : List Cell) → list_any test xs ≡ false → tally test xs ≡ 0
tally_none test xs e = ap length (none_left test xs e)

tally_filter : (test f : Cell → Bool) → ((c : Cell) → test c ≡ true → f c ≡ true) → (xs : List Cell) → tally test (filter f xs) ≡ tally test xs
tally_filter test f h xs = omega (arith, tally_split test f xs, tally_none test (filter (λ (c : Cell). not (f c)) xs) (any_filter test (λ (c : Cell). not (f c)) false xs (λ c e. ap not (h c e))))

tally_map : (test : Cell → Bool) (f : Cell → Cell) → ((c : Cell) → test (f c) ≡ test c) → (xs : List Cell) → tally test (map f xs) ≡ tally test xs
tally_map test f h [] = refl
tally_map test f h (x ∷ xs) = tally_cons test (f x) x (map f xs) xs (h x) (tally_map test f h xs)

tally_taken : (test : Cell → Bool) → IsEdgeTest test → (new : Mark) (xs : List Cell) → tally test (flat_map (taken_out new) xs) ≡ tally test xs
tally_taken test h new [] = refl
tally_taken test h new (Live u None ∷ cs) = tally_cons test (Gone u new) (Live u None) (flat_map (taken_out new) cs) cs (h.gone u new ∙ sym (h.live u None)) (tally_taken test h new cs)
tally_taken test h new (Live u (Some m) ∷ cs) = tally_taken test h new cs ∙ sym (tally_out test (Live u (Some m)) cs (h.live u (Some m)))
tally_taken test h new (Gone u m ∷ cs) = tally_cons test (Gone u new) (Gone u m) (flat_map (taken_out new) cs) cs (h.gone u new ∙ sym (h.gone u m)) (tally_taken test h new cs)
tally_taken test h new (Start s ∷ cs) = tally_cons test (Start s) (Start s) (flat_map (taken_out new) cs) cs refl (tally_taken test h new cs)
tally_taken test h new (End s ∷ cs) = tally_cons test (End s) (End s) (flat_map (taken_out new) cs) cs refl (tally_taken test h new cs)

edge_not_live : (test : Cell → Bool) → IsEdgeTest test → (c : Cell) → test c ≡ true → not (is_live c) ≡ true
edge_not_live test h (Live u o) e = absurd (clash (sym (h.live u o) ∙ e))
  where
    clash : false ≡ true → ⊥
    clash x = cc
edge_not_live test h (Gone u m) e = refl
edge_not_live test h (Start s) e = refl
edge_not_live test h (End s) e = refl

edge_not_gone : (test : Cell → Bool) → IsEdgeTest test → (c : Cell) → test c ≡ true → not (is_gone c) ≡ true
edge_not_gone test h (Live u o) e = refl
edge_not_gone test h (Gone u m) e = absurd (clash (sym (h.gone u m) ∙ e))
  where
    clash : false ≡ true → ⊥
    clash x = cc
edge_not_gone test h (Start s) e = refl
edge_not_gone test h (End s) e = refl

tally_left : (test : Cell → Bool) → IsEdgeTest test → (b : Bool) (new : Mark) (xs : List Cell) → tally test (left_of b new xs) ≡ tally test xs
tally_left test h true new xs = tally_taken test h new xs
tally_left test h false new xs = tally_filter test (λ (c : Cell). not (is_live c)) (edge_not_live test h) xs

order_left : (t : ℕ) (b : Bool) (new : Mark) (xs : List Cell) → starts_first t (left_of b new xs) ≡ starts_first t xs
order_left t true new xs = order_taken t new xs
order_left t false new xs = order_filter t (λ (c : Cell). not (is_live c)) (edge_not_live (is_start t) (start_test t)) (edge_not_live (is_end t) (end_test t)) xs

tally_grouped : (test : Cell → Bool) (front cells : List Cell) → tally test (grouped front cells) ≡ tally test cells
tally_grouped test front cells =
    let late = without_earlier_ends front cells in
    omega (arith, tally-append test (earlier_ends front cells) (sorted_by is_gone late), tally-append test (filter is_gone late) (filter (λ (c : Cell). not (is_gone c)) late), tally_split test is_gone late, tally_split test (ends_earlier front) cells)

-- edges that are kept among the later ones of a gap, where the thread doesn't begin before it
late_start : (t : ℕ) (front : List Cell) (c : Cell) → is_start t c ≡ true → not (ends_earlier front c) ≡ true
late_start t front (Live u o) e = refl
late_start t front (Gone u m) e = refl
late_start t front (Start s) e = refl
late_start t front (End s) e = cc

late_end : (t : ℕ) (front : List Cell) → list_any (is_start t) front ≡ false → (c : Cell) → is_end t c ≡ true → not (ends_earlier front c) ≡ true
late_end t front h (Live u o) e = refl
late_end t front h (Gone u m) e = refl
late_end t front h (Start s) e = refl
late_end t front h (End s) e = ap not (ap (λ (x : ℕ). list_any (is_start x) front) (eqb-true s t e) ∙ h)

-- parts alike for a thread: its edges stand in both, in the same order
pub record IsAlike (t : ℕ) (xs ys : List Cell) : Type 0 where
  pub starts : list_any (is_start t) xs ≡ list_any (is_start t) ys
  pub ends : list_any (is_end t) xs ≡ list_any (is_end t) ys
  pub order : starts_first t xs ≡ starts_first t ys

pub order_alike : (t : ℕ) (xs ys rest : List Cell) → IsAlike t xs ys → starts_first t (xs ++ rest) ≡ starts_first t (ys ++ rest)
order_alike t xs ys rest h = ⊎_elim {C = starts_first t (xs ++ rest) ≡ starts_first t (ys ++ rest)}
    (λ e. order_in t xs rest (h.ends ∙ e) ∙ h.order ∙ sym (order_in t ys rest e))
    (λ e. order_past t xs rest (h.ends ∙ e) ∙ ap (λ (b : Bool). b || starts_first t rest) h.starts ∙ sym (order_past t ys rest e))
    (cases_Bool (list_any (is_end t) ys))

-- behind a part that has none of a thread's edges, two rests that have them in the same order
order_behind : (t : ℕ) (front xs ys : List Cell) → (list_any (is_start t) front ≡ false → starts_first t xs ≡ starts_first t ys) → starts_first t (front ++ ys) ≡ true → starts_first t (front ++ xs) ≡ true
order_behind t front xs ys h old = ⊎_elim {C = starts_first t (front ++ xs) ≡ true}
    (λ e. order_in t front xs e ∙ sym (order_in t front ys e) ∙ old)
    (λ e. ⊎_elim {C = starts_first t (front ++ xs) ≡ true}
    (λ s. order_past t front xs e ∙ ap (λ (b : Bool). b || starts_first t xs) s)
    (λ s. order_past t front xs e ∙ ap₂ (λ (a b : Bool). a || b) s (h s) ∙ sym (order_past t front ys e ∙ ap (λ (b : Bool). b || starts_first t ys) s) ∙ old)
    (cases_Bool (list_any (is_start t) front)))
    (cases_Bool (list_any (is_end t) front))

late_alike : (t : ℕ) (front gap : List Cell) → list_any (is_start t) front ≡ false → IsAlike t (without_earlier_ends front gap) gap
late_alike t front gap s = record {
  starts = start_late t front gap;
  ends = end_late t front gap ∙ ap (λ (b : Bool). not b && list_any (is_end t) gap) s;
  order = order_filter t (λ (c : Cell). not (ends_earlier front c)) (late_start t front) (late_end t front s) gap;
}

-- cells come in behind the earlier ends of a gap
pub thread_spliced : (t : ℕ) (front gap new late behind : List Cell) → list_any (is_start t) new ≡ false → list_any (is_end t) new ≡ false → ((test : Cell → Bool) → IsEdgeTest test → tally test late ≡ tally test (without_earlier_ends front gap ++ behind)) → starts_first t late ≡ starts_first t (without_earlier_ends front gap ++ behind) →
    IsThread (front ++ (gap ++ behind)) t → IsThread (front ++ (earlier_ends front gap ++ (new ++ late))) t
thread_spliced t front gap new late behind f g count same h = record {
  one_start = tallied (is_start t) (start_test t) f ∙ h.one_start;
  one_end = tallied (is_end t) (end_test t) g ∙ h.one_end;
  in_order = order_behind t front (earlier_ends front gap ++ (new ++ late)) (gap ++ behind) rest h.in_order;
}
  where
    tallied : (test : Cell → Bool) → IsEdgeTest test → list_any test new ≡ false → tally test (front ++ (earlier_ends front gap ++ (new ++ late))) ≡ tally test (front ++ (gap ++ behind))
    tallied test e none = omega (
      arith,
      tally-append test front (earlier_ends front gap ++ (new ++ late)),
      tally-append test (earlier_ends front gap) (new ++ late),
      tally-append test new late,
      tally_none test new none,
      count test e,
      tally-append test (without_earlier_ends front gap) behind,
      tally_split test (ends_earlier front) gap,
      tally-append test front (gap ++ behind),
      tally-append test gap behind,
    )

    rest : list_any (is_start t) front ≡ false → starts_first t (earlier_ends front gap ++ (new ++ late)) ≡ starts_first t (gap ++ behind)
    rest s = order_none t (earlier_ends front gap) (new ++ late) (start_earlier t front gap) (end_earlier t front gap ∙ ap (λ (b : Bool). b && list_any (is_end t) gap) s) ∙ order_none t new late f g ∙ same ∙ order_alike t (without_earlier_ends front gap) gap behind (late_alike t front gap s)

-- some gaps become one
grouped_alike : (t : ℕ) (front left : List Cell) → list_any (is_start t) front ≡ false → IsAlike t (grouped front left) left
grouped_alike t front left s =
    let ends = earlier_ends front left in
    let late = without_earlier_ends front left in
    let still = λ (c : Cell). not (is_gone c) in
    record {
      starts = any_grouped (is_start t) front left;
      ends = any_grouped (is_end t) front left;
      order = order_none t ends (sorted_by is_gone late) (start_earlier t front left) (end_earlier t front left ∙ ap (λ (b : Bool). b && list_any (is_end t) left) s)
          ∙ order_none t (filter is_gone late) (filter still late) (no_edge (is_start t) (start_test t) late) (no_edge (is_end t) (end_test t) late)
          ∙ order_filter t still (edge_not_gone (is_start t) (start_test t)) (edge_not_gone (is_end t) (end_test t)) late ∙ (late_alike t front left s).order;
    }
  where
    no_edge : (test : Cell → Bool) → IsEdgeTest test → (xs : List Cell) → list_any test (filter is_gone xs) ≡ false
    no_edge test h xs = any_filter test is_gone false xs (λ c e. flip (is_gone c) (edge_not_gone test h c e))
      where
        flip : (b : Bool) → not b ≡ true → b ≡ false
        flip true e = cc
        flip false e = refl

pub thread_squeezed : (t : ℕ) (front out behind : List Cell) (b : Bool) (new : Mark) → IsThread (front ++ (out ++ behind)) t → IsThread (front ++ (grouped front (left_of b new out) ++ behind)) t
thread_squeezed t front out behind b new h = record {
  one_start = tallied (is_start t) (start_test t) ∙ h.one_start;
  one_end = tallied (is_end t) (end_test t) ∙ h.one_end;
  in_order = order_behind t front (grouped front (left_of b new out) ++ behind) (out ++ behind) rest h.in_order;
}
  where
    tallied : (test : Cell → Bool) → IsEdgeTest test → tally test (front ++ (grouped front (left_of b new out) ++ behind)) ≡ tally test (front ++ (out ++ behind))
    tallied test e = omega (arith, tally-append test front (grouped front (left_of b new out) ++ behind), tally-append test (grouped front (left_of b new out)) behind, tally_grouped test front (left_of b new out), tally_left test e b new out, tally-append test front (out ++ behind), tally-append test out behind)

    rest : list_any (is_start t) front ≡ false → starts_first t (grouped front (left_of b new out) ++ behind) ≡ starts_first t (out ++ behind)
    rest s = order_alike t (grouped front (left_of b new out)) (left_of b new out) behind (grouped_alike t front (left_of b new out) s)
        ∙ order_alike t (left_of b new out) out behind (record { starts = left_edges (is_start t) (start_test t) b new out; ends = left_edges (is_end t) (end_test t) b new out; order = order_left t b new out })

-- one more cell of another thread
pub thread_more : (t : ℕ) (c : Cell) (xs ys : List Cell) → is_start t c ≡ false → is_end t c ≡ false → IsThread (xs ++ ys) t → IsThread (xs ++ (c ∷ ys)) t
thread_more t c xs ys e f h = record {
  one_start = tallied (is_start t) e ∙ h.one_start;
  one_end = tallied (is_end t) f ∙ h.one_end;
  in_order = order_behind t xs (c ∷ ys) ys (λ s. order_on t c ys f e) h.in_order;
}
  where
    tallied : (test : Cell → Bool) → test c ≡ false → tally test (xs ++ (c ∷ ys)) ≡ tally test (xs ++ ys)
    tallied test k = omega (arith, tally-append test xs (c ∷ ys), tally_out test c ys k, tally-append test xs ys)

pub thread_filtered : (t : ℕ) (f : Cell → Bool) (xs : List Cell) → ((c : Cell) → is_start t c ≡ true → f c ≡ true) → ((c : Cell) → is_end t c ≡ true → f c ≡ true) → IsThread xs t → IsThread (filter f xs) t
thread_filtered t f xs p q h = record {
  one_start = tally_filter (is_start t) f p xs ∙ h.one_start;
  one_end = tally_filter (is_end t) f q xs ∙ h.one_end;
  in_order = order_filter t f p q xs ∙ h.in_order;
}

-- marks are exchanged
pub tally_remarked : (test : Cell → Bool) → IsEdgeTest test → (o : Option Mark) (stamp : Stamp) (j : ℕ) (cells : List Cell) → tally test (remarked_cells o stamp j cells) ≡ tally test cells
tally_remarked test h None stamp j cells = refl
tally_remarked test h (Some old) stamp j cells = tally_map test (exchanged_cell old (renewed old stamp j)) (same_test test h old (renewed old stamp j)) cells

pub order_remarked : (t : ℕ) (o : Option Mark) (stamp : Stamp) (j : ℕ) (cells : List Cell) → starts_first t (remarked_cells o stamp j cells) ≡ starts_first t cells
order_remarked t None stamp j cells = refl
order_remarked t (Some old) stamp j cells = order_map t (exchanged_cell old (renewed old stamp j)) (same_test (is_start t) (start_test t) old (renewed old stamp j)) (same_test (is_end t) (end_test t) old (renewed old stamp j)) cells
