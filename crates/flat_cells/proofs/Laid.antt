-- Coordinates laid out in a flat row: its cells, and where its threads stand.
use Rattle.std.proofs.Common.{◌≡◌, ℕ, ◌+◌, ◌<◌, ◌≤◌, Bool, true, false, List, [], ◌∷◌, ◌++◌, refl, ap, ap₂, sym, ◌∙◌, length, arith, append_assoc, append-nil, map, Option, subst, ⊎_elim, ◌⊎◌, inl, inr}
use Rattle.std.specs.Prelude.{◌||◌, ◌&&◌, ◌==◌, if◌then◌else◌, nat_le, nat_lt}
use Rattle.std.specs.List.{list_any, flat_map}
use Rattle.std.proofs.lemmas.Bool.{cases_Bool, cases_lt, cases_eq, cond-true, cond-false, eq-eqb, ne_eqb, leb-true, leb-false, le-leb, lt-ltb, le-ltb}
use Rattle.ranges_tracker.specs.declared.mark.Mark.{Mark}
use Rattle.ranges_tracker.specs.Cells.{Live as LiveUnit, Gone as GoneUnit, Thread}
use Rattle.ranges_tracker.specs.Steady.{RisingGone, GapsWithin, Within}
use Rattle.ranges_tracker.specs.WellFormed.{NotListed, ListedOnce}
use Rattle.flat_cells.specs.Row.{Cell, Live, Gone, Start, End, is_start, is_end, lives_of, gone_from, gap_of, thread_of}
use Rattle.flat_cells.specs.Form.{IsThread}
use Rattle.flat_cells.proofs.Parts.{lives-append, gone-append, gap_in, gap_past, gap_none, gap_on}
use Rattle.flat_cells.proofs.Commenting.{swap_eqb, eqb_self}
use Rattle.flat_cells.proofs.Threads.{tally, tally-append, tally_in, tally_out, tally_none, starts_first, order_none, order_start, order_on}

-- the end of a thread begun before its gap; the start of one, and its end where it is empty
abbrev pub early_of : ℕ → Thread → List Cell
early_of at t = if nat_lt t.from at && (t.to == at) then End t.thread ∷ [] else []

abbrev pub end_of : ℕ → Thread → List Cell
end_of at t = if t.to == at then End t.thread ∷ [] else []

abbrev pub edges_of : ℕ → Thread → List Cell
edges_of at t = if t.from == at then Start t.thread ∷ end_of at t else []

abbrev pub ends_at : ℕ → List Thread → List Cell
ends_at at ts = flat_map (early_of at) ts

abbrev pub edges_at : ℕ → List Thread → List Cell
edges_at at ts = flat_map (edges_of at) ts

-- of gone cells in order, those up to a gap, and the others
abbrev pub here : ℕ → List GoneUnit → List GoneUnit
here at [] = []
here at (g ∷ gs) = if nat_le g.gap at then g ∷ here at gs else []

abbrev pub later : ℕ → List GoneUnit → List GoneUnit
later at [] = []
later at (g ∷ gs) = if nat_le g.gap at then later at gs else g ∷ gs

abbrev pub gone_of : List GoneUnit → List Cell
gone_of gs = map (λ (g : GoneUnit). Gone g.unit g.mark) gs

abbrev pub gap_laid : ℕ → List GoneUnit → List Thread → List Cell
gap_laid at gs ts = ends_at at ts ++ (gone_of (here at gs) ++ edges_at at ts)

abbrev pub laid : ℕ → List LiveUnit → List GoneUnit → List Thread → List Cell
laid at [] gs ts = gap_laid at gs ts
laid at (l ∷ ls) gs ts = gap_laid at gs ts ++ (Live l.unit l.mark ∷ laid (at + 1) ls (later at gs) ts)

-- no live cell in a gap
early_lives : (at : ℕ) (t : Thread) → lives_of (early_of at t) ≡ []
early_lives at t = go (nat_lt t.from at && (t.to == at))
  where
    go : (b : Bool) → lives_of (if b then End t.thread ∷ [] else []) ≡ []
    go true = refl
    go false = refl

edges_lives : (at : ℕ) (t : Thread) → lives_of (edges_of at t) ≡ []
edges_lives at t = go (t.from == at) (t.to == at)
  where
    go : (a b : Bool) → lives_of (if a then Start t.thread ∷ (if b then End t.thread ∷ [] else []) else []) ≡ []
    go true true = refl
    go true false = refl
    go false b = refl

flat_lives : (f : Thread → List Cell) → ((t : Thread) → lives_of (f t) ≡ []) → (ts : List Thread) → lives_of (flat_map f ts) ≡ []
flat_lives f h [] = refl
flat_lives f h (t ∷ ts) = lives-append (f t) (flat_map f ts) ∙ ap₂ (λ (x y : List LiveUnit). x ++ y) (h t) (flat_lives f h ts)

gone_lives : (gs : List GoneUnit) → lives_of (gone_of gs) ≡ []
gone_lives [] = refl
gone_lives (g ∷ gs) = gone_lives gs

pub gap_laid_lives : (at : ℕ) (gs : List GoneUnit) (ts : List Thread) → lives_of (gap_laid at gs ts) ≡ []
gap_laid_lives at gs ts =
    lives-append (ends_at at ts) (gone_of (here at gs) ++ edges_at at ts)
    ∙ ap₂ (λ (x y : List LiveUnit). x ++ y) (flat_lives (early_of at) (early_lives at) ts) (lives-append (gone_of (here at gs)) (edges_at at ts) ∙ ap₂ (λ (x y : List LiveUnit). x ++ y) (gone_lives (here at gs)) (flat_lives (edges_of at) (edges_lives at) ts))

pub laid_lives : (at : ℕ) (ls : List LiveUnit) (gs : List GoneUnit) (ts : List Thread) → lives_of (laid at ls gs ts) ≡ ls
laid_lives at [] gs ts = gap_laid_lives at gs ts
laid_lives at (l ∷ ls) gs ts = lives-append (gap_laid at gs ts) (Live l.unit l.mark ∷ laid (at + 1) ls (later at gs) ts) ∙ ap₂ (λ (x y : List LiveUnit). x ++ (l ∷ y)) (gap_laid_lives at gs ts) (laid_lives (at + 1) ls (later at gs) ts)

-- the gone cells
early_gone : (k at : ℕ) (t : Thread) → gone_from k (early_of at t) ≡ []
early_gone k at t = go (nat_lt t.from at && (t.to == at))
  where
    go : (b : Bool) → gone_from k (if b then End t.thread ∷ [] else []) ≡ []
    go true = refl
    go false = refl

edges_gone : (k at : ℕ) (t : Thread) → gone_from k (edges_of at t) ≡ []
edges_gone k at t = go (t.from == at) (t.to == at)
  where
    go : (a b : Bool) → gone_from k (if a then Start t.thread ∷ (if b then End t.thread ∷ [] else []) else []) ≡ []
    go true true = refl
    go true false = refl
    go false b = refl

flat_gone : (f : Thread → List Cell) → ((t : Thread) → lives_of (f t) ≡ []) → (k : ℕ) → ((t : Thread) → gone_from k (f t) ≡ []) → (ts : List Thread) → gone_from k (flat_map f ts) ≡ []
flat_gone f n k h [] = refl
flat_gone f n k h (t ∷ ts) = gone-append k (f t) (flat_map f ts) ∙ ap₂ (λ (x : List GoneUnit) (j : ℕ). x ++ gone_from j (flat_map f ts)) (h t) (omega (arith, ap length (n t))) ∙ flat_gone f n k h ts

gone_gone : (at : ℕ) (gs : List GoneUnit) → RisingGone at gs → gone_from at (gone_of (here at gs)) ≡ here at gs
gone_gone at [] h = refl
gone_gone at (g ∷ gs) h = ⊎_elim {C = gone_from at (gone_of (here at (g ∷ gs))) ≡ here at (g ∷ gs)}
    (λ t. let same : g.gap ≡ at = omega (arith, leb-true g.gap at t, h.0) in
    ap (λ (x : List GoneUnit). gone_from at (gone_of x)) (cond-true (nat_le g.gap at) (g ∷ here at gs) [] t)
    ∙ ap₂ (λ (n : ℕ) (x : List GoneUnit). record { gap = n; unit = g.unit; mark = g.mark } ∷ x) (sym same) (gone_gone at gs (subst (λ (n : ℕ). RisingGone n gs) same h.1))
    ∙ sym (cond-true (nat_le g.gap at) (g ∷ here at gs) [] t))
    (λ t. ap (λ (x : List GoneUnit). gone_from at (gone_of x)) (cond-false (nat_le g.gap at) (g ∷ here at gs) [] t) ∙ sym (cond-false (nat_le g.gap at) (g ∷ here at gs) [] t))
    (cases_Bool (nat_le g.gap at))

pub gap_laid_gone : (at : ℕ) (gs : List GoneUnit) (ts : List Thread) → RisingGone at gs → gone_from at (gap_laid at gs ts) ≡ here at gs
gap_laid_gone at gs ts h =
    let ends = ends_at at ts in
    let gone = gone_of (here at gs) in
    let edges = edges_at at ts in
    gone-append at ends (gone ++ edges)
    ∙ ap₂ (λ (x : List GoneUnit) (j : ℕ). x ++ gone_from j (gone ++ edges)) (flat_gone (early_of at) (early_lives at) at (early_gone at at) ts) (omega (arith, ap length (flat_lives (early_of at) (early_lives at) ts)))
    ∙ gone-append at gone edges
    ∙ ap₂ (λ (x : List GoneUnit) (j : ℕ). x ++ gone_from j edges) (gone_gone at gs h) (omega (arith, ap length (gone_lives (here at gs))))
    ∙ ap (λ (x : List GoneUnit). here at gs ++ x) (flat_gone (edges_of at) (edges_lives at) at (edges_gone at at) ts) ∙ append-nil (here at gs)

split_either : (b : Bool) (g : GoneUnit) (xs ys gs : List GoneUnit) → xs ++ ys ≡ gs → (if b then g ∷ xs else []) ++ (if b then ys else g ∷ gs) ≡ g ∷ gs
split_either true g xs ys gs e = ap (λ (x : List GoneUnit). g ∷ x) e
split_either false g xs ys gs e = refl

pub here_later : (at : ℕ) (gs : List GoneUnit) → here at gs ++ later at gs ≡ gs
here_later at [] = refl
here_later at (g ∷ gs) = split_either (nat_le g.gap at) g (here at gs) (later at gs) gs (here_later at gs)

rising_more : (a b : ℕ) (gs : List GoneUnit) → b ≤ a → RisingGone a gs → RisingGone b gs
rising_more a b [] le h = tt
rising_more a b (g ∷ gs) le h = (omega (arith, le, h.0), h.1)

pub later_rising : (at : ℕ) (gs : List GoneUnit) → RisingGone at gs → RisingGone (at + 1) (later at gs)
later_rising at [] h = tt
later_rising at (g ∷ gs) h = ⊎_elim {C = RisingGone (at + 1) (later at (g ∷ gs))}
    (λ t. subst (RisingGone (at + 1)) (sym (cond-true (nat_le g.gap at) (later at gs) (g ∷ gs) t)) (later_rising at gs (rising_more g.gap at gs h.0 h.1)))
    (λ t. subst (RisingGone (at + 1)) (sym (cond-false (nat_le g.gap at) (later at gs) (g ∷ gs) t)) (further t))
    (cases_Bool (nat_le g.gap at))
  where
    further : nat_le g.gap at ≡ false → RisingGone (at + 1) (g ∷ gs)
    further t = (omega (arith, leb-false g.gap at t), h.1)

within_either : (b : Bool) (n : ℕ) (xs ys : List GoneUnit) → GapsWithin n xs → GapsWithin n ys → GapsWithin n (if b then xs else ys)
within_either true n xs ys h k = h
within_either false n xs ys h k = k

later_within : (n at : ℕ) (gs : List GoneUnit) → GapsWithin n gs → GapsWithin n (later at gs)
later_within n at [] h = tt
later_within n at (g ∷ gs) h = within_either (nat_le g.gap at) n (later at gs) (g ∷ gs) (later_within n at gs h.1) h

all_here : (at : ℕ) (gs : List GoneUnit) → GapsWithin at gs → here at gs ≡ gs
all_here at [] h = refl
all_here at (g ∷ gs) h = cond-true (nat_le g.gap at) (g ∷ here at gs) [] (le-leb g.gap at h.0) ∙ ap (λ (x : List GoneUnit). g ∷ x) (all_here at gs h.1)

pub laid_gone : (at : ℕ) (ls : List LiveUnit) (gs : List GoneUnit) (ts : List Thread) → RisingGone at gs → GapsWithin (at + length ls) gs → gone_from at (laid at ls gs ts) ≡ gs
laid_gone at [] gs ts h w = gap_laid_gone at gs ts h ∙ all_here at gs (subst (λ (n : ℕ). GapsWithin n gs) (omega arith) w)
laid_gone at (l ∷ ls) gs ts h w =
    gone-append at (gap_laid at gs ts) (Live l.unit l.mark ∷ laid (at + 1) ls (later at gs) ts)
    ∙ ap₂ (λ (x : List GoneUnit) (j : ℕ). x ++ gone_from (j + 1) (laid (at + 1) ls (later at gs) ts)) (gap_laid_gone at gs ts h) (omega (arith, ap length (gap_laid_lives at gs ts)))
    ∙ ap (λ (x : List GoneUnit). here at gs ++ x) (laid_gone (at + 1) ls (later at gs) ts (later_rising at gs h) (later_within (at + 1 + length ls) at gs (subst (λ (n : ℕ). GapsWithin n gs) (omega arith) w)))
    ∙ here_later at gs

-- a thread of a list in which each stands once
abbrev pub In : Thread → List Thread → Type 0
In x [] = ⊥
In x (t ∷ ts) = (x ≡ t) ⊎ In x ts

abbrev pub bit : Bool → ℕ
bit true = 1
bit false = 0

-- pieces of which each has the edges of its own thread only
abbrev pub Own : (ℕ → Cell → Bool) → (Thread → List Cell) → Type 0
Own test f = (t : Thread) (n : ℕ) → (n == t.thread) ≡ false → tally (test n) (f t) ≡ 0

none_of_others : (test : ℕ → Cell → Bool) (f : Thread → List Cell) → Own test f → (n : ℕ) (ts : List Thread) → NotListed n ts → tally (test n) (flat_map f ts) ≡ 0
none_of_others test f own n [] h = refl
none_of_others test f own n (t ∷ ts) h = omega (arith, tally-append (test n) (f t) (flat_map f ts), own t n h.0, none_of_others test f own n ts h.1)

pub other_name : (x t : Thread) (ts : List Thread) → NotListed t.thread ts → In x ts → (x.thread == t.thread) ≡ false
other_name x t [] h i = absurd i
other_name x t (s ∷ ss) h (inl e) = ap (λ (y : Thread). y.thread == t.thread) e ∙ swap_eqb t.thread s.thread h.0
other_name x t (s ∷ ss) h (inr i) = other_name x t ss h.1 i

pub one_of : (test : ℕ → Cell → Bool) (f : Thread → List Cell) → Own test f → (x : Thread) (ts : List Thread) → ListedOnce ts → In x ts → tally (test x.thread) (flat_map f ts) ≡ tally (test x.thread) (f x)
one_of test f own x [] h i = absurd i
one_of test f own x (t ∷ ts) h (inl e) =
    let none : tally (test x.thread) (flat_map f ts) ≡ 0 = ap (λ (y : Thread). tally (test y.thread) (flat_map f ts)) e ∙ none_of_others test f own t.thread ts h.0 in
    omega (arith, tally-append (test x.thread) (f t) (flat_map f ts), none, ap (λ (y : Thread). tally (test x.thread) (f y)) e)
one_of test f own x (t ∷ ts) h (inr i) = omega (arith, tally-append (test x.thread) (f t) (flat_map f ts), own t x.thread (other_name x t ts h.0 i), one_of test f own x ts h.1 i)

-- how many edges of a thread stand in its pieces
pub early_start : (n at : ℕ) (t : Thread) → tally (is_start n) (early_of at t) ≡ 0
early_start n at t = go (nat_lt t.from at && (t.to == at))
  where
    go : (b : Bool) → tally (is_start n) (if b then End t.thread ∷ [] else []) ≡ 0
    go true = refl
    go false = refl

pub one_end : (n : ℕ) (b : Bool) → tally (is_end n) (if b then End n ∷ [] else []) ≡ bit b
one_end n true = tally_in (is_end n) (End n) [] (eqb_self n) ∙ omega arith
one_end n false = refl

pub no_end : (n m : ℕ) (b : Bool) → (n == m) ≡ false → tally (is_end n) (if b then End m ∷ [] else []) ≡ 0
no_end n m true e = tally_out (is_end n) (End m) [] (swap_eqb n m e)
no_end n m false e = refl

no_start_end : (n m : ℕ) (b : Bool) → tally (is_start n) (if b then End m ∷ [] else []) ≡ 0
no_start_end n m true = refl
no_start_end n m false = refl

pub one_start : (n : ℕ) (a b : Bool) → tally (is_start n) (if a then Start n ∷ (if b then End n ∷ [] else []) else []) ≡ bit a
one_start n true b = omega (arith, tally_in (is_start n) (Start n) (if b then End n ∷ [] else []) (eqb_self n), no_start_end n n b)
one_start n false b = refl

pub one_last : (n : ℕ) (a b : Bool) → tally (is_end n) (if a then Start n ∷ (if b then End n ∷ [] else []) else []) ≡ bit (a && b)
one_last n true b = tally_out (is_end n) (Start n) (if b then End n ∷ [] else []) refl ∙ one_end n b
one_last n false b = refl

pub no_starts : (n m : ℕ) (a b : Bool) → (n == m) ≡ false → tally (is_start n) (if a then Start m ∷ (if b then End m ∷ [] else []) else []) ≡ 0
no_starts n m true b e = tally_out (is_start n) (Start m) (if b then End m ∷ [] else []) (swap_eqb n m e) ∙ no_start_end n m b
no_starts n m false b e = refl

pub no_lasts : (n m : ℕ) (a b : Bool) → (n == m) ≡ false → tally (is_end n) (if a then Start m ∷ (if b then End m ∷ [] else []) else []) ≡ 0
no_lasts n m true b e = tally_out (is_end n) (Start m) (if b then End m ∷ [] else []) refl ∙ no_end n m b e
no_lasts n m false b e = refl

pub own_early_start : (at : ℕ) → Own is_start (early_of at)
own_early_start at t n e = early_start n at t

pub own_early_end : (at : ℕ) → Own is_end (early_of at)
own_early_end at t n e = no_end n t.thread (nat_lt t.from at && (t.to == at)) e

pub own_start : (at : ℕ) → Own is_start (edges_of at)
own_start at t n e = no_starts n t.thread (t.from == at) (t.to == at) e

pub own_end : (at : ℕ) → Own is_end (edges_of at)
own_end at t n e = no_lasts n t.thread (t.from == at) (t.to == at) e

pub gone_start : (n : ℕ) (gs : List GoneUnit) → tally (is_start n) (gone_of gs) ≡ 0
gone_start n [] = refl
gone_start n (g ∷ gs) = gone_start n gs

pub gone_end : (n : ℕ) (gs : List GoneUnit) → tally (is_end n) (gone_of gs) ≡ 0
gone_end n [] = refl
gone_end n (g ∷ gs) = gone_end n gs

-- and in a gap
pub gap_starts : (x : Thread) (ts : List Thread) → ListedOnce ts → In x ts → (at : ℕ) (gs : List GoneUnit) → tally (is_start x.thread) (gap_laid at gs ts) ≡ bit (x.from == at)
gap_starts x ts h i at gs =
    let n = x.thread in
    omega (
      arith,
      tally-append (is_start n) (ends_at at ts) (gone_of (here at gs) ++ edges_at at ts),
      tally-append (is_start n) (gone_of (here at gs)) (edges_at at ts),
      one_of is_start (early_of at) (own_early_start at) x ts h i,
      early_start n at x,
      gone_start n (here at gs),
      one_of is_start (edges_of at) (own_start at) x ts h i,
      one_start n (x.from == at) (x.to == at),
    )

ends_bits : (x : Thread) (at : ℕ) → x.from ≤ x.to → bit (nat_lt x.from at && (x.to == at)) + bit ((x.from == at) && (x.to == at)) ≡ bit (x.to == at)
ends_bits x at le = ⊎_elim {C = bit (nat_lt x.from at && (x.to == at)) + bit ((x.from == at) && (x.to == at)) ≡ bit (x.to == at)}
    (λ lt. ap₂ (λ (a b : Bool). bit (a && (x.to == at)) + bit (b && (x.to == at))) (lt-ltb x.from at lt) (ne_eqb x.from at (λ e. omega (arith, lt, e))) ∙ omega arith)
    (λ ge. ⊎_elim {C = bit (nat_lt x.from at && (x.to == at)) + bit ((x.from == at) && (x.to == at)) ≡ bit (x.to == at)}
    (λ e. ap₂ (λ (a b : Bool). bit (a && (x.to == at)) + bit (b && (x.to == at))) (le-ltb x.from at ge) (eq-eqb x.from at e) ∙ omega arith)
    (λ ne. ap₂ (λ (a b : Bool). bit (a && (x.to == at)) + bit (b && (x.to == at))) (le-ltb x.from at ge) (ne_eqb x.from at ne) ∙ sym (ap bit (ne_eqb x.to at (λ e. ne (omega (arith, ge, le, e))))))
    (cases_eq x.from at))
    (cases_lt x.from at)

pub gap_ends : (x : Thread) (ts : List Thread) → ListedOnce ts → In x ts → x.from ≤ x.to → (at : ℕ) (gs : List GoneUnit) → tally (is_end x.thread) (gap_laid at gs ts) ≡ bit (x.to == at)
gap_ends x ts h i le at gs =
    let n = x.thread in
    omega (
      arith,
      tally-append (is_end n) (ends_at at ts) (gone_of (here at gs) ++ edges_at at ts),
      tally-append (is_end n) (gone_of (here at gs)) (edges_at at ts),
      one_of is_end (early_of at) (own_early_end at) x ts h i,
      one_end n (nat_lt x.from at && (x.to == at)),
      gone_end n (here at gs),
      one_of is_end (edges_of at) (own_end at) x ts h i,
      one_last n (x.from == at) (x.to == at),
      ends_bits x at le,
    )

-- what passes somewhere is counted
some_tally : (test : Cell → Bool) (xs : List Cell) → list_any test xs ≡ true → 1 ≤ tally test xs
some_tally test [] e = cc
some_tally test (x ∷ xs) e = ⊎_elim {C = 1 ≤ tally test (x ∷ xs)}
    (λ t. omega (arith, tally_in test x xs t))
    (λ f. omega (arith, tally_out test x xs f, some_tally test xs (sym (ap (λ (b : Bool). b || list_any test xs) f) ∙ e)))
    (cases_Bool (test x))

pub any_none : (test : Cell → Bool) (xs : List Cell) → tally test xs ≡ 0 → list_any test xs ≡ false
any_none test xs e = ⊎_elim {C = list_any test xs ≡ false} (λ t. absurd (omega (arith, e, some_tally test xs t))) (λ f. f) (cases_Bool (list_any test xs))

pub any_one : (test : Cell → Bool) (xs : List Cell) → tally test xs ≡ 1 → list_any test xs ≡ true
any_one test xs e = ⊎_elim {C = list_any test xs ≡ true} (λ t. t) (λ f. absurd (omega (arith, e, tally_none test xs f))) (cases_Bool (list_any test xs))

-- a test that one cell passes, in one gap
abbrev pub InGap : (Cell → Bool) → ℕ → List Thread → Type 0
InGap test v ts = (at : ℕ) (gs : List GoneUnit) → tally test (gap_laid at gs ts) ≡ bit (v == at)

abbrev pub NotLive : (Cell → Bool) → Type 0
NotLive test = (u : ℕ) (o : Option Mark) → test (Live u o) ≡ false

laid_none : (test : Cell → Bool) (v : ℕ) (ts : List Thread) → NotLive test → InGap test v ts → (at : ℕ) (ls : List LiveUnit) (gs : List GoneUnit) → v < at → tally test (laid at ls gs ts) ≡ 0
laid_none test v ts n h at [] gs lt = h at gs ∙ ap bit (ne_eqb v at (λ e. omega (arith, lt, e)))
laid_none test v ts n h at (l ∷ ls) gs lt =
    omega (
      arith,
      tally-append test (gap_laid at gs ts) (Live l.unit l.mark ∷ laid (at + 1) ls (later at gs) ts),
      h at gs ∙ ap bit (ne_eqb v at (λ e. omega (arith, lt, e))),
      tally_out test (Live l.unit l.mark) (laid (at + 1) ls (later at gs) ts) (n l.unit l.mark),
      laid_none test v ts n h (at + 1) ls (later at gs) (omega (arith, lt)),
    )

pub laid_one : (test : Cell → Bool) (v : ℕ) (ts : List Thread) → NotLive test → InGap test v ts → (at : ℕ) (ls : List LiveUnit) (gs : List GoneUnit) → at ≤ v → v ≤ at + length ls → tally test (laid at ls gs ts) ≡ 1
laid_one test v ts n h at [] gs lo hi = h at gs ∙ ap bit (eq-eqb v at (omega (arith, lo, hi)))
laid_one test v ts n h at (l ∷ ls) gs lo hi =
    let rest = laid (at + 1) ls (later at gs) ts in
    let split : tally test (laid at (l ∷ ls) gs ts) ≡ bit (v == at) + tally test rest = omega (arith, tally-append test (gap_laid at gs ts) (Live l.unit l.mark ∷ rest), h at gs, tally_out test (Live l.unit l.mark) rest (n l.unit l.mark)) in
    ⊎_elim {C = tally test (laid at (l ∷ ls) gs ts) ≡ 1}
    (λ e. omega (arith, split, ap bit (eq-eqb v at e), laid_none test v ts n h (at + 1) ls (later at gs) (omega (arith, e))))
    (λ ne. omega (arith, split, ap bit (ne_eqb v at ne), laid_one test v ts n h (at + 1) ls (later at gs) (further ne) (omega (arith, hi))))
    (cases_eq v at)
  where
    further : (v ≡ at → ⊥) → at + 1 ≤ v
    further ne = ⊎_elim {C = at + 1 ≤ v} (λ lt. omega (arith, lt)) (λ ge. absurd (ne (omega (arith, lo, ge)))) (cases_lt at v)

pub laid_place : (test : Cell → Bool) (v : ℕ) (ts : List Thread) → NotLive test → InGap test v ts → (at : ℕ) (ls : List LiveUnit) (gs : List GoneUnit) → at ≤ v → v ≤ at + length ls → at + gap_of test (laid at ls gs ts) ≡ v
laid_place test v ts n h at [] gs lo hi = omega (arith, gap_none test (gap_laid at gs ts) (gap_laid_lives at gs ts), lo, hi)
laid_place test v ts n h at (l ∷ ls) gs lo hi =
    let gap = gap_laid at gs ts in
    let rest = laid (at + 1) ls (later at gs) ts in
    ⊎_elim {C = at + gap_of test (laid at (l ∷ ls) gs ts) ≡ v}
    (λ e. omega (arith, gap_in test gap (Live l.unit l.mark ∷ rest) (any_one test gap (h at gs ∙ ap bit (eq-eqb v at e))), gap_none test gap (gap_laid_lives at gs ts), e))
    (λ ne. omega (arith, gap_past test gap (Live l.unit l.mark ∷ rest) (any_none test gap (h at gs ∙ ap bit (ne_eqb v at ne))), ap length (gap_laid_lives at gs ts), gap_on test (Live l.unit l.mark) rest (n l.unit l.mark), laid_place test v ts n h (at + 1) ls (later at gs) (further ne) (omega (arith, hi))))
    (cases_eq v at)
  where
    further : (v ≡ at → ⊥) → at + 1 ≤ v
    further ne = ⊎_elim {C = at + 1 ≤ v} (λ lt. omega (arith, lt)) (λ ge. absurd (ne (omega (arith, lo, ge)))) (cases_lt at v)

-- the start stands first
edges_first : (x : Thread) (ts : List Thread) → ListedOnce ts → In x ts → (at : ℕ) (rest : List Cell) → (x.from == at) ≡ true → starts_first x.thread (edges_at at ts ++ rest) ≡ true
edges_first x [] h i at rest e = absurd i
edges_first x (t ∷ ts) h (inl k) at rest e =
    let first : edges_of at t ≡ Start x.thread ∷ end_of at x = ap (edges_of at) (sym k) ∙ cond-true (x.from == at) (Start x.thread ∷ end_of at x) [] e in
    ap (λ (c : List Cell). starts_first x.thread ((c ++ edges_at at ts) ++ rest)) first ∙ order_start x.thread (Start x.thread) ((end_of at x ++ edges_at at ts) ++ rest) refl (eqb_self x.thread)
edges_first x (t ∷ ts) h (inr i) at rest e =
    let n = x.thread in
    let ne = other_name x t ts h.0 i in
    ap (starts_first n) (append_assoc (edges_of at t) (edges_at at ts) rest)
    ∙ order_none n (edges_of at t) (edges_at at ts ++ rest) (any_none (is_start n) (edges_of at t) (own_start at t n ne)) (any_none (is_end n) (edges_of at t) (own_end at t n ne))
    ∙ edges_first x ts h.1 i at rest e

gap_first : (x : Thread) (ts : List Thread) → ListedOnce ts → In x ts → (at : ℕ) (gs : List GoneUnit) (rest : List Cell) → x.from ≡ at → starts_first x.thread (gap_laid at gs ts ++ rest) ≡ true
gap_first x ts h i at gs rest e =
    let n = x.thread in
    let ends = ends_at at ts in
    let gone = gone_of (here at gs) in
    let edges = edges_at at ts in
    let none : tally (is_end n) ends ≡ 0 = one_of is_end (early_of at) (own_early_end at) x ts h i ∙ one_end n (nat_lt x.from at && (x.to == at)) ∙ ap (λ (b : Bool). bit (b && (x.to == at))) (le-ltb x.from at (omega (arith, e))) in
    ap (starts_first n) (append_assoc ends (gone ++ edges) rest ∙ ap (λ (c : List Cell). ends ++ c) (append_assoc gone edges rest))
    ∙ order_none n ends (gone ++ (edges ++ rest)) (any_none (is_start n) ends (one_of is_start (early_of at) (own_early_start at) x ts h i ∙ early_start n at x)) (any_none (is_end n) ends none)
    ∙ order_none n gone (edges ++ rest) (any_none (is_start n) gone (gone_start n (here at gs))) (any_none (is_end n) gone (gone_end n (here at gs)))
    ∙ edges_first x ts h i at rest (eq-eqb x.from at e)

pub laid_first : (x : Thread) (ts : List Thread) → ListedOnce ts → In x ts → x.from ≤ x.to → (at : ℕ) (ls : List LiveUnit) (gs : List GoneUnit) → at ≤ x.from → x.from ≤ at + length ls → starts_first x.thread (laid at ls gs ts) ≡ true
laid_first x ts h i le at [] gs lo hi = ap (starts_first x.thread) (sym (append-nil (gap_laid at gs ts))) ∙ gap_first x ts h i at gs [] (omega (arith, lo, hi))
laid_first x ts h i le at (l ∷ ls) gs lo hi =
    let n = x.thread in
    let gap = gap_laid at gs ts in
    let rest = laid (at + 1) ls (later at gs) ts in
    ⊎_elim {C = starts_first n (laid at (l ∷ ls) gs ts) ≡ true}
    (λ e. gap_first x ts h i at gs (Live l.unit l.mark ∷ rest) e)
    (λ ne. order_none n gap (Live l.unit l.mark ∷ rest) (any_none (is_start n) gap (gap_starts x ts h i at gs ∙ ap bit (ne_eqb x.from at ne))) (any_none (is_end n) gap (gap_ends x ts h i le at gs ∙ ap bit (ne_eqb x.to at (λ e. ne (omega (arith, lo, le, e))))))
    ∙ order_on n (Live l.unit l.mark) rest refl refl ∙ laid_first x ts h i le (at + 1) ls (later at gs) (further ne) (omega (arith, hi)))
    (cases_eq x.from at)
  where
    further : (x.from ≡ at → ⊥) → at + 1 ≤ x.from
    further ne = ⊎_elim {C = at + 1 ≤ x.from} (λ lt. omega (arith, lt)) (λ ge. absurd (ne (omega (arith, lo, ge)))) (cases_lt at x.from)

-- the threads of the row are those laid out
pub record Inside (x : Thread) (n : ℕ) : Type 0 where
  pub order : x.from ≤ x.to
  pub low : x.to ≤ n

pub inside : (n : ℕ) (x : Thread) (ts : List Thread) → Within n ts → In x ts → Inside x n
inside n x [] h i = absurd i
inside n x (t ∷ ts) h (inl e) = subst (λ (y : Thread). Inside y n) (sym e) (record { order = h.0; low = h.1 })
inside n x (t ∷ ts) h (inr i) = inside n x ts h.2 i

thread_is : (x : Thread) (ls : List LiveUnit) (gs : List GoneUnit) (ts : List Thread) → ListedOnce ts → Within (length ls) ts → In x ts → thread_of (laid 0 ls gs ts) x.thread ≡ x
thread_is x ls gs ts h w i =
    let r : Inside x (length ls) = inside (length ls) x ts w i in
    let from : gap_of (is_start x.thread) (laid 0 ls gs ts) ≡ x.from = omega (arith, laid_place (is_start x.thread) x.from ts (λ u o. refl) (gap_starts x ts h i) 0 ls gs (omega arith) (omega (arith, r.order, r.low))) in
    let to : gap_of (is_end x.thread) (laid 0 ls gs ts) ≡ x.to = omega (arith, laid_place (is_end x.thread) x.to ts (λ u o. refl) (gap_ends x ts h i r.order) 0 ls gs (omega arith) (omega (arith, r.low))) in
    ap₂ (λ (a b : ℕ). let t : Thread = record { thread = x.thread; from = a; to = b } in t) from to

threads_of : (ls : List LiveUnit) (gs : List GoneUnit) (ts ss : List Thread) → ListedOnce ts → Within (length ls) ts → ((x : Thread) → In x ss → In x ts) → map (thread_of (laid 0 ls gs ts)) (map (λ (t : Thread). t.thread) ss) ≡ ss
threads_of ls gs ts [] h w sub = refl
threads_of ls gs ts (s ∷ ss) h w sub = ap₂ (λ (x : Thread) (xs : List Thread). x ∷ xs) (thread_is s ls gs ts h w (sub s (inl refl))) (threads_of ls gs ts ss h w (λ x i. sub x (inr i)))

pub laid_threads : (ls : List LiveUnit) (gs : List GoneUnit) (ts : List Thread) → ListedOnce ts → Within (length ls) ts → map (thread_of (laid 0 ls gs ts)) (map (λ (t : Thread). t.thread) ts) ≡ ts
laid_threads ls gs ts h w = threads_of ls gs ts ts h w (λ x i. i)

pub laid_thread : (x : Thread) (ls : List LiveUnit) (gs : List GoneUnit) (ts : List Thread) → ListedOnce ts → Within (length ls) ts → In x ts → IsThread (laid 0 ls gs ts) x.thread
laid_thread x ls gs ts h w i =
    let r : Inside x (length ls) = inside (length ls) x ts w i in
    record {
      one_start = laid_one (is_start x.thread) x.from ts (λ u o. refl) (gap_starts x ts h i) 0 ls gs (omega arith) (omega (arith, r.order, r.low));
      one_end = laid_one (is_end x.thread) x.to ts (λ u o. refl) (gap_ends x ts h i r.order) 0 ls gs (omega arith) (omega (arith, r.low));
      in_order = laid_first x ts h i r.order 0 ls gs (omega arith) (omega (arith, r.order, r.low));
    }
