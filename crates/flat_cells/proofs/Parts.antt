-- A flat row in parts: what stands before a gap, in some gaps, and behind them.
use Rattle.std.proofs.Common.{◌≡◌, ℕ, zero, suc, ◌+◌, ◌<◌, ◌≤◌, Bool, true, false, List, [], ◌∷◌, ◌++◌, refl, ap, ap₂, sym, ◌∙◌, length, arith, map, take, drop, filter, cond, Option, subst, ⊎_elim}
use Rattle.std.specs.Prelude.{◌||◌}
use Rattle.std.specs.List.{list_any}
use Rattle.std.proofs.lemmas.Bool.{cases_Bool, or_parts, cond-true, cond-false}
use Rattle.std.proofs.lemmas.List.{length-take-le}
use Rattle.ranges_tracker.specs.declared.mark.Mark.{Mark}
use Rattle.ranges_tracker.specs.Cells.{Live as LiveUnit, Gone as GoneUnit, shifted}
use Rattle.flat_cells.specs.Row.{Cell, Live, Gone, Start, End, lives_of, gone_from, before, from_gap, gaps, behind, until, gap_of}
use Rattle.ranges_tracker.proofs.Placing.{GapsBelow}

-- a row before a gap and from it on; some gaps and what is behind them
pub whole : (p : ℕ) (cells : List Cell) → before p cells ++ from_gap p cells ≡ cells
whole zero cells = refl
whole (suc p) [] = refl
whole (suc p) (Live u o ∷ cs) = ap (λ (x : List Cell). Live u o ∷ x) (whole p cs)
whole (suc p) (Gone u m ∷ cs) = ap (λ (x : List Cell). Gone u m ∷ x) (whole (suc p) cs)
whole (suc p) (Start t ∷ cs) = ap (λ (x : List Cell). Start t ∷ x) (whole (suc p) cs)
whole (suc p) (End t ∷ cs) = ap (λ (x : List Cell). End t ∷ x) (whole (suc p) cs)

pub rest_whole : (n : ℕ) (cells : List Cell) → gaps n cells ++ behind n cells ≡ cells
rest_whole n [] = refl
rest_whole zero (Live u o ∷ cs) = refl
rest_whole (suc n) (Live u o ∷ cs) = ap (λ (x : List Cell). Live u o ∷ x) (rest_whole n cs)
rest_whole n (Gone u m ∷ cs) = ap (λ (x : List Cell). Gone u m ∷ x) (rest_whole n cs)
rest_whole n (Start t ∷ cs) = ap (λ (x : List Cell). Start t ∷ x) (rest_whole n cs)
rest_whole n (End t ∷ cs) = ap (λ (x : List Cell). End t ∷ x) (rest_whole n cs)

-- the live cells of each part
pub lives-append : (xs ys : List Cell) → lives_of (xs ++ ys) ≡ lives_of xs ++ lives_of ys
lives-append [] ys = refl
lives-append (Live u o ∷ cs) ys = ap (λ (x : List LiveUnit). record { unit = u; mark = o } ∷ x) (lives-append cs ys)
lives-append (Gone u m ∷ cs) ys = lives-append cs ys
lives-append (Start t ∷ cs) ys = lives-append cs ys
lives-append (End t ∷ cs) ys = lives-append cs ys

pub lives_before : (p : ℕ) (cells : List Cell) → lives_of (before p cells) ≡ take p (lives_of cells)
lives_before zero cells = refl
lives_before (suc p) [] = refl
lives_before (suc p) (Live u o ∷ cs) = ap (λ (x : List LiveUnit). record { unit = u; mark = o } ∷ x) (lives_before p cs)
lives_before (suc p) (Gone u m ∷ cs) = lives_before (suc p) cs
lives_before (suc p) (Start t ∷ cs) = lives_before (suc p) cs
lives_before (suc p) (End t ∷ cs) = lives_before (suc p) cs

pub lives_from : (p : ℕ) (cells : List Cell) → lives_of (from_gap p cells) ≡ drop p (lives_of cells)
lives_from zero cells = refl
lives_from (suc p) [] = refl
lives_from (suc p) (Live u o ∷ cs) = lives_from p cs
lives_from (suc p) (Gone u m ∷ cs) = lives_from (suc p) cs
lives_from (suc p) (Start t ∷ cs) = lives_from (suc p) cs
lives_from (suc p) (End t ∷ cs) = lives_from (suc p) cs

pub lives_gaps : (n : ℕ) (cells : List Cell) → lives_of (gaps n cells) ≡ take n (lives_of cells)
lives_gaps zero [] = refl
lives_gaps (suc n) [] = refl
lives_gaps zero (Live u o ∷ cs) = refl
lives_gaps (suc n) (Live u o ∷ cs) = ap (λ (x : List LiveUnit). record { unit = u; mark = o } ∷ x) (lives_gaps n cs)
lives_gaps n (Gone u m ∷ cs) = lives_gaps n cs
lives_gaps n (Start t ∷ cs) = lives_gaps n cs
lives_gaps n (End t ∷ cs) = lives_gaps n cs

pub lives_behind : (n : ℕ) (cells : List Cell) → lives_of (behind n cells) ≡ drop n (lives_of cells)
lives_behind zero [] = refl
lives_behind (suc n) [] = refl
lives_behind zero (Live u o ∷ cs) = refl
lives_behind (suc n) (Live u o ∷ cs) = lives_behind n cs
lives_behind n (Gone u m ∷ cs) = lives_behind n cs
lives_behind n (Start t ∷ cs) = lives_behind n cs
lives_behind n (End t ∷ cs) = lives_behind n cs

-- a part that ends with a live cell, and one that begins with one, where they are not empty
abbrev pub EndsLive : List Cell → Type 0
EndsLive [] = Unit {0}
EndsLive (c ∷ cs) = (1 ≤ length (lives_of (c ∷ cs))) × EndsLive cs

abbrev pub BeginsLive : List Cell → Type 0
BeginsLive [] = Unit {0}
BeginsLive (Live u o ∷ cs) = Unit {0}
BeginsLive (Gone u m ∷ cs) = ⊥
BeginsLive (Start t ∷ cs) = ⊥
BeginsLive (End t ∷ cs) = ⊥

some_before : (p : ℕ) (cells : List Cell) → suc p ≤ length (lives_of cells) → 1 ≤ length (lives_of (before (suc p) cells))
some_before p cells le = omega (arith, ap length (lives_before (suc p) cells), length-take-le (suc p) (lives_of cells) le)

pub ends_before : (p : ℕ) (cells : List Cell) → p ≤ length (lives_of cells) → EndsLive (before p cells)
ends_before zero cells le = tt
ends_before (suc p) [] le = tt
ends_before (suc p) (Live u o ∷ cs) le = (omega arith, ends_before p cs (omega arith))
ends_before (suc p) (Gone u m ∷ cs) le = (some_before p cs le, ends_before (suc p) cs le)
ends_before (suc p) (Start t ∷ cs) le = (some_before p cs le, ends_before (suc p) cs le)
ends_before (suc p) (End t ∷ cs) le = (some_before p cs le, ends_before (suc p) cs le)

pub begins_behind : (n : ℕ) (cells : List Cell) → BeginsLive (behind n cells)
begins_behind zero [] = tt
begins_behind (suc n) [] = tt
begins_behind zero (Live u o ∷ cs) = tt
begins_behind (suc n) (Live u o ∷ cs) = begins_behind n cs
begins_behind n (Gone u m ∷ cs) = begins_behind n cs
begins_behind n (Start t ∷ cs) = begins_behind n cs
begins_behind n (End t ∷ cs) = begins_behind n cs

-- the gone cells of parts
pub gone-append : (at : ℕ) (xs ys : List Cell) → gone_from at (xs ++ ys) ≡ gone_from at xs ++ gone_from (at + length (lives_of xs)) ys
gone-append at [] ys = ap (λ (n : ℕ). gone_from n ys) (omega arith)
gone-append at (Live u o ∷ cs) ys = gone-append (at + 1) cs ys ∙ ap (λ (n : ℕ). gone_from (at + 1) cs ++ gone_from n ys) (omega arith)
gone-append at (Gone u m ∷ cs) ys = ap (λ (x : List GoneUnit). record { gap = at; unit = u; mark = m } ∷ x) (gone-append at cs ys)
gone-append at (Start t ∷ cs) ys = gone-append at cs ys
gone-append at (End t ∷ cs) ys = gone-append at cs ys

pub gone_below : (at : ℕ) (xs : List Cell) → EndsLive xs → GapsBelow (at + length (lives_of xs)) (gone_from at xs)
gone_below at [] h = tt
gone_below at (Live u o ∷ cs) h = subst (λ (n : ℕ). GapsBelow n (gone_from (at + 1) cs)) (omega arith) (gone_below (at + 1) cs h.1)
gone_below at (Gone u m ∷ cs) h = (omega (arith, h.0), gone_below at cs h.1)
gone_below at (Start t ∷ cs) h = gone_below at cs h.1
gone_below at (End t ∷ cs) h = gone_below at cs h.1

-- gaps from a number on, and up to one
abbrev pub GapsFrom : ℕ → List GoneUnit → Type 0
GapsFrom q [] = Unit {0}
GapsFrom q (g ∷ gs) = (q ≤ g.gap) × GapsFrom q gs

pub gone_above : (q at : ℕ) (xs : List Cell) → q ≤ at → GapsFrom q (gone_from at xs)
gone_above q at [] h = tt
gone_above q at (Live u o ∷ cs) h = gone_above q (at + 1) cs (omega arith)
gone_above q at (Gone u m ∷ cs) h = (h, gone_above q at cs h)
gone_above q at (Start t ∷ cs) h = gone_above q at cs h
gone_above q at (End t ∷ cs) h = gone_above q at cs h

pub gone_behind : (at : ℕ) (xs : List Cell) → BeginsLive xs → GapsFrom (at + 1) (gone_from at xs)
gone_behind at [] h = tt
gone_behind at (Live u o ∷ cs) h = gone_above (at + 1) (at + 1) cs (omega arith)
gone_behind at (Gone u m ∷ cs) h = absurd h
gone_behind at (Start t ∷ cs) h = absurd h
gone_behind at (End t ∷ cs) h = absurd h

-- shifts of gaps
pub shift_below : (f : ℕ → ℕ) (q : ℕ) (gs : List GoneUnit) → GapsBelow q gs → ((g : ℕ) → g < q → f g ≡ g) → map (shifted f) gs ≡ gs
shift_below f q [] h e = refl
shift_below f q (g ∷ gs) h e = ap₂ (λ (n : ℕ) (x : List GoneUnit). record { gap = n; unit = g.unit; mark = g.mark } ∷ x) (e g.gap h.0) (shift_below f q gs h.1 e)

pub shift_by : (f : ℕ → ℕ) (at to : ℕ) (xs : List Cell) → ((i : ℕ) → f (at + i) ≡ to + i) → map (shifted f) (gone_from at xs) ≡ gone_from to xs
shift_by f at to [] e = refl
shift_by f at to (Live u o ∷ cs) e = shift_by f (at + 1) (to + 1) cs (λ i. ap f (omega arith) ∙ e (i + 1) ∙ omega arith)
shift_by f at to (Gone u m ∷ cs) e = ap₂ (λ (n : ℕ) (x : List GoneUnit). record { gap = n; unit = u; mark = m } ∷ x) (ap f (omega arith) ∙ e 0 ∙ omega arith) (shift_by f at to cs e)
shift_by f at to (Start t ∷ cs) e = shift_by f at to cs e
shift_by f at to (End t ∷ cs) e = shift_by f at to cs e

-- the gap of a cell in parts
abbrev pub weight : Cell → ℕ
weight (Live u o) = 1
weight (Gone u m) = 0
weight (Start t) = 0
weight (End t) = 0

pub count-cons : (c : Cell) (cs : List Cell) → length (lives_of (c ∷ cs)) ≡ weight c + length (lives_of cs)
count-cons (Live u o) cs = omega arith
count-cons (Gone u m) cs = omega arith
count-cons (Start t) cs = omega arith
count-cons (End t) cs = omega arith

pub gap_here : (test : Cell → Bool) (c : Cell) (cs : List Cell) → test c ≡ true → gap_of test (c ∷ cs) ≡ 0
gap_here test c cs e = ap (λ (x : List Cell). length (lives_of x)) (cond-true (test c) [] (c ∷ until test cs) e)

pub gap_on : (test : Cell → Bool) (c : Cell) (cs : List Cell) → test c ≡ false → gap_of test (c ∷ cs) ≡ weight c + gap_of test cs
gap_on test c cs e = ap (λ (x : List Cell). length (lives_of x)) (cond-false (test c) [] (c ∷ until test cs) e) ∙ count-cons c (until test cs)

any_on : (test : Cell → Bool) (c : Cell) (cs : List Cell) → test c ≡ false → list_any test (c ∷ cs) ≡ list_any test cs
any_on test c cs e = ap (λ (b : Bool). b || list_any test cs) e

pub gap_in : (test : Cell → Bool) (xs ys : List Cell) → list_any test xs ≡ true → gap_of test (xs ++ ys) ≡ gap_of test xs
gap_in test [] ys h = cc
gap_in test (c ∷ cs) ys h = ⊎_elim {C = gap_of test ((c ∷ cs) ++ ys) ≡ gap_of test (c ∷ cs)}
    (λ e. gap_here test c (cs ++ ys) e ∙ sym (gap_here test c cs e))
    (λ e. gap_on test c (cs ++ ys) e ∙ ap (λ (n : ℕ). weight c + n) (gap_in test cs ys (sym (any_on test c cs e) ∙ h)) ∙ sym (gap_on test c cs e))
    (cases_Bool (test c))

pub gap_past : (test : Cell → Bool) (xs ys : List Cell) → list_any test xs ≡ false → gap_of test (xs ++ ys) ≡ length (lives_of xs) + gap_of test ys
gap_past test [] ys h = omega arith
gap_past test (c ∷ cs) ys h =
    let p = or_parts (test c) (list_any test cs) h in
    let e : gap_of test ((c ∷ cs) ++ ys) ≡ weight c + gap_of test (cs ++ ys) = gap_on test c (cs ++ ys) p.0 in
    omega (arith, e, gap_past test cs ys p.1, count-cons c cs)

pub gap_within : (test : Cell → Bool) (xs : List Cell) → gap_of test xs ≤ length (lives_of xs)
gap_within test [] = omega arith
gap_within test (c ∷ cs) = ⊎_elim {C = gap_of test (c ∷ cs) ≤ length (lives_of (c ∷ cs))}
    (λ e. omega (arith, gap_here test c cs e))
    (λ e. omega (arith, gap_on test c cs e, gap_within test cs, count-cons c cs))
    (cases_Bool (test c))

-- what stands in a part that ends with a live cell stands before that
pub gap_below : (test : Cell → Bool) (xs : List Cell) → EndsLive xs → list_any test xs ≡ true → gap_of test xs < length (lives_of xs)
gap_below test [] h k = cc
gap_below test (c ∷ cs) h k = ⊎_elim {C = gap_of test (c ∷ cs) < length (lives_of (c ∷ cs))}
    (λ e. omega (arith, gap_here test c cs e, h.0))
    (λ e. omega (arith, gap_on test c cs e, gap_below test cs h.1 (sym (any_on test c cs e) ∙ k), count-cons c cs))
    (cases_Bool (test c))

-- no live cell passes the test
abbrev pub NoLive : (Cell → Bool) → Type 0
NoLive test = (u : ℕ) (o : Option Mark) → test (Live u o) ≡ false

pub gap_behind : (test : Cell → Bool) (xs : List Cell) → NoLive test → BeginsLive xs → list_any test xs ≡ true → 1 ≤ gap_of test xs
gap_behind test [] f h k = cc
gap_behind test (Live u o ∷ cs) f h k = omega (arith, gap_on test (Live u o) cs (f u o))
gap_behind test (Gone u m ∷ cs) f h k = absurd h
gap_behind test (Start t ∷ cs) f h k = absurd h
gap_behind test (End t ∷ cs) f h k = absurd h

-- a part without live cells
pub gap_none : (test : Cell → Bool) (xs : List Cell) → lives_of xs ≡ [] → gap_of test xs ≡ 0
gap_none test xs e = omega (arith, gap_within test xs, ap length e)

either : {X : Type 0} (f : List Cell → X) (b : Bool) (xs ys : List Cell) (z : X) → f xs ≡ z → f ys ≡ z → f (cond b xs ys) ≡ z
either f true xs ys z d e = d
either f false xs ys z d e = e

-- a filter that passes all live cells, and all gone cells
pub lives_kept : (f : Cell → Bool) → ((u : ℕ) (o : Option Mark) → f (Live u o) ≡ true) → (xs : List Cell) → lives_of (filter f xs) ≡ lives_of xs
lives_kept f h [] = refl
lives_kept f h (Live u o ∷ cs) = ap lives_of (cond-true (f (Live u o)) (Live u o ∷ filter f cs) (filter f cs) (h u o)) ∙ ap (λ (x : List LiveUnit). record { unit = u; mark = o } ∷ x) (lives_kept f h cs)
lives_kept f h (Gone u m ∷ cs) = either lives_of (f (Gone u m)) (Gone u m ∷ filter f cs) (filter f cs) (lives_of cs) (lives_kept f h cs) (lives_kept f h cs)
lives_kept f h (Start t ∷ cs) = either lives_of (f (Start t)) (Start t ∷ filter f cs) (filter f cs) (lives_of cs) (lives_kept f h cs) (lives_kept f h cs)
lives_kept f h (End t ∷ cs) = either lives_of (f (End t)) (End t ∷ filter f cs) (filter f cs) (lives_of cs) (lives_kept f h cs) (lives_kept f h cs)

pub gone_kept : (f : Cell → Bool) → ((u : ℕ) (o : Option Mark) → f (Live u o) ≡ true) → ((u : ℕ) (m : Mark) → f (Gone u m) ≡ true) → (at : ℕ) (xs : List Cell) → gone_from at (filter f xs) ≡ gone_from at xs
gone_kept f h k at [] = refl
gone_kept f h k at (Live u o ∷ cs) = ap (gone_from at) (cond-true (f (Live u o)) (Live u o ∷ filter f cs) (filter f cs) (h u o)) ∙ gone_kept f h k (at + 1) cs
gone_kept f h k at (Gone u m ∷ cs) = ap (gone_from at) (cond-true (f (Gone u m)) (Gone u m ∷ filter f cs) (filter f cs) (k u m)) ∙ ap (λ (x : List GoneUnit). record { gap = at; unit = u; mark = m } ∷ x) (gone_kept f h k at cs)
gone_kept f h k at (Start t ∷ cs) = either (gone_from at) (f (Start t)) (Start t ∷ filter f cs) (filter f cs) (gone_from at cs) (gone_kept f h k at cs) (gone_kept f h k at cs)
gone_kept f h k at (End t ∷ cs) = either (gone_from at) (f (End t)) (End t ∷ filter f cs) (filter f cs) (gone_from at cs) (gone_kept f h k at cs) (gone_kept f h k at cs)

-- the same in a part without live cells
pub no_lives : (f : Cell → Bool) (xs : List Cell) → lives_of xs ≡ [] → lives_of (filter f xs) ≡ []
no_lives f [] e = refl
no_lives f (Live u o ∷ cs) e = cc
no_lives f (Gone u m ∷ cs) e = either lives_of (f (Gone u m)) (Gone u m ∷ filter f cs) (filter f cs) [] (no_lives f cs e) (no_lives f cs e)
no_lives f (Start t ∷ cs) e = either lives_of (f (Start t)) (Start t ∷ filter f cs) (filter f cs) [] (no_lives f cs e) (no_lives f cs e)
no_lives f (End t ∷ cs) e = either lives_of (f (End t)) (End t ∷ filter f cs) (filter f cs) [] (no_lives f cs e) (no_lives f cs e)

pub same_gone : (f : Cell → Bool) → ((u : ℕ) (m : Mark) → f (Gone u m) ≡ true) → (at : ℕ) (xs : List Cell) → lives_of xs ≡ [] → gone_from at (filter f xs) ≡ gone_from at xs
same_gone f k at [] e = refl
same_gone f k at (Live u o ∷ cs) e = cc
same_gone f k at (Gone u m ∷ cs) e = ap (gone_from at) (cond-true (f (Gone u m)) (Gone u m ∷ filter f cs) (filter f cs) (k u m)) ∙ ap (λ (x : List GoneUnit). record { gap = at; unit = u; mark = m } ∷ x) (same_gone f k at cs e)
same_gone f k at (Start t ∷ cs) e = either (gone_from at) (f (Start t)) (Start t ∷ filter f cs) (filter f cs) (gone_from at cs) (same_gone f k at cs e) (same_gone f k at cs e)
same_gone f k at (End t ∷ cs) e = either (gone_from at) (f (End t)) (End t ∷ filter f cs) (filter f cs) (gone_from at cs) (same_gone f k at cs e) (same_gone f k at cs e)

pub no_gone : (f : Cell → Bool) → ((u : ℕ) (m : Mark) → f (Gone u m) ≡ false) → (at : ℕ) (xs : List Cell) → lives_of xs ≡ [] → gone_from at (filter f xs) ≡ []
no_gone f k at [] e = refl
no_gone f k at (Live u o ∷ cs) e = cc
no_gone f k at (Gone u m ∷ cs) e = ap (gone_from at) (cond-false (f (Gone u m)) (Gone u m ∷ filter f cs) (filter f cs) (k u m)) ∙ no_gone f k at cs e
no_gone f k at (Start t ∷ cs) e = either (gone_from at) (f (Start t)) (Start t ∷ filter f cs) (filter f cs) [] (no_gone f k at cs e) (no_gone f k at cs e)
no_gone f k at (End t ∷ cs) e = either (gone_from at) (f (End t)) (End t ∷ filter f cs) (filter f cs) [] (no_gone f k at cs e) (no_gone f k at cs e)
