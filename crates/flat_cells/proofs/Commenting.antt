-- A comment on a flat row is the comment on its coordinates.
use Rattle.std.proofs.Common.{◌≡◌, ℕ, zero, suc, ◌+◌, ◌≤◌, Bool, true, false, List, [], ◌∷◌, ◌++◌, refl, ap, ap₂, sym, ◌∙◌, length, arith, append_assoc, map, subst, ⊎_elim}
use Rattle.std.specs.Prelude.{◌||◌, ◌==◌, not}
use Rattle.std.specs.List.{list_any}
use Rattle.std.proofs.lemmas.Bool.{cases_Bool, or_parts, cond-true, cond-false, eqb-true, eq-eqb, ne_eqb}
use Rattle.std.proofs.lemmas.List.Folds.{list_any-append}
use Rattle.ranges_tracker.specs.Cells.{Live as LiveUnit, Gone as GoneUnit, Thread, set_thread}
use Rattle.flat_cells.specs.Row.{Cell, Live, Gone, Start, End, FlatRow, is_start, is_end, lives_of, gone_from, before, from_gap, gaps, behind, gap_of, ends_earlier, earlier_ends, without_earlier_ends, thread_of, row_of}
use Rattle.flat_cells.specs.Step.{unthreaded, with_start, with_end, with_empty, threaded, listed}
use Rattle.flat_cells.specs.Form.{IsWellFormedFlat, IsOnceEach, names}
use Rattle.flat_cells.proofs.Parts.{lives-append, gone-append, weight, gap_here, gap_on, gap_in, gap_past, lives_kept, gone_kept, no_lives, same_gone, no_gone}
use Rattle.flat_cells.proofs.Edges.{any_filter, any_sorted, filter_in, filter_out, gap_swap}
use Rattle.flat_cells.proofs.Inserting.{front_length, gap_lives, parts_of, same_rows, any_less}

-- what is kept where the starts and ends of a thread go
abbrev pub kept_by : ℕ → Cell → Bool
kept_by t c = not (is_start t c || is_end t c)

pub unthreaded_lives : (t : ℕ) (cells : List Cell) → lives_of (unthreaded t cells) ≡ lives_of cells
unthreaded_lives t cells = lives_kept (kept_by t) (λ u o. refl) cells

unthreaded_gone : (t at : ℕ) (cells : List Cell) → gone_from at (unthreaded t cells) ≡ gone_from at cells
unthreaded_gone t at cells = gone_kept (kept_by t) (λ u o. refl) (λ u m. refl) at cells

pub no_start : (t : ℕ) (cells : List Cell) → list_any (is_start t) (unthreaded t cells) ≡ false
no_start t cells = any_filter (is_start t) (kept_by t) false cells (λ c e. ap (λ (b : Bool). not (b || is_end t c)) e)

pub no_end : (t : ℕ) (cells : List Cell) → list_any (is_end t) (unthreaded t cells) ≡ false
no_end t cells = any_filter (is_end t) (kept_by t) false cells (λ c e. ap (λ (b : Bool). not (is_start t c || b)) e ∙ or_true (is_start t c))
  where
    or_true : (b : Bool) → not (b || true) ≡ false
    or_true true = refl
    or_true false = refl

still_weight : (t : ℕ) (c : Cell) → kept_by t c ≡ false → weight c ≡ 0
still_weight t (Live u o) e = cc
still_weight t (Gone u m) e = refl
still_weight t (Start s) e = refl
still_weight t (End s) e = refl

pub gap_unthreaded : (test : Cell → Bool) (t : ℕ) (cells : List Cell) → ((c : Cell) → test c ≡ true → kept_by t c ≡ true) → gap_of test (unthreaded t cells) ≡ gap_of test cells
gap_unthreaded test t [] h = refl
gap_unthreaded test t (c ∷ cs) h = ⊎_elim {C = gap_of test (unthreaded t (c ∷ cs)) ≡ gap_of test (c ∷ cs)}
    (λ e. ap (gap_of test) (filter_in (kept_by t) c cs (h c e)) ∙ gap_here test c (unthreaded t cs) e ∙ sym (gap_here test c cs e))
    (λ e. ⊎_elim {C = gap_of test (unthreaded t (c ∷ cs)) ≡ gap_of test (c ∷ cs)}
    (λ k. ap (gap_of test) (filter_in (kept_by t) c cs k) ∙ gap_on test c (unthreaded t cs) e ∙ ap (λ (n : ℕ). weight c + n) (gap_unthreaded test t cs h) ∙ sym (gap_on test c cs e))
    (λ k. omega (arith, ap (gap_of test) (filter_out (kept_by t) c cs k) ∙ gap_unthreaded test t cs h, gap_on test c cs e, still_weight t c k))
    (cases_Bool (kept_by t c)))
    (cases_Bool (test c))

-- other threads
pub other_start : (s t : ℕ) → (s == t) ≡ false → (c : Cell) → is_start s c ≡ true → kept_by t c ≡ true
other_start s t ne (Live u o) e = refl
other_start s t ne (Gone u m) e = refl
other_start s t ne (Start x) e = ap (λ (n : ℕ). not ((n == t) || false)) (eqb-true x s e) ∙ ap (λ (b : Bool). not (b || false)) ne
other_start s t ne (End x) e = cc

pub other_end : (s t : ℕ) → (s == t) ≡ false → (c : Cell) → is_end s c ≡ true → kept_by t c ≡ true
other_end s t ne (Live u o) e = refl
other_end s t ne (Gone u m) e = refl
other_end s t ne (Start x) e = cc
other_end s t ne (End x) e = ap (λ (n : ℕ). not (n == t)) (eqb-true x s e) ∙ ap not ne

pub swap_eqb : (s t : ℕ) → (s == t) ≡ false → (t == s) ≡ false
swap_eqb s t e = ne_eqb t s (λ k. absurd (clash (sym (eq-eqb s t (sym k)) ∙ e)))
  where
    clash : true ≡ false → ⊥
    clash x = cc

-- one more cell that is no live one
gap_more : (test : Cell → Bool) (c : Cell) (xs ys : List Cell) → test c ≡ false → weight c ≡ 0 → gap_of test (xs ++ (c ∷ ys)) ≡ gap_of test (xs ++ ys)
gap_more test c xs ys e w = ⊎_elim {C = gap_of test (xs ++ (c ∷ ys)) ≡ gap_of test (xs ++ ys)}
    (λ t. gap_in test xs (c ∷ ys) t ∙ sym (gap_in test xs ys t))
    (λ t. omega (arith, gap_past test xs (c ∷ ys) t, gap_past test xs ys t, gap_on test c ys e, w))
    (cases_Bool (list_any test xs))

gap_alike : (test : Cell → Bool) (xs ys zs : List Cell) → gap_of test ys ≡ gap_of test zs → gap_of test (xs ++ ys) ≡ gap_of test (xs ++ zs)
gap_alike test xs ys zs e = ⊎_elim {C = gap_of test (xs ++ ys) ≡ gap_of test (xs ++ zs)}
    (λ t. gap_in test xs ys t ∙ sym (gap_in test xs zs t))
    (λ t. gap_past test xs ys t ∙ ap (λ (n : ℕ). length (lives_of xs) + n) e ∙ sym (gap_past test xs zs t))
    (cases_Bool (list_any test xs))

lives_more : (c : Cell) (xs ys : List Cell) → lives_of (c ∷ ys) ≡ lives_of ys → lives_of (xs ++ (c ∷ ys)) ≡ lives_of (xs ++ ys)
lives_more c xs ys e = lives-append xs (c ∷ ys) ∙ ap (λ (z : List LiveUnit). lives_of xs ++ z) e ∙ sym (lives-append xs ys)

gone_more : (at : ℕ) (c : Cell) (xs ys : List Cell) → ((n : ℕ) → gone_from n (c ∷ ys) ≡ gone_from n ys) → gone_from at (xs ++ (c ∷ ys)) ≡ gone_from at (xs ++ ys)
gone_more at c xs ys e = gone-append at xs (c ∷ ys) ∙ ap (λ (z : List GoneUnit). gone_from at xs ++ z) (e (at + length (lives_of xs))) ∙ sym (gone-append at xs ys)

-- the start comes in
pub start_parts : (t at : ℕ) (cells : List Cell) → with_start t at cells ≡ (before at cells ++ gaps 0 (from_gap at cells)) ++ (Start t ∷ behind 0 (from_gap at cells))
start_parts t at cells = sym (append_assoc (before at cells) (gaps 0 (from_gap at cells)) (Start t ∷ behind 0 (from_gap at cells)))

pub parts_joined : (at : ℕ) (cells : List Cell) → (before at cells ++ gaps 0 (from_gap at cells)) ++ behind 0 (from_gap at cells) ≡ cells
parts_joined at cells = append_assoc (before at cells) (gaps 0 (from_gap at cells)) (behind 0 (from_gap at cells)) ∙ parts_of at cells

pub start_lives : (t at : ℕ) (cells : List Cell) → lives_of (with_start t at cells) ≡ lives_of cells
start_lives t at cells = ap lives_of (start_parts t at cells) ∙ lives_more (Start t) (before at cells ++ gaps 0 (from_gap at cells)) (behind 0 (from_gap at cells)) refl ∙ ap lives_of (parts_joined at cells)

start_gone : (t at k : ℕ) (cells : List Cell) → gone_from k (with_start t at cells) ≡ gone_from k cells
start_gone t at k cells = ap (gone_from k) (start_parts t at cells) ∙ gone_more k (Start t) (before at cells ++ gaps 0 (from_gap at cells)) (behind 0 (from_gap at cells)) (λ n. refl) ∙ ap (gone_from k) (parts_joined at cells)

start_other : (test : Cell → Bool) (t at : ℕ) (cells : List Cell) → test (Start t) ≡ false → gap_of test (with_start t at cells) ≡ gap_of test cells
start_other test t at cells e = ap (gap_of test) (start_parts t at cells) ∙ gap_more test (Start t) (before at cells ++ gaps 0 (from_gap at cells)) (behind 0 (from_gap at cells)) e refl ∙ ap (gap_of test) (parts_joined at cells)

-- what does not stand in a row does not stand before some gap of it
pub not_before : (test : Cell → Bool) (at : ℕ) (cells : List Cell) → list_any test cells ≡ false → (list_any test (before at cells) ≡ false) × (list_any test (gaps 0 (from_gap at cells)) ≡ false)
not_before test at cells e =
    let a = or_parts (list_any test (before at cells)) (list_any test (gaps 0 (from_gap at cells) ++ behind 0 (from_gap at cells))) (sym (list_any-append test (before at cells) (gaps 0 (from_gap at cells) ++ behind 0 (from_gap at cells))) ∙ ap (list_any test) (parts_of at cells) ∙ e) in
    let b = or_parts (list_any test (gaps 0 (from_gap at cells))) (list_any test (behind 0 (from_gap at cells))) (sym (list_any-append test (gaps 0 (from_gap at cells)) (behind 0 (from_gap at cells))) ∙ a.1) in
    (a.0, b.0)

pub eqb_self : (t : ℕ) → (t == t) ≡ true
eqb_self t = eq-eqb t t refl

pub start_place : (t at : ℕ) (cells : List Cell) → at ≤ length (lives_of cells) → list_any (is_start t) cells ≡ false → gap_of (is_start t) (with_start t at cells) ≡ at
start_place t at cells le none =
    let n = not_before (is_start t) at cells none in
    let front = before at cells in
    let gap = gaps 0 (from_gap at cells) in
    let rest = Start t ∷ behind 0 (from_gap at cells) in
    omega (arith, gap_past (is_start t) front (gap ++ rest) n.0, gap_past (is_start t) gap rest n.1, gap_here (is_start t) (Start t) (behind 0 (from_gap at cells)) (eqb_self t), front_length at cells le, ap length (gap_lives at cells))

-- the end comes in
late_joined : (front gap rest : List Cell) (test : Cell → Bool) → lives_of gap ≡ [] → gap_of test (earlier_ends front gap ++ (without_earlier_ends front gap ++ rest)) ≡ gap_of test (gap ++ rest)
late_joined front gap rest test none =
    ap (gap_of test) (sym (append_assoc (earlier_ends front gap) (without_earlier_ends front gap) rest))
    ∙ gap_swap test (earlier_ends front gap ++ without_earlier_ends front gap) gap rest
    (lives-append (earlier_ends front gap) (without_earlier_ends front gap) ∙ ap₂ (λ (x y : List LiveUnit). x ++ y) (no_lives (ends_earlier front) gap none) (no_lives (λ (c : Cell). not (ends_earlier front c)) gap none))
    none (any_sorted test (ends_earlier front) gap)

end_other : (test : Cell → Bool) (t at : ℕ) (cells : List Cell) → test (End t) ≡ false → gap_of test (with_end t at cells) ≡ gap_of test cells
end_other test t at cells e =
    let front = before at cells in
    let rest = from_gap at cells in
    let gap = gaps 0 rest in
    let late = without_earlier_ends front gap ++ behind 0 rest in
    gap_alike test front (earlier_ends front gap ++ (End t ∷ late)) (gap ++ behind 0 rest) (gap_more test (End t) (earlier_ends front gap) late e refl ∙ late_joined front gap (behind 0 rest) test (gap_lives at cells))
    ∙ ap (gap_of test) (parts_of at cells)

end_lives : (t at : ℕ) (cells : List Cell) → lives_of (with_end t at cells) ≡ lives_of cells
end_lives t at cells =
    let front = before at cells in
    let rest = from_gap at cells in
    let gap = gaps 0 rest in
    let ends = earlier_ends front gap in
    let late = without_earlier_ends front gap in
    let none : lives_of gap ≡ [] = gap_lives at cells in
    lives-append front (ends ++ (End t ∷ (late ++ behind 0 rest)))
    ∙ ap (λ (x : List LiveUnit). lives_of front ++ x)
    (lives-append ends (End t ∷ (late ++ behind 0 rest)) ∙ ap₂ (λ (x y : List LiveUnit). x ++ y) (no_lives (ends_earlier front) gap none) (lives-append late (behind 0 rest))
    ∙ ap (λ (x : List LiveUnit). x ++ lives_of (behind 0 rest)) (no_lives (λ (c : Cell). not (ends_earlier front c)) gap none ∙ sym none) ∙ sym (lives-append gap (behind 0 rest)))
    ∙ sym (lives-append front (gap ++ behind 0 rest)) ∙ ap lives_of (parts_of at cells)

end_gone : (t at k : ℕ) (cells : List Cell) → gone_from k (with_end t at cells) ≡ gone_from k cells
end_gone t at k cells =
    let front = before at cells in
    let rest = from_gap at cells in
    let gap = gaps 0 rest in
    let ends = earlier_ends front gap in
    let late = without_earlier_ends front gap in
    let none : lives_of gap ≡ [] = gap_lives at cells in
    let j = k + length (lives_of front) in
    gone-append k front (ends ++ (End t ∷ (late ++ behind 0 rest)))
    ∙ ap (λ (x : List GoneUnit). gone_from k front ++ x)
    (gone-append j ends (End t ∷ (late ++ behind 0 rest)) ∙ ap₂ (λ (x : List GoneUnit) (n : ℕ). x ++ gone_from n (late ++ behind 0 rest)) (no_gone (ends_earlier front) (λ u m. refl) j gap none) (omega (arith, ap length (no_lives (ends_earlier front) gap none)))
    ∙ gone-append j late (behind 0 rest)
    ∙ ap₂ (λ (x : List GoneUnit) (n : ℕ). x ++ gone_from (j + n) (behind 0 rest)) (same_gone (λ (c : Cell). not (ends_earlier front c)) (λ u m. refl) j gap none) (ap length (no_lives (λ (c : Cell). not (ends_earlier front c)) gap none ∙ sym none))
    ∙ sym (gone-append j gap (behind 0 rest)))
    ∙ sym (gone-append k front (gap ++ behind 0 rest)) ∙ ap (gone_from k) (parts_of at cells)

end_place : (t at : ℕ) (cells : List Cell) → at ≤ length (lives_of cells) → list_any (is_end t) cells ≡ false → gap_of (is_end t) (with_end t at cells) ≡ at
end_place t at cells le none =
    let n = not_before (is_end t) at cells none in
    let front = before at cells in
    let gap = gaps 0 (from_gap at cells) in
    let ends = earlier_ends front gap in
    let rest = End t ∷ (without_earlier_ends front gap ++ behind 0 (from_gap at cells)) in
    let ends_none : list_any (is_end t) ends ≡ false = any_less (is_end t) (ends_earlier front) gap n.1 in
    omega (arith, gap_past (is_end t) front (ends ++ rest) n.0, gap_past (is_end t) ends rest ends_none, gap_here (is_end t) (End t) (without_earlier_ends front gap ++ behind 0 (from_gap at cells)) (eqb_self t), front_length at cells le, ap length (no_lives (ends_earlier front) gap (gap_lives at cells)))

-- what a comment makes of the cells of other threads, and where its own stand
record Threaded (t at n : ℕ) (cells made : List Cell) : Type 0 where
  lives : lives_of made ≡ lives_of cells
  gone : (k : ℕ) → gone_from k made ≡ gone_from k cells
  others : (test : Cell → Bool) → test (Start t) ≡ false → test (End t) ≡ false → gap_of test made ≡ gap_of test cells
  start : gap_of (is_start t) made ≡ at
  end : gap_of (is_end t) made ≡ at + n

empty_threaded : (t at : ℕ) (cells : List Cell) → at ≤ length (lives_of cells) → list_any (is_start t) cells ≡ false → list_any (is_end t) cells ≡ false → Threaded t at 0 cells (with_empty t at cells)
empty_threaded t at cells le no_starts no_ends =
    let front = before at cells in
    let gap = gaps 0 (from_gap at cells) in
    let rest = behind 0 (from_gap at cells) in
    let split : with_empty t at cells ≡ (front ++ gap) ++ (Start t ∷ (End t ∷ rest)) = sym (append_assoc front gap (Start t ∷ (End t ∷ rest))) in
    let a = not_before (is_start t) at cells no_starts in
    let b = not_before (is_end t) at cells no_ends in
    record {
      lives = ap lives_of split ∙ lives_more (Start t) (front ++ gap) (End t ∷ rest) refl ∙ lives_more (End t) (front ++ gap) rest refl ∙ ap lives_of (parts_joined at cells);
      gone = λ k. ap (gone_from k) split ∙ gone_more k (Start t) (front ++ gap) (End t ∷ rest) (λ n. refl) ∙ gone_more k (End t) (front ++ gap) rest (λ n. refl) ∙ ap (gone_from k) (parts_joined at cells);
      others = λ test e f. ap (gap_of test) split ∙ gap_more test (Start t) (front ++ gap) (End t ∷ rest) e refl ∙ gap_more test (End t) (front ++ gap) rest f refl ∙ ap (gap_of test) (parts_joined at cells);
      start = omega (arith, gap_past (is_start t) front (gap ++ (Start t ∷ (End t ∷ rest))) a.0, gap_past (is_start t) gap (Start t ∷ (End t ∷ rest)) a.1, gap_here (is_start t) (Start t) (End t ∷ rest) (eqb_self t), front_length at cells le, ap length (gap_lives at cells));
      end = omega (arith, gap_past (is_end t) front (gap ++ (Start t ∷ (End t ∷ rest))) b.0, gap_past (is_end t) gap (Start t ∷ (End t ∷ rest)) b.1, gap_on (is_end t) (Start t) (End t ∷ rest) refl, gap_here (is_end t) (End t) rest (eqb_self t), front_length at cells le, ap length (gap_lives at cells));
    }

pub still_no_end : (t at : ℕ) (cells : List Cell) → list_any (is_end t) cells ≡ false → list_any (is_end t) (with_start t at cells) ≡ false
still_no_end t at cells e =
    let front = before at cells ++ gaps 0 (from_gap at cells) in
    let rest = behind 0 (from_gap at cells) in
    ap (list_any (is_end t)) (start_parts t at cells) ∙ list_any-append (is_end t) front (Start t ∷ rest) ∙ sym (list_any-append (is_end t) front rest) ∙ ap (list_any (is_end t)) (parts_joined at cells) ∙ e

threaded_is : (t at n : ℕ) (cells : List Cell) → at + n ≤ length (lives_of cells) → list_any (is_start t) cells ≡ false → list_any (is_end t) cells ≡ false → Threaded t at n cells (threaded t at n cells)
threaded_is t at zero cells le no_starts no_ends = empty_threaded t at cells (omega (arith, le)) no_starts no_ends
threaded_is t at (suc n) cells le no_starts no_ends =
    let begun = with_start t at cells in
    let lives : lives_of begun ≡ lives_of cells = start_lives t at cells in
    record {
      lives = end_lives t (at + suc n) begun ∙ lives;
      gone = λ k. end_gone t (at + suc n) k begun ∙ start_gone t at k cells;
      others = λ test e f. end_other test t (at + suc n) begun f ∙ start_other test t at cells e;
      start = end_other (is_start t) t (at + suc n) begun refl ∙ start_place t at cells (omega (arith, le)) no_starts;
      end = end_place t (at + suc n) begun (subst (λ (x : List LiveUnit). at + suc n ≤ length x) (sym lives) le) (still_no_end t at cells no_ends);
    }

pub threaded_lives : (t at n : ℕ) (cells : List Cell) → at + n ≤ length (lives_of cells) → list_any (is_start t) cells ≡ false → list_any (is_end t) cells ≡ false → lives_of (threaded t at n cells) ≡ lives_of cells
threaded_lives t at n cells le no_starts no_ends = let is : Threaded t at n cells (threaded t at n cells) = threaded_is t at n cells le no_starts no_ends in is.lives

-- the threads
same_others : (cells made : List Cell) (t : ℕ) (ts : List ℕ) → ((s : ℕ) → (s == t) ≡ false → thread_of made s ≡ thread_of cells s) → names t ts ≡ false → map (thread_of made) ts ≡ map (thread_of cells) ts
same_others cells made t [] h e = refl
same_others cells made t (s ∷ ss) h e =
    let p = or_parts (s == t) (names t ss) e in
    ap₂ (λ (x : Thread) (xs : List Thread). x ∷ xs) (h s p.0) (same_others cells made t ss h p.1)

set_listed : (cells made : List Cell) (t from to : ℕ) (ts : List ℕ) → IsOnceEach ts → ((s : ℕ) → (s == t) ≡ false → thread_of made s ≡ thread_of cells s) → thread_of made t ≡ record { thread = t; from = from; to = to } → map (thread_of made) (listed t ts) ≡ set_thread t from to (map (thread_of cells) ts)
set_listed cells made t from to [] once h e = ap (λ (x : Thread). x ∷ []) e
set_listed cells made t from to (s ∷ ss) once h e = ⊎_elim {C = map (thread_of made) (listed t (s ∷ ss)) ≡ set_thread t from to (map (thread_of cells) (s ∷ ss))}
    (λ k. let same : s ≡ t = eqb-true s t k in
    ap (map (thread_of made)) (cond-true (s == t) (s ∷ ss) (s ∷ listed t ss) k)
    ∙ ap₂ (λ (x : Thread) (xs : List Thread). x ∷ xs) (ap (thread_of made) same ∙ e) (same_others cells made t ss h (ap (λ (x : ℕ). names x ss) (sym same) ∙ once.0))
    ∙ sym (cond-true (s == t) (record { thread = t; from = from; to = to } ∷ map (thread_of cells) ss) (thread_of cells s ∷ set_thread t from to (map (thread_of cells) ss)) k))
    (λ k. ap (map (thread_of made)) (cond-false (s == t) (s ∷ ss) (s ∷ listed t ss) k)
    ∙ ap₂ (λ (x : Thread) (xs : List Thread). x ∷ xs) (h s k) (set_listed cells made t from to ss once.1 h e)
    ∙ sym (cond-false (s == t) (record { thread = t; from = from; to = to } ∷ map (thread_of cells) ss) (thread_of cells s ∷ set_thread t from to (map (thread_of cells) ss)) k))
    (cases_Bool (s == t))

pub comment_agrees : (row : FlatRow) (at n t : ℕ) → IsWellFormedFlat row → at + n ≤ length (lives_of row.cells) →
    row_of (record { cells = threaded t at n (unthreaded t row.cells); threads = listed t row.threads }) ≡ record { lives = lives_of row.cells; gone = gone_from 0 row.cells; threads = set_thread t at (at + n) (row_of row).threads }
comment_agrees row at n t h le =
    let rest = unthreaded t row.cells in
    let made = threaded t at n rest in
    let lives : lives_of rest ≡ lives_of row.cells = unthreaded_lives t row.cells in
    let is : Threaded t at n rest made = threaded_is t at n rest (subst (λ (x : List LiveUnit). at + n ≤ length x) (sym lives) le) (no_start t row.cells) (no_end t row.cells) in
    let other : (s : ℕ) → (s == t) ≡ false → thread_of made s ≡ thread_of row.cells s = λ s ne. ap₂ (λ (x y : ℕ). let r : Thread = record { thread = s; from = x; to = y } in r)
    (is.others (is_start s) (swap_eqb s t ne) refl ∙ gap_unthreaded (is_start s) t row.cells (other_start s t ne))
    (is.others (is_end s) refl (swap_eqb s t ne) ∙ gap_unthreaded (is_end s) t row.cells (other_end s t ne)) in
    same_rows (lives_of made) (lives_of row.cells) (gone_from 0 made) (gone_from 0 row.cells) (map (thread_of made) (listed t row.threads)) (set_thread t at (at + n) (row_of row).threads)
    (is.lives ∙ lives) (is.gone 0 ∙ unthreaded_gone t 0 row.cells)
    (set_listed row.cells made t at (at + n) row.threads h.once other (ap₂ (λ (x y : ℕ). let r : Thread = record { thread = t; from = x; to = y } in r) is.start is.end))
