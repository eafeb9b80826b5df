-- A flat row after a comment: its threads, its marks and its neighbours.
use Rattle.std.proofs.Common.{◌≡◌, ℕ, zero, suc, ◌+◌, ◌≤◌, Bool, true, false, List, [], ◌∷◌, ◌++◌, refl, ap, ap₂, sym, ◌∙◌, length, arith, append_assoc, subst, ⊎_elim, inl, All}
use Rattle.std.specs.Prelude.{◌||◌, ◌==◌, if◌then◌else◌}
use Rattle.std.specs.List.{list_any}
use Rattle.std.proofs.lemmas.Bool.{cases_Bool, or_parts, or_cases, or_left, or_right, cond-true, cond-false, eqb-true}
use Rattle.std.proofs.lemmas.List.Folds.{list_any-append}
use Rattle.std.proofs.lemmas.List.Elements.{All-nil, All-cons, All-head, All-tail}
use Rattle.ranges_tracker.specs.declared.mark.Mark.{Mark}
use Rattle.ranges_tracker.specs.declared.stamp.Stamp.{Stamp}
use Rattle.flat_cells.specs.Row.{Cell, Start, End, is_start, is_end, lives_of, before, from_gap, gaps, behind, until, ends_earlier, earlier_ends, without_earlier_ends}
use Rattle.flat_cells.specs.Step.{unthreaded, with_start, with_end, with_empty, threaded, listed}
use Rattle.flat_cells.specs.Form.{IsThread, IsOnceEach, names, is_edge, is_live_of, is_gone_of, AreNeighbours}
use Rattle.flat_cells.proofs.Parts.{BeginsLive, ends_before, begins_behind}
use Rattle.flat_cells.proofs.Edges.{any_sorted}
use Rattle.flat_cells.proofs.Inserting.{parts_of}
use Rattle.flat_cells.proofs.Commenting.{kept_by, other_start, other_end, no_start, no_end, swap_eqb, start_lives, still_no_end, eqb_self, start_parts, parts_joined}
use Rattle.flat_cells.proofs.Threads.{tally, tally-append, tally_none, tally_in, tally_out, tally_split, order_none, order_past, order_start, thread_more, thread_spliced, thread_filtered}
use Rattle.flat_cells.proofs.Marks.{any_more, Marks, gone_late}
use Rattle.flat_cells.proofs.Neighbours.{prefix_neighbours, suffix_neighbours, apart_begins, join_neighbours, filter_neighbours, spliced_neighbours}
use Rattle.flat_cells.proofs.Regrouping.{begins_before}

-- a test that a new start and end don't pass
any_started : (test : Cell → Bool) (t at : ℕ) (cells : List Cell) → test (Start t) ≡ false → list_any test (with_start t at cells) ≡ list_any test cells
any_started test t at cells e =
    let front = before at cells ++ gaps 0 (from_gap at cells) in
    let rest = behind 0 (from_gap at cells) in
    ap (list_any test) (start_parts t at cells) ∙ list_any-append test front (Start t ∷ rest) ∙ ap (λ (b : Bool). list_any test front || (b || list_any test rest)) e ∙ sym (list_any-append test front rest) ∙ ap (list_any test) (parts_joined at cells)

any_ended : (test : Cell → Bool) (t at : ℕ) (cells : List Cell) → test (End t) ≡ false → list_any test (with_end t at cells) ≡ list_any test cells
any_ended test t at cells e =
    let front = before at cells in
    let gap = gaps 0 (from_gap at cells) in
    let rest = behind 0 (from_gap at cells) in
    let ends = earlier_ends front gap in
    let late = without_earlier_ends front gap in
    list_any-append test front (ends ++ (End t ∷ (late ++ rest)))
    ∙ ap (λ (b : Bool). list_any test front || b)
    (list_any-append test ends (End t ∷ (late ++ rest)) ∙ ap (λ (b : Bool). list_any test ends || (b || list_any test (late ++ rest))) e
    ∙ sym (list_any-append test ends (late ++ rest)) ∙ ap (list_any test) (sym (append_assoc ends late rest)) ∙ list_any-append test (ends ++ late) rest
    ∙ ap (λ (b : Bool). b || list_any test rest) (any_sorted test (ends_earlier front) gap) ∙ sym (list_any-append test gap rest))
    ∙ sym (list_any-append test front (gap ++ rest)) ∙ ap (list_any test) (parts_of at cells)

empty_parts : (t at : ℕ) (cells : List Cell) → with_empty t at cells ≡ (before at cells ++ gaps 0 (from_gap at cells)) ++ (Start t ∷ (End t ∷ behind 0 (from_gap at cells)))
empty_parts t at cells = sym (append_assoc (before at cells) (gaps 0 (from_gap at cells)) (Start t ∷ (End t ∷ behind 0 (from_gap at cells))))

any_empty : (test : Cell → Bool) (t at : ℕ) (cells : List Cell) → test (Start t) ≡ false → test (End t) ≡ false → list_any test (with_empty t at cells) ≡ list_any test cells
any_empty test t at cells e f =
    let front = before at cells ++ gaps 0 (from_gap at cells) in
    let rest = behind 0 (from_gap at cells) in
    ap (list_any test) (empty_parts t at cells) ∙ list_any-append test front (Start t ∷ (End t ∷ rest)) ∙ ap₂ (λ (a b : Bool). list_any test front || (a || (b || list_any test rest))) e f ∙ sym (list_any-append test front rest) ∙ ap (list_any test) (parts_joined at cells)

pub any_threaded : (test : Cell → Bool) (t at n : ℕ) (cells : List Cell) → test (Start t) ≡ false → test (End t) ≡ false → list_any test (threaded t at n cells) ≡ list_any test cells
any_threaded test t at zero cells e f = any_empty test t at cells e f
any_threaded test t at (suc n) cells e f = any_ended test t (at + suc n) (with_start t at cells) f ∙ any_started test t at cells e

-- the list of threads
pub listed_all : (P Q : ℕ → Type 0) (t : ℕ) (ts : List ℕ) → P t → ((s : ℕ) → (s == t) ≡ false → Q s → P s) → IsOnceEach ts → All Q ts → All P (listed t ts)
listed_all P Q t [] p f once h = All-cons P t [] p (All-nil P)
listed_all P Q t (s ∷ ss) p f once h = ⊎_elim {C = All P (listed t (s ∷ ss))}
    (λ e. let same : s ≡ t = eqb-true s t e in
    subst (All P) (sym (cond-true (s == t) (s ∷ ss) (s ∷ listed t ss) e)) (All-cons P s ss (subst P (sym same) p) (rest ss (subst (λ (x : ℕ). names x ss ≡ false) same once.0) (All-tail Q s ss h))))
    (λ e. subst (All P) (sym (cond-false (s == t) (s ∷ ss) (s ∷ listed t ss) e)) (All-cons P s (listed t ss) (f s e (All-head Q s ss h)) (listed_all P Q t ss p f once.1 (All-tail Q s ss h))))
    (cases_Bool (s == t))
  where
    rest : (xs : List ℕ) → names t xs ≡ false → All Q xs → All P xs
    rest [] n h = All-nil P
    rest (x ∷ xs) n h = let a = or_parts (x == t) (names t xs) n in All-cons P x xs (f x a.0 (All-head Q x xs h)) (rest xs a.1 (All-tail Q x xs h))

still_named : (s t : ℕ) (ts : List ℕ) → names s ts ≡ true → names s (listed t ts) ≡ true
still_named s t [] e = cc
still_named s t (x ∷ xs) e = either_named (x == t) (listed t xs) (still_named s t xs)
  where
    either_named : (b : Bool) (ys : List ℕ) → (names s xs ≡ true → names s ys ≡ true) → names s (if b then x ∷ xs else x ∷ ys) ≡ true
    either_named true ys f = e
    either_named false ys f = ⊎_elim {C = names s (x ∷ ys) ≡ true} (λ a. or_left (x == s) (names s ys) a) (λ a. or_right (x == s) (names s ys) (f a)) (or_cases (x == s) (names s xs) e)

now_named : (t : ℕ) (ts : List ℕ) → names t (listed t ts) ≡ true
now_named t [] = ap (λ (b : Bool). b || false) (eqb_self t)
now_named t (x ∷ xs) = ⊎_elim {C = names t (listed t (x ∷ xs)) ≡ true}
    (λ e. ap (names t) (cond-true (x == t) (x ∷ xs) (x ∷ listed t xs) e) ∙ or_left (x == t) (names t xs) e)
    (λ e. ap (names t) (cond-false (x == t) (x ∷ xs) (x ∷ listed t xs) e) ∙ or_right (x == t) (names t (listed t xs)) (now_named t xs))
    (cases_Bool (x == t))

not_named : (s t : ℕ) (ts : List ℕ) → (t == s) ≡ false → names s ts ≡ false → names s (listed t ts) ≡ false
not_named s t [] n e = ap (λ (b : Bool). b || false) n
not_named s t (x ∷ xs) n e =
    let p = or_parts (x == s) (names s xs) e in
    ⊎_elim {C = names s (listed t (x ∷ xs)) ≡ false}
    (λ k. ap (names s) (cond-true (x == t) (x ∷ xs) (x ∷ listed t xs) k) ∙ e)
    (λ k. ap (names s) (cond-false (x == t) (x ∷ xs) (x ∷ listed t xs) k) ∙ ap₂ (λ (a b : Bool). a || b) p.0 (not_named s t xs n p.1))
    (cases_Bool (x == t))

pub once_listed : (t : ℕ) (ts : List ℕ) → IsOnceEach ts → IsOnceEach (listed t ts)
once_listed t [] h = (refl, tt)
once_listed t (s ∷ ss) h = ⊎_elim {C = IsOnceEach (listed t (s ∷ ss))}
    (λ e. subst IsOnceEach (sym (cond-true (s == t) (s ∷ ss) (s ∷ listed t ss) e)) h)
    (λ e. subst IsOnceEach (sym (cond-false (s == t) (s ∷ ss) (s ∷ listed t ss) e)) (not_named s t ss (swap_eqb s t e) h.0, once_listed t ss h.1))
    (cases_Bool (s == t))

pub others_listed : (t at n : ℕ) (cells : List Cell) (ts : List ℕ) → ((s : ℕ) → list_any (is_edge s) cells ≡ true → names s ts ≡ true) → (s : ℕ) → list_any (is_edge s) (threaded t at n (unthreaded t cells)) ≡ true → names s (listed t ts) ≡ true
others_listed t at n cells ts h s e = ⊎_elim {C = names s (listed t ts) ≡ true}
    (λ k. ap (λ (x : ℕ). names x (listed t ts)) (eqb-true s t k) ∙ now_named t ts)
    (λ k. still_named s t ts (h s (any_more (is_edge s) (kept_by t) cells (sym (any_threaded (is_edge s) t at n (unthreaded t cells) (ap (λ (b : Bool). b || false) (swap_eqb s t k)) (swap_eqb s t k)) ∙ e))))
    (cases_Bool (s == t))

-- another thread keeps its start and end
other_thread : (s t at n : ℕ) (cells : List Cell) → (s == t) ≡ false → IsThread cells s → IsThread (threaded t at n cells) s
other_thread s t at zero cells ne h =
    let front = before at cells ++ gaps 0 (from_gap at cells) in
    let rest = behind 0 (from_gap at cells) in
    subst (λ (x : List Cell). IsThread x s) (sym (empty_parts t at cells))
    (thread_more s (Start t) front (End t ∷ rest) (swap_eqb s t ne) refl (thread_more s (End t) front rest refl (swap_eqb s t ne) (subst (λ (x : List Cell). IsThread x s) (sym (parts_joined at cells)) h)))
other_thread s t at (suc n) cells ne h =
    let begun = with_start t at cells in
    let p = at + suc n in
    let inner = before at cells ++ gaps 0 (from_gap at cells) in
    let started : IsThread begun s = subst (λ (x : List Cell). IsThread x s) (sym (start_parts t at cells)) (thread_more s (Start t) inner (behind 0 (from_gap at cells)) (swap_eqb s t ne) refl (subst (λ (x : List Cell). IsThread x s) (sym (parts_joined at cells)) h)) in
    thread_spliced s (before p begun) (gaps 0 (from_gap p begun)) (End t ∷ []) (without_earlier_ends (before p begun) (gaps 0 (from_gap p begun)) ++ behind 0 (from_gap p begun)) (behind 0 (from_gap p begun))
    refl (ap (λ (b : Bool). b || false) (swap_eqb s t ne)) (λ test e. refl) refl (subst (λ (x : List Cell). IsThread x s) (sym (parts_of p begun)) started)

-- the thread itself
none_in_parts : (test : Cell → Bool) (at : ℕ) (cells : List Cell) → list_any test cells ≡ false → (list_any test (before at cells) ≡ false) × (list_any test (gaps 0 (from_gap at cells)) ≡ false) × (list_any test (behind 0 (from_gap at cells)) ≡ false)
none_in_parts test at cells e =
    let a = or_parts (list_any test (before at cells)) (list_any test (gaps 0 (from_gap at cells) ++ behind 0 (from_gap at cells))) (sym (list_any-append test (before at cells) (gaps 0 (from_gap at cells) ++ behind 0 (from_gap at cells))) ∙ ap (list_any test) (parts_of at cells) ∙ e) in
    let b = or_parts (list_any test (gaps 0 (from_gap at cells))) (list_any test (behind 0 (from_gap at cells))) (sym (list_any-append test (gaps 0 (from_gap at cells)) (behind 0 (from_gap at cells))) ∙ a.1) in
    (a.0, b.0, b.1)

own_empty : (t at : ℕ) (cells : List Cell) → list_any (is_start t) cells ≡ false → list_any (is_end t) cells ≡ false → IsThread (with_empty t at cells) t
own_empty t at cells s e =
    let front = before at cells in
    let gap = gaps 0 (from_gap at cells) in
    let rest = behind 0 (from_gap at cells) in
    let a = none_in_parts (is_start t) at cells s in
    let b = none_in_parts (is_end t) at cells e in
    let tail = Start t ∷ (End t ∷ rest) in
    record {
      one_start = omega (arith, tally-append (is_start t) front (gap ++ tail), tally-append (is_start t) gap tail, tally_none (is_start t) front a.0, tally_none (is_start t) gap a.1, tally_in (is_start t) (Start t) (End t ∷ rest) (eqb_self t), tally_out (is_start t) (End t) rest refl, tally_none (is_start t) rest a.2);
      one_end = omega (arith, tally-append (is_end t) front (gap ++ tail), tally-append (is_end t) gap tail, tally_none (is_end t) front b.0, tally_none (is_end t) gap b.1, tally_out (is_end t) (Start t) (End t ∷ rest) refl, tally_in (is_end t) (End t) rest (eqb_self t), tally_none (is_end t) rest b.2);
      in_order = order_none t front (gap ++ tail) a.0 b.0 ∙ order_none t gap tail a.1 b.1 ∙ order_start t (Start t) (End t ∷ rest) refl (eqb_self t);
    }

own_started : (t at : ℕ) (cells : List Cell) → list_any (is_start t) cells ≡ false → tally (is_start t) (with_start t at cells) ≡ 1
own_started t at cells s =
    let front = before at cells in
    let gap = gaps 0 (from_gap at cells) in
    let rest = behind 0 (from_gap at cells) in
    let a = none_in_parts (is_start t) at cells s in
    omega (arith, tally-append (is_start t) front (gap ++ (Start t ∷ rest)), tally-append (is_start t) gap (Start t ∷ rest), tally_none (is_start t) front a.0, tally_none (is_start t) gap a.1, tally_in (is_start t) (Start t) rest (eqb_self t), tally_none (is_start t) rest a.2)

own_ended : (t at : ℕ) (cells : List Cell) → list_any (is_start t) (before at cells) ≡ true → list_any (is_end t) cells ≡ false → tally (is_start t) cells ≡ 1 → IsThread (with_end t at cells) t
own_ended t at cells s e one =
    let front = before at cells in
    let gap = gaps 0 (from_gap at cells) in
    let rest = behind 0 (from_gap at cells) in
    let ends = earlier_ends front gap in
    let late = without_earlier_ends front gap in
    let b = none_in_parts (is_end t) at cells e in
    let split : (test : Cell → Bool) → tally test ends + tally test late ≡ tally test gap = λ test. tally_split test (ends_earlier front) gap in
    let all : (test : Cell → Bool) → tally test front + (tally test gap + tally test rest) ≡ tally test cells = λ test. ap (λ (n : ℕ). tally test front + n) (sym (tally-append test gap rest)) ∙ sym (tally-append test front (gap ++ rest)) ∙ ap (tally test) (parts_of at cells) in
    record {
      one_start = omega (arith, tally-append (is_start t) front (ends ++ (End t ∷ (late ++ rest))), tally-append (is_start t) ends (End t ∷ (late ++ rest)), tally_out (is_start t) (End t) (late ++ rest) refl, tally-append (is_start t) late rest, split (is_start t), all (is_start t), one);
      one_end = omega (arith, tally-append (is_end t) front (ends ++ (End t ∷ (late ++ rest))), tally-append (is_end t) ends (End t ∷ (late ++ rest)), tally_in (is_end t) (End t) (late ++ rest) (eqb_self t), tally-append (is_end t) late rest, split (is_end t), all (is_end t), tally_none (is_end t) cells e);
      in_order = order_past t front (ends ++ (End t ∷ (late ++ rest))) b.0 ∙ or_left (list_any (is_start t) front) (list_any (is_start t) (until (is_end t) (ends ++ (End t ∷ (late ++ rest))))) s;
    }

own_thread : (t at n : ℕ) (cells : List Cell) → at + n ≤ length (lives_of cells) → list_any (is_start t) cells ≡ false → list_any (is_end t) cells ≡ false → IsThread (threaded t at n cells) t
own_thread t at zero cells le s e = own_empty t at cells s e
own_thread t at (suc n) cells le s e = own_ended t (at + suc n) (with_start t at cells) (begins_before t at n cells le s) (still_no_end t at cells e) (own_started t at cells s)

pub threads_listed : (t at n : ℕ) (cells : List Cell) (ts : List ℕ) → at + n ≤ length (lives_of (unthreaded t cells)) → IsOnceEach ts → All (IsThread cells) ts → All (IsThread (threaded t at n (unthreaded t cells))) (listed t ts)
threads_listed t at n cells ts le once h =
    listed_all (IsThread (threaded t at n (unthreaded t cells))) (IsThread cells) t ts (own_thread t at n (unthreaded t cells) le (no_start t cells) (no_end t cells))
    (λ s ne k. other_thread s t at n (unthreaded t cells) ne (thread_filtered s (kept_by t) cells (other_start s t ne) (other_end s t ne) k)) once h

-- gone cells stay neighbours
neighbours_between : (xs ys tail : List Cell) → BeginsLive ys → AreNeighbours (xs ++ ys) → (AreNeighbours ys → AreNeighbours tail) → ((m : Mark) → list_any (is_gone_of m) tail ≡ list_any (is_gone_of m) ys) → AreNeighbours (xs ++ tail)
neighbours_between xs ys tail b h f same = join_neighbours xs tail (prefix_neighbours xs ys h) (f (suffix_neighbours xs ys h)) (λ m e. same m ∙ apart_begins xs ys b h m e)

started_neighbours : (t at : ℕ) (cells : List Cell) → AreNeighbours cells → AreNeighbours (with_start t at cells)
started_neighbours t at cells h =
    let front = before at cells ++ gaps 0 (from_gap at cells) in
    let rest = behind 0 (from_gap at cells) in
    subst AreNeighbours (sym (start_parts t at cells)) (neighbours_between front rest (Start t ∷ rest) (begins_behind 0 (from_gap at cells)) (subst AreNeighbours (sym (parts_joined at cells)) h) (λ k. k) (λ m. refl))

empty_neighbours : (t at : ℕ) (cells : List Cell) → AreNeighbours cells → AreNeighbours (with_empty t at cells)
empty_neighbours t at cells h =
    let front = before at cells ++ gaps 0 (from_gap at cells) in
    let rest = behind 0 (from_gap at cells) in
    subst AreNeighbours (sym (empty_parts t at cells)) (neighbours_between front rest (Start t ∷ (End t ∷ rest)) (begins_behind 0 (from_gap at cells)) (subst AreNeighbours (sym (parts_joined at cells)) h) (λ k. k) (λ m. refl))

ended_neighbours : (t at : ℕ) (cells : List Cell) → at ≤ length (lives_of cells) → AreNeighbours cells → AreNeighbours (with_end t at cells)
ended_neighbours t at cells le h =
    let front = before at cells in
    let gap = gaps 0 (from_gap at cells) in
    let rest = behind 0 (from_gap at cells) in
    let late = without_earlier_ends front gap in
    spliced_neighbours front gap (End t ∷ []) (late ++ rest) rest (ends_before at cells le) (begins_behind 0 (from_gap at cells)) (subst AreNeighbours (sym (parts_of at cells)) h) tt (λ m. refl) (λ k. k)
    (λ m. list_any-append (is_gone_of m) late rest ∙ ap (λ (b : Bool). b || list_any (is_gone_of m) rest) (gone_late m front gap) ∙ sym (list_any-append (is_gone_of m) gap rest))

pub threaded_neighbours : (t at n : ℕ) (cells : List Cell) → at + n ≤ length (lives_of cells) → AreNeighbours cells → AreNeighbours (threaded t at n cells)
threaded_neighbours t at zero cells le h = empty_neighbours t at cells h
threaded_neighbours t at (suc n) cells le h = ended_neighbours t (at + suc n) (with_start t at cells) (subst (λ x. at + suc n ≤ length x) (sym (start_lives t at cells)) le) (started_neighbours t at cells h)

pub unthreaded_neighbours : (t : ℕ) (cells : List Cell) → AreNeighbours cells → AreNeighbours (unthreaded t cells)
unthreaded_neighbours t cells h = filter_neighbours (kept_by t) (λ u n. refl) cells h

-- no mark is new
pub comment_marks : (t at n : ℕ) (cells : List Cell) (stamp : Stamp) (k : ℕ) → Marks (λ m. ⊥) cells (threaded t at n (unthreaded t cells)) stamp k k
comment_marks t at n cells stamp k = record {
  live = λ m e. inl (any_more (is_live_of m) (kept_by t) cells (sym (any_threaded (is_live_of m) t at n (unthreaded t cells) refl refl) ∙ e));
  gone = λ m e. inl (any_more (is_gone_of m) (kept_by t) cells (sym (any_threaded (is_gone_of m) t at n (unthreaded t cells) refl refl) ∙ e));
  one = λ m n x y e. absurd x;
  fresh = λ m x. absurd x;
  apart = λ m x e f. x;
  more = omega arith;
}
