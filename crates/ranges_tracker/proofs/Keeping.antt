-- A step keeps what the next one needs.
use Rattle.std.proofs.Common.{◌≡◌, ℕ, suc, ◌+◌, ◌-◌, ◌<◌, ◌≤◌, Bool, true, false, List, [], ◌∷◌, ◌++◌, refl, ap, sym, length, arith, length-append, map, take, drop, Option, Some, None, subst, take-append-drop, ◌⊎◌, inl, inr}
use Rattle.std.specs.Prelude.{nat_lt, nat_le, ◌&&◌, if◌then◌else◌}
use Rattle.std.proofs.lemmas.Bool.{cases_Bool, leb-true}
use Rattle.std.proofs.lemmas.List.{length-take-le, length-map}
use Rattle.ot_units.specs.Text.{put_at, cut_at}
use Rattle.ot_op.specs.Apply.{applied, stands}
use Rattle.ot_op.specs.declared.comp.Comp.{Comp}
use Rattle.ot_op.specs.declared.comp.Comp.TheVariants.{Ins, Del, Com}
use Rattle.ranges_tracker.specs.Cells.{Mark, Live, Gone, Stamp, Row, raised, squashed, shifted, chosen, torn, fresh_mark, gone_at, mark_at, mark_before, same_mark, mixed, some_unmarked, text_of, remarked, new_lives, step, deleted}
use Rattle.ranges_tracker.specs.declared.change.Change.{Change}
use Rattle.ranges_tracker.specs.Shown.{mark_of, packed, gone_cells}
use Rattle.ranges_tracker.specs.Steady.{RisingGone, GapsWithin, Within, OlderGone, NoMark, Distinct, Steady}
use Rattle.ranges_tracker.proofs.Packing.{same_mark_is}
use Rattle.ranges_tracker.proofs.Inserting.{Older}
use Rattle.ranges_tracker.proofs.Placing.{kept_gone, fit_raised, fit_differ, placed_cells}
use Rattle.ranges_tracker.proofs.Deleting.{new_law, kept_rising, above_rising, below_gaps, lower_rising, new_rising}
use Rattle.ranges_tracker.proofs.Commenting.{thread_with, thread_without}
use Rattle.ranges_tracker.proofs.Stepping.{if_some, Stands, stands_of}
use Rattle.ranges_tracker.proofs.Gaps.{gaps_raised, gaps_taken}
use Rattle.ranges_tracker.proofs.Lasting.{older_touch, lives_inserted, lives_deleted, lives_more, distinct_differ, distinct_placed, distinct_taken, raised_rises, squashed_rises, rising_join, rising_less, within_with, within_without, within_set}

pub gone_packed : (v k : ℕ) (gs : List Gone) → OlderGone v k gs → Older v k (packed (gone_cells gs))
gone_packed v k [] h = tt
gone_packed v k (g ∷ gs) h = older_touch v k _ (packed (gone_cells gs)) (h.0, h.1) (gone_packed v k gs h.2)

gone_more : (v k j : ℕ) (gs : List Gone) → k ≤ j → OlderGone v k gs → OlderGone v j gs
gone_more v k j [] le h = tt
gone_more v k j (g ∷ gs) le h = (h.0, (λ e. let lt : g.mark.k < k = h.1 e in omega arith), gone_more v k j gs le h.2)

gone_shifted : (f : ℕ → ℕ) (v k : ℕ) (gs : List Gone) → OlderGone v k gs → OlderGone v k (map (shifted f) gs)
gone_shifted f v k [] h = tt
gone_shifted f v k (g ∷ gs) h = (h.0, h.1, gone_shifted f v k gs h.2)

gone_either : (b : Bool) (v k : ℕ) (g : Gone) (gs : List Gone) → (g.mark.version ≤ v) → (g.mark.version ≡ v → g.mark.k < k) → OlderGone v k gs → OlderGone v k (if b then g ∷ gs else gs)
gone_either true v k g gs a b h = (a, b, h)
gone_either false v k g gs a b h = h

gone_kept : (test : ℕ → Bool) (v k : ℕ) (gs : List Gone) → OlderGone v k gs → OlderGone v k (kept_gone test gs)
gone_kept test v k [] h = tt
gone_kept test v k (g ∷ gs) h = gone_either (test g.gap) v k g (kept_gone test gs) h.0 h.1 (gone_kept test v k gs h.2)

gone_append : (v k : ℕ) (xs ys : List Gone) → OlderGone v k xs → OlderGone v k ys → OlderGone v k (xs ++ ys)
gone_append v k [] ys h e = e
gone_append v k (x ∷ xs) ys h e = (h.0, h.1, gone_append v k xs ys h.2 e)

gone_new : (stamp : Stamp) (k at : ℕ) (us : List ℕ) → OlderGone stamp.version (k + 1) (map (gone_at at (fresh_mark stamp k)) us)
gone_new stamp k at [] = tt
gone_new stamp k at (u ∷ us) = (omega arith, (λ _. omega arith), gone_new stamp k at us)

fresh_apart : (stamp : Stamp) (k : ℕ) (cs : List Change) → Older stamp.version k cs → NoMark (fresh_mark stamp k) cs
fresh_apart stamp k [] h = tt
fresh_apart stamp k (c ∷ cs) h = (one (cases_Bool (same_mark (fresh_mark stamp k) (mark_of c))), fresh_apart stamp k cs h.1)
  where
    one : (same_mark (fresh_mark stamp k) (mark_of c) ≡ true) ⊎ (same_mark (fresh_mark stamp k) (mark_of c) ≡ false) → same_mark (fresh_mark stamp k) (mark_of c) ≡ false
    one (inl t) =
        let e : fresh_mark stamp k ≡ mark_of c = same_mark_is (fresh_mark stamp k) (mark_of c) t in
        let v : c.version ≡ stamp.version = sym (ap (λ (m : Mark). m.version) e) in
        let n : k ≡ c.k = ap (λ (m : Mark). m.k) e in
        let lt : c.k < k = h.0.1 v in
        absurd (omega arith)
    one (inr f) = f

same_length : (o : Option Mark) (stamp : Stamp) (j : ℕ) (ls : List Live) → length (remarked o stamp j ls) ≡ length ls
same_length None stamp j ls = refl
same_length (Some m) stamp j [] = refl
same_length (Some m) stamp j (l ∷ ls) = ap (λ (n : ℕ). suc n) (same_length (Some m) stamp j ls)

pub new_length : (us : List ℕ) (o : Option Mark) → length (new_lives us o) ≡ length us
new_length [] o = refl
new_length (u ∷ us) o = ap (λ (n : ℕ). suc n) (new_length us o)

rest_length : (at : ℕ) (ls : List Live) → at ≤ length ls → length (drop at ls) + at ≡ length ls
rest_length at ls le = omega (arith, ap length (take-append-drop at ls), length-append (take at ls) (drop at ls), length-take-le at ls le)

pub inserted_length : (ls : List Live) (at : ℕ) (part : List ℕ) (by old : Option Mark) (stamp : Stamp) (j : ℕ) → at ≤ length ls → length (take at ls ++ (new_lives part by ++ remarked old stamp j (drop at ls))) ≡ length ls + length part
inserted_length ls at part by old stamp j le = omega (arith, length-append (take at ls) (new_lives part by ++ remarked old stamp j (drop at ls)), length-append (new_lives part by) (remarked old stamp j (drop at ls)), length-take-le at ls le, new_length part by, same_length old stamp j (drop at ls), rest_length at ls le)

pub deleted_length : (ls : List Live) (at n : ℕ) → at + n ≤ length ls → length (take at ls ++ drop (at + n) ls) ≡ length ls - n
deleted_length ls at n le =
    let a : length (take at ls) ≡ at = length-take-le at ls (omega arith) in
    omega (arith, length-append (take at ls) (drop (at + n) ls), a, rest_length (at + n) ls le)

pub keep_insert : (row : Row) (at : ℕ) (part : List ℕ) (stamp : Stamp) (k : ℕ) → Steady row stamp k → at ≤ length row.lives → Steady (step row (Ins at part) stamp k).row stamp (step row (Ins at part) stamp k).marks
keep_insert row at part stamp k s le =
    let by = chosen (mark_before row.lives at) (mark_at row.lives at) stamp k in
    let old = torn (mark_before row.lives at) (mark_at row.lives at) by.mark in
    let made : Row = (step row (Ins at part) stamp k).row in
    let marks : ℕ = (step row (Ins at part) stamp k).marks in
    let more : k ≤ marks = omega arith in
    record {
      rises = raised_rises at (length part) row.gone s.rises;
      gaps = subst (λ (n : ℕ). GapsWithin n (map (shifted (raised at (length part))) row.gone)) (sym (inserted_length row.lives at part by.mark old stamp (k + by.fresh) le)) (gaps_raised at (length part) (length row.lives) row.gone s.gaps);
      distinct = subst (λ (x : List Change). Distinct x) (placed_cells (raised at (length part)) row.gone (fit_raised at (length part) (packed (gone_cells row.gone)))) (distinct_placed (raised at (length part)) (packed (gone_cells row.gone)) s.distinct);
      lives = lives_inserted stamp k at part row.lives s.lives;
      gone = gone_shifted (raised at (length part)) stamp.version marks row.gone (gone_more stamp.version k marks row.gone more s.gone);
      threads = subst (λ (n : ℕ). Within n (map (thread_with at (length part)) row.threads)) (sym (inserted_length row.lives at part by.mark old stamp (k + by.fresh) le)) (within_with (length row.lives) at (length part) row.threads s.threads);
    }

keep_threads : (row : Row) (at n : ℕ) → Within (length row.lives) row.threads → at + n ≤ length row.lives → Within (length (take at row.lives ++ drop (at + n) row.lives)) (map (thread_without at n) row.threads)
keep_threads row at n h le = subst (λ (m : ℕ). Within m (map (thread_without at n) row.threads)) (sym (deleted_length row.lives at n le)) (within_without (length row.lives) at n row.threads le h)

keep_gaps : (row : Row) (at n : ℕ) → GapsWithin (length row.lives) row.gone → at + n ≤ length row.lives → (b : Bool) (m : Mark) (us : List ℕ) →
    GapsWithin (length (take at row.lives ++ drop (at + n) row.lives)) (if b then kept_gone (λ x. nat_lt x at) row.gone ++ (map (gone_at at m) us ++ map (shifted (λ x. x - n)) (kept_gone (λ x. nat_lt (at + n) x) row.gone)) else map (shifted (squashed at n)) row.gone)
keep_gaps row at n h le b m us = subst (λ (q : ℕ). GapsWithin q (if b then kept_gone (λ x. nat_lt x at) row.gone ++ (map (gone_at at m) us ++ map (shifted (λ x. x - n)) (kept_gone (λ x. nat_lt (at + n) x) row.gone)) else map (shifted (squashed at n)) row.gone)) (sym (deleted_length row.lives at n le)) (gaps_taken b at n (length row.lives) m us row.gone le h)

taken_rises : (gone : List Gone) (at n : ℕ) (us : List ℕ) (m : Mark) → RisingGone 0 gone → RisingGone 0 (kept_gone (λ x. nat_lt x at) gone ++ (map (gone_at at m) us ++ map (shifted (λ x. x - n)) (kept_gone (λ x. nat_lt (at + n) x) gone)))
taken_rises gone at n us m h =
    let high = kept_gone (λ x. nat_lt (at + n) x) gone in
    let last = map (shifted (λ x. x - n)) high in
    let from : RisingGone (at + 1 + n) high = rising_less (at + n + 1) (at + 1 + n) high (omega arith) (above_rising (at + n) 0 gone h) in
    let last_rises : RisingGone at last = rising_less (at + 1) at last (omega arith) (lower_rising n (at + 1) high from) in
    rising_join 0 at (kept_gone (λ x. nat_lt x at) gone) (map (gone_at at m) us ++ last) (omega arith) (kept_rising (λ x. nat_lt x at) 0 gone h) (below_gaps at gone) (new_rising at m us last last_rises)

keep_gone : (row : Row) (at n : ℕ) (stamp : Stamp) (k : ℕ) → Steady row stamp k → at + n ≤ length row.lives → (b : Bool) (us : List ℕ) →
    Steady (record { lives = take at row.lives ++ drop (at + n) row.lives; gone = if b then kept_gone (λ x. nat_lt x at) row.gone ++ (map (gone_at at (fresh_mark stamp k)) us ++ map (shifted (λ x. x - n)) (kept_gone (λ x. nat_lt (at + n) x) row.gone)) else map (shifted (squashed at n)) row.gone; threads = map (thread_without at n) row.threads }) stamp (if b then k + 1 else k)
keep_gone row at n stamp k s le true us =
    let v = stamp.version in
    let more : k ≤ k + 1 = omega arith in
    record {
      rises = taken_rises row.gone at n us (fresh_mark stamp k) s.rises;
      gaps = keep_gaps row at n s.gaps le true (fresh_mark stamp k) us;
      distinct = subst (λ (x : List Change). Distinct x) (new_law row.gone at n us (fresh_mark stamp k) s.rises) (distinct_taken (packed (gone_cells row.gone)) at n us (fresh_mark stamp k) s.distinct (fresh_apart stamp k (packed (gone_cells row.gone)) (gone_packed v k row.gone s.gone)));
      lives = lives_more v k (k + 1) (take at row.lives ++ drop (at + n) row.lives) more (lives_deleted v k at n row.lives s.lives);
      gone = gone_append v (k + 1) (kept_gone (λ x. nat_lt x at) row.gone) _ (gone_kept (λ x. nat_lt x at) v (k + 1) row.gone (gone_more v k (k + 1) row.gone more s.gone))
          (gone_append v (k + 1) (map (gone_at at (fresh_mark stamp k)) us) _ (gone_new stamp k at us) (gone_shifted (λ x. x - n) v (k + 1) (kept_gone (λ x. nat_lt (at + n) x) row.gone) (gone_kept (λ x. nat_lt (at + n) x) v (k + 1) row.gone (gone_more v k (k + 1) row.gone more s.gone))));
      threads = keep_threads row at n s.threads le;
    }
keep_gone row at n stamp k s le false us =
    record {
      rises = squashed_rises at n row.gone s.rises;
      gaps = keep_gaps row at n s.gaps le false (fresh_mark stamp k) us;
      distinct = subst (λ (x : List Change). Distinct x) (placed_cells (squashed at n) row.gone (fit_differ (squashed at n) (packed (gone_cells row.gone)) (distinct_differ (packed (gone_cells row.gone)) s.distinct))) (distinct_placed (squashed at n) (packed (gone_cells row.gone)) s.distinct);
      lives = lives_deleted stamp.version k at n row.lives s.lives;
      gone = gone_shifted (squashed at n) stamp.version k row.gone s.gone;
      threads = keep_threads row at n s.threads le;
    }

pub keep_delete : (row : Row) (at n : ℕ) (stamp : Stamp) (k : ℕ) → Steady row stamp k → at + n ≤ length row.lives → Steady (deleted row at n stamp k).row stamp (deleted row at n stamp k).marks
keep_delete row at n stamp k s le = keep_gone row at n stamp k s le (stamp.track && some_unmarked (take n (drop at row.lives))) (mixed at (take n (drop at row.lives)) row.gone)

-- each step that applies keeps a row steady
pub keep_step : (row : Row) (comp : Comp) (stamp : Stamp) (k : ℕ) (next : List ℕ) → Steady row stamp k → applied (text_of row.lives) comp ≡ Some next → Steady (step row comp stamp k).row stamp (step row comp stamp k).marks
keep_step row (Ins at part) stamp k next s e =
    let a = if_some (nat_le at (length (text_of row.lives))) (put_at (text_of row.lives) at part) next e in
    let count : length (text_of row.lives) ≡ length row.lives = length-map row.lives (λ (l : Live). l.unit) in
    keep_insert row at part stamp k s (omega (arith, leb-true at (length (text_of row.lives)) a.0))
keep_step row (Del at part) stamp k next s e =
    let a = if_some (stands (text_of row.lives) at part) (cut_at (text_of row.lives) at (length part)) next e in
    let t : Stands (text_of row.lives) at part = stands_of (text_of row.lives) at part a.0 in
    let count : length (text_of row.lives) ≡ length row.lives = length-map row.lives (λ (l : Live). l.unit) in
    keep_delete row at (length part) stamp k s (omega (arith, t.room))
keep_step row (Com at part thread) stamp k next s e =
    let a = if_some (stands (text_of row.lives) at part) (text_of row.lives) next e in
    let t : Stands (text_of row.lives) at part = stands_of (text_of row.lives) at part a.0 in
    let count : length (text_of row.lives) ≡ length row.lives = length-map row.lives (λ (l : Live). l.unit) in
    record { rises = s.rises; gaps = s.gaps; distinct = s.distinct; lives = s.lives; gone = s.gone; threads = within_set (length row.lives) thread at (at + length part) row.threads (omega arith) (omega (arith, t.room)) s.threads }
