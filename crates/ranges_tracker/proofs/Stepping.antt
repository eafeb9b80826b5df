-- A step of a row, as it is shown: the law of changes and comments together.
use Rattle.std.proofs.Common.{◌≡◌, ℕ, ◌+◌, ◌-◌, ◌≤◌, Bool, true, false, List, [], ◌∷◌, ◌++◌, refl, ap, ap₂, sym, ◌∙◌, length, arith, append_assoc, length-append, map, take, drop, Option, Some, None, subst, ⊎_elim, take-append-drop}
use Rattle.std.specs.Prelude.{nat_le, ◌==◌, if◌then◌else◌}
use Rattle.std.proofs.lemmas.Slice.Eq.{bytes_eq-Decides}
use Rattle.std.proofs.lemmas.Bool.{and_parts, leb-true, cases_lt}
use Rattle.std.proofs.lemmas.List.{length-take-le, take-map, drop-map, length-map, take_all}
use Rattle.ot_units.specs.Text.{put_at, cut_at, part_at}
use Rattle.ot_op.specs.Apply.{applied, stands}
use Rattle.ot_op.specs.declared.comp.Comp.{Comp}
use Rattle.ot_op.specs.declared.comp.Comp.TheVariants.{Ins, Del, Com}
use Rattle.ranges_tracker.specs.Cells.{Mark, Live, Thread, Stamp, Row, text_of, remarked, new_lives, set_thread, chosen, torn, mark_at, mark_before, step}
use Rattle.ranges_tracker.specs.declared.change.Change.{Change}
use Rattle.ranges_tracker.specs.declared.comment.Comment.{Comment}
use Rattle.ranges_tracker.specs.Shown.{shown, shown_changes, shown_comments}
use Rattle.ranges_tracker.specs.Tracked.{Marked, changes_in}
use Rattle.ranges_tracker.specs.Commented.{comment_past, comment_without, comment_set, comments_in}
use Rattle.ranges_tracker.specs.Steady.{Within, Steady, IsStepOf}
use Rattle.ranges_tracker.specs.Ranged.{ranges_in}
use Rattle.ranges_tracker.proofs.Merging.{insert_shown, delete_shown, shown_step}
use Rattle.ranges_tracker.proofs.Commenting.{shown_on, thread_with, thread_without, comment_with_is, comment_without_is}

-- what it means that a component applies
pub if_some : (b : Bool) (x y : List ℕ) → (if b then Some x else None) ≡ Some y → (b ≡ true) × (x ≡ y)
if_some true x y e = (refl, cc)
if_some false x y e = cc

pub record Stands (text : List ℕ) (at : ℕ) (part : List ℕ) : Type 0 where
  pub room : at + length part ≤ length text
  pub part_is : part ≡ take (length part) (drop at text)

few_taken : (n : ℕ) (xs : List ℕ) → length (take n xs) ≡ n → n ≤ length xs
few_taken n xs e = ⊎_elim {C = n ≤ length xs} (λ lt. omega (arith, ap length (take_all n xs (omega arith)))) (λ ge. ge) (cases_lt (length xs) n)

pub stands_of : (text : List ℕ) (at : ℕ) (part : List ℕ) → stands text at part ≡ true → Stands text at part
stands_of text at part e =
    let a = and_parts _ _ e in
    let low : at ≤ length text = leb-true at (length text) a.0 in
    let same : part ≡ take (length part) (drop at text) = (bytes_eq-Decides part (part_at text at (length part))).0 a.1 in
    let front : length (take at text) ≡ at = length-take-le at text low in
    let all : length (drop at text) + at ≡ length text = omega (arith, ap length (take-append-drop at text), length-append (take at text) (drop at text)) in
    let few : length part ≤ length (drop at text) = few_taken (length part) (drop at text) (sym (ap length same)) in
    record { room = omega arith; part_is = same }

-- the text of the cells after a step
same_units : (o : Option Mark) (stamp : Stamp) (j : ℕ) (ls : List Live) → text_of (remarked o stamp j ls) ≡ text_of ls
same_units None stamp j ls = refl
same_units (Some old) stamp j [] = refl
same_units (Some old) stamp j (l ∷ ls) = ap (λ (x : List ℕ). l.unit ∷ x) (same_units (Some old) stamp j ls)

new_units : (us : List ℕ) (o : Option Mark) → text_of (new_lives us o) ≡ us
new_units [] o = refl
new_units (u ∷ us) o = ap (λ (x : List ℕ). u ∷ x) (new_units us o)

text_append : (xs ys : List Live) → text_of (xs ++ ys) ≡ text_of xs ++ text_of ys
text_append [] ys = refl
text_append (x ∷ xs) ys = ap (λ (t : List ℕ). x.unit ∷ t) (text_append xs ys)

pub text_inserted : (ls : List Live) (at : ℕ) (part : List ℕ) (by old : Option Mark) (stamp : Stamp) (j : ℕ) → text_of (take at ls ++ (new_lives part by ++ remarked old stamp j (drop at ls))) ≡ put_at (text_of ls) at part
text_inserted ls at part by old stamp j =
    text_append (take at ls) (new_lives part by ++ remarked old stamp j (drop at ls))
    ∙ ap₂ (λ (x y : List ℕ). x ++ y) (sym (take-map (λ (l : Live). l.unit) at ls)) (text_append (new_lives part by) (remarked old stamp j (drop at ls)) ∙ ap₂ (λ (x y : List ℕ). x ++ y) (new_units part by) (same_units old stamp j (drop at ls) ∙ sym (drop-map (λ (l : Live). l.unit) at ls)))
    ∙ sym (append_assoc (take at (text_of ls)) part (drop at (text_of ls)))

pub text_deleted : (ls : List Live) (at n : ℕ) → text_of (take at ls ++ drop (at + n) ls) ≡ cut_at (text_of ls) at n
text_deleted ls at n = text_append (take at ls) (drop (at + n) ls) ∙ ap₂ (λ (x y : List ℕ). x ++ y) (sym (take-map (λ (l : Live). l.unit) at ls)) (sym (drop-map (λ (l : Live). l.unit) (at + n) ls))

-- the comments of the threads
with_all : (text part : List ℕ) (at : ℕ) (ts : List Thread) → Within (length text) ts → at ≤ length text → map (shown_on (put_at text at part)) (map (thread_with at (length part)) ts) ≡ map (comment_past (Ins at part)) (map (shown_on text) ts)
with_all text part at [] h le = refl
with_all text part at (t ∷ ts) h le = ap₂ (λ (c : Comment) (cs : List Comment). c ∷ cs) (sym (comment_with_is text part t at h.0 h.1 le)) (with_all text part at ts h.2 le)

without_all : (text : List ℕ) (at n : ℕ) (ts : List Thread) → Within (length text) ts → at + n ≤ length text → map (shown_on (cut_at text at n)) (map (thread_without at n) ts) ≡ map (comment_without at n) (map (shown_on text) ts)
without_all text at n [] h le = refl
without_all text at n (t ∷ ts) h le = ap₂ (λ (c : Comment) (cs : List Comment). c ∷ cs) (sym (comment_without_is text t at n h.0 h.1 le)) (without_all text at n ts h.2 le)

set_one : (b : Bool) (f : Thread → Comment) (x y : Thread) (xs zs : List Thread) (cs : List Comment) → map f zs ≡ cs → map f (if b then x ∷ xs else y ∷ zs) ≡ (if b then f x ∷ map f xs else f y ∷ cs)
set_one true f x y xs zs cs e = refl
set_one false f x y xs zs cs e = ap (λ (c : List Comment). f y ∷ c) e

set_all : (text : List ℕ) (thread from to : ℕ) (ts : List Thread) → map (shown_on text) (set_thread thread from to ts) ≡ comment_set thread from (take (to - from) (drop from text)) (map (shown_on text) ts)
set_all text thread from to [] = refl
set_all text thread from to (t ∷ ts) = set_one (t.thread == thread) (shown_on text) (record { thread = thread; from = from; to = to }) t ts (set_thread thread from to ts) _ (set_all text thread from to ts)

insert_comments : (row : Row) (at : ℕ) (part : List ℕ) (stamp : Stamp) (k : ℕ) → Steady row stamp k → at ≤ length row.lives → shown_comments (step row (Ins at part) stamp k).row ≡ comments_in (shown_comments row) (Ins at part)
insert_comments row at part stamp k h le =
    let by = chosen (mark_before row.lives at) (mark_at row.lives at) stamp k in
    let count : length (text_of row.lives) ≡ length row.lives = length-map row.lives (λ (l : Live). l.unit) in
    ap (λ (text : List ℕ). map (shown_on text) (map (thread_with at (length part)) row.threads)) (text_inserted row.lives at part by.mark (torn (mark_before row.lives at) (mark_at row.lives at) by.mark) stamp (k + by.fresh))
    ∙ with_all (text_of row.lives) part at row.threads (subst (λ (n : ℕ). Within n row.threads) (sym count) h.threads) (omega arith)

delete_comments : (row : Row) (at : ℕ) (part : List ℕ) (stamp : Stamp) (k : ℕ) → Steady row stamp k → at + length part ≤ length row.lives → shown_comments (step row (Del at part) stamp k).row ≡ comments_in (shown_comments row) (Del at part)
delete_comments row at part stamp k h le =
    let count : length (text_of row.lives) ≡ length row.lives = length-map row.lives (λ (l : Live). l.unit) in
    ap (λ (text : List ℕ). map (shown_on text) (map (thread_without at (length part)) row.threads)) (text_deleted row.lives at (length part))
    ∙ without_all (text_of row.lives) at (length part) row.threads (subst (λ (n : ℕ). Within n row.threads) (sym count) h.threads) (omega arith)

pub record Same (row : Row) (comp : Comp) (stamp : Stamp) (k : ℕ) : Type 0 where
  pub ranges : shown (step row comp stamp k).row ≡ ranges_in (shown row) comp stamp k
  pub marks : (step row comp stamp k).marks ≡ (changes_in (shown_changes row) comp stamp k).marks

same_of : (row : Row) (comp : Comp) (stamp : Stamp) (k : ℕ) → changes_in (shown_changes row) comp stamp k ≡ shown_step (step row comp stamp k) → shown_comments (step row comp stamp k).row ≡ comments_in (shown_comments row) comp → Same row comp stamp k
same_of row comp stamp k e f = record { ranges = ap₂ (λ (x : List Change) (y : List Comment). (x, y)) (sym (ap (λ (m : Marked). m.changes) e)) f; marks = sym (ap (λ (m : Marked). m.marks) e) }

-- a step of a row is what the ranges become
pub step_is : (row : Row) (comp : Comp) (stamp : Stamp) (k : ℕ) (next : List ℕ) → Steady row stamp k → applied (text_of row.lives) comp ≡ Some next → Same row comp stamp k
step_is row (Ins at part) stamp k next h e =
    let a = if_some (nat_le at (length (text_of row.lives))) (put_at (text_of row.lives) at part) next e in
    let count : length (text_of row.lives) ≡ length row.lives = length-map row.lives (λ (l : Live). l.unit) in
    let le : at ≤ length row.lives = omega (arith, leb-true at (length (text_of row.lives)) a.0) in
    same_of row (Ins at part) stamp k (insert_shown row at part stamp k h le) (insert_comments row at part stamp k h le)
step_is row (Del at part) stamp k next h e =
    let a = if_some (stands (text_of row.lives) at part) (cut_at (text_of row.lives) at (length part)) next e in
    let s : Stands (text_of row.lives) at part = stands_of (text_of row.lives) at part a.0 in
    let count : length (text_of row.lives) ≡ length row.lives = length-map row.lives (λ (l : Live). l.unit) in
    let le : at + length part ≤ length row.lives = omega (arith, s.room) in
    let part_is : part ≡ text_of (take (length part) (drop at row.lives)) = s.part_is ∙ ap (take (length part)) (drop-map (λ (l : Live). l.unit) at row.lives) ∙ take-map (λ (l : Live). l.unit) (length part) (drop at row.lives) in
    same_of row (Del at part) stamp k (delete_shown row at part stamp k h le part_is) (delete_comments row at part stamp k h le)
step_is row (Com at part thread) stamp k next h e =
    let a = if_some (stands (text_of row.lives) at part) (text_of row.lives) next e in
    let s : Stands (text_of row.lives) at part = stands_of (text_of row.lives) at part a.0 in
    let n : at + length part - at ≡ length part = omega arith in
    let text : take (at + length part - at) (drop at (text_of row.lives)) ≡ part = ap (λ (m : ℕ). take m (drop at (text_of row.lives))) n ∙ sym s.part_is in
    same_of row (Com at part thread) stamp k refl (set_all (text_of row.lives) thread at (at + length part) row.threads ∙ ap (λ (t : List ℕ). comment_set thread at t (shown_comments row)) text)

-- the same of ranges that a row shows
pub ranges_step : (ranges : List Change × List Comment) (comp : Comp) (stamp : Stamp) (k : ℕ) → IsStepOf ranges comp stamp k (ranges_in ranges comp stamp k) (changes_in ranges.0 comp stamp k).marks
ranges_step ranges comp stamp k row text h is e =
    let s : Same row comp stamp k = step_is row comp stamp k text h e in
    (s.ranges ∙ ap (λ (r : List Change × List Comment). ranges_in r comp stamp k) is, s.marks ∙ ap (λ (r : List Change × List Comment). (changes_in r.0 comp stamp k).marks) is)
