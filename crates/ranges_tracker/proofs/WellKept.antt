-- A step keeps a row well formed.
use Rattle.std.proofs.Common.{◌≡◌, ℕ, zero, suc, ◌+◌, ◌-◌, ◌<◌, ◌≤◌, Bool, true, false, List, [], ◌∷◌, ◌++◌, refl, ap, sym, ◌∙◌, length, arith, map, take, drop, Option, Some, None, subst, ⊎_elim, ◌⊎◌, inl, inr, take-append-drop}
use Rattle.std.specs.Prelude.{nat_le, nat_lt, ◌&&◌, ◌==◌, if◌then◌else◌}
use Rattle.std.proofs.lemmas.Bool.{cases_Bool, and_parts, eqb-true, leb-true}
use Rattle.std.proofs.lemmas.List.{length-map}
use Rattle.ot_units.specs.Text.{put_at, cut_at}
use Rattle.ot_op.specs.Apply.{applied, stands}
use Rattle.ot_op.specs.declared.comp.Comp.{Comp}
use Rattle.ot_op.specs.declared.comp.Comp.TheVariants.{Ins, Del, Com}
use Rattle.ranges_tracker.specs.Cells.{Mark, Live, Gone, Thread, Stamp, Row, mark_at, mark_before, raised, squashed, shifted, set_thread, chosen, torn, renewed, remarked, new_lives, fresh_mark, gone_at, some_unmarked, mixed, text_of, step, deleted}
use Rattle.ranges_tracker.specs.Steady.{OlderGone, Steady}
use Rattle.ranges_tracker.specs.WellFormed.{NotListed, ListedOnce, OnLive, OnGone, OnRow, same_id, TogetherLives, IsWellFormed, IsBefore}
use Rattle.ranges_tracker.proofs.Placing.{kept_gone}
use Rattle.ranges_tracker.proofs.Commenting.{thread_with, thread_without}
use Rattle.ranges_tracker.proofs.Stepping.{if_some, Stands, stands_of}
use Rattle.ranges_tracker.proofs.Keeping.{keep_step}
use Rattle.ranges_tracker.proofs.Bearing.{on_left, on_right, on_cases, on_new, Exchanged, on_swapped}
use Rattle.ranges_tracker.proofs.Together.{ChosenFrom, chosen_from, older_on, inserted_together, deleted_together}
use Rattle.ranges_tracker.proofs.Marks.{same_id_turned, distinct_gone, gone_together}

-- what steps need, a well-formed row has
pub well_steady : (row : Row) (stamp : Stamp) (k : ℕ) → IsWellFormed row → IsBefore row stamp k → Steady row stamp k
well_steady row stamp k w b = record { rises = w.rises; gaps = w.gaps; distinct = distinct_gone row.gone w.gone; lives = b.0; gone = b.1; threads = w.threads }

-- threads
not_listed_map : (f : Thread → Thread) → ((t : Thread) → (f t).thread ≡ t.thread) → (n : ℕ) (ts : List Thread) → NotListed n ts → NotListed n (map f ts)
not_listed_map f same n [] h = tt
not_listed_map f same n (t ∷ ts) h = (ap (λ (x : ℕ). n == x) (same t) ∙ h.0, not_listed_map f same n ts h.1)

listed_map : (f : Thread → Thread) → ((t : Thread) → (f t).thread ≡ t.thread) → (ts : List Thread) → ListedOnce ts → ListedOnce (map f ts)
listed_map f same [] h = tt
listed_map f same (t ∷ ts) h = (subst (λ (n : ℕ). NotListed n (map f ts)) (sym (same t)) (not_listed_map f same t.thread ts h.0), listed_map f same ts h.1)

not_either : (b : Bool) (n : ℕ) (xs ys : List Thread) → NotListed n xs → NotListed n ys → NotListed n (if b then xs else ys)
not_either true n xs ys h k = h
not_either false n xs ys h k = k

not_listed_set : (n t from to : ℕ) (ts : List Thread) → (n == t) ≡ false → NotListed n ts → NotListed n (set_thread t from to ts)
not_listed_set n t from to [] e h = (e, tt)
not_listed_set n t from to (x ∷ xs) e h = not_either (x.thread == t) n (record { thread = t; from = from; to = to } ∷ xs) (x ∷ set_thread t from to xs) (e, h.1) (h.0, not_listed_set n t from to xs e h.1)

listed_set : (t from to : ℕ) (ts : List Thread) → ListedOnce ts → ListedOnce (set_thread t from to ts)
listed_set t from to [] h = (tt, tt)
listed_set t from to (x ∷ xs) h = ⊎_elim {C = ListedOnce (set_thread t from to (x ∷ xs))}
    (λ e. subst (λ (ts : List Thread). ListedOnce ts) (sym (here e)) (subst (λ (n : ℕ). NotListed n xs) (eqb-true x.thread t e) h.0, h.1))
    (λ e. subst (λ (ts : List Thread). ListedOnce ts) (sym (there e)) (not_listed_set x.thread t from to xs e h.0, listed_set t from to xs h.1))
    (cases_Bool (x.thread == t))
  where
    here : (x.thread == t) ≡ true → set_thread t from to (x ∷ xs) ≡ record { thread = t; from = from; to = to } ∷ xs
    here e = ap (λ (b : Bool). if b then record { thread = t; from = from; to = to } ∷ xs else x ∷ set_thread t from to xs) e

    there : (x.thread == t) ≡ false → set_thread t from to (x ∷ xs) ≡ x ∷ set_thread t from to xs
    there e = ap (λ (b : Bool). if b then record { thread = t; from = from; to = to } ∷ xs else x ∷ set_thread t from to xs) e

-- the marks of live cells after an insert
on_at : (m : Mark) (ls : List Live) (at : ℕ) → mark_at ls at ≡ Some m → OnLive m ls
on_at m [] at e = cc
on_at m (l ∷ ls) zero e = inl e
on_at m (l ∷ ls) (suc at) e = inr (on_at m ls at e)

on_before : (m : Mark) (ls : List Live) (at : ℕ) → mark_before ls at ≡ Some m → OnLive m ls
on_before m ls zero e = cc
on_before m ls (suc at) e = on_at m ls at e

on_take : (m : Mark) (ls : List Live) (at : ℕ) → OnLive m (take at ls) → OnLive m ls
on_take m ls at on = subst (λ (x : List Live). OnLive m x) (take-append-drop at ls) (on_left m (take at ls) (drop at ls) on)

on_drop : (m : Mark) (ls : List Live) (at : ℕ) → OnLive m (drop at ls) → OnLive m ls
on_drop m ls at on = subst (λ (x : List Live). OnLive m x) (take-append-drop at ls) (on_right m (take at ls) (drop at ls) on)

-- a fresh mark of a step
abbrev pub Fresh : Stamp → ℕ → ℕ → Option Mark → Mark → Type 0
Fresh stamp k fresh old m = ((m ≡ fresh_mark stamp k) × (fresh ≡ 1)) ⊎ ((o : Mark) × ((old ≡ Some o) × (m ≡ renewed o stamp (k + fresh))))

on_remarked : (m : Mark) (stamp : Stamp) (k fresh : ℕ) (old : Option Mark) (ls : List Live) → OnLive m (remarked old stamp (k + fresh) ls) → OnLive m ls ⊎ Fresh stamp k fresh old m
on_remarked m stamp k fresh None ls on = inl on
on_remarked m stamp k fresh (Some o) ls on = go (on_swapped o (renewed o stamp (k + fresh)) m ls on)
  where
    go : Exchanged o (renewed o stamp (k + fresh)) m ls → OnLive m ls ⊎ Fresh stamp k fresh (Some o) m
    go (inl a) = inl a.0
    go (inr a) = inr (inr (o, (refl, a.0)))

on_inserted : (m : Mark) (ls : List Live) (at : ℕ) (us : List ℕ) (stamp : Stamp) (k : ℕ) (old : Option Mark) →
    OnLive m (take at ls ++ (new_lives us (chosen (mark_before ls at) (mark_at ls at) stamp k).mark ++ remarked old stamp (k + (chosen (mark_before ls at) (mark_at ls at) stamp k).fresh) (drop at ls))) →
    OnLive m ls ⊎ Fresh stamp k (chosen (mark_before ls at) (mark_at ls at) stamp k).fresh old m
on_inserted m ls at us stamp k old on = go (on_cases m (take at ls) _ on)
  where
    kept : OnLive m (drop at ls) ⊎ Fresh stamp k (chosen (mark_before ls at) (mark_at ls at) stamp k).fresh old m → OnLive m ls ⊎ Fresh stamp k (chosen (mark_before ls at) (mark_at ls at) stamp k).fresh old m
    kept (inl a) = inl (on_drop m ls at a)
    kept (inr f) = inr f

    new : ChosenFrom (mark_before ls at) (mark_at ls at) stamp k m (chosen (mark_before ls at) (mark_at ls at) stamp k).fresh → OnLive m ls ⊎ Fresh stamp k (chosen (mark_before ls at) (mark_at ls at) stamp k).fresh old m
    new (inl b) = inl (on_before m ls at b)
    new (inr (inl a)) = inl (on_at m ls at a)
    new (inr (inr f)) = inr (inl f)

    behind : OnLive m (new_lives us (chosen (mark_before ls at) (mark_at ls at) stamp k).mark) ⊎ OnLive m (remarked old stamp (k + (chosen (mark_before ls at) (mark_at ls at) stamp k).fresh) (drop at ls)) →
        OnLive m ls ⊎ Fresh stamp k (chosen (mark_before ls at) (mark_at ls at) stamp k).fresh old m
    behind (inl a) = new (chosen_from (mark_before ls at) (mark_at ls at) stamp k m (on_new m us (chosen (mark_before ls at) (mark_at ls at) stamp k).mark a))
    behind (inr a) = kept (on_remarked m stamp k (chosen (mark_before ls at) (mark_at ls at) stamp k).fresh old (drop at ls) a)

    go : OnLive m (take at ls) ⊎ OnLive m (new_lives us (chosen (mark_before ls at) (mark_at ls at) stamp k).mark ++ remarked old stamp (k + (chosen (mark_before ls at) (mark_at ls at) stamp k).fresh) (drop at ls)) →
        OnLive m ls ⊎ Fresh stamp k (chosen (mark_before ls at) (mark_at ls at) stamp k).fresh old m
    go (inl a) = inl (on_take m ls at a)
    go (inr b) = behind (on_cases m (new_lives us (chosen (mark_before ls at) (mark_at ls at) stamp k).mark) _ b)

-- those of gone cells
pub on_shifted : (m : Mark) (f : ℕ → ℕ) (gs : List Gone) → OnGone m (map (shifted f) gs) → OnGone m gs
on_shifted m f [] on = on
on_shifted m f (g ∷ gs) (inl e) = inl e
on_shifted m f (g ∷ gs) (inr on) = inr (on_shifted m f gs on)

on_either : (b : Bool) (m : Mark) (g : Gone) (gs : List Gone) → OnGone m (if b then g ∷ gs else gs) → OnGone m (g ∷ gs)
on_either true m g gs on = on
on_either false m g gs on = inr on

on_kept : (m : Mark) (test : ℕ → Bool) (gs : List Gone) → OnGone m (kept_gone test gs) → OnGone m gs
on_kept m test [] on = on
on_kept m test (g ∷ gs) on = ⊎_elim {C = OnGone m (g ∷ gs)} (λ e. inl e) (λ k. inr (on_kept m test gs k)) (on_either (test g.gap) m g (kept_gone test gs) on)

gone_cases : (m : Mark) (xs ys : List Gone) → OnGone m (xs ++ ys) → OnGone m xs ⊎ OnGone m ys
gone_cases m [] ys on = inr on
gone_cases m (x ∷ xs) ys (inl e) = inl (inl e)
gone_cases m (x ∷ xs) ys (inr on) = ⊎_elim {C = OnGone m (x ∷ xs) ⊎ OnGone m ys} (λ k. inl (inr k)) (λ k. inr k) (gone_cases m xs ys on)

on_taken : (m new : Mark) (at : ℕ) (us : List ℕ) → OnGone m (map (gone_at at new) us) → m ≡ new
on_taken m new at [] on = absurd on
on_taken m new at (u ∷ us) (inl e) = sym e
on_taken m new at (u ∷ us) (inr on) = on_taken m new at us on

on_deleted : (b : Bool) (m new : Mark) (at n : ℕ) (us : List ℕ) (gs : List Gone) →
    OnGone m (if b then kept_gone (λ x. nat_lt x at) gs ++ (map (gone_at at new) us ++ map (shifted (λ x. x - n)) (kept_gone (λ x. nat_lt (at + n) x) gs)) else map (shifted (squashed at n)) gs) → OnGone m gs ⊎ (m ≡ new)
on_deleted false m new at n us gs on = inl (on_shifted m (squashed at n) gs on)
on_deleted true m new at n us gs on = go (gone_cases m (kept_gone (λ x. nat_lt x at) gs) _ on)
  where
    behind : OnGone m (map (gone_at at new) us) ⊎ OnGone m (map (shifted (λ x. x - n)) (kept_gone (λ x. nat_lt (at + n) x) gs)) → OnGone m gs ⊎ (m ≡ new)
    behind (inl a) = inr (on_taken m new at us a)
    behind (inr a) = inl (on_kept m (λ x. nat_lt (at + n) x) gs (on_shifted m (λ x. x - n) (kept_gone (λ x. nat_lt (at + n) x) gs) a))

    go : OnGone m (kept_gone (λ x. nat_lt x at) gs) ⊎ OnGone m (map (gone_at at new) us ++ map (shifted (λ x. x - n)) (kept_gone (λ x. nat_lt (at + n) x) gs)) → OnGone m gs ⊎ (m ≡ new)
    go (inl a) = inl (on_kept m (λ x. nat_lt x at) gs a)
    go (inr b) = behind (gone_cases m (map (gone_at at new) us) _ b)

-- marks of before are older, and fresh ones aren't
abbrev pub OlderThan : ℕ → ℕ → Mark → Type 0
OlderThan v k m = (m.version ≤ v) × (m.version ≡ v → m.k < k)

gone_older : (v k : ℕ) (m : Mark) (gs : List Gone) → OlderGone v k gs → OnGone m gs → OlderThan v k m
gone_older v k m [] h on = absurd on
gone_older v k m (g ∷ gs) h (inl e) = subst (λ (x : Mark). OlderThan v k x) e (h.0, h.1)
gone_older v k m (g ∷ gs) h (inr on) = gone_older v k m gs h.2 on

row_older : (row : Row) (stamp : Stamp) (k : ℕ) (m : Mark) → IsBefore row stamp k → OnRow m row → OlderThan stamp.version k m
row_older row stamp k m b (inl on) = older_on stamp.version k m row.lives b.0 on
row_older row stamp k m b (inr on) = gone_older stamp.version k m row.gone b.1 on

ids_apart : (v k : ℕ) (m n : Mark) → OlderThan v k m → n.version ≡ v → k ≤ n.k → same_id m n ≡ true → ⊥
ids_apart v k m n h e le t =
    let two = and_parts (m.version == n.version) (m.k == n.k) t in
    let version : m.version ≡ n.version = eqb-true m.version n.version two.0 in
    let number : m.k ≡ n.k = eqb-true m.k n.k two.1 in
    let lt : m.k < k = h.1 (version ∙ e) in
    omega arith

-- marks of one id are one, with the fresh ones
fresh_later : (stamp : Stamp) (k fresh : ℕ) (old : Option Mark) (m : Mark) → Fresh stamp k fresh old m → (m.version ≡ stamp.version) × (k ≤ m.k)
fresh_later stamp k fresh old m (inl f) = (ap (λ (x : Mark). x.version) f.0, omega (arith, ap (λ (x : Mark). x.k) f.0))
fresh_later stamp k fresh old m (inr (o, f)) = (ap (λ (x : Mark). x.version) f.1, omega (arith, ap (λ (x : Mark). x.k) f.1))

fresh_same : (stamp : Stamp) (k fresh : ℕ) (old : Option Mark) (m n : Mark) → Fresh stamp k fresh old m → Fresh stamp k fresh old n → m.k ≡ n.k → m ≡ n
fresh_same stamp k fresh old m n (inl f) (inl g) e = f.0 ∙ sym g.0
fresh_same stamp k fresh old m n (inl f) (inr (o, g)) e = absurd (omega (arith, ap (λ (x : Mark). x.k) f.0, f.1, ap (λ (x : Mark). x.k) g.1, e))
fresh_same stamp k fresh old m n (inr (o, f)) (inl g) e = absurd (omega (arith, ap (λ (x : Mark). x.k) g.0, g.1, ap (λ (x : Mark). x.k) f.1, e))
fresh_same stamp k fresh old m n (inr (o, f)) (inr (p, g)) e = f.1 ∙ ap (λ (x : Mark). renewed x stamp (k + fresh)) (same_old o p (sym f.0 ∙ g.0)) ∙ sym g.1
  where
    same_old : (x y : Mark) → Some x ≡ Some y → x ≡ y
    same_old x y s = cc

ids_kept : (row : Row) (stamp : Stamp) (k fresh : ℕ) (old : Option Mark) → IsWellFormed row → IsBefore row stamp k → (m n : Mark) →
    OnRow m row ⊎ Fresh stamp k fresh old m → OnRow n row ⊎ Fresh stamp k fresh old n → same_id m n ≡ true → m ≡ n
ids_kept row stamp k fresh old w b m n (inl on) (inl on2) t = w.ids m n on on2 t
ids_kept row stamp k fresh old w b m n (inl on) (inr f) t = let l = fresh_later stamp k fresh old n f in absurd (ids_apart stamp.version k m n (row_older row stamp k m b on) l.0 l.1 t)
ids_kept row stamp k fresh old w b m n (inr f) (inl on) t = let l = fresh_later stamp k fresh old m f in absurd (ids_apart stamp.version k n m (row_older row stamp k n b on) l.0 l.1 (same_id_turned m n t))
ids_kept row stamp k fresh old w b m n (inr f) (inr g) t = fresh_same stamp k fresh old m n f g (eqb-true m.k n.k (and_parts (m.version == n.version) (m.k == n.k) t).1)

-- a step that keeps the marks but for fresh ones
record Kept (row next : Row) (stamp : Stamp) (k fresh : ℕ) (old : Option Mark) : Type 0 where
  pub lives : (m : Mark) → OnLive m next.lives → OnLive m row.lives ⊎ Fresh stamp k fresh old m
  pub gone : (m : Mark) → OnGone m next.gone → OnGone m row.gone ⊎ Fresh stamp k fresh old m
  pub one : (m : Mark) → OnLive m next.lives → OnGone m next.gone → Fresh stamp k fresh old m → ⊥
  pub together : TogetherLives next.lives
  pub listed : ListedOnce next.threads

kept_row : (row next : Row) (stamp : Stamp) (k fresh : ℕ) (old : Option Mark) → Kept row next stamp k fresh old → (m : Mark) → OnRow m next → OnRow m row ⊎ Fresh stamp k fresh old m
kept_row row next stamp k fresh old h m (inl on) = ⊎_elim {C = OnRow m row ⊎ Fresh stamp k fresh old m} (λ a. inl (inl a)) (λ f. inr f) (h.lives m on)
kept_row row next stamp k fresh old h m (inr on) = ⊎_elim {C = OnRow m row ⊎ Fresh stamp k fresh old m} (λ a. inl (inr a)) (λ f. inr f) (h.gone m on)

well_kept : (row next : Row) (stamp : Stamp) (k fresh marks : ℕ) (old : Option Mark) → IsWellFormed row → IsBefore row stamp k → Kept row next stamp k fresh old → Steady next stamp marks → IsWellFormed next × IsBefore next stamp marks
well_kept row next stamp k fresh marks old w b h s = (
  record {
    listed = h.listed;
    threads = s.threads;
    rises = s.rises;
    gaps = s.gaps;
    ids = λ m n on on2 t. ids_kept row stamp k fresh old w b m n (kept_row row next stamp k fresh old h m on) (kept_row row next stamp k fresh old h n on2) t;
    lives = h.together;
    gone = gone_together next.gone s.distinct;
    apart = λ m g l. apart m (h.lives m l) (h.gone m g) l g;
  },
  (s.lives, s.gone),
)
  where
    apart : (m : Mark) → OnLive m row.lives ⊎ Fresh stamp k fresh old m → OnGone m row.gone ⊎ Fresh stamp k fresh old m → OnLive m next.lives → OnGone m next.gone → ⊥
    apart m (inl l) (inl g) on on2 = w.apart m g l
    apart m (inl l) (inr f) on on2 = h.one m on on2 f
    apart m (inr f) g on on2 = h.one m on on2 f

-- an insert
insert_kept : (row : Row) (at : ℕ) (part : List ℕ) (stamp : Stamp) (k : ℕ) → at ≤ length row.lives → IsWellFormed row → IsBefore row stamp k →
    Kept row (step row (Ins at part) stamp k).row stamp k (chosen (mark_before row.lives at) (mark_at row.lives at) stamp k).fresh (torn (mark_before row.lives at) (mark_at row.lives at) (chosen (mark_before row.lives at) (mark_at row.lives at) stamp k).mark)
insert_kept row at part stamp k le w b =
    let by = chosen (mark_before row.lives at) (mark_at row.lives at) stamp k in
    let old = torn (mark_before row.lives at) (mark_at row.lives at) by.mark in
    record {
      lives = λ m on. on_inserted m row.lives at part stamp k old on;
      gone = λ m on. inl (on_shifted m (raised at (length part)) row.gone on);
      one = λ m l g f. new_off m f (gone_older stamp.version k m row.gone b.1 (on_shifted m (raised at (length part)) row.gone g));
      together = inserted_together row.lives at part stamp k le w.lives b.0;
      listed = listed_map (thread_with at (length part)) (λ t. refl) row.threads w.listed;
    }
  where
    new_off : (m : Mark) → Fresh stamp k (chosen (mark_before row.lives at) (mark_at row.lives at) stamp k).fresh (torn (mark_before row.lives at) (mark_at row.lives at) (chosen (mark_before row.lives at) (mark_at row.lives at) stamp k).mark) m → OlderThan stamp.version k m → ⊥
    new_off m f o =
        let l = fresh_later stamp k (chosen (mark_before row.lives at) (mark_at row.lives at) stamp k).fresh (torn (mark_before row.lives at) (mark_at row.lives at) (chosen (mark_before row.lives at) (mark_at row.lives at) stamp k).mark) m f in
        let lt : m.k < k = o.1 l.0 in
        omega (arith, l.1)

-- a delete
delete_kept : (row : Row) (at n : ℕ) (stamp : Stamp) (k : ℕ) → at + n ≤ length row.lives → IsWellFormed row → IsBefore row stamp k → Kept row (deleted row at n stamp k).row stamp k 1 None
delete_kept row at n stamp k le w b = record {
  lives = λ m on. inl (lives m on);
  gone = λ m on. gone m (on_deleted (stamp.track && some_unmarked (take n (drop at row.lives))) m (fresh_mark stamp k) at n (mixed at (take n (drop at row.lives)) row.gone) row.gone on);
  one = λ m l g f. new_off m f (older_on stamp.version k m row.lives b.0 (lives m l));
  together = deleted_together row.lives at n le w.lives;
  listed = listed_map (thread_without at n) (λ t. refl) row.threads w.listed;
}
  where
    lives_by : (m : Mark) → OnLive m (take at row.lives) ⊎ OnLive m (drop (at + n) row.lives) → OnLive m row.lives
    lives_by m (inl a) = on_take m row.lives at a
    lives_by m (inr a) = on_drop m row.lives (at + n) a

    lives : (m : Mark) → OnLive m (take at row.lives ++ drop (at + n) row.lives) → OnLive m row.lives
    lives m on = lives_by m (on_cases m (take at row.lives) (drop (at + n) row.lives) on)

    gone : (m : Mark) → OnGone m row.gone ⊎ (m ≡ fresh_mark stamp k) → OnGone m row.gone ⊎ Fresh stamp k 1 None m
    gone m (inl a) = inl a
    gone m (inr f) = inr (inl (f, refl))

    new_off : (m : Mark) → Fresh stamp k 1 None m → OlderThan stamp.version k m → ⊥
    new_off m f o =
        let l = fresh_later stamp k 1 None m f in
        let lt : m.k < k = o.1 l.0 in
        omega (arith, l.1)

-- each component
pub step_keeps_it : (row : Row) (comp : Comp) (stamp : Stamp) (k : ℕ) (next : List ℕ) → IsWellFormed row → IsBefore row stamp k → applied (text_of row.lives) comp ≡ Some next →
    IsWellFormed (step row comp stamp k).row × IsBefore (step row comp stamp k).row stamp (step row comp stamp k).marks
step_keeps_it row (Ins at part) stamp k next w b e =
    let a = if_some (nat_le at (length (text_of row.lives))) (put_at (text_of row.lives) at part) next e in
    let count : length (text_of row.lives) ≡ length row.lives = length-map row.lives (λ (l : Live). l.unit) in
    let le : at ≤ length row.lives = omega (arith, leb-true at (length (text_of row.lives)) a.0) in
    let by = chosen (mark_before row.lives at) (mark_at row.lives at) stamp k in
    well_kept row (step row (Ins at part) stamp k).row stamp k by.fresh (step row (Ins at part) stamp k).marks (torn (mark_before row.lives at) (mark_at row.lives at) by.mark) w b
    (insert_kept row at part stamp k le w b) (keep_step row (Ins at part) stamp k next (well_steady row stamp k w b) e)
step_keeps_it row (Del at part) stamp k next w b e =
    let a = if_some (stands (text_of row.lives) at part) (cut_at (text_of row.lives) at (length part)) next e in
    let t : Stands (text_of row.lives) at part = stands_of (text_of row.lives) at part a.0 in
    let count : length (text_of row.lives) ≡ length row.lives = length-map row.lives (λ (l : Live). l.unit) in
    well_kept row (step row (Del at part) stamp k).row stamp k 1 (step row (Del at part) stamp k).marks None w b
    (delete_kept row at (length part) stamp k (omega (arith, t.room)) w b) (keep_step row (Del at part) stamp k next (well_steady row stamp k w b) e)
step_keeps_it row (Com at part thread) stamp k next w b e =
    well_kept row (step row (Com at part thread) stamp k).row stamp k 0 k None w b
    (record { lives = λ m on. inl on; gone = λ m on. inl on; one = λ m l g f. w.apart m g l; together = w.lives; listed = listed_set thread at (at + length part) row.threads w.listed })
    (keep_step row (Com at part thread) stamp k next (well_steady row stamp k w b) e)
