-- Places and counts stay below 2 ^ 32 where the text and the units do.
use Rattle.std.proofs.Common.{◌≡◌, ℕ, ◌+◌, ◌-◌, ◌*◌, ◌<◌, ◌≤◌, Bool, true, false, List, [], ◌∷◌, ◌++◌, ap, sym, ◌∙◌, length, arith, map, take, drop, Option, Some, None, subst, ⊎_elim}
use Rattle.std.specs.Prelude.{nat_le, ◌&&◌, if◌then◌else◌}
use Rattle.std.specs.List.{All}
use Rattle.std.proofs.lemmas.Bool.{cases_Bool, leb-true}
use Rattle.std.proofs.lemmas.List.{length-map}
use Rattle.std.proofs.lemmas.List.Elements.{All-cons}
use Rattle.ot_units.specs.Text.{put_at, cut_at}
use Rattle.ot_op.specs.Operation.{place, units_of}
use Rattle.ot_op.specs.Apply.{applied, applied_all, stands}
use Rattle.ot_op.specs.declared.comp.Comp.{Comp}
use Rattle.ot_op.specs.declared.comp.Comp.TheVariants.{Ins, Del, Com}
use Rattle.ranges_tracker.specs.Cells.{Mark, Live, Gone, Thread, Stamp, Row, own, first_of, chosen, torn, count, fresh_mark, mark_at, mark_before, some_unmarked, text_of, step}
use Rattle.ranges_tracker.specs.declared.change.Change.{Change}
use Rattle.ranges_tracker.specs.declared.comment.Comment.{Comment}
use Rattle.ranges_tracker.specs.Shown.{meets, fused, touch, packed, live_cell, live_cells, gone_cells, up_to, past, merged, shown, shown_changes}
use Rattle.ranges_tracker.specs.Ranged.{Roomy, RoomyAll, ranges_in}
use Rattle.ranges_tracker.specs.Steady.{Within, GapsWithin, Steady, units_all}
use Rattle.ranges_tracker.specs.Trackable.{IsFit, IsFitStep}
use Rattle.ranges_tracker.specs.Ordered.{Lined, Rising}
use Rattle.ranges_tracker.proofs.Cutting.{lined_cells}
use Rattle.ranges_tracker.proofs.Placing.{rising_cells}
use Rattle.ranges_tracker.proofs.Merging.{split_inserts, split_deletes}
use Rattle.ranges_tracker.proofs.Packing.{touch_met, touch_apart}
use Rattle.ranges_tracker.proofs.Commenting.{shown_on}
use Rattle.ranges_tracker.proofs.Stepping.{if_some, Stands, stands_of, Same, step_is}
use Rattle.ranges_tracker.proofs.Keeping.{keep_step, inserted_length, deleted_length}
use Rattle.ranges_tracker.proofs.Folding.{text_step}
use Rattle.ranges_tracker.proofs.Versions.{at_steady, in_steady}
use Rattle.ot_op.proofs.Applying.{First, first_of_all}

abbrev pub AtMost : ℕ → List Change → Type 0
AtMost m [] = Unit {0}
AtMost m (c ∷ cs) = (c.at ≤ m) × AtMost m cs

most_touch : (m : ℕ) (c : Change) (cs : List Change) → c.at ≤ m → AtMost m cs → AtMost m (touch c cs)
most_touch m c [] e h = (e, tt)
most_touch m c (d ∷ ds) e h = ⊎_elim {C = AtMost m (touch c (d ∷ ds))}
    (λ t. subst (λ (x : List Change). AtMost m x) (sym (touch_met c d ds t)) met)
    (λ t. subst (λ (x : List Change). AtMost m x) (sym (touch_apart c d ds t)) apart)
    (cases_Bool (meets c d))
  where
    met : AtMost m (fused c d ∷ ds)
    met = (e, h.1)

    apart : AtMost m (c ∷ d ∷ ds)
    apart = (e, h)

most_cell : (m at u : ℕ) (o : Option Mark) (cs : List Change) → at ≤ m → AtMost m (packed cs) → AtMost m (packed (live_cell at u o ++ cs))
most_cell m at u None cs e h = h
most_cell m at u (Some k) cs e h = most_touch m _ (packed cs) e h

most_lives : (m at : ℕ) (ls : List Live) → at + length ls ≤ m → AtMost m (packed (live_cells at ls))
most_lives m at [] h = tt
most_lives m at (l ∷ ls) h = most_cell m at l.unit l.mark (live_cells (at + 1) ls) (omega arith) (most_lives m (at + 1) ls (omega arith))

pub most_gone : (m : ℕ) (gs : List Gone) → GapsWithin m gs → AtMost m (packed (gone_cells gs))
most_gone m [] h = tt
most_gone m (g ∷ gs) h = most_touch m _ (packed (gone_cells gs)) h.0 (most_gone m gs h.1)

most_either : (b : Bool) (m : ℕ) (xs ys : List Change) → AtMost m xs → AtMost m ys → AtMost m (if b then xs else ys)
most_either true m xs ys h k = h
most_either false m xs ys h k = k

most_up_to : (m at : ℕ) (ds : List Change) → AtMost m ds → AtMost m (up_to at ds)
most_up_to m at [] h = tt
most_up_to m at (d ∷ ds) h = most_either (nat_le d.at at) m (d ∷ up_to at ds) [] (h.0, most_up_to m at ds h.1) tt

most_past : (m at : ℕ) (ds : List Change) → AtMost m ds → AtMost m (past at ds)
most_past m at [] h = tt
most_past m at (d ∷ ds) h = most_either (nat_le d.at at) m (past at ds) (d ∷ ds) (most_past m at ds h.1) h

most_append : (m : ℕ) (xs ys : List Change) → AtMost m xs → AtMost m ys → AtMost m (xs ++ ys)
most_append m [] ys h k = k
most_append m (x ∷ xs) ys h k = (h.0, most_append m xs ys h.1 k)

most_merged : (m : ℕ) (is ds : List Change) → AtMost m is → AtMost m ds → AtMost m (merged is ds)
most_merged m [] ds h k = k
most_merged m (i ∷ is) ds h k = most_append m (up_to i.at ds) (i ∷ merged is (past i.at ds)) (most_up_to m i.at ds k) (h.0, most_merged m is (past i.at ds) h.1 (most_past m i.at ds k))

fit_changes : (m u : ℕ) (cs : List Change) → m + u < 4294967296 → AtMost m cs → All (λ (c : Change). c.at + u < 4294967296) cs
fit_changes m u [] room h = λ k d lt. absurd (omega arith)
fit_changes m u (c ∷ cs) room h = All-cons (λ (x : Change). x.at + u < 4294967296) c cs (omega (arith, h.0)) (fit_changes m u cs room h.1)

fit_comments : (m u : ℕ) (text : List ℕ) (ts : List Thread) → m + u < 4294967296 → Within m ts → All (λ (c : Comment). c.at + u < 4294967296) (map (shown_on text) ts)
fit_comments m u text [] room h = λ k d lt. absurd (omega arith)
fit_comments m u text (t ∷ ts) room h = All-cons (λ (x : Comment). x.at + u < 4294967296) (shown_on text t) (map (shown_on text) ts) (omega (arith, h.0, h.1)) (fit_comments m u text ts room h.2)

-- a step makes at most two fresh marks
first_few : (a b : Option Mark) (m : Mark) → (first_of a b m).fresh ≤ 1
first_few (Some x) b m = omega arith
first_few None (Some x) m = omega arith
first_few None None m = omega arith

chosen_few : (a b : Option Mark) (stamp : Stamp) (k : ℕ) → (chosen a b stamp k).fresh ≤ 1
chosen_few a b stamp k = go stamp.track
  where
    go : (t : Bool) → (if t then first_of (own stamp.user a) (own stamp.user b) (fresh_mark stamp k) else record { mark = None; fresh = 0 }).fresh ≤ 1
    go true = first_few (own stamp.user a) (own stamp.user b) (fresh_mark stamp k)
    go false = omega arith

count_few : (o : Option Mark) → count o ≤ 1
count_few None = omega arith
count_few (Some m) = omega arith

one_more : (b : Bool) (k : ℕ) → (if b then k + 1 else k) ≤ k + 2
one_more true k = omega arith
one_more false k = omega arith

-- what a step that applies leaves of the room
record Left (row : Row) (comp : Comp) (stamp : Stamp) (k : ℕ) : Type 0 where
  pub place_in : place comp + units_of comp ≤ length row.lives + units_of comp
  pub grows : length (step row comp stamp k).row.lives ≤ length row.lives + units_of comp
  pub marks : (step row comp stamp k).marks ≤ k + 2

left_of : (row : Row) (comp : Comp) (stamp : Stamp) (k : ℕ) (next : List ℕ) → applied (text_of row.lives) comp ≡ Some next → Left row comp stamp k
left_of row (Ins at part) stamp k next e =
    let a = if_some (nat_le at (length (text_of row.lives))) (put_at (text_of row.lives) at part) next e in
    let size : length (text_of row.lives) ≡ length row.lives = length-map row.lives (λ (l : Live). l.unit) in
    let le : at ≤ length row.lives = omega (arith, leb-true at (length (text_of row.lives)) a.0) in
    let by = chosen (mark_before row.lives at) (mark_at row.lives at) stamp k in
    let old = torn (mark_before row.lives at) (mark_at row.lives at) by.mark in
    let long : length (step row (Ins at part) stamp k).row.lives ≡ length row.lives + length part = inserted_length row.lives at part by.mark old stamp (k + by.fresh) le in
    record {
      place_in = omega arith;
      grows = omega (arith, long);
      marks = omega (arith, chosen_few (mark_before row.lives at) (mark_at row.lives at) stamp k, count_few old);
    }
left_of row (Del at part) stamp k next e =
    let a = if_some (stands (text_of row.lives) at part) (cut_at (text_of row.lives) at (length part)) next e in
    let t : Stands (text_of row.lives) at part = stands_of (text_of row.lives) at part a.0 in
    let size : length (text_of row.lives) ≡ length row.lives = length-map row.lives (λ (l : Live). l.unit) in
    let le : at + length part ≤ length row.lives = omega (arith, t.room) in
    let long : length (step row (Del at part) stamp k).row.lives ≡ length row.lives - length part = deleted_length row.lives at (length part) le in
    let out = take (length part) (drop at row.lives) in
    record {
      place_in = omega arith;
      grows = omega (arith, long);
      marks = one_more (stamp.track && some_unmarked out) k;
    }
left_of row (Com at part thread) stamp k next e =
    let a = if_some (stands (text_of row.lives) at part) (text_of row.lives) next e in
    let t : Stands (text_of row.lives) at part = stands_of (text_of row.lives) at part a.0 in
    let size : length (text_of row.lives) ≡ length row.lives = length-map row.lives (λ (l : Live). l.unit) in
    record { place_in = omega (arith, t.room); grows = omega arith; marks = omega arith }

-- one component has room where the text and its units have
pub roomy_one : (row : Row) (comp : Comp) (stamp : Stamp) (k : ℕ) (next : List ℕ) → Steady row stamp k → applied (text_of row.lives) comp ≡ Some next → length row.lives + units_of comp < 4294967296 → k + 2 < 4294967296 → Roomy (shown row) comp k
roomy_one row comp stamp k next s e room few =
    let left : Left row comp stamp k = left_of row comp stamp k next e in
    record {
      place_fits = omega (arith, left.place_in);
      changes_fit = fit_changes (length row.lives) (units_of comp) (shown_changes row) room (most_merged (length row.lives) _ _ (most_lives (length row.lives) 0 row.lives (omega arith)) (most_gone (length row.lives) row.gone s.gaps));
      comments_fit = fit_comments (length row.lives) (units_of comp) (text_of row.lives) row.threads room s.threads;
      few = few;
      inserts_lined = subst (λ (cs : List Change). Lined 0 cs) (sym (split_inserts row)) (lined_cells 0 row.lives);
      deletes_rise = subst (λ (cs : List Change). Rising 0 cs) (sym (split_deletes row)) (rising_cells 0 row.gone s.rises);
    }

-- and all components
pub roomy_all : (cs : List Comp) (row : Row) (stamp : Stamp) (k : ℕ) (next : List ℕ) → Steady row stamp k → applied_all (text_of row.lives) cs ≡ Some next →
    length row.lives + units_all cs < 4294967296 → k + 2 * length cs < 4294967296 → RoomyAll (shown row) cs stamp k
roomy_all [] row stamp k next s e room few = tt
roomy_all (c ∷ cs) row stamp k next s e room few =
    let f : First (text_of row.lives) c cs next = first_of_all (text_of row.lives) c cs next e in
    let same : Same row c stamp k = step_is row c stamp k f.mid s f.here in
    let left : Left row c stamp k = left_of row c stamp k f.mid f.here in
    let text : text_of (step row c stamp k).row.lives ≡ f.mid = text_step row c stamp k f.mid f.here in
    let more : RoomyAll (shown (step row c stamp k).row) cs stamp (step row c stamp k).marks =
    roomy_all cs (step row c stamp k).row stamp (step row c stamp k).marks next (keep_step row c stamp k f.mid s f.here) (ap (λ (t : List ℕ). applied_all t cs) text ∙ f.rest) (omega (arith, left.grows)) (omega (arith, left.marks)) in (
      roomy_one row c stamp k f.mid s f.here (omega arith) (omega arith),
      subst (λ (n : ℕ). RoomyAll (ranges_in (shown row) c stamp k) cs stamp n) same.marks (subst (λ (r : List Change × List Comment). RoomyAll r cs stamp (step row c stamp k).marks) same.ranges more),
    )

pub fit_roomy : (ranges : List Change × List Comment) (cs : List Comp) (stamp : Stamp) → IsFit ranges cs stamp → RoomyAll ranges cs stamp 0
fit_roomy ranges cs stamp f =
    let row : Row = f.of.agree.row in
    let size : length row.lives ≡ length f.text = sym (length-map row.lives (λ (l : Live). l.unit)) ∙ ap length f.of.agree.text_is in
    let room = f.room in
    subst (λ (r : List Change × List Comment). RoomyAll r cs stamp 0) f.of.agree.is
    (roomy_all cs row stamp 0 f.next (at_steady ranges f.text stamp f.of) (ap (λ (t : List ℕ). applied_all t cs) f.of.agree.text_is ∙ f.applies) (omega (arith, size, room)) (omega (arith, f.few)))

pub fit_one : (ranges : List Change × List Comment) (comp : Comp) (stamp : Stamp) (k : ℕ) → IsFitStep ranges comp stamp k → Roomy ranges comp k
fit_one ranges comp stamp k f =
    let row : Row = f.of.agree.row in
    let size : length row.lives ≡ length f.text = sym (length-map row.lives (λ (l : Live). l.unit)) ∙ ap length f.of.agree.text_is in
    let room = f.room in
    subst (λ (r : List Change × List Comment). Roomy r comp k) f.of.agree.is
    (roomy_one row comp stamp k f.next (in_steady ranges f.text stamp k f.of) (ap (λ (t : List ℕ). applied t comp) f.of.agree.text_is ∙ f.applies) (omega (arith, size, room)) f.few)
