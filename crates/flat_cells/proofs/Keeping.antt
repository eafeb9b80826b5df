-- A step keeps a flat row well formed, and fresh marks new.
use Rattle.std.proofs.Common.{◌≡◌, ℕ, ◌+◌, ◌<◌, ◌≤◌, Bool, false, List, [], ◌∷◌, ◌++◌, refl, ap, ap₂, sym, ◌∙◌, length, arith, Option, Some, None, subst, ⊎_elim}
use Rattle.std.specs.Prelude.{◌||◌, ◌&&◌, not, nat_le}
use Rattle.std.specs.List.{list_any}
use Rattle.std.proofs.lemmas.Bool.{cases_Bool, leb-true}
use Rattle.std.proofs.lemmas.List.{length-map}
use Rattle.std.proofs.lemmas.List.Folds.{list_any-append}
use Rattle.std.proofs.lemmas.List.Elements.{All-weaker}
use Rattle.ot_units.specs.Text.{put_at, cut_at}
use Rattle.ot_op.specs.Apply.{applied, stands}
use Rattle.ot_op.specs.declared.comp.Comp.{Comp}
use Rattle.ot_op.specs.declared.comp.Comp.TheVariants.{Ins, Del, Com}
use Rattle.ranges_tracker.specs.declared.mark.Mark.{Mark}
use Rattle.ranges_tracker.specs.declared.stamp.Stamp.{Stamp}
use Rattle.ranges_tracker.specs.Cells.{Live as LiveUnit, text_of, some_unmarked, mark_at, mark_before, chosen, torn, renewed, fresh_mark}
use Rattle.flat_cells.specs.Row.{Cell, FlatRow, is_start, is_end, lives_of, before, from_gap, gaps, behind, ends_earlier, without_earlier_ends, grouped}
use Rattle.flat_cells.specs.Step.{remarked_cells, new_cells, unthreaded, threaded, listed, flat_inserted, flat_deleted, flat_step}
use Rattle.flat_cells.specs.Form.{IsThread, IsWellFormedFlat, is_edge, is_gone_of, AreNeighbours, AreOlder}
use Rattle.ranges_tracker.proofs.Stepping.{if_some}
use Rattle.flat_cells.proofs.Parts.{whole, rest_whole, ends_before, begins_behind}
use Rattle.flat_cells.proofs.Edges.{any_grouped}
use Rattle.flat_cells.proofs.Inserting.{IsEdgeTest, start_test, end_test, parts_of, gap_lives, live_bears, torn_is_live, same_test, not_in_parts, no_edge_new, inserted_lives}
use Rattle.flat_cells.proofs.Deleting.{left_of, left_lives, left_edges, deleted_lives}
use Rattle.flat_cells.proofs.Commenting.{no_start, no_end, unthreaded_lives, threaded_lives}
use Rattle.flat_cells.proofs.Stepping.{stands_within}
use Rattle.flat_cells.proofs.Threads.{thread_spliced, thread_squeezed, tally_remarked, order_remarked}
use Rattle.flat_cells.proofs.Marks.{live_is_of, gone_is_of, Marks, ids_kept, older_kept, apart_kept, gone_remarked, gone_late}
use Rattle.flat_cells.proofs.Neighbours.{spliced_neighbours, squeezed_neighbours, new_neighbours, remarked_neighbours}
use Rattle.flat_cells.proofs.Marks.{no_gone_new}
use Rattle.flat_cells.proofs.Runs.{InRuns, NotNew, runs_put, runs_cut}
use Rattle.flat_cells.proofs.Groups.{InGroups}
use Rattle.flat_cells.proofs.Grouping.{inserted_groups, squeezed_groups}
use Rattle.flat_cells.proofs.Regrouping.{parts_at, unthreaded_groups, threaded_groups}
use Rattle.flat_cells.proofs.Marked.{IsPut, IsCut, put_any, put_marks, cut_marks}
use Rattle.flat_cells.proofs.Commented.{threads_listed, once_listed, others_listed, threaded_neighbours, unthreaded_neighbours, comment_marks}

pub record Kept (row : FlatRow) (stamp : Stamp) (k : ℕ) : Type 0 where
  pub form : IsWellFormedFlat row
  pub older : AreOlder row.cells stamp k

-- a mark in a row has not the id of a fresh one
not_new : (cells : List Cell) (stamp : Stamp) (k : ℕ) → AreOlder cells stamp k → NotNew (lives_of cells) stamp k
not_new cells stamp k older m i e v = ⊎_elim {C = m.k < k} (λ lt. absurd (omega (arith, lt, v))) (λ lt. lt.1) (older m (live_is_of m cells (live_bears cells i m e)))

-- tests of starts and ends in what is remarked
edge_test : (t : ℕ) → IsEdgeTest (is_edge t)
edge_test t = record { live = λ u o. refl; gone = λ u m. refl }

any_remarked : (test : Cell → Bool) → IsEdgeTest test → (o : Option Mark) (stamp : Stamp) (j : ℕ) (cells : List Cell) → list_any test (remarked_cells o stamp j cells) ≡ list_any test cells
any_remarked test h None stamp j cells = refl
any_remarked test h (Some old) stamp j [] = refl
any_remarked test h (Some old) stamp j (c ∷ cs) = ap₂ (λ (x y : Bool). x || y) (same_test test h old (renewed old stamp j) c) (any_remarked test h (Some old) stamp j cs)

keep_insert : (row : FlatRow) (at : ℕ) (part : List ℕ) (stamp : Stamp) (k : ℕ) → IsWellFormedFlat row → AreOlder row.cells stamp k → at ≤ length (lives_of row.cells) → Kept (flat_inserted row at part stamp k).row stamp (flat_inserted row at part stamp k).marks
keep_insert row at part stamp k h older le =
    let cells = row.cells in
    let left = mark_before (lives_of cells) at in
    let right = mark_at (lives_of cells) at in
    let by = chosen left right stamp k in
    let old = torn left right by.mark in
    let j = k + by.fresh in
    let front = before at cells in
    let gap = gaps 0 (from_gap at cells) in
    let rest = behind 0 (from_gap at cells) in
    let late = without_earlier_ends front gap ++ rest in
    let made = (flat_inserted row at part stamp k).row.cells in
    let next = (flat_inserted row at part stamp k).marks in
    let clear : (n : Mark) → old ≡ Some n → list_any (is_gone_of n) late ≡ false = λ n e. not_in_parts (is_gone_of n) (λ (c : Cell). not (ends_earlier front c)) front gap rest (ap (list_any (is_gone_of n)) (parts_of at cells) ∙ torn_is_live row h at right by.mark n e) in
    let marks : Marks (IsPut by old stamp k) cells made stamp k next = put_marks cells front gap rest part at stamp k (parts_of at cells) (gap_lives at cells) older clear in
    record {
      form = record {
        threads = All-weaker (IsThread cells) (IsThread made) (λ t i. thread_spliced t front gap (new_cells part by.mark) (remarked_cells old stamp j late) rest (no_edge_new (is_start t) (start_test t) part by.mark) (no_edge_new (is_end t) (end_test t) part by.mark)
            (λ test e. tally_remarked test e old stamp j late) (order_remarked t old stamp j late) (subst (λ (x : List Cell). IsThread x t) (sym (parts_of at cells)) i)) row.threads h.threads;
        once = h.once;
        no_other = λ t e. h.no_other t (sym (ap (list_any (is_edge t)) (parts_of at cells)) ∙ put_any (is_edge t) front gap rest part by.mark old stamp j (no_edge_new (is_edge t) (edge_test t) part by.mark) (any_remarked (is_edge t) (edge_test t) old stamp j late) e);
        groups = inserted_groups front gap rest part by.mark old stamp j (parts_at at cells le h.groups);
        ids = ids_kept (IsPut by old stamp k) cells made stamp k next marks older h.ids;
        runs = subst InRuns (sym (inserted_lives cells at part by.mark old stamp j)) (runs_put (lives_of cells) at part stamp k le h.runs (not_new cells stamp k older));
        apart = apart_kept (IsPut by old stamp k) cells made stamp k next marks older h.apart;
        neighbours = spliced_neighbours front gap (new_cells part by.mark) (remarked_cells old stamp j late) rest (ends_before at cells le) (begins_behind 0 (from_gap at cells)) (subst AreNeighbours (sym (parts_of at cells)) h.neighbours) (new_neighbours part by.mark) (λ m. no_gone_new m part by.mark)
            (λ i. remarked_neighbours old stamp j late clear i)
            (λ m. gone_remarked m old stamp j late clear ∙ list_any-append (is_gone_of m) (without_earlier_ends front gap) rest ∙ ap (λ (b : Bool). b || list_any (is_gone_of m) rest) (gone_late m front gap) ∙ sym (list_any-append (is_gone_of m) gap rest));
      };
      older = older_kept (IsPut by old stamp k) cells made stamp k next marks older;
    }

-- a fresh mark is on no gone cell
not_gone : (cells : List Cell) (stamp : Stamp) (k : ℕ) → AreOlder cells stamp k → list_any (is_gone_of (fresh_mark stamp k)) cells ≡ false
not_gone cells stamp k older = ⊎_elim {C = list_any (is_gone_of (fresh_mark stamp k)) cells ≡ false}
    (λ t. absurd (⊎_elim {C = ⊥} (λ lt. omega (arith, lt)) (λ lt. omega (arith, lt.1)) (older (fresh_mark stamp k) (gone_is_of (fresh_mark stamp k) cells t))))
    (λ f. f)
    (cases_Bool (list_any (is_gone_of (fresh_mark stamp k)) cells))

out_parts : (at n : ℕ) (cells : List Cell) → before at cells ++ (gaps n (from_gap at cells) ++ behind n (from_gap at cells)) ≡ cells
out_parts at n cells = ap (λ (x : List Cell). before at cells ++ x) (rest_whole n (from_gap at cells)) ∙ whole at cells

-- starts and ends of what is left stood in the row
cut_any : (test : Cell → Bool) → IsEdgeTest test → (front out rest : List Cell) (b : Bool) (new : Mark) → list_any test (front ++ (grouped front (left_of b new out) ++ rest)) ≡ list_any test (front ++ (out ++ rest))
cut_any test h front out rest b new =
    list_any-append test front (grouped front (left_of b new out) ++ rest)
    ∙ ap (λ (x : Bool). list_any test front || x) (list_any-append test (grouped front (left_of b new out)) rest ∙ ap (λ (x : Bool). x || list_any test rest) (any_grouped test front (left_of b new out) ∙ left_edges test h b new out) ∙ sym (list_any-append test out rest))
    ∙ sym (list_any-append test front (out ++ rest))

keep_delete : (row : FlatRow) (at n : ℕ) (stamp : Stamp) (k : ℕ) → IsWellFormedFlat row → AreOlder row.cells stamp k → at + n ≤ length (lives_of row.cells) → Kept (flat_deleted row at n stamp k).row stamp (flat_deleted row at n stamp k).marks
keep_delete row at n stamp k h older le =
    let cells = row.cells in
    let front = before at cells in
    let out = gaps n (from_gap at cells) in
    let rest = behind n (from_gap at cells) in
    let b = stamp.track && some_unmarked (lives_of out) in
    let new = fresh_mark stamp k in
    let made = (flat_deleted row at n stamp k).row.cells in
    let next = (flat_deleted row at n stamp k).marks in
    let parts = out_parts at n cells in
    let marks : Marks (IsCut b stamp k) cells made stamp k next = cut_marks cells front out rest b stamp k parts older in
    record {
      form = record {
        threads = All-weaker (IsThread cells) (IsThread made) (λ t i. thread_squeezed t front out rest b new (subst (λ (x : List Cell). IsThread x t) (sym parts) i)) row.threads h.threads;
        once = h.once;
        no_other = λ t e. h.no_other t (sym (ap (list_any (is_edge t)) parts) ∙ sym (cut_any (is_edge t) (edge_test t) front out rest b new) ∙ e);
        groups = squeezed_groups front out (left_of b new out) rest (ends_before at cells (omega (arith, le))) (begins_behind n (from_gap at cells)) (subst (InGroups []) (sym parts) h.groups) (left_lives b new out) (λ t. left_edges (is_start t) (start_test t) b new out);
        ids = ids_kept (IsCut b stamp k) cells made stamp k next marks older h.ids;
        runs = subst InRuns (sym (deleted_lives b cells at n new)) (runs_cut (lives_of cells) at n (omega (arith, le)) h.runs);
        apart = apart_kept (IsCut b stamp k) cells made stamp k next marks older h.apart;
        neighbours = squeezed_neighbours b new front out rest (ends_before at cells (omega (arith, le))) (begins_behind n (from_gap at cells)) (λ e. ap (list_any (is_gone_of new)) parts ∙ not_gone cells stamp k older) (subst AreNeighbours (sym parts) h.neighbours);
      };
      older = older_kept (IsCut b stamp k) cells made stamp k next marks older;
    }

keep_comment : (row : FlatRow) (at n t : ℕ) (stamp : Stamp) (k : ℕ) → IsWellFormedFlat row → AreOlder row.cells stamp k → at + n ≤ length (lives_of row.cells) → Kept (record { cells = threaded t at n (unthreaded t row.cells); threads = listed t row.threads }) stamp k
keep_comment row at n t stamp k h older le =
    let cells = row.cells in
    let others = unthreaded t cells in
    let made = threaded t at n others in
    let lives : lives_of others ≡ lives_of cells = unthreaded_lives t cells in
    let low : at + n ≤ length (lives_of others) = subst (λ (x : List LiveUnit). at + n ≤ length x) (sym lives) le in
    let marks : Marks (λ m. ⊥) cells made stamp k k = comment_marks t at n cells stamp k in
    record {
      form = record {
        threads = threads_listed t at n cells row.threads low h.once h.threads;
        once = once_listed t row.threads h.once;
        no_other = others_listed t at n cells row.threads h.no_other;
        groups = threaded_groups t at n others low (no_start t cells) (no_end t cells) (unthreaded_groups t cells h.groups);
        ids = ids_kept (λ m. ⊥) cells made stamp k k marks older h.ids;
        runs = subst InRuns (sym (threaded_lives t at n others low (no_start t cells) (no_end t cells) ∙ lives)) h.runs;
        apart = apart_kept (λ m. ⊥) cells made stamp k k marks older h.apart;
        neighbours = threaded_neighbours t at n others low (unthreaded_neighbours t cells h.neighbours);
      };
      older = older_kept (λ m. ⊥) cells made stamp k k marks older;
    }

pub keep_step : (row : FlatRow) (comp : Comp) (stamp : Stamp) (k : ℕ) (next : List ℕ) → IsWellFormedFlat row → AreOlder row.cells stamp k → applied (text_of (lives_of row.cells)) comp ≡ Some next → Kept (flat_step row comp stamp k).row stamp (flat_step row comp stamp k).marks
keep_step row (Ins at part) stamp k next h older e =
    let a = if_some (nat_le at (length (text_of (lives_of row.cells)))) (put_at (text_of (lives_of row.cells)) at part) next e in
    keep_insert row at part stamp k h older (omega (arith, leb-true at (length (text_of (lives_of row.cells))) a.0, length-map (lives_of row.cells) (λ (l : LiveUnit). l.unit)))
keep_step row (Del at part) stamp k next h older e =
    let a = if_some (stands (text_of (lives_of row.cells)) at part) (cut_at (text_of (lives_of row.cells)) at (length part)) next e in
    keep_delete row at (length part) stamp k h older (stands_within row at part a.0)
keep_step row (Com at part t) stamp k next h older e =
    let a = if_some (stands (text_of (lives_of row.cells)) at part) (text_of (lives_of row.cells)) next e in
    keep_comment row at (length part) t stamp k h older (stands_within row at part a.0)
