-- Inserts and deletes of merged changes, and what a step of a row makes of them.
use Rattle.std.proofs.Common.{◌≡◌, ℕ, ◌+◌, ◌≤◌, Bool, true, false, List, [], ◌∷◌, ◌++◌, refl, ap, ap₂, sym, ◌∙◌, length, arith, map, take, drop, Option, Some, None, subst, ⊎_elim, take-append-drop}
use Rattle.std.specs.Prelude.{nat_le, if◌then◌else◌}
use Rattle.std.proofs.lemmas.Bool.{cases_Bool}
use Rattle.std.proofs.lemmas.List.{length-take-le, drop-drop}
use Rattle.std.proofs.lemmas.List.Elements.{filter-append}
use Rattle.ot_op.specs.declared.comp.Comp.TheVariants.{Ins, Del}
use Rattle.ranges_tracker.specs.Cells.{Mark, Live, Gone, Stamp, Row, Stepped, text_of, raised, deleted, step}
use Rattle.ranges_tracker.specs.declared.change.Change.{Change}
use Rattle.ranges_tracker.specs.declared.change.ChangeKind.{ChangeKind}
use Rattle.ranges_tracker.specs.declared.change.ChangeKind.TheVariants.{Inserted, Deleted}
use Rattle.ranges_tracker.specs.Shown.{change, same_kind, meets, fused, touch, packed, live_cell, live_cells, gone_cells, up_to, past, merged, shown_changes}
use Rattle.ranges_tracker.specs.Tracked.{placed, Marked, insert_in, cut_in, delete_in, inserts_of, deletes_of, changes_in}
use Rattle.ranges_tracker.specs.Steady.{Steady}
use Rattle.ranges_tracker.proofs.Packing.{touch_met, touch_apart}
use Rattle.ranges_tracker.proofs.Inserting.{insert_law, cut_law}
use Rattle.ranges_tracker.proofs.Placing.{placed_cells, fit_raised}
use Rattle.ranges_tracker.proofs.Deleting.{delete_law}
use Rattle.ranges_tracker.proofs.Forms.{up_to_past}
use Rattle.ranges_tracker.proofs.Lasting.{older_packed, distinct_differ}

-- changes of one kind
abbrev pub Of : ChangeKind → List Change → Type 0
Of kind [] = Unit {0}
Of kind (c ∷ cs) = (c.kind ≡ kind) × Of kind cs

of_touch : (kind : ChangeKind) (c : Change) (cs : List Change) → c.kind ≡ kind → Of kind cs → Of kind (touch c cs)
of_touch kind c [] e h = (e, tt)
of_touch kind c (d ∷ ds) e h = ⊎_elim {C = Of kind (touch c (d ∷ ds))}
    (λ t. subst (λ (x : List Change). Of kind x) (sym (touch_met c d ds t)) met)
    (λ t. subst (λ (x : List Change). Of kind x) (sym (touch_apart c d ds t)) apart)
    (cases_Bool (meets c d))
  where
    met : Of kind (fused c d ∷ ds)
    met = (e, h.1)

    apart : Of kind (c ∷ d ∷ ds)
    apart = (e, h)

of_cell : (at u : ℕ) (o : Option Mark) (cs : List Change) → Of Inserted (packed cs) → Of Inserted (packed (live_cell at u o ++ cs))
of_cell at u None cs h = h
of_cell at u (Some m) cs h = of_touch Inserted (change Inserted at (u ∷ []) m) (packed cs) refl h

pub of_lives : (at : ℕ) (ls : List Live) → Of Inserted (packed (live_cells at ls))
of_lives at [] = tt
of_lives at (l ∷ ls) = of_cell at l.unit l.mark (live_cells (at + 1) ls) (of_lives (at + 1) ls)

pub of_gone : (gone : List Gone) → Of Deleted (packed (gone_cells gone))
of_gone [] = tt
of_gone (g ∷ gs) = of_touch Deleted (change Deleted g.gap (g.unit ∷ []) g.mark) (packed (gone_cells gs)) refl (of_gone gs)

of_either : (b : Bool) (xs ys : List Change) → Of Deleted xs → Of Deleted ys → Of Deleted (if b then xs else ys)
of_either true xs ys h k = h
of_either false xs ys h k = k

of_up_to : (at : ℕ) (ds : List Change) → Of Deleted ds → Of Deleted (up_to at ds)
of_up_to at [] h = tt
of_up_to at (d ∷ ds) h = of_either (nat_le d.at at) (d ∷ up_to at ds) [] (h.0, of_up_to at ds h.1) tt

of_past : (at : ℕ) (ds : List Change) → Of Deleted ds → Of Deleted (past at ds)
of_past at [] h = tt
of_past at (d ∷ ds) h = of_either (nat_le d.at at) (past at ds) (d ∷ ds) (of_past at ds h.1) h

all_deletes : (ds : List Change) → Of Deleted ds → deletes_of ds ≡ ds
all_deletes [] h = refl
all_deletes (d ∷ ds) h = ap (λ (x : ChangeKind). if same_kind x Deleted then d ∷ deletes_of ds else deletes_of ds) h.0 ∙ ap (λ (x : List Change). d ∷ x) (all_deletes ds h.1)

no_inserts : (ds : List Change) → Of Deleted ds → inserts_of ds ≡ []
no_inserts [] h = refl
no_inserts (d ∷ ds) h = ap (λ (x : ChangeKind). if same_kind x Inserted then d ∷ inserts_of ds else inserts_of ds) h.0 ∙ no_inserts ds h.1

first_insert : (i : Change) (cs : List Change) → i.kind ≡ Inserted → inserts_of (i ∷ cs) ≡ i ∷ inserts_of cs
first_insert i cs e = ap (λ (x : ChangeKind). if same_kind x Inserted then i ∷ inserts_of cs else inserts_of cs) e

not_delete : (i : Change) (cs : List Change) → i.kind ≡ Inserted → deletes_of (i ∷ cs) ≡ deletes_of cs
not_delete i cs e = ap (λ (x : ChangeKind). if same_kind x Deleted then i ∷ deletes_of cs else deletes_of cs) e

pub inserts_merged : (is ds : List Change) → Of Inserted is → Of Deleted ds → inserts_of (merged is ds) ≡ is
inserts_merged [] ds hi hd = no_inserts ds hd
inserts_merged (i ∷ is) ds hi hd =
    filter-append (λ (c : Change). same_kind c.kind Inserted) (up_to i.at ds) (i ∷ merged is (past i.at ds))
    ∙ ap (λ (x : List Change). x ++ inserts_of (i ∷ merged is (past i.at ds))) (no_inserts (up_to i.at ds) (of_up_to i.at ds hd))
    ∙ first_insert i (merged is (past i.at ds)) hi.0
    ∙ ap (λ (x : List Change). i ∷ x) (inserts_merged is (past i.at ds) hi.1 (of_past i.at ds hd))

pub deletes_merged : (is ds : List Change) → Of Inserted is → Of Deleted ds → deletes_of (merged is ds) ≡ ds
deletes_merged [] ds hi hd = all_deletes ds hd
deletes_merged (i ∷ is) ds hi hd =
    filter-append (λ (c : Change). same_kind c.kind Deleted) (up_to i.at ds) (i ∷ merged is (past i.at ds))
    ∙ ap₂ (λ (x y : List Change). x ++ y) (all_deletes (up_to i.at ds) (of_up_to i.at ds hd)) (not_delete i (merged is (past i.at ds)) hi.0 ∙ deletes_merged is (past i.at ds) hi.1 (of_past i.at ds hd))
    ∙ up_to_past i.at ds

pub split_inserts : (row : Row) → inserts_of (shown_changes row) ≡ packed (live_cells 0 row.lives)
split_inserts row = inserts_merged (packed (live_cells 0 row.lives)) (packed (gone_cells row.gone)) (of_lives 0 row.lives) (of_gone row.gone)

pub split_deletes : (row : Row) → deletes_of (shown_changes row) ≡ packed (gone_cells row.gone)
split_deletes row = deletes_merged (packed (live_cells 0 row.lives)) (packed (gone_cells row.gone)) (of_lives 0 row.lives) (of_gone row.gone)

abbrev pub shown_step : Stepped → Marked
shown_step s = record { changes = shown_changes s.row; marks = s.marks }

pub insert_shown : (row : Row) (at : ℕ) (part : List ℕ) (stamp : Stamp) (k : ℕ) → Steady row stamp k → at ≤ length row.lives →
    changes_in (shown_changes row) (Ins at part) stamp k ≡ shown_step (step row (Ins at part) stamp k)
insert_shown row at part stamp k h le =
    let f : List Change → List Change → Marked = λ is ds. let r = insert_in is at part stamp k in record { changes = merged r.changes (map (placed (raised at (length part))) ds); marks = r.marks } in
    let g : Marked → List Change → Marked = λ r ds. record { changes = merged r.changes ds; marks = r.marks } in
    ap₂ f (split_inserts row) (split_deletes row)
    ∙ ap₂ g (insert_law row at part stamp k le (older_packed stamp.version k 0 row.lives h.lives)) (placed_cells (raised at (length part)) row.gone (fit_raised at (length part) (packed (gone_cells row.gone))))

-- the units that a delete takes out are those of the row
pub delete_shown : (row : Row) (at : ℕ) (part : List ℕ) (stamp : Stamp) (k : ℕ) → Steady row stamp k → at + length part ≤ length row.lives → part ≡ text_of (take (length part) (drop at row.lives)) →
    changes_in (shown_changes row) (Del at part) stamp k ≡ shown_step (step row (Del at part) stamp k)
delete_shown row at part stamp k h le is =
    let n = length part in
    let front = take at row.lives in
    let out = take n (drop at row.lives) in
    let rest = drop (at + n) row.lives in
    let e : length front ≡ at = length-take-le at row.lives (omega arith) in
    let whole : row.lives ≡ front ++ (out ++ rest) = sym (ap (λ (x : List Live). front ++ x) (ap (λ (x : List Live). out ++ x) (sym (drop-drop n at row.lives)) ∙ take-append-drop n (drop at row.lives)) ∙ take-append-drop at row.lives) in
    let count : length (text_of out) ≡ n = ap length (sym is) in
    let outs : out ≡ take (length (text_of out)) (drop (length front) row.lives) = sym (ap₂ (λ (a b : ℕ). take a (drop b row.lives)) count e) in
    let law = delete_law row front out rest stamp k whole outs h.rises (distinct_differ (packed (gone_cells row.gone)) h.distinct) in
    let law2 : delete_in (packed (live_cells 0 row.lives)) (packed (gone_cells row.gone)) at part stamp k ≡ record { changes = packed (gone_cells (deleted row at n stamp k).row.gone); marks = (deleted row at n stamp k).marks } =
    ap₂ (λ (a : ℕ) (t : List ℕ). delete_in (packed (live_cells 0 row.lives)) (packed (gone_cells row.gone)) a t stamp k) (sym e) is ∙ law
    ∙ ap₂ (λ (a b : ℕ). let r : Marked = record { changes = packed (gone_cells (deleted row a b stamp k).row.gone); marks = (deleted row a b stamp k).marks } in r) e count in
    let f : List Change → List Change → Marked = λ is ds. let r = delete_in is ds at part stamp k in record { changes = merged (cut_in is at n) r.changes; marks = r.marks } in
    let g : List Change → Marked → Marked = λ is r. record { changes = merged is r.changes; marks = r.marks } in
    ap₂ f (split_inserts row) (split_deletes row) ∙ ap₂ g (cut_law row.lives at n le) law2
