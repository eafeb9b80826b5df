-- What is shown of a well-formed row has the form of kept ranges.
use Rattle.std.proofs.Common.{◌≡◌, ℕ, ◌+◌, ◌<◌, ◌≤◌, true, false, List, [], ◌∷◌, ◌++◌, refl, ap, sym, ◌∙◌, length, arith, append_assoc, length-append, map, take, drop, Option, Some, None, subst, ◌⊎◌, inl, inr}
use Rattle.std.specs.Str.{bytes_eq}
use Rattle.std.proofs.lemmas.Slice.Eq.{bytes_eq-Decides}
use Rattle.std.proofs.lemmas.Bool.{cases_Bool, le-leb}
use Rattle.std.proofs.lemmas.List.{length-map}
use Rattle.ot_units.specs.Text.{part_at}
use Rattle.ot_op.specs.Apply.{stands}
use Rattle.ranges_tracker.specs.Cells.{Mark, Live, Gone, Thread, Row, text_of}
use Rattle.ranges_tracker.specs.declared.change.Change.{Change}
use Rattle.ranges_tracker.specs.declared.change.ChangeKind.{ChangeKind}
use Rattle.ranges_tracker.specs.declared.change.ChangeKind.TheVariants.{Inserted, Deleted}
use Rattle.ranges_tracker.specs.declared.comment.Comment.{Comment}
use Rattle.ranges_tracker.specs.Shown.{mark_of, meets, fused, packed, live_cell, live_cells, gone_cells, merged, shown}
use Rattle.ranges_tracker.specs.Steady.{GapsWithin, Within, Distinct}
use Rattle.ranges_tracker.specs.WellFormed.{NotListed, ListedOnce, OnLive, same_id, IsWellFormed}
use Rattle.ranges_tracker.specs.Agree.{IsBehind, first_behind, IdsDiffer, StandsAs, StandsIn, ThreadsDiffer, IsKeptForm, Agree}
use Rattle.ranges_tracker.proofs.Cutting.{Lined, lined_cells, cell, met_by}
use Rattle.ranges_tracker.proofs.Placing.{Rising, rising_cells, lost}
use Rattle.ranges_tracker.proofs.Merging.{Of, of_lives, of_gone}
use Rattle.ranges_tracker.proofs.Commenting.{Parts, parts_of, part_is, shown_on, shown_is}
use Rattle.ranges_tracker.proofs.Fitting.{AtMost, most_gone}
use Rattle.ranges_tracker.proofs.Marks.{same_id_turned, HasMark, no_mark_off, has_lives, has_gone, distinct_lives, distinct_gone}
use Rattle.ranges_tracker.proofs.Forms.{Each, Pairs, each_all, pairs_all, each_weaker, each_both, each_touch, Across, each_merged, pairs_merged}

-- no shown change is empty
lined_filled : (at : ℕ) (cs : List Change) → Lined at cs → Each (λ (c : Change). 0 < length c.text) cs
lined_filled at [] h = tt
lined_filled at (c ∷ cs) h = (h.1, lined_filled (c.at + length c.text) cs h.2)

gone_filled : (gs : List Gone) → Each (λ (c : Change). 0 < length c.text) (packed (gone_cells gs))
gone_filled [] = tt
gone_filled (g ∷ gs) = each_touch (λ (c : Change). 0 < length c.text) (lost g.gap g.unit g.mark) (packed (gone_cells gs)) (omega arith) (λ d h t. omega arith) (gone_filled gs)

-- each shown insert stands in the text
pub record Here (at : ℕ) (units : List ℕ) (c : Change) : Type 0 where
  pub front : List ℕ
  pub rest : List ℕ
  pub is : units ≡ front ++ (c.text ++ rest)
  pub at_is : c.at ≡ at + length front

here_later : (at u : ℕ) (units : List ℕ) (c : Change) → Here (at + 1) units c → Here at (u ∷ units) c
here_later at u units c h = record { front = u ∷ h.front; rest = h.rest; is = ap (λ (x : List ℕ). u ∷ x) h.is; at_is = omega (arith, h.at_is) }

empty_front : (front rest : List ℕ) → length front ≡ 0 → front ++ rest ≡ rest
empty_front [] rest e = refl
empty_front (x ∷ xs) rest e = cc

here_cell : (at u : ℕ) (units : List ℕ) (m : Mark) → Here at (u ∷ units) (cell at u m)
here_cell at u units m = record { front = []; rest = units; is = refl; at_is = omega arith }

here_fused : (at u : ℕ) (units : List ℕ) (m : Mark) (d : Change) → Here at (u ∷ units) d → meets (cell at u m) d ≡ true → Here at (u ∷ units) (fused (cell at u m) d)
here_fused at u units m d h t = go h.front h.is (omega (arith, h.at_is, (met_by at u m d t).at_is))
  where
    go : (front : List ℕ) → u ∷ units ≡ front ++ (d.text ++ h.rest) → length front ≡ 1 → Here at (u ∷ units) (fused (cell at u m) d)
    go [] e one = cc
    go (x ∷ []) e one = record { front = []; rest = h.rest; is = first e; at_is = omega arith }
      where
        first : u ∷ units ≡ x ∷ (d.text ++ h.rest) → u ∷ units ≡ u ∷ (d.text ++ h.rest)
        first f = cc
    go (x ∷ y ∷ ys) e one = absurd (omega arith)

here_put : (at u : ℕ) (o : Option Mark) (units : List ℕ) (cs : List Change) → Each (Here at (u ∷ units)) (packed cs) → Each (Here at (u ∷ units)) (packed (live_cell at u o ++ cs))
here_put at u None units cs h = h
here_put at u (Some m) units cs h = each_touch (Here at (u ∷ units)) (cell at u m) (packed cs) (here_cell at u units m) (here_fused at u units m) h

here_cells : (at : ℕ) (ls : List Live) → Each (Here at (text_of ls)) (packed (live_cells at ls))
here_cells at [] = tt
here_cells at (l ∷ ls) = here_put at l.unit l.mark (text_of ls) (live_cells (at + 1) ls) (each_weaker (Here (at + 1) (text_of ls)) (Here at (l.unit ∷ text_of ls)) (packed (live_cells (at + 1) ls)) (here_later at l.unit (text_of ls)) (here_cells (at + 1) ls))

pub stands_by : (text : List ℕ) (at : ℕ) (part : List ℕ) → at ≤ length text → part ≡ take (length part) (drop at text) → stands text at part ≡ true
stands_by text at part le e = let b : bytes_eq part (part_at text at (length part)) ≡ true = (bytes_eq-Decides part (part_at text at (length part))).1 e in rw (le-leb at (length text) le, b) refl

here_stands : (text : List ℕ) (c : Change) → Here 0 text c → c.kind ≡ Inserted → StandsIn text c
here_stands text c h e =
    let n : length text ≡ length h.front + (length c.text + length h.rest) = ap length h.is ∙ length-append h.front (c.text ++ h.rest) ∙ ap (λ (x : ℕ). length h.front + x) (length-append c.text h.rest) in
    let part : take (length c.text) (drop c.at text) ≡ c.text = part_is text h.front c.text h.rest c.at (length c.text) h.is (omega (arith, h.at_is)) refl in
    subst (λ (k : ChangeKind). StandsAs text k c.at c.text) (sym e) (stands_by text c.at c.text (omega (arith, h.at_is)) (sym part))

pub of_each : (kind : ChangeKind) (cs : List Change) → Of kind cs → Each (λ (c : Change). c.kind ≡ kind) cs
of_each kind [] h = tt
of_each kind (c ∷ cs) h = (h.0, of_each kind cs h.1)

at_each : (m : ℕ) (cs : List Change) → AtMost m cs → Each (λ (c : Change). c.at ≤ m) cs
at_each m [] h = tt
at_each m (c ∷ cs) h = (h.0, at_each m cs h.1)

-- the order of places
lined_above : (at a : ℕ) (cs : List Change) → at ≤ a → Lined a cs → Each (λ (c : Change). at ≤ c.at) cs
lined_above at a [] le h = tt
lined_above at a (c ∷ cs) le h = (omega (arith, h.0), lined_above at (c.at + length c.text) cs (omega (arith, h.0)) h.2)

rising_least : (at a : ℕ) (cs : List Change) → at ≤ a → Rising a cs → Each (λ (c : Change). at ≤ c.at) cs
rising_least at a [] le h = tt
rising_least at a (c ∷ cs) le h = (omega (arith, h.0), rising_least at c.at cs (omega (arith, h.0)) h.1)

lined_sorted : (at : ℕ) (cs : List Change) → Lined at cs → Pairs (λ (c d : Change). c.at ≤ d.at) cs
lined_sorted at [] h = tt
lined_sorted at (c ∷ cs) h = (lined_above c.at (c.at + length c.text) cs (omega arith) h.2, lined_sorted (c.at + length c.text) cs h.2)

behind_by : (c d : Change) (j k : ChangeKind) → c.kind ≡ j → d.kind ≡ k → first_behind j c.at (length c.text) k ≤ d.at → IsBehind c d
behind_by c d j k e f h = subst (λ (x : ChangeKind). first_behind x c.at (length c.text) d.kind ≤ d.at) (sym e) (subst (λ (x : ChangeKind). first_behind j c.at (length c.text) x ≤ d.at) (sym f) h)

lined_behind : (at : ℕ) (cs : List Change) → Lined at cs → Of Inserted cs → Pairs IsBehind cs
lined_behind at [] h k = tt
lined_behind at (c ∷ cs) h k = (
  each_both (λ (d : Change). c.at + length c.text ≤ d.at) (λ (d : Change). d.kind ≡ Inserted) (IsBehind c) cs (λ d le e. behind_by c d Inserted Inserted k.0 e le) (lined_above (c.at + length c.text) (c.at + length c.text) cs (omega arith) h.2) (of_each Inserted cs k.1),
  lined_behind (c.at + length c.text) cs h.2 k.1,
)

rising_behind : (a : ℕ) (cs : List Change) → Rising a cs → Of Deleted cs → Pairs IsBehind cs
rising_behind a [] h k = tt
rising_behind a (c ∷ cs) h k = (
  each_both (λ (d : Change). c.at ≤ d.at) (λ (d : Change). d.kind ≡ Deleted) (IsBehind c) cs (λ d le e. behind_by c d Deleted Deleted k.0 e le) (rising_least c.at c.at cs (omega arith) h.1) (of_each Deleted cs k.1),
  rising_behind c.at cs h.1 k.1,
)

across_all : (R : Change → Change → Type 0) (is ds : List Change) → ((i d : Change) → i.kind ≡ Inserted → d.kind ≡ Deleted → Across R i d) → Of Inserted is → Of Deleted ds → Each (λ i. Each (Across R i) ds) is
across_all R [] ds f h k = tt
across_all R (i ∷ is) ds f h k = (each_weaker (λ (d : Change). d.kind ≡ Deleted) (Across R i) ds (λ d e. f i d h.0 e) (of_each Deleted ds k), across_all R is ds f h.1 k)

behind_across : (i d : Change) → i.kind ≡ Inserted → d.kind ≡ Deleted → Across IsBehind i d
behind_across i d e f = ((λ le. behind_by d i Deleted Inserted f e le), λ lt. behind_by i d Inserted Deleted e f (omega arith))

-- ids
each_has : (front cs : List Change) → Each (λ (c : Change). HasMark (mark_of c) (front ++ cs)) cs
each_has front [] = tt
each_has front (c ∷ cs) = (here front, subst (λ (x : List Change). Each (λ (d : Change). HasMark (mark_of d) x) cs) (append_assoc front (c ∷ []) cs) (each_has (front ++ (c ∷ [])) cs))
  where
    here : (xs : List Change) → HasMark (mark_of c) (xs ++ (c ∷ cs))
    here [] = inl refl
    here (x ∷ xs) = inr (here xs)

not_both : (m n : Mark) → (same_id m n ≡ true → ⊥) → same_id m n ≡ false
not_both m n f = go (cases_Bool (same_id m n))
  where
    go : (same_id m n ≡ true) ⊎ (same_id m n ≡ false) → same_id m n ≡ false
    go (inl t) = absurd (f t)
    go (inr e) = e

ids_differ : (cs : List Change) → ((m n : Mark) → HasMark m cs → HasMark n cs → same_id m n ≡ true → m ≡ n) → Distinct cs → Pairs IdsDiffer cs
ids_differ [] f h = tt
ids_differ (c ∷ cs) f h = (
  each_weaker (λ (d : Change). HasMark (mark_of d) cs) (IdsDiffer c) cs (λ d on. not_both (mark_of c) (mark_of d) (λ t. no_mark_off (mark_of c) cs h.0 (subst (λ (x : Mark). HasMark x cs) (sym (f (mark_of c) (mark_of d) (inl refl) (inr on) t)) on))) (each_has [] cs),
  ids_differ cs (λ m n on on2. f m n (inr on) (inr on2)) h.1,
)

across_ids : (is ds : List Change) → ((m n : Mark) → HasMark m is → HasMark n ds → same_id m n ≡ true → ⊥) → Each (λ i. Each (Across IdsDiffer i) ds) is
across_ids is ds f = each_weaker (λ (i : Change). HasMark (mark_of i) is) (λ i. Each (Across IdsDiffer i) ds) is (λ i on. each_weaker (λ (d : Change). HasMark (mark_of d) ds) (Across IdsDiffer i) ds (λ d on2. both i d on on2) (each_has [] ds)) (each_has [] is)
  where
    both : (i d : Change) → HasMark (mark_of i) is → HasMark (mark_of d) ds → Across IdsDiffer i d
    both i d on on2 = ((λ le. not_both (mark_of d) (mark_of i) (λ t. f (mark_of i) (mark_of d) on on2 (same_id_turned (mark_of d) (mark_of i) t))), λ lt. not_both (mark_of i) (mark_of d) (f (mark_of i) (mark_of d) on on2))

-- comments
comments_stand : (text : List ℕ) (ts : List Thread) → Within (length text) ts → Each (λ (c : Comment). stands text c.at c.text ≡ true) (map (shown_on text) ts)
comments_stand text [] h = tt
comments_stand text (t ∷ ts) h = (one, comments_stand text ts h.2)
  where
    one : stands text t.from (shown_on text t).text ≡ true
    one =
        let p : Parts text t.from t.to = parts_of text t.from t.to h.0 h.1 in
        let is : (shown_on text t).text ≡ p.w = shown_is text t p in
        let part : take (length p.w) (drop t.from text) ≡ p.w = part_is text p.a p.w p.b t.from (length p.w) p.is p.at_is refl in
        subst (λ (w : List ℕ). stands text t.from w ≡ true) (sym is) (stands_by text t.from p.w (omega (arith, h.0, h.1)) (sym part))

threads_differ : (text : List ℕ) (t : Thread) (ts : List Thread) → NotListed t.thread ts → Each (ThreadsDiffer (shown_on text t)) (map (shown_on text) ts)
threads_differ text t [] h = tt
threads_differ text t (x ∷ xs) h = (h.0, threads_differ text t xs h.1)

listed_differ : (text : List ℕ) (ts : List Thread) → ListedOnce ts → Pairs ThreadsDiffer (map (shown_on text) ts)
listed_differ text [] h = tt
listed_differ text (t ∷ ts) h = (threads_differ text t ts h.0, listed_differ text ts h.1)

-- all together
shown_form : (row : Row) → IsWellFormed row → IsKeptForm (shown row) (text_of row.lives)
shown_form row w =
    let is = packed (live_cells 0 row.lives) in
    let ds = packed (gone_cells row.gone) in
    let text = text_of row.lives in
    let lined : Lined 0 is = lined_cells 0 row.lives in
    let rising : Rising 0 ds = rising_cells 0 row.gone w.rises in
    let oi : Of Inserted is = of_lives 0 row.lives in
    let od : Of Deleted ds = of_gone row.gone in
    let count : length text ≡ length row.lives = length-map row.lives (λ (l : Live). l.unit) in
    let gaps : Each (λ (c : Change). c.at ≤ length text) ds = at_each (length text) ds (most_gone (length text) row.gone (subst (λ (n : ℕ). GapsWithin n row.gone) (sym count) w.gaps)) in
    record {
      filled = each_all (λ (c : Change). 0 < length c.text) (merged is ds) (each_merged (λ (c : Change). 0 < length c.text) is ds (lined_filled 0 is lined) (gone_filled row.gone));
      ids = pairs_all IdsDiffer (merged is ds) (pairs_merged IdsDiffer 0 is ds (lined_sorted 0 is lined) rising
          (ids_differ is (λ m n on on2. w.ids m n (inl (has_lives m 0 row.lives on)) (inl (has_lives n 0 row.lives on2))) (distinct_lives 0 row.lives w.lives))
          (ids_differ ds (λ m n on on2. w.ids m n (inr (has_gone m row.gone on)) (inr (has_gone n row.gone on2))) (distinct_gone row.gone w.gone))
          (across_ids is ds (λ m n on on2 t. apart m n on on2 (w.ids m n (inl (has_lives m 0 row.lives on)) (inr (has_gone n row.gone on2)) t))));
      places = pairs_all IsBehind (merged is ds) (pairs_merged IsBehind 0 is ds (lined_sorted 0 is lined) rising (lined_behind 0 is lined oi) (rising_behind 0 ds rising od) (across_all IsBehind is ds behind_across oi od));
      changes = each_all (StandsIn text) (merged is ds) (each_merged (StandsIn text) is ds
          (each_both (Here 0 text) (λ (c : Change). c.kind ≡ Inserted) (StandsIn text) is (here_stands text) (here_cells 0 row.lives) (of_each Inserted is oi))
          (each_both (λ (c : Change). c.at ≤ length text) (λ (c : Change). c.kind ≡ Deleted) (StandsIn text) ds (λ c le e. subst (λ (k : ChangeKind). StandsAs text k c.at c.text) (sym e) le) gaps (of_each Deleted ds od)));
      threads = pairs_all ThreadsDiffer (map (shown_on text) row.threads) (listed_differ text row.threads w.listed);
      comments = each_all (λ (c : Comment). stands text c.at c.text ≡ true) (map (shown_on text) row.threads) (comments_stand text row.threads (subst (λ (n : ℕ). Within n row.threads) (sym count) w.threads));
    }
  where
    apart : (m n : Mark) → HasMark m (packed (live_cells 0 row.lives)) → HasMark n (packed (gone_cells row.gone)) → m ≡ n → ⊥
    apart m n on on2 e = w.apart n (has_gone n row.gone on2) (subst (λ (x : Mark). OnLive x row.lives) e (has_lives m 0 row.lives on))

pub agree_form : (ranges : List Change × List Comment) (text : List ℕ) → Agree ranges text → IsKeptForm ranges text
agree_form ranges text a = subst (λ (r : List Change × List Comment). IsKeptForm r text) a.is (subst (λ (t : List ℕ). IsKeptForm (shown a.row) t) a.text_is (shown_form a.row a.well_formed))
