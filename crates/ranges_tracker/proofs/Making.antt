-- What the pushes make of heads, new cells and tails.
use Rattle.std.proofs.Common.{◌≡◌, ℕ, ◌+◌, ◌-◌, Bool, true, false, List, [], ◌∷◌, ◌++◌, refl, ap, sym, ◌∙◌, length, append_assoc, map, drop, Option, Some, None, ⊎_elim}
use Rattle.std.specs.Prelude.{nat_lt, if◌then◌else◌}
use Rattle.std.specs.List.{flat_map}
use Rattle.std.proofs.lemmas.Bool.{cases_Bool}
use Rattle.ranges_tracker.specs.Cells.{Mark, Stamp, Chosen, same_mark, chosen, torn, renewed, count}
use Rattle.ranges_tracker.specs.declared.change.Change.{Change}
use Rattle.ranges_tracker.specs.Shown.{change, mark_of, packed}
use Rattle.ranges_tracker.specs.Tracked.{piece, heads, tails, moved, exchanged_in, renewed_in, new_insert, pushed_all, insert_in, cut_in, over_before, mark_over}
use Rattle.ranges_tracker.specs.Torn.{renumber_by, tail_by, torn_by, torn_count}
use Rattle.ranges_tracker.proofs.Packing.{packed_all, same_mark_is}

pub three_pushes : (hs ns ts : List Change) → pushed_all (pushed_all (pushed_all [] hs) ns) ts ≡ packed (hs ++ (ns ++ ts))
three_pushes hs ns ts =
    ap (λ (x : List Change). pushed_all (pushed_all x ns) ts) (packed_all [] hs)
    ∙ ap (λ (x : List Change). pushed_all x ts) (packed_all hs ns)
    ∙ packed_all (hs ++ ns) ts
    ∙ ap packed (append_assoc hs ns ts)

pub two_pushes : (hs ts : List Change) → pushed_all (pushed_all [] hs) ts ≡ packed (hs ++ ts)
two_pushes hs ts = ap (λ (x : List Change). pushed_all x ts) (packed_all [] hs) ∙ packed_all hs ts

abbrev renewed_one : Option Mark → Stamp → ℕ → Change → Change
renewed_one None stamp j c = c
renewed_one (Some old) stamp j c = exchanged_in old (renewed old stamp j) c

renumber_is : (old : Option Mark) (stamp : Stamp) (j at : ℕ) (text : List ℕ) (c : Change) → renumber_by (torn_by old stamp.version j) (piece c at text) ≡ renewed_one old stamp j (piece c at text)
renumber_is None stamp j at text c = refl
renumber_is (Some old) stamp j at text c = ⊎_elim {C = renumber_by (torn_by (Some old) stamp.version j) (piece c at text) ≡ exchanged_in old (renewed old stamp j) (piece c at text)}
    (λ t. let e : mark_of c ≡ old = same_mark_is (mark_of c) old t in
    hit t ∙ ap (λ (m : Mark). record { version = stamp.version; k = j; at = at; kind = c.kind; text = text; user = m.user; ms = m.ms }) e ∙ sym (exchanged_hit t))
    (λ t. miss t ∙ sym (exchanged_miss t))
    (cases_Bool (same_mark (mark_of c) old))
  where
    hit : same_mark (mark_of c) old ≡ true → renumber_by (torn_by (Some old) stamp.version j) (piece c at text) ≡ record { version = stamp.version; k = j; at = at; kind = c.kind; text = text; user = c.user; ms = c.ms }
    hit t = rw t refl

    miss : same_mark (mark_of c) old ≡ false → renumber_by (torn_by (Some old) stamp.version j) (piece c at text) ≡ piece c at text
    miss t = rw t refl

    exchanged_hit : same_mark (mark_of c) old ≡ true → exchanged_in old (renewed old stamp j) (piece c at text) ≡ change c.kind at text (renewed old stamp j)
    exchanged_hit t = ap (λ (b : Bool). change c.kind at text (if b then renewed old stamp j else mark_of c)) t

    exchanged_miss : same_mark (mark_of c) old ≡ false → exchanged_in old (renewed old stamp j) (piece c at text) ≡ piece c at text
    exchanged_miss t = ap (λ (b : Bool). change c.kind at text (if b then renewed old stamp j else mark_of c)) t

renewed-append : (old : Option Mark) (stamp : Stamp) (j : ℕ) (b : Bool) (c : Change) (cs : List Change) → renewed_in old stamp j ((if b then c ∷ [] else []) ++ cs) ≡ (if b then renewed_one old stamp j c ∷ [] else []) ++ renewed_in old stamp j cs
renewed-append None stamp j true c cs = refl
renewed-append None stamp j false c cs = refl
renewed-append (Some old) stamp j true c cs = refl
renewed-append (Some old) stamp j false c cs = refl

move_one : (from to : ℕ) (old : Option Mark) (stamp : Stamp) (j at : ℕ) (text : List ℕ) (c : Change) → moved from to (renewed_one old stamp j (piece c at text)) ≡ renewed_one old stamp j (piece c (at - from + to) text)
move_one from to None stamp j at text c = refl
move_one from to (Some old) stamp j at text c = refl

tail_one : (from to : ℕ) (old : Option Mark) (stamp : Stamp) (j at : ℕ) (text : List ℕ) (c : Change) (b : Bool) (rest : List Change) →
    (if b then renumber_by (torn_by old stamp.version j) (piece c (at - from + to) text) ∷ [] else []) ++ map (moved from to) rest ≡ map (moved from to) ((if b then renewed_one old stamp j (piece c at text) ∷ [] else []) ++ rest)
tail_one from to old stamp j at text c true rest = ap (λ (x : Change). x ∷ map (moved from to) rest) (renumber_is old stamp j (at - from + to) text c ∙ sym (move_one from to old stamp j at text c))
tail_one from to old stamp j at text c false rest = refl

pub tails_by : (from to : ℕ) (old : Option Mark) (stamp : Stamp) (j : ℕ) (cs : List Change) → flat_map (λ c. tail_by (torn_by old stamp.version j) from to c) cs ≡ map (moved from to) (renewed_in old stamp j (tails from cs))
tails_by from to None stamp j [] = refl
tails_by from to (Some old) stamp j [] = refl
tails_by from to old stamp j (c ∷ cs) =
    let b = nat_lt from (c.at + length c.text) in
    let at = if nat_lt c.at from then from else c.at in
    ap (λ (x : List Change). tail_by (torn_by old stamp.version j) from to c ++ x) (tails_by from to old stamp j cs)
    ∙ tail_one from to old stamp j at (drop (from - c.at) c.text) c b (renewed_in old stamp j (tails from cs))
    ∙ ap (map (moved from to)) (sym (renewed-append old stamp j b (piece c at (drop (from - c.at) c.text)) (tails from cs)))

pub torn_counts : (o : Option Mark) (version k : ℕ) → torn_count (torn_by o version k) ≡ count o
torn_counts None version k = refl
torn_counts (Some old) version k = refl

-- the body of an insert
pub insert_made : (is : List Change) (at : ℕ) (part : List ℕ) (stamp : Stamp) (k : ℕ) (before after : Option Mark) (by : Chosen) →
    before ≡ over_before at is → after ≡ mark_over at is → by ≡ chosen before after stamp k →
    pushed_all (pushed_all (pushed_all [] (heads at is)) (new_insert at part by.mark)) (flat_map (λ c. tail_by (torn_by (torn before after by.mark) stamp.version (k + by.fresh)) at (at + length part) c) is)
    ≡ (insert_in is at part stamp k).changes
insert_made is at part stamp k before after by eb ea ec =
    let f : Option Mark → Option Mark → Chosen → List Change = λ a b d. packed (heads at is ++ (new_insert at part d.mark ++ map (moved at (at + length part)) (renewed_in (torn a b d.mark) stamp (k + d.fresh) (tails at is)))) in
    three_pushes (heads at is) (new_insert at part by.mark) (flat_map (λ c. tail_by (torn_by (torn before after by.mark) stamp.version (k + by.fresh)) at (at + length part) c) is)
    ∙ ap (λ (x : List Change). packed (heads at is ++ (new_insert at part by.mark ++ x))) (tails_by at (at + length part) (torn before after by.mark) stamp (k + by.fresh) is)
    ∙ ap (f before after) ec
    ∙ ap (λ (a : Option Mark). f a after (chosen a after stamp k)) eb
    ∙ ap (λ (b : Option Mark). f (over_before at is) b (chosen (over_before at is) b stamp k)) ea

pub insert_counts : (is : List Change) (at : ℕ) (part : List ℕ) (stamp : Stamp) (k : ℕ) (before after : Option Mark) (by : Chosen) →
    before ≡ over_before at is → after ≡ mark_over at is → by ≡ chosen before after stamp k →
    k + by.fresh + torn_count (torn_by (torn before after by.mark) stamp.version (k + by.fresh)) ≡ (insert_in is at part stamp k).marks
insert_counts is at part stamp k before after by eb ea ec =
    let f : Option Mark → Option Mark → Chosen → ℕ = λ a b d. k + d.fresh + count (torn a b d.mark) in
    ap (λ (n : ℕ). k + by.fresh + n) (torn_counts (torn before after by.mark) stamp.version (k + by.fresh))
    ∙ ap (f before after) ec
    ∙ ap (λ (a : Option Mark). f a after (chosen a after stamp k)) eb
    ∙ ap (λ (b : Option Mark). f (over_before at is) b (chosen (over_before at is) b stamp k)) ea

pub cut_made : (is : List Change) (at n : ℕ) → pushed_all (pushed_all [] (heads at is)) (flat_map (λ c. tail_by None (at + n) at c) is) ≡ cut_in is at n
cut_made is at n = two_pushes (heads at is) (flat_map (λ c. tail_by None (at + n) at c) is) ∙ ap (λ (x : List Change). packed (heads at is ++ x)) (tails_by (at + n) at None (record { version = 0; user = []; ms = 0; track = false }) 0 is)
