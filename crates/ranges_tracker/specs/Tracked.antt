-- What the steps of a row make of its inserts and its deletes as they are shown.
use Rattle.std.specs.Prelude.{ℕ, zero, suc, ◌+◌, ◌-◌, Bool, false, List, [], ◌∷◌, ◌++◌, length, take, drop, map, filter, not, is_some, ◌||◌, Option, Some, None, ◌&&◌, ◌==◌, nat_le, nat_lt, if◌then◌else◌}
use Rattle.std.specs.List.{flat_map}
use Rattle.ranges_tracker.specs.Cells.{Mark, Stamp, same_mark, chosen, torn, renewed, count, fresh_mark, squashed, raised}
use Rattle.ranges_tracker.specs.Shown.{change, mark_of, packed, touch, same_kind, merged}
use Rattle.ot_op.specs.declared.comp.Comp.{Comp}
use Rattle.ot_op.specs.declared.comp.Comp.TheVariants.{Ins, Del, Com}
use Rattle.ranges_tracker.specs.declared.change.Change.{Change}
use Rattle.ranges_tracker.specs.declared.change.ChangeKind.TheVariants.{Inserted, Deleted}

abbrev pub piece : Change → ℕ → List ℕ → Change
piece c at text = change c.kind at text (mark_of c)

-- the part of an insert before a place, and that from it on
abbrev pub head_part : ℕ → Change → List Change
head_part p c = if nat_lt c.at p then piece c c.at (take (p - c.at) c.text) ∷ [] else []

abbrev pub tail_part : ℕ → Change → List Change
tail_part p c = if nat_lt p (c.at + length c.text) then piece c (if nat_lt c.at p then p else c.at) (drop (p - c.at) c.text) ∷ [] else []

abbrev pub heads : ℕ → List Change → List Change
heads p cs = flat_map (head_part p) cs

abbrev pub tails : ℕ → List Change → List Change
tails p cs = flat_map (tail_part p) cs

-- the mark over a unit
abbrev pub mark_over : ℕ → List Change → Option Mark
mark_over i [] = None
mark_over i (c ∷ cs) = if nat_le c.at i && nat_lt i (c.at + length c.text) then Some (mark_of c) else mark_over i cs

-- the same change at another place
abbrev pub moved : ℕ → ℕ → Change → Change
moved from to c = piece c (c.at - from + to) c.text

abbrev pub placed : (ℕ → ℕ) → Change → Change
placed f c = piece c (f c.at) c.text

abbrev pub exchanged_mark : Mark → Mark → Mark → Mark
exchanged_mark old new m = if same_mark m old then new else m

abbrev pub exchanged_in : Mark → Mark → Change → Change
exchanged_in old new c = change c.kind c.at c.text (exchanged_mark old new (mark_of c))

abbrev pub over_before : ℕ → List Change → Option Mark
over_before zero cs = None
over_before (suc i) cs = mark_over i cs

abbrev pub new_insert : ℕ → List ℕ → Option Mark → List Change
new_insert at [] mark = []
new_insert at (u ∷ us) None = []
new_insert at (u ∷ us) (Some m) = change Inserted at (u ∷ us) m ∷ []

abbrev pub renewed_in : Option Mark → Stamp → ℕ → List Change → List Change
renewed_in None stamp k cs = cs
renewed_in (Some old) stamp k cs = map (exchanged_in old (renewed old stamp k)) cs

-- changes, and the count of fresh marks then
pub record Marked : Type 0 where
  pub changes : List Change
  pub marks : ℕ

-- the inserts after an insert
abbrev pub insert_in : List Change → ℕ → List ℕ → Stamp → ℕ → Marked
insert_in is at part stamp k =
    let by = chosen (over_before at is) (mark_over at is) stamp k in
    let old = torn (over_before at is) (mark_over at is) by.mark in
    record {
      changes = packed (heads at is ++ (new_insert at part by.mark ++ map (moved at (at + length part)) (renewed_in old stamp (k + by.fresh) (tails at is))));
      marks = k + by.fresh + count old;
    }

-- the inserts after a delete
abbrev pub cut_in : List Change → ℕ → ℕ → List Change
cut_in is at n = packed (heads at is ++ map (moved (at + n) at) (tails (at + n) is))

-- the deleted units of a gap
abbrev pub texts_in : ℕ → List Change → List ℕ
texts_in g [] = []
texts_in g (d ∷ ds) = (if d.at == g then d.text else []) ++ texts_in g ds

abbrev pub bare : ℕ → ℕ → List Change → List ℕ
bare at u is = if is_some (mark_over at is) then [] else u ∷ []

-- the units of a part under no insert, among the deleted units around them
abbrev pub mixed_in : ℕ → List ℕ → List Change → List Change → List ℕ
mixed_in at [] is ds = texts_in at ds
mixed_in at (u ∷ us) is ds = texts_in at ds ++ (bare at u is ++ mixed_in (at + 1) us is ds)

abbrev pub some_bare : ℕ → List ℕ → List Change → Bool
some_bare at [] is = false
some_bare at (u ∷ us) is = not (is_some (mark_over at is)) || some_bare (at + 1) us is

abbrev pub new_delete : ℕ → List ℕ → Mark → List Change
new_delete at [] mark = []
new_delete at (u ∷ us) mark = change Deleted at (u ∷ us) mark ∷ []

abbrev pub kept : (ℕ → Bool) → List Change → List Change
kept test cs = filter (λ (c : Change). test c.at) cs

-- the deletes after a delete, and the count of fresh marks
abbrev pub delete_in : List Change → List Change → ℕ → List ℕ → Stamp → ℕ → Marked
delete_in is ds at part stamp k =
    if stamp.track && some_bare at part is then record {
      changes = kept (λ x. nat_lt x at) ds ++ (new_delete at (mixed_in at part is ds) (fresh_mark stamp k) ++ map (placed (λ x. x - length part)) (kept (λ x. nat_lt (at + length part) x) ds));
      marks = k + 1;
    } else record { changes = map (placed (squashed at (length part))) ds; marks = k }

-- one more at the end, where only the last one is looked at
abbrev pub pushed : List Change → Change → List Change
pushed [] g = g ∷ []
pushed (c ∷ []) g = touch c (g ∷ [])
pushed (c ∷ d ∷ ds) g = c ∷ pushed (d ∷ ds) g

abbrev pub pushed_all : List Change → List Change → List Change
pushed_all made [] = made
pushed_all made (c ∷ cs) = pushed_all (pushed made c) cs

-- where the part from a place on stands
abbrev pub tail_place : ℕ → ℕ → Change → ℕ
tail_place from to c = (if nat_lt c.at from then from else c.at) - from + to

abbrev pub inserts_of : List Change → List Change
inserts_of cs = filter (λ (c : Change). same_kind c.kind Inserted) cs

abbrev pub deletes_of : List Change → List Change
deletes_of cs = filter (λ (c : Change). same_kind c.kind Deleted) cs

-- the changes after a component, and the count of fresh marks
abbrev pub changes_in : List Change → Comp → Stamp → ℕ → Marked
changes_in cs (Ins at part) stamp k = let r = insert_in (inserts_of cs) at part stamp k in record { changes = merged r.changes (map (placed (raised at (length part))) (deletes_of cs)); marks = r.marks }
changes_in cs (Del at part) stamp k = let r = delete_in (inserts_of cs) (deletes_of cs) at part stamp k in record { changes = merged (cut_in (inserts_of cs) at (length part)) r.changes; marks = r.marks }
changes_in cs (Com at part thread) stamp k = record { changes = cs; marks = k }
