-- A document after one entry more: its version, text, cells and history.
use Rattle.std.proofs.Common.{◌≡◌, ℕ, ◌+◌, ◌-◌, ◌≤◌, Bool, true, false, List, [], ◌∷◌, ◌++◌, length, refl, sym, ap, ap₂, ◌∙◌, subst, arith, append-nil, length-append, length-drop, drop-drop}
use Rattle.std.specs.Prelude.{Some, None, take, drop, sum, if◌then◌else◌}
use Rattle.std.specs.Str.{bytes_eq}
use Rattle.std.proofs.lemmas.List.Sums.{fold-append}
use Rattle.std.proofs.lemmas.Slice.Eq.{bytes_eq-Decides}
use Rattle.std.specs.Option.{option_and_then}
use Rattle.ot_op.specs.declared.comp.Comp.{Comp}
use Rattle.ot_op.specs.Apply.{applied_all}
use Rattle.ranges_tracker.specs.Cells.{Row, plain_row, steps}
use Rattle.journal_entries.specs.declared.act.Act.{Act}
use Rattle.journal_entries.specs.declared.act.Act.TheVariants.{Handed}
use Rattle.journal_entries.specs.declared.act.Entry.{Entry}
use Rattle.journal_rules.specs.Documents.{IsMade, first_in, base_in, Item, items_by, applied_list, operations, base, first, version, text, replayed}
use Rattle.journal_rules.specs.Tracking.{stamp_of, tracked, cells_at, cells}
use Rattle.journal_rules.specs.History.{history_by, all_history, handed_by, handed, history}
use Rattle.journal_rules.specs.Legal.{IsAllowed, IsLegal}
use Rattle.journal_rules.proofs.Pushing.{applied_list-push, handed-push, handed-none, all_history-push}
use Rattle.journal_rules.proofs.Legality.{Keeps, by_last}
use Rattle.journal_rules.proofs.Fencing.{making_stays}
use Rattle.journal_rules.proofs.Lists.{take_all, drop_front}
use Rattle.journal_rules.proofs.Replaying.{ops, ops-append}

pub base-push : (d : ℕ) (h : List Entry) (e : Entry) → IsMade d h → base d (h ++ e ∷ []) ≡ base d h
base-push d h e made = ap base_in (making_stays d h e made)

pub first-push : (d : ℕ) (h : List Entry) (e : Entry) → IsMade d h → first d (h ++ e ∷ []) ≡ first d h
first-push d h e made = ap first_in (making_stays d h e made)

pub version-push : (d : ℕ) (h : List Entry) (e : Entry) → IsMade d h → version d (h ++ e ∷ []) ≡ version d h + length (items_by d h e.act)
version-push d h e made =
    let b = base-push d h e made in
    let l = ap length (applied_list-push d h e) ∙ length-append (applied_list d h) (items_by d h e.act) in
    omega (arith, b, l)

pub operations-push : (d : ℕ) (h : List Entry) (e : Entry) → operations d (h ++ e ∷ []) ≡ operations d h ++ ops (items_by d h e.act)
operations-push d h e = ap ops (applied_list-push d h e) ∙ ops-append (applied_list d h) (items_by d h e.act)

-- operations replayed behind others
pub replayed-append : (here : List ℕ) (xs ys : List (List Comp)) → replayed here (xs ++ ys) ≡ option_and_then (λ mid. replayed mid ys) (replayed here xs)
replayed-append here [] ys = refl
replayed-append here (x ∷ xs) ys =
    elim (applied_all here x) as (λ r. option_and_then (λ next. replayed next (xs ++ ys)) r ≡ option_and_then (λ mid. replayed mid ys) (option_and_then (λ next. replayed next xs) r))
    [ None ↦ refl | Some next ↦ replayed-append next xs ys ]

pub text-push : (d : ℕ) (h : List Entry) (e : Entry) → IsMade d h → text d (h ++ e ∷ []) ≡ option_and_then (λ here. replayed here (ops (items_by d h e.act))) (text d h)
text-push d h e made =
    ap₂ (λ f l. replayed f l) (first-push d h e made) (operations-push d h e) ∙ replayed-append (first d h) (operations d h) (ops (items_by d h e.act))

-- items tracked behind others
pub tracked-append : (row : Row) (xs ys : List Item) → tracked row (xs ++ ys) ≡ tracked (tracked row xs) ys
tracked-append row [] ys = refl
tracked-append row (x ∷ xs) ys = tracked-append (steps row x.op (stamp_of x) 0).row xs ys

pub cells-push : (d : ℕ) (h : List Entry) (e : Entry) → IsMade d h → cells d (h ++ e ∷ []) ≡ tracked (cells d h) (items_by d h e.act)
cells-push d h e made =
    ap₂ (λ f l. tracked (plain_row f) l) (first-push d h e made) (applied_list-push d h e) ∙ tracked-append (plain_row (first d h)) (applied_list d h) (items_by d h e.act)

-- the cells at the version are the cells
pub cells_at_version : (d : ℕ) (h : List Entry) → cells_at d (version d h) h ≡ cells d h
cells_at_version d h =
    let n : version d h - base d h ≡ length (applied_list d h) = omega arith in
    ap (λ k. tracked (plain_row (first d h)) (take k (applied_list d h))) n ∙ ap (tracked (plain_row (first d h))) (take_all (applied_list d h))

-- ---- the history of a project
pub sum-push : (xs : List ℕ) (n : ℕ) → sum (xs ++ n ∷ []) ≡ sum xs + n
sum-push xs n = fold-append (λ a b. a + b) 0 xs (n ∷ [])

-- no more was handed out than there was
pub handed_within : (p : List ℕ) (j : List Entry) → IsLegal j → sum (handed p j) ≤ length (all_history p j)
handed_within p = by_last (λ j. sum (handed p j) ≤ length (all_history p j)) none more
  where
    none : sum (handed p []) ≤ length (all_history p [])
    none = let s : sum (handed p []) ≡ 0 = ap sum (handed-none p) in omega (arith, s)

    left : (h : List Entry) → length (history p h) ≡ length (all_history p h) - sum (handed p h)
    left h = length-drop (sum (handed p h)) (all_history p h)

    one : (h : List Entry) (seat : ℕ) (a : Act) → IsAllowed h seat a → sum (handed p h) ≤ length (all_history p h) → sum (handed p h ++ handed_by p a) ≤ length (all_history p h)
    one h seat (Handed q count) may within = by (bytes_eq q p) refl
      where
        by : (b : Bool) → bytes_eq q p ≡ b → sum (handed p h ++ (if b then count ∷ [] else [])) ≤ length (all_history p h)
        by true same =
            let q_is : q ≡ p = (bytes_eq-Decides q p).0 same in
            let few : count ≤ length (history p h) = subst (λ (x : List ℕ). count ≤ length (history x h)) q_is may.within in
            let l = left h in let s = sum-push (handed p h) count in omega (arith, few, l, s, within)
        by false same = let s : sum (handed p h ++ []) ≡ sum (handed p h) = ap sum (append-nil (handed p h)) in omega (arith, s, within)
    one h seat _ may within = let s : sum (handed p h ++ []) ≡ sum (handed p h) = ap sum (append-nil (handed p h)) in omega (arith, s, within)

    more : Keeps (λ j. sum (handed p j) ≤ length (all_history p j))
    more h e legal may within =
        let s = ap sum (handed-push p h e) in
        let l = ap length (all_history-push p h e) ∙ length-append (all_history p h) (history_by p h e.act) in
        let o = one h e.seat e.act may within in omega (arith, s, l, o)

-- an entry that hands nothing out adds what it applied
pub history-more : (p : List ℕ) (h : List Entry) (e : Entry) → IsLegal h → handed_by p e.act ≡ [] → history p (h ++ e ∷ []) ≡ history p h ++ history_by p h e.act
history-more p h e legal none =
    ap₂ (λ n l. drop (sum n) l) (handed-push p h e ∙ ap (λ l. handed p h ++ l) none ∙ append-nil (handed p h)) (all_history-push p h e)
    ∙ drop_front (sum (handed p h)) (all_history p h) (history_by p h e.act) (handed_within p h legal)

-- one that hands out takes so many from the front
pub history-handed : (p : List ℕ) (h : List Entry) (e : Entry) (count : ℕ) → handed_by p e.act ≡ count ∷ [] → history_by p h e.act ≡ [] → history p (h ++ e ∷ []) ≡ drop count (history p h)
history-handed p h e count takes none =
    ap₂ (λ n l. drop (sum n) l) (handed-push p h e ∙ ap (λ l. handed p h ++ l) takes) (all_history-push p h e ∙ ap (λ l. all_history p h ++ l) none ∙ append-nil (all_history p h))
    ∙ ap (λ n. drop n (all_history p h)) (sum-push (handed p h) count)
    ∙ sym (drop-drop count (sum (handed p h)) (all_history p h))
