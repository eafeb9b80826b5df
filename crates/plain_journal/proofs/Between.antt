-- The items of a document from a version on up to another, as they were found.
use Rattle.std.proofs.Common.{◌≡◌, ℕ, ◌-◌, List, [], ◌∷◌, map, take, drop, sym, ap, ap₂, ◌∙◌, subst, All}
use Rattle.std.specs.List.{take-map, drop-map}
use Rattle.journal_entries.specs.declared.act.Entry.{Entry}
use Rattle.journal_rules.specs.Documents as rules
use Rattle.journal_rules.specs.Client.{items_between}
use Rattle.journal_rules.specs.Legal.{IsLegal}
use Rattle.journal_rules.proofs.Lists.{AllIn}
use Rattle.plain_journal.specs.declared.documents.Item.{Item}
use Rattle.plain_journal.specs.Answers.{item_as}
use Rattle.journal_sizes.specs.Sizes.{IsSized}
use Rattle.journal_sizes.proofs.Updates.{items_sized, all_in_drop, all_in_take, all_in_all}

pub between_is : (j : List Entry) (d from to skipped count : ℕ) (xs ys : List Item) → skipped ≡ from - rules.base d j → count ≡ to - from → map item_as xs ≡ rules.applied_list d j → ys ≡ take count (drop skipped xs)
    → map item_as ys ≡ items_between d from to j
between_is j d from to skipped count xs ys at long items is =
    ap (map item_as) is ∙ sym (take-map item_as count (drop skipped xs)) ∙ ap (take count) (sym (drop-map item_as skipped xs) ∙ ap₂ drop at items) ∙ ap (λ n. take n (drop (from - rules.base d j) (rules.applied_list d j))) long

found_sized : (xs : List Item) → AllIn IsSized (map (λ (x : rules.Item). x.op) (map item_as xs)) → AllIn (λ (x : Item). IsSized x.op.now) xs
found_sized [] all = tt
found_sized (x ∷ xs) all = (all.0, found_sized xs all.1)

pub between_sized : (j : List Entry) (d : ℕ) → IsLegal j → (skipped count : ℕ) (xs ys : List Item) → map item_as xs ≡ rules.applied_list d j → ys ≡ take count (drop skipped xs) → All (λ (x : Item). IsSized x.op.now) ys
between_sized j d legal skipped count xs ys items is =
    let P = λ (x : Item). IsSized x.op.now in
    let all : AllIn (λ (x : Item). IsSized x.op.now) xs = found_sized xs (subst (λ (l : List rules.Item). AllIn IsSized (map (λ (x : rules.Item). x.op) l)) (sym items) (items_sized d j legal)) in
    subst (λ (l : List Item). All (λ (x : Item). IsSized x.op.now) l) (sym is) (all_in_all P (take count (drop skipped xs)) (all_in_take P count (drop skipped xs) (all_in_drop P skipped xs all)))
