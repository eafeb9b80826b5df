-- What is left to be written of what was handed out.
use Rattle.std.proofs.Common.{◌≡◌, ℕ, ◌+◌, ◌<◌, ◌≤◌, List, [], ◌∷◌, ◌++◌, length, take, drop, get_or, refl, sym, ap, ap₂, ◌∙◌, arith, length-append}
use Rattle.std.specs.Prelude.{Some}
use Rattle.std.proofs.Math.Seq.{drop-append_seam, take-append_seam}
use Rattle.std.proofs.lemmas.List.{drop_more, length-map, length-take-le, take_more}
use Rattle.std.proofs.lemmas.Option.{slice_get-get_or}
use Rattle.history_queue.specs.declared.item.Item.{Item}
use Rattle.journal_entries.specs.declared.act.Act.{Act}
use Rattle.journal_entries.specs.declared.act.Act.TheVariants.{Handed}
use Rattle.journal_entries.specs.declared.act.Entry.{Entry}
use Rattle.journal_rules.specs.Folds.{gathered_behind}
use Rattle.journal_rules.specs.History.{history}
use Rattle.journal_rules.specs.Legal.{IsAllowed, IsLegal}
use Rattle.project_histories.specs.Handing.{items_of, shown_item}
use Rattle.script_driver.specs.Handing.{handed_count, items_handed, items_handed_by}

-- what the entries behind those before hand out
abbrev pub handed_behind : List Entry → List Entry → List Item
handed_behind before es = gathered_behind (λ before e. items_of before e.act) before es

pub handed_first : (j : List Entry) → items_handed j ≡ handed_behind (take 0 j) (drop 0 j)
unfolding items_handed_by
handed_first j = refl

module _ (j : List Entry) (k : ℕ) (e : Entry) (lt : k < length j) (is : e ≡ get_or j k e) where
  pub handed_next : handed_behind (take k j) (drop k j) ≡ items_of (take k j) e.act ++ handed_behind (take (k + 1) j) (drop (k + 1) j)
  handed_next =
      ap (handed_behind (take k j)) (drop_more j k e lt ∙ ap (λ x. x ∷ drop (k + 1) j) (sym is))
      ∙ ap (λ b. items_of (take k j) e.act ++ handed_behind b (drop (k + 1) j)) (sym (take_more j k e lt ∙ ap (λ x. take k j ++ x ∷ []) (sym is)))

  count_of : (a : Act) → IsAllowed (take k j) e.seat a → length (items_of (take k j) a) ≡ handed_count a
  count_of (Handed project count) may = length-map (take count (history project (take k j))) shown_item ∙ length-take-le count (history project (take k j)) may.within
  count_of _ may = refl

  -- a legal journal hands out as many as it says
  pub count_is : IsLegal j → length (items_of (take k j) e.act) ≡ handed_count e.act
  count_is legal = count_of e.act (legal k e (slice_get-get_or j k e lt ∙ ap (λ (x : Entry). Some x) (sym is)))

  -- so many stand first in what is left, and the rest is what the later entries hand out
  module _ (legal : IsLegal j) (left : List Item) (left_is : left ≡ handed_behind (take k j) (drop k j)) where
    abbrev later : List Item
    later = handed_behind (take (k + 1) j) (drop (k + 1) j)

    cut : left ≡ items_of (take k j) e.act ++ later
    cut = left_is ∙ handed_next

    pub enough_left : handed_count e.act ≤ length left
    enough_left =
        let long = ap length cut ∙ length-append (items_of (take k j) e.act) later in
        let count = count_is legal in
        omega (arith, long, count)

    pub items_first : take (handed_count e.act) left ≡ items_of (take k j) e.act
    items_first = ap₂ (λ (n : ℕ) (xs : List Item). take n xs) (sym (count_is legal)) cut ∙ take-append_seam (items_of (take k j) e.act) later

    pub rest_behind : drop (handed_count e.act) left ≡ later
    rest_behind = ap₂ (λ (n : ℕ) (xs : List Item). drop n xs) (sym (count_is legal)) cut ∙ drop-append_seam (items_of (take k j) e.act) later
