-- Operations applied in turn.
use Rattle.std.proofs.Common.{◌≡◌, ℕ, ◌+◌, ◌<◌, List, [], ◌∷◌, length, map, take, drop, get_or, refl, sym, ap, ◌∙◌, min}
use Rattle.std.specs.List.{take-map}
use Rattle.std.specs.Option.{option_and_then}
use Rattle.std.proofs.lemmas.List.{drop_more, take_min}
use Rattle.ot_op.specs.Apply.{applied_all}
use Rattle.journal_rules.specs.Documents as rules
use Rattle.plain_journal.specs.declared.documents.Item.{Item}
use Rattle.plain_journal.specs.Answers.{item_as, operations}

-- the operations of what was found are those of the applied list
pub same_operations : (xs : List Item) → operations xs ≡ map (λ (x : rules.Item). x.op) (map item_as xs)
same_operations [] = refl
same_operations (x ∷ xs) = ap (λ l. x.op.now ∷ l) (same_operations xs)

pub take_operations : (n : ℕ) (xs : List Item) → operations (take n xs) ≡ take n (operations xs)
take_operations n xs = sym (take-map (λ (x : Item). x.op.now) n xs)

-- the next one is applied first
pub replays_next : (text : List ℕ) (xs : List Item) (i : ℕ) (x : Item) → i < length xs → x ≡ get_or xs i x
    → rules.replayed text (operations (drop i xs)) ≡ option_and_then (λ next. rules.replayed next (operations (drop (i + 1) xs))) (applied_all text x.op.now)
replays_next text xs i x lt is = ap (λ l. rules.replayed text (operations l)) (drop_more xs i x lt ∙ ap (λ (y : Item). y ∷ drop (i + 1) xs) (sym is))

pub take_least : {A : Type 0} (n k : ℕ) (xs : List A) → k ≡ min n (length xs) → take k xs ≡ take n xs
take_least n k xs is = ap (λ m. take m xs) is ∙ take_min n xs
