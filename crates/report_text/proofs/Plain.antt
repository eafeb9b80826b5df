-- No float stands in an array of values without floats.
use Rattle.std.proofs.Common.{◌≡◌, ℕ, List, [], ◌∷◌, ◌++◌, map, take, false, refl, sym, ap, ap₂, ◌∙◌, get_or, length, ◌<◌, ◌+◌}
use Rattle.std.proofs.lemmas.Bool.{or_from, or_parts}
use Rattle.std.proofs.lemmas.List.{take_more, map-append}
use Rattle.serde_json.specs.declared.value.Value.{Value}
use Rattle.serde_json.specs.Data.{Data, array}
use Rattle.serde_json.specs.View.{items_of, view}
use Rattle.serde_json.specs.Written.{has_float}
use Rattle.report_text.specs.Values.{numbers_data}

pub numbers_plain : (ns : List ℕ) → has_float (numbers_data ns) ≡ false
numbers_plain [] = refl
numbers_plain (n ∷ ns) = numbers_plain ns

abbrev pub IsPlain : List Value → Type 0
IsPlain values = has_float (array (items_of (map view values))) ≡ false

pub more_plain : (vs : List Value) (v : Value) → IsPlain vs → has_float (view v) ≡ false → IsPlain (vs ++ v ∷ [])
more_plain [] v none plain = or_from (has_float (view v)) false plain refl
more_plain (w ∷ vs) v none plain =
    let parts = or_parts (has_float (view w)) (has_float (array (items_of (map view vs)))) none in
    or_from (has_float (view w)) (has_float (array (items_of (map view (vs ++ v ∷ []))))) parts.0 (more_plain vs v parts.1 plain)

-- one more value is written of one more item
pub written_more : {A : Type 0} (shape : A → Data) (vs more : List Value) (v : Value) (xs : List A) (k : ℕ) (x : A) → k < length xs → x ≡ get_or xs k x
    → more ≡ vs ++ v ∷ [] → view v ≡ shape x → map view vs ≡ map shape (take k xs) → map view more ≡ map shape (take (k + 1) xs)
written_more shape vs more v xs k x lt is pushed one before =
    let cut : take (k + 1) xs ≡ take k xs ++ x ∷ [] = take_more xs k x lt ∙ ap (λ y. take k xs ++ y ∷ []) (sym is) in
    rw (pushed, cut, map-append view vs (v ∷ []), map-append shape (take k xs) (x ∷ [])) (ap₂ (λ ys y. ys ++ y ∷ []) before one)
