-- What is written of an operation is read as that operation.
use Rattle.std.proofs.Common.{◌≡◌, ◌≤◌, ◌<◌, ℕ, ◌+◌, List, [], ◌∷◌, ◌++◌, true, false, Some, None, Result, Ok, Err, length, map, take, get_or, refl, ap, ap₂, sym, ◌∙◌, arith}
use Rattle.std.specs.Prelude.{IsTrue, filter_map}
use Rattle.std.specs.List.{All, flat_map, list_all, position_from}
use Rattle.std.specs.Str.{chars, encode_utf8_all, IsUtf8}
use Rattle.std.proofs.Math.Utf8.{scalars, scalar}
use Rattle.std.proofs.lemmas.Bool.Decides.{nat_tests}
use Rattle.std.proofs.lemmas.List.{map-append, take_more}
use Rattle.std.proofs.lemmas.List.Elements.{All-head, All-tail}
use Rattle.std.proofs.lemmas.Str.{chars-encodes}
use Rattle.std.specs.Result.{IfOk}
use Rattle.serde_json.specs.Data.{Data}
use Rattle.serde_json.specs.View.{items_of, view}
use Rattle.serde_json.specs.declared.value.Value.{Value}
use Rattle.ot_units.specs.Text.{IsText, exact_units, is_basic, is_unit, sanitized_units}
use Rattle.ot_units.proofs.Sanitized.{sanitized_by_chars, sanitized_char}
use Rattle.ot_op.specs.declared.comp.Comp.{Comp}
use Rattle.ot_op.specs.declared.comp.Comp.TheVariants.{Ins, Del, Com}
use Rattle.ot_op.specs.Operation.{IsOp, is_void, place, AreInReach, IsWithinLimits}
use Rattle.ot_json.specs.declared.reading.Grammar.{Grammar}
use Rattle.ot_json.specs.declared.reading.Grammar.TheVariants.{Sent, Stored}
use Rattle.ot_json.specs.declared.reading.Reading.TheVariants.{Kept}
use Rattle.json_lines.specs.Reading.{within}
use Rattle.ot_json.specs.Form.{Written, insert, delete, comment, max_thread, written_of}
use Rattle.ot_op.specs.declared.limits.TheConstants.{MAX_PLACE}
use Rattle.ot_json.specs.Reading.{reading_of}
use Rattle.ot_json.specs.Grammar.{IsComponent, component_data, components_or_fault, is_out_of_form, is_supplementary, kept, long_operation_of, operation_data, operation_of, readings, unless_large}

-- ---- texts

unit_scalar : (u : ℕ) → IsTrue (is_unit u) → scalar u ≡ true
unit_scalar u h = grind (arith, nat_tests)

unit_basic : (u : ℕ) → IsTrue (is_unit u) → is_basic u ≡ true
unit_basic u h = grind (arith, nat_tests)

pub text_scalars : (us : List ℕ) → IsText us → scalars us ≡ true
text_scalars [] t = refl
text_scalars (u ∷ us) t =
    let P : ℕ → Type 0 = λ v. IsTrue (is_unit v) in
    rw (unit_scalar u (All-head P u us t), text_scalars us (All-tail P u us t))

text_basic : (us : List ℕ) → IsText us → list_all is_basic us ≡ true
text_basic [] t = refl
text_basic (u ∷ us) t =
    let P : ℕ → Type 0 = λ v. IsTrue (is_unit v) in
    rw (unit_basic u (All-head P u us t), text_basic us (All-tail P u us t))

text_same : (us : List ℕ) → IsText us → flat_map sanitized_char us ≡ us
text_same [] t = refl
text_same (u ∷ us) t =
    let P : ℕ → Type 0 = λ v. IsTrue (is_unit v) in
    rw (unit_basic u (All-head P u us t), text_same us (All-tail P u us t))

text_chars : (us : List ℕ) → IsText us → chars (encode_utf8_all us) ≡ us
text_chars us t = chars-encodes us (text_scalars us t)

pub exact_back : (us : List ℕ) → IsText us → exact_units (encode_utf8_all us) ≡ Some us
exact_back us t = rw (text_chars us t, text_basic us t)

sanitized_back : (us : List ℕ) → IsText us → sanitized_units (encode_utf8_all us) ≡ us
sanitized_back us t =
    let utf8 : IsUtf8 (encode_utf8_all us) = (us, (text_scalars us t, refl)) in
    sym (sanitized_by_chars (encode_utf8_all us) utf8) ∙ ap (flat_map sanitized_char) (text_chars us t) ∙ text_same us t

-- ---- components

abbrev written_comp : Comp → Written
written_comp (Ins p us) = insert (encode_utf8_all us) p
written_comp (Del p us) = delete (encode_utf8_all us) p
written_comp (Com p us t) = comment (encode_utf8_all us) p t

small : (max n : ℕ) → n ≤ max → within max n ≡ Some n
small max n h = grind (arith, nat_tests)

written_back : (c : Comp) → IsComponent c → place c ≤ MAX_PLACE → written_of (component_data c) ≡ Some (written_comp c)
written_back (Ins p us) t h = rw (small MAX_PLACE p h)
written_back (Del p us) t h = rw (small MAX_PLACE p h)
written_back (Com p us n) t h = rw (small MAX_PLACE p h, small max_thread n t.1)

component_back : (grammar : Grammar) (c : Comp) → IsComponent c → is_void c ≡ false → place c ≤ MAX_PLACE
    → reading_of grammar (written_of (component_data c)) ≡ Kept c
component_back Sent (Ins p us) t v h = rw (written_back (Ins p us) t h, sanitized_back us t, v)
component_back Sent (Del p us) t v h = rw (written_back (Del p us) t h, exact_back us t, v)
component_back Sent (Com p us n) t v h = rw (written_back (Com p us n) t h, exact_back us t.0)
component_back Stored (Ins p us) t v h = rw (written_back (Ins p us) t h, exact_back us t, v)
component_back Stored (Del p us) t v h = rw (written_back (Del p us) t h, exact_back us t, v)
component_back Stored (Com p us n) t v h = rw (written_back (Com p us n) t h, exact_back us t.0)

-- ---- operations

readings_back : (grammar : Grammar) (cs : List Comp) → All IsComponent cs → IsOp cs → AreInReach cs
    → readings grammar (items_of (map component_data cs)) ≡ map Kept cs
readings_back grammar [] t v h = refl
readings_back grammar (c ∷ cs) t v h =
    let P : Comp → Type 0 = λ d. is_void d ≡ false in
    let Q : Comp → Type 0 = λ d. place d ≤ MAX_PLACE in
    ap₂ (λ x xs. x ∷ xs) (component_back grammar c (All-head IsComponent c cs t) (All-head P c cs v) (All-head Q c cs h))
    (readings_back grammar cs (All-tail IsComponent c cs t) (All-tail P c cs v) (All-tail Q c cs h))

none_out : (cs : List Comp) (k : ℕ) → position_from is_out_of_form k (map Kept cs) ≡ None
none_out [] k = refl
none_out (c ∷ cs) k = none_out cs (k + 1)

none_supplementary : (cs : List Comp) (k : ℕ) → position_from is_supplementary k (map Kept cs) ≡ None
none_supplementary [] k = refl
none_supplementary (c ∷ cs) k = none_supplementary cs (k + 1)

all_kept : (cs : List Comp) → filter_map kept (map Kept cs) ≡ cs
all_kept [] = refl
all_kept (c ∷ cs) = ap (λ xs. c ∷ xs) (all_kept cs)

array_back : (grammar : Grammar) (cs : List Comp) → All IsComponent cs → IsOp cs → AreInReach cs
    → components_or_fault (readings grammar (items_of (map component_data cs))) ≡ Ok cs
array_back grammar cs t v h =
    ap components_or_fault (readings_back grammar cs t v h) ∙ rw (none_out cs 0, none_supplementary cs 0, all_kept cs)

long_back : (cs : List Comp) → All IsComponent cs → IsOp cs → AreInReach cs → long_operation_of (operation_data cs) ≡ Ok cs
long_back cs t v h = array_back Stored cs t v h

within_limits : (cs : List Comp) → IsWithinLimits cs → unless_large (Ok cs) ≡ Ok cs
within_limits cs h = let few = h.few in let short = h.short in grind (arith, nat_tests)

back : (cs : List Comp) → All IsComponent cs → IsOp cs → IsWithinLimits cs → operation_of (operation_data cs) ≡ Ok cs
back cs t v h = ap unless_large (array_back Sent cs t v h.in_reach) ∙ within_limits cs h

-- one more component is written
pub written_more : (vs more : List Value) (v : Value) (cs : List Comp) (k : ℕ) (c : Comp) → k < length cs → c ≡ get_or cs k c
    → more ≡ vs ++ v ∷ [] → view v ≡ component_data c → map view vs ≡ map component_data (take k cs) → map view more ≡ map component_data (take (k + 1) cs)
written_more vs more v cs k c lt is pushed one before =
    let cut : take (k + 1) cs ≡ take k cs ++ c ∷ [] = take_more cs k c lt ∙ ap (λ x. take k cs ++ x ∷ []) (sym is) in
    rw (pushed, cut, map-append view vs (v ∷ []), map-append component_data (take k cs) (c ∷ [])) (ap₂ (λ xs x. xs ++ x ∷ []) before one)

pub both_ok : {T E : Type 0} (r : Result T E) (P Q R : T → Type 0) → IfOk r P → IfOk r Q → ((x : T) → P x → Q x → R x) → IfOk r R
both_ok (Ok x) P Q R p q f = f x p q
both_ok (Err e) P Q R p q f = tt

-- data that was written of these components, which are an operation's
pub reads : (d : Data) (cs op : List Comp) → d ≡ operation_data cs → All IsComponent cs → IsOp cs → cs ≡ op → IsWithinLimits op → operation_of d ≡ Ok op
reads d cs op e t v same h =
    let within : IsWithinLimits cs = rw same h in
    ap operation_of e ∙ back cs t v within ∙ ap (λ xs. Ok xs) same

pub long_reads : (d : Data) (cs op : List Comp) → d ≡ operation_data cs → All IsComponent cs → IsOp cs → cs ≡ op → AreInReach op → long_operation_of d ≡ Ok op
long_reads d cs op e t v same h =
    let reach : AreInReach cs = rw same h in
    ap long_operation_of e ∙ long_back cs t v reach ∙ ap (λ xs. Ok xs) same
