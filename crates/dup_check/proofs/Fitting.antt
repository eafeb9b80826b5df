-- Where an operation is small, there is room for it.
use Rattle.std.proofs.Common.{◌≡◌, ℕ, ◌+◌, ◌*◌, ◌≤◌, false, List, [], ◌∷◌, ◌++◌, refl, ap, sym, ◌∙◌, arith, length, take, drop, Option, Some, None}
use Rattle.std.specs.Prelude.{IsSome}
use Rattle.std.specs.Option.{option_and_then}
use Rattle.std.proofs.lemmas.List.{take-append-drop, length-append, length-map}
use Rattle.std.proofs.lemmas.List.Elements.{All-head, All-tail}
use Rattle.std.proofs.lemmas.List.Sums.{sum_by-cons}
use Rattle.std.proofs.Math.Nat.{mul-le-mul_left}
use Rattle.ot_op.specs.declared.comp.Comp.{Comp}
use Rattle.ot_op.specs.declared.comp.Comp.TheVariants.{Ins, Del, Com}
use Rattle.ot_op.specs.Operation.{IsOp, is_void, units_of}
use Rattle.ot_op.specs.Apply.{applied, applied_all, IsFailing}
use Rattle.ot_op.proofs.Applying.{applied_all-append, First, first_of_all}
use Rattle.ot_op.proofs.Pieces.{ins_cut, del_cut, com_cut}
use Rattle.ot_transform.specs.Size.{edit_units, edit_units_in, comment_count, comments_in}
use Rattle.ranges_tracker.specs.Steady.{units_all}
use Rattle.ranges_tracker.specs.Trackable.{IsFit}
use Rattle.journal_rules.specs.Deciding.{longest}
use Rattle.dup_check.specs.declared.snapshot.Snapshot.{Snapshot}
use Rattle.dup_check.specs.Snapshot.{stamp_of, Agrees, IsSmall}

-- ---- how large what applies is
-- a component that applies makes the text longer by its units at most, and has no more units than it or the text
record Grows (text : List ℕ) (c : Comp) (mid : List ℕ) : Type 0 where
  longer : length mid ≤ length text + edit_units c
  few : units_of c ≤ edit_units c + comment_count c * length text

grows : (text : List ℕ) (c : Comp) (mid : List ℕ) → applied text c ≡ Some mid → Grows text c mid
grows text (Ins at part) mid e =
    let cut = ins_cut text at part mid e in
    let before : length text ≡ length cut.0.front + length cut.0.back = ap length cut.0.is ∙ length-append cut.0.front cut.0.back in
    let after : length mid ≡ length cut.0.front + (length part + length cut.0.back) = ap length cut.1 ∙ length-append cut.0.front (part ++ cut.0.back) ∙ ap (λ n. length cut.0.front + n) (length-append part cut.0.back) in
    record { longer = omega arith; few = omega arith }
grows text (Del at part) mid e =
    let cut = del_cut text at part mid e in
    let before : length text ≡ length cut.0.front + (length part + length cut.0.back) = ap length cut.0.is ∙ length-append cut.0.front (part ++ cut.0.back) ∙ ap (λ n. length cut.0.front + n) (length-append part cut.0.back) in
    let after : length mid ≡ length cut.0.front + length cut.0.back = ap length cut.1 ∙ length-append cut.0.front cut.0.back in
    record { longer = omega arith; few = omega arith }
grows text (Com at part thread) mid e =
    let cut = com_cut text at part thread mid e in
    let before : length text ≡ length cut.0.front + (length part + length cut.0.back) = ap length cut.0.is ∙ length-append cut.0.front (part ++ cut.0.back) ∙ ap (λ n. length cut.0.front + n) (length-append part cut.0.back) in
    let same : length mid ≡ length text = ap length cut.1 in
    record { longer = omega arith; few = omega arith }

-- each comment has at most the units of the longest text on the way
units_bounded : (m : ℕ) (text : List ℕ) (op : List Comp) (next : List ℕ) → length text + edit_units_in op ≤ m → applied_all text op ≡ Some next → units_all op ≤ edit_units_in op + comments_in op * m
units_bounded m text [] next room e = omega arith
units_bounded m text (c ∷ cs) next room e =
    let f : First text c cs next = first_of_all text c cs next e in
    let g : Grows text c f.mid = grows text c f.mid f.here in
    let edits : edit_units_in (c ∷ cs) ≡ edit_units c + edit_units_in cs = sum_by-cons edit_units c cs in
    let comments : comments_in (c ∷ cs) ≡ comment_count c + comments_in cs = sum_by-cons comment_count c cs in
    let rest : units_all cs ≤ edit_units_in cs + comments_in cs * m = units_bounded m f.mid cs next (omega (arith, g.longer)) f.rest in
    let most : comment_count c * length text ≤ comment_count c * m = mul-le-mul_left (comment_count c) (omega arith) in
    let product : comments_in (c ∷ cs) * m ≡ comment_count c * m + comments_in cs * m = ap (λ n. n * m) comments ∙ omega arith in
    omega (arith, g.few)

-- no component is without a unit or a comment
counted : (c : Comp) → is_void c ≡ false → 1 ≤ edit_units c + comment_count c
counted (Ins at []) e = cc
counted (Ins at (u ∷ us)) e = omega arith
counted (Del at []) e = cc
counted (Del at (u ∷ us)) e = omega arith
counted (Com at part thread) e = omega arith

pub components_few : (op : List Comp) → IsOp op → length op ≤ edit_units_in op + comments_in op
components_few [] solid = omega arith
components_few (c ∷ cs) solid =
    let P : Comp → Type 0 = λ c. is_void c ≡ false in
    let here : 1 ≤ edit_units c + comment_count c = counted c (All-head P c cs solid) in
    omega (arith, here, components_few cs (All-tail P c cs solid), sum_by-cons edit_units c cs, sum_by-cons comment_count c cs)

-- what a small operation needs of the ranges that agree with a text
pub fit : (look : Snapshot) (op : List Comp) (text : List ℕ) → Agrees look → length look.text ≤ longest → IsSmall op → IsOp op → applied_all look.text op ≡ Some text → IsFit look.ranges op (stamp_of look)
fit look op text agrees short small solid e =
    let units : units_all op ≤ edit_units_in op + comments_in op * 2162688 = units_bounded 2162688 look.text op text (omega (arith, small.units)) e in
    record {
      text = look.text;
      next = text;
      of = agrees;
      applies = e;
      room = omega (arith, small.units, small.comments);
      few = omega (arith, components_few op solid, small.units, small.comments);
    }

pub is_given : (o : Option (List ℕ)) → IsSome o → (text : List ℕ) × (o ≡ Some text)
is_given None h = cc
is_given (Some text) h = (text, refl)
