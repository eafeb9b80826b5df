-- How far the places of an operation reach that applies to a text.
use Rattle.std.proofs.Common.{◌≡◌, ℕ, ◌+◌, ◌≤◌, List, [], ◌∷◌, length, take, drop, ap, arith, length-append}
use Rattle.std.specs.Prelude.{Some, nat_le}
use Rattle.std.proofs.lemmas.Bool.{leb-true}
use Rattle.std.proofs.lemmas.List.{length-take, length-drop}
use Rattle.std.proofs.lemmas.List.Sums.{sum_by-cons}
use Rattle.std.proofs.lemmas.List.Elements.{All-nil, All-cons, All-weaker}
use Rattle.ot_units.specs.Text.{put_at, cut_at}
use Rattle.ot_op.specs.declared.comp.Comp.{Comp}
use Rattle.ot_op.specs.declared.comp.Comp.TheVariants.{Ins, Del, Com}
use Rattle.ot_op.specs.Operation.{place}
use Rattle.ot_op.specs.Apply.{applied, applied_all, stands}
use Rattle.ot_transform.specs.Size.{edit_units, edit_units_in, Within}
use Rattle.ot_transform.proofs.Rooms.{length-put}
use Rattle.ot_op.proofs.Applying.{First, first_of_all}
use Rattle.ranges_tracker.proofs.Stepping.{if_some, stands_of}
use Rattle.journal_sizes.specs.Sizes.{IsLight}
use Rattle.journal_rules.specs.Deciding.{longest}
use Rattle.loading_rules.specs.Passable.{farthest}

-- a component applies within the text, which grows by what it puts in
record Reach (text : List ℕ) (c : Comp) (next : List ℕ) : Type 0 where
  within : place c ≤ length text
  grows : length next ≤ length text + edit_units c

reach : (text : List ℕ) (c : Comp) (next : List ℕ) → applied text c ≡ Some next → Reach text c next
reach text (Ins at part) next e =
    let a = if_some (nat_le at (length text)) (put_at text at part) next e in
    let low = leb-true at (length text) a.0 in
    let n = ap length a.1 in
    let l = length-put text at part in
    record { within = low; grows = omega (arith, n, l) }
reach text (Del at part) next e =
    let a = if_some (stands text at part) (cut_at text at (length part)) next e in
    let s = stands_of text at part a.0 in
    let room = s.room in
    let n = ap length a.1 in
    let l = length-append (take at text) (drop (at + length part) text) in
    let f = length-take at text in
    let b = length-drop (at + length part) text in
    record { within = omega (arith, room); grows = omega (arith, n, l, f, b) }
reach text (Com at part thread) next e =
    let a = if_some (stands text at part) text next e in
    let s = stands_of text at part a.0 in
    let room = s.room in
    let n = ap length a.1 in
    record { within = omega (arith, room); grows = omega (arith, n) }

reaches_no_further : (cs : List Comp) (text next : List ℕ) → applied_all text cs ≡ Some next → Within (length text + edit_units_in cs) cs
reaches_no_further [] text next applies = All-nil (λ (x : Comp). place x ≤ length text + edit_units_in [])
reaches_no_further (c ∷ cs) text next applies =
    let f : First text c cs next = first_of_all text c cs next applies in
    let r : Reach text c f.mid = reach text c f.mid f.here in
    let low = r.within in
    let grows = r.grows in
    let sum = sum_by-cons edit_units c cs in
    All-cons (λ (x : Comp). place x ≤ length text + edit_units_in (c ∷ cs)) c cs (omega (arith, low))
    (All-weaker (λ (x : Comp). place x ≤ length f.mid + edit_units_in cs) (λ (x : Comp). place x ≤ length text + edit_units_in (c ∷ cs)) (λ x le. omega (arith, le, grows, sum)) cs (reaches_no_further cs f.mid next f.rest))

pub near_enough : (text next : List ℕ) (op : List Comp) → length text ≤ longest → IsLight op → applied_all text op ≡ Some next → Within farthest op
near_enough text next op short small applies =
    let few = small.units in
    All-weaker (λ (c : Comp). place c ≤ length text + edit_units_in op) (λ (c : Comp). place c ≤ farthest) (λ c le. omega (arith, le, short, few)) op (reaches_no_further op text next applies)
