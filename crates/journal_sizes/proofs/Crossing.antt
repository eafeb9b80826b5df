-- What operations become past each other that are sized.
use Rattle.std.proofs.Common.{◌≡◌, ℕ, ◌+◌, ◌≤◌, List, ap, ◌∙◌, subst, arith}
use Rattle.std.specs.Prelude.{Option, Some, None, option_map}
use Rattle.std.specs.Option.{option_and_then}
use Rattle.ot_op.specs.declared.comp.Comp.{Comp}
use Rattle.ot_op.specs.Operation.{place}
use Rattle.ot_op.specs.Apply.{applied_all}
use Rattle.ot_transform.specs.Crossing.{crossed}
use Rattle.ot_transform.specs.Room.{new_units}
use Rattle.ot_transform.specs.Size.{NoLarger, BothNoLarger}
use Rattle.journal_rules.specs.Client.{greatest_place, flight_crossed, shifted, Shift}
use Rattle.journal_rules.proofs.Waits.{all_map}
use Rattle.journal_sizes.specs.Sizes.{IsLight, IsSized, IsNear, IsFlown}
use Rattle.journal_sizes.proofs.Rooms.{low_said, new_few}

pub lighter_past : (op made : List Comp) (n : ℕ) → IsLight op → NoLarger op n made → IsLight made
lighter_past op made n light less =
    let u = light.units in let c = light.comments in let u' = less.units in let c' = less.comments in
    record { units = omega (arith, u, u'); comments = omega (arith, c, c') }

pub near_past : (op made : List Comp) (n : ℕ) → n ≤ 65536 → IsSized op → NoLarger op n made → IsNear made
near_past op made n few sized less =
    record {
      light = lighter_past op made n sized.light less;
      near = all_map (λ (x : Comp). place x ≤ greatest_place + n) (λ (x : Comp). place x ≤ 1000065536) made (λ x le. omega (arith, le, few)) (less.places greatest_place (low_said op sized.low));
    }

pub near_sized : (op : List Comp) → IsSized op → IsNear op
near_sized op sized = record { light = sized.light; near = all_map (λ (x : Comp). place x ≤ greatest_place) (λ (x : Comp). place x ≤ 1000065536) op (λ x le. omega (arith, le)) (low_said op sized.low) }

pub flown_past : (f op g past : List Comp) → IsSized f → IsSized op → BothNoLarger f op (g, past) → IsFlown (Some g, past)
flown_past f op g past x y less = record {
  flies = λ h is. let same : g ≡ h = cc in subst IsLight same (lighter_past f g (new_units op) x.light less.0);
  past = near_past op past (new_units f) (new_few f x) y less.1;
}

-- where the text doesn't allow it, there is no shift
pub shift_fails : (flight : Option (List Comp)) (pending : List Comp) (text : List ℕ) (op : List Comp) (fs : Option (List Comp) × List Comp) (ps : List Comp × List Comp)
    → flight_crossed flight op ≡ Some fs → crossed pending fs.1 ≡ Some ps → applied_all text ps.1 ≡ None → shifted flight pending text op ≡ None
shift_fails flight pending text op fs ps a b c =
    let last = λ (f : Option (List Comp) × List Comp) (p : List Comp × List Comp). option_map (λ (t : List ℕ). let x : Shift = record { flight = f.0; pending = p.0; text = t } in x) (applied_all text p.1) in
    ap (option_and_then (λ (f : Option (List Comp) × List Comp). option_and_then (last f) (crossed pending f.1))) a ∙ ap (option_and_then (last fs)) b ∙ ap (option_map (λ (t : List ℕ). let x : Shift = record { flight = fs.0; pending = ps.0; text = t } in x)) c
