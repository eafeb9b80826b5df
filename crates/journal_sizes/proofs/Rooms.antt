-- There is room to move operations past each other that are sized.
use Rattle.std.proofs.Common.{◌≡◌, ℕ, ◌+◌, ◌*◌, ◌^◌, ◌<◌, ◌≤◌, List, [], ◌∷◌, length, true, arith, All}
use Rattle.std.specs.Prelude.{nat_le}
use Rattle.std.proofs.lemmas.Bool.{and_parts, leb-true as le_of}
use Rattle.std.proofs.lemmas.List.Sums.{sum_by-cons}
use Rattle.std.proofs.lemmas.List.Elements.{All-nil, All-cons, All-head, All-tail}
use Rattle.ot_op.specs.declared.comp.Comp.{Comp}
use Rattle.ot_op.specs.declared.comp.Comp.TheVariants.{Ins, Del, Com}
use Rattle.ot_op.specs.Operation.{place}
use Rattle.ot_op.specs.declared.limits.TheConstants.{MAX_OPERATION_UNITS}
use Rattle.ot_transform.specs.Room.{new_units, new_units_of_all, Room, Fits, FitsAll}
use Rattle.ot_transform.specs.Size.{Within, edit_units, edit_units_in}
use Rattle.journal_rules.specs.Client.{places_fit, greatest_place}
use Rattle.journal_rules.proofs.Lists.{AllIn}
use Rattle.journal_sizes.specs.Sizes.{IsLight, IsSized, IsNear}

-- what is inserted is edited
pub inserted_least : (cs : List Comp) → new_units cs ≤ edit_units_in cs
inserted_least [] = omega arith
inserted_least (Ins at part ∷ cs) = let r = inserted_least cs in let e = sum_by-cons edit_units (Ins at part) cs in omega (arith, r, e)
inserted_least (Del at part ∷ cs) = let r = inserted_least cs in let e = sum_by-cons edit_units (Del at part) cs in omega (arith, r, e)
inserted_least (Com at part thread ∷ cs) = let r = inserted_least cs in let e = sum_by-cons edit_units (Com at part thread) cs in omega (arith, r, e)

pub new_light : (op : List Comp) → IsLight op → new_units op ≤ MAX_OPERATION_UNITS
new_light op light = let i = inserted_least op in let u = light.units in omega (arith, i, u)

pub new_few : (op : List Comp) → IsSized op → new_units op ≤ MAX_OPERATION_UNITS
new_few op sized = new_light op sized.light

-- low places have room to grow
pub room_within : (n most : ℕ) (cs : List Comp) → most + n < 2 ^ 32 → Within most cs → Room n cs
room_within n most [] fits within = tt
room_within n most (c ∷ cs) fits within =
    let h = All-head (λ (x : Comp). place x ≤ most) c cs within in
    (omega (arith, h, fits), room_within n most cs fits (All-tail (λ (x : Comp). place x ≤ most) c cs within))

pub low_said : (cs : List Comp) → places_fit cs ≡ true → Within greatest_place cs
low_said [] low = All-nil (λ (x : Comp). place x ≤ greatest_place)
low_said (c ∷ cs) low = more (and_parts (nat_le (place c) greatest_place) (places_fit cs) low) (low_said cs)
  where
    more : (nat_le (place c) greatest_place ≡ true) × (places_fit cs ≡ true) → (places_fit cs ≡ true → Within greatest_place cs) → Within greatest_place (c ∷ cs)
    more both rest = All-cons (λ (x : Comp). place x ≤ greatest_place) c cs (le_of (place c) greatest_place both.0) (rest both.1)

pub room_under : (n : ℕ) (cs : List Comp) → 1000000000 + n < 2 ^ 32 → places_fit cs ≡ true → Room n cs
room_under n cs fits low = room_within n greatest_place cs fits (low_said cs low)

-- two operations past each other
pub fits_sized : (a b : List Comp) → IsSized a → IsSized b → Fits a b
fits_sized a b x y =
    let m = new_few a x in let n = new_few b y in
    (room_under (new_units b) a (omega (arith, n)) x.low, room_under (new_units a) b (omega (arith, m)) y.low)

pub fits_near : (a b : List Comp) → IsSized a → IsNear b → Fits a b
fits_near a b x y =
    let m = new_few a x in let n = new_light b y.light in
    (room_under (new_units b) a (omega (arith, n)) x.low, room_within (new_units a) 1000065536 b (omega (arith, m)) y.near)

-- one past some others in turn
all_inserted : (ps : List (List Comp)) → AllIn IsSized ps → new_units_of_all ps ≤ 65536 * length ps
all_inserted [] all = omega arith
all_inserted (p ∷ ps) all = let r = all_inserted ps all.1 in let i = new_few p all.0 in omega (arith, r, i)

all_room : (n : ℕ) (ps : List (List Comp)) → n ≤ 65536 → AllIn IsSized ps → All (λ other. Room n other) ps
all_room n [] few all = All-nil (λ (other : List Comp). Room n other)
all_room n (p ∷ ps) few all = All-cons (λ (other : List Comp). Room n other) p ps (room_under n p (omega (arith, few)) all.0.low) (all_room n ps few all.1)

pub fits_past : (op : List Comp) (ps : List (List Comp)) → IsSized op → AllIn IsSized ps → length ps ≤ 100 → FitsAll op ps
fits_past op ps sized all few =
    let i = all_inserted ps all in
    (room_under (new_units_of_all ps) op (omega (arith, i, few)) sized.low, all_room (new_units op) ps (new_few op sized) all)
