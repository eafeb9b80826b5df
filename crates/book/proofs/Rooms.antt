-- There is room to move an update past what a window holds.
use Rattle.std.proofs.Common.{ℕ, ◌*◌, ◌≤◌, List, [], ◌∷◌, length, arith, All}
use Rattle.std.proofs.lemmas.List.Elements.{All-nil, All-cons, All-head, All-tail}
use Rattle.ot_op.specs.declared.comp.Comp.{Comp}
use Rattle.ot_transform.specs.Room.{new_units, new_units_of_all, Room, FitsAll}
use Rattle.dup_check.specs.declared.past.Past.{Past}
use Rattle.dup_check.specs.Snapshot.{IsSmall, operations}
use Rattle.journal_sizes.specs.Sizes.{IsSized}
use Rattle.journal_sizes.proofs.Rooms.{inserted_least, low_said, room_within}
use Rattle.loading_rules.specs.Passable.{IsPassable, farthest}

pub sized_small : (op : List Comp) → IsSized op → IsSmall op
sized_small op sized = record { units = sized.light.units; comments = sized.light.comments }

all_inserted : (ps : List Past) → All (λ (x : Past). IsPassable x.op) ps → new_units_of_all (operations ps) ≤ 65536 * length ps
all_inserted [] all = omega arith
all_inserted (p ∷ ps) all =
    let r = all_inserted ps (All-tail (λ (x : Past). IsPassable x.op) p ps all) in
    let h = All-head (λ (x : Past). IsPassable x.op) p ps all in
    let u = h.light.units in
    let i = inserted_least p.op in
    omega (arith, r, u, i)

all_room : (n : ℕ) (ps : List Past) → n ≤ 65536 → All (λ (x : Past). IsPassable x.op) ps → All (λ other. Room n other) (operations ps)
all_room n [] few all = All-nil (λ (other : List Comp). Room n other)
all_room n (p ∷ ps) few all = All-cons (λ (other : List Comp). Room n other) p.op (operations ps) (room_within n farthest p.op (omega (arith, few)) (All-head (λ (x : Past). IsPassable x.op) p ps all).near) (all_room n ps few (All-tail (λ (x : Past). IsPassable x.op) p ps all))

pub fits_past : (op : List Comp) (ps : List Past) → IsSized op → All (λ (x : Past). IsPassable x.op) ps → length ps ≤ 100 → FitsAll op (operations ps)
fits_past op ps sized all few =
    let i = all_inserted ps all in
    let n = inserted_least op in
    let u = sized.light.units in
    (room_within (new_units_of_all (operations ps)) 1000000000 op (omega (arith, i, few)) (low_said op sized.low), all_room (new_units op) ps (omega (arith, n, u)) all)
