-- The tests of room for places, by lists.
use Rattle.std.proofs.Common.{◌≡◌, ℕ, ◌+◌, ◌-◌, ◌^◌, ◌<◌, true, List, [], ◌∷◌, ◌++◌, refl, ap, sym, ◌∙◌, take, length, get_or, arith}
use Rattle.std.specs.Prelude.{nat_lt, min}
use Rattle.std.specs.List.{list_all}
use Rattle.std.proofs.lemmas.List.{take_more}
use Rattle.std.proofs.lemmas.Bool.{ltb-true, lt-ltb, and_parts}
use Rattle.ot_op.specs.Operation.{place}
use Rattle.ot_op.specs.declared.comp.Comp.{Comp}
use Rattle.ot_transform.specs.Room.{new_units, Room}
use Rattle.ot_transform.proofs.Rooms.{units-append}

-- one component more
pub inserted_more : (cs : List Comp) (i : ℕ) (c : Comp) → i < length cs → c ≡ get_or cs i c → new_units (take (i + 1) cs) ≡ new_units (take i cs) + new_units (c ∷ [])
inserted_more cs i c lt is =
    let cut : take (i + 1) cs ≡ take i cs ++ c ∷ [] = take_more cs i c lt ∙ ap (λ x. take i cs ++ x ∷ []) (sym is) in
    ap new_units cut ∙ units-append (take i cs) (c ∷ [])

-- the test as a fact: a number of units at its limit leaves no room either way
abbrev pub Most : ℕ
Most = 2 ^ 64 - 1

pub room_tested : (cs : List Comp) (n : ℕ) → list_all (λ c. nat_lt (place c + min n Most) (2 ^ 32)) cs ≡ true → Room n cs
room_tested [] n e = tt
room_tested (c ∷ cs) n e =
    let both = and_parts _ _ e in
    let here : place c + min n Most < 2 ^ 32 = ltb-true _ _ both.0 in
    (omega arith, room_tested cs n both.1)

pub tested_room : (cs : List Comp) (n : ℕ) → Room n cs → list_all (λ c. nat_lt (place c + min n Most) (2 ^ 32)) cs ≡ true
tested_room [] n r = refl
tested_room (c ∷ cs) n r =
    let here : nat_lt (place c + min n Most) (2 ^ 32) ≡ true = lt-ltb _ _ (omega (arith, r.0)) in
    rw (here, tested_room cs n r.1) refl
