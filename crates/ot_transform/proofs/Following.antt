-- An operation past a list of others.
use Rattle.std.proofs.Common.{◌≡◌, ℕ, suc, ◌+◌, ◌^◌, ◌<◌, ◌≤◌, List, [], ◌∷◌, refl, ap, sym, ◌∙◌, arith, Some, None, Option, length, drop, get_or, subst}
use Rattle.std.specs.Prelude.{Result, Ok, Err, IfOk, IfSome, IsSomeAnd, max}
use Rattle.std.specs.List.{All}
use Rattle.std.specs.Option.{option_and_then}
use Rattle.std.proofs.lemmas.List.{at_drop_more}
use Rattle.std.proofs.lemmas.List.Elements.{All-nil, All-cons, All-head, All-tail}
use Rattle.ot_op.specs.Operation.{place}
use Rattle.ot_op.specs.Apply.{applied_all, replayed}
use Rattle.ot_op.specs.declared.comp.Comp.{Comp}
use Rattle.ot_transform.specs.Crossing.{Crossed, crossed, through}
use Rattle.ot_transform.specs.Convergence.{Follows}
use Rattle.ot_transform.specs.Room.{new_units, new_units_of_all, RoomBelow, Room, Fits, FitsAll}
use Rattle.ot_transform.specs.Size.{Within, NoLarger, BothNoLarger, edit_units, comment_count}
use Rattle.ot_transform.proofs.Depth.{IfGiven, given_then, given_weaker}
use Rattle.ot_transform.proofs.Converging.{Meets, given_at}
use Rattle.ot_transform.proofs.Cases.{convergence}
use Rattle.ot_transform.proofs.Rooms.{crossed_roomy, Kept, room_less}
use Rattle.ot_transform.proofs.Weights.{Lighter, edits-crossed, comments-crossed}

-- ---- what it does
-- the first of the past operations that apply
record FirstPast (text : List ℕ) (op : List Comp) (ops : List (List Comp)) (now : List ℕ) : Type 0 where
  mid : List ℕ
  here : applied_all text op ≡ Some mid
  rest : replayed mid ops ≡ Some now

first_past : (text : List ℕ) (op : List Comp) (ops : List (List Comp)) (now : List ℕ) → replayed text (op ∷ ops) ≡ Some now → FirstPast text op ops now
first_past text op ops now e = go (applied_all text op) refl e
  where
    go : (o : Option (List ℕ)) → applied_all text op ≡ o → option_and_then (λ next. replayed next ops) o ≡ Some now → FirstPast text op ops now
    go None h f = cc
    go (Some mid) h f = record { mid = mid; here = h; rest = f }

pub follows : (op : List Comp) (past : List (List Comp)) → Follows op past (through op past)
follows op [] text edited now e p =
    let same : text ≡ now = cc in
    (edited, ap (λ (x : List ℕ). applied_all x op) (sym same) ∙ e)
follows op (other ∷ rest) text edited now e p =
    let f : FirstPast text other rest now = first_past text other rest now p in
    let m : Meets (crossed op other) edited f.mid = convergence text edited f.mid op other e f.here in
    subst (λ (o : Crossed). IsSomeAnd (option_and_then (λ both. through both.0 rest) o) (λ moved. (to : List ℕ) × (applied_all now moved ≡ Some to))) (sym m.is) (follows m.both.0 rest f.mid m.to now m.from_right f.rest)

-- ---- how large it becomes
within_room : (most further : ℕ) (cs : List Comp) → Within most cs → RoomBelow (suc (most + further)) further cs
within_room most further [] w = tt
within_room most further (c ∷ cs) w =
    let P : Comp → Type 0 = λ c. place c ≤ most in
    let here : place c ≤ most = All-head P c cs w in
    (omega (arith, here), within_room most further cs (All-tail P c cs w))

room_within : (most : ℕ) (cs : List Comp) → RoomBelow (suc most) 0 cs → Within most cs
room_within most [] r = All-nil (λ c. place c ≤ most)
room_within most (c ∷ cs) r = All-cons (λ c. place c ≤ most) c cs (omega (arith, r.0)) (room_within most cs r.1)

-- some bound of all places
bound_of : List Comp → ℕ
bound_of [] = 0
bound_of (c ∷ cs) = max (place c) (bound_of cs)

room_of_bound : (further : ℕ) (cs : List Comp) (bound : ℕ) → bound_of cs ≤ bound → RoomBelow (suc (bound + further)) further cs
unfolding bound_of
room_of_bound further [] bound h = tt
room_of_bound further (c ∷ cs) bound h = (omega arith, room_of_bound further cs bound (omega arith))

left_places : (ls rs : List Comp) (most : ℕ) → Within most ls → IfGiven (crossed ls rs) (λ both. Within (most + new_units rs) both.0)
left_places ls rs most w =
    let top : ℕ = suc (most + new_units rs) in
    let high : ℕ = suc (bound_of rs + new_units ls) in
    let left : RoomBelow top (new_units rs + 0) ls = room_less top (new_units rs + 0) (new_units rs) ls (omega arith) (within_room most (new_units rs) ls w) in
    let right : RoomBelow high (new_units ls + 0) rs = room_less high (new_units ls + 0) (new_units ls) rs (omega arith) (room_of_bound (new_units ls) rs (bound_of rs) (omega arith)) in
    given_weaker (Kept top high 0 0 ls rs) (λ both. Within (most + new_units rs) both.0) (crossed ls rs) (λ both k. room_within (most + new_units rs) both.0 k.2) (crossed_roomy top high 0 0 ls rs left right)

right_places : (ls rs : List Comp) (most : ℕ) → Within most rs → IfGiven (crossed ls rs) (λ both. Within (most + new_units ls) both.1)
right_places ls rs most w =
    let top : ℕ = suc (bound_of ls + new_units rs) in
    let high : ℕ = suc (most + new_units ls) in
    let left : RoomBelow top (new_units rs + 0) ls = room_less top (new_units rs + 0) (new_units rs) ls (omega arith) (room_of_bound (new_units rs) ls (bound_of ls) (omega arith)) in
    let right : RoomBelow high (new_units ls + 0) rs = room_less high (new_units ls + 0) (new_units ls) rs (omega arith) (within_room most (new_units ls) rs w) in
    given_weaker (Kept top high 0 0 ls rs) (λ both. Within (most + new_units ls) both.1) (crossed ls rs) (λ both k. room_within (most + new_units ls) both.1 k.3) (crossed_roomy top high 0 0 ls rs left right)

-- crossing makes neither side larger
pub crossed_no_larger : (ls rs : List Comp) → IfGiven (crossed ls rs) (BothNoLarger ls rs)
crossed_no_larger ls rs = go (crossed ls rs) refl
  where
    go : (o : Crossed) → crossed ls rs ≡ o → IfGiven o (BothNoLarger ls rs)
    go None e = tt
    go (Some both) e =
        let units : Lighter edit_units ls rs both = given_at (Lighter edit_units ls rs) (crossed ls rs) both e (edits-crossed ls rs) in
        let comments : Lighter comment_count ls rs both = given_at (Lighter comment_count ls rs) (crossed ls rs) both e (comments-crossed ls rs) in (
          record {
            units = units.0;
            comments = comments.0;
            places = λ most w. given_at (λ (x : List Comp × List Comp). Within (most + new_units rs) x.0) (crossed ls rs) both e (left_places ls rs most w);
          },
          record {
            units = units.1;
            comments = comments.1;
            places = λ most w. given_at (λ (x : List Comp × List Comp). Within (most + new_units ls) x.1) (crossed ls rs) both e (right_places ls rs most w);
          },
        )

no_larger_further : (op mid made : List Comp) (m n : ℕ) → NoLarger op m mid → NoLarger mid n made → NoLarger op (m + n) made
no_larger_further op mid made m n a b = record {
  units = omega (arith, a.units, b.units);
  comments = omega (arith, a.comments, b.comments);
  places = λ most w. let e : most + m + n ≡ most + (m + n) = omega arith in subst (λ (k : ℕ). Within k made) e (b.places (most + m) (a.places most w));
}

no_larger_self : (op : List Comp) → NoLarger op 0 op
no_larger_self op = record {
  units = omega arith;
  comments = omega arith;
  places = λ most w. let e : most ≡ most + 0 = omega arith in subst (λ (k : ℕ). Within k op) e w;
}

pub through_no_larger : (op : List Comp) (past : List (List Comp)) → IfGiven (through op past) (NoLarger op (new_units_of_all past))
through_no_larger op [] = no_larger_self op
through_no_larger op (other ∷ rest) =
    given_then (BothNoLarger op other) (NoLarger op (new_units other + new_units_of_all rest)) (λ both. through both.0 rest) (crossed op other) (crossed_no_larger op other)
    (λ both h. given_weaker (NoLarger both.0 (new_units_of_all rest)) (NoLarger op (new_units other + new_units_of_all rest)) (through both.0 rest) (λ made k. no_larger_further op both.0 made (new_units other) (new_units_of_all rest) h.0 k) (through_no_larger both.0 rest))

-- ---- one turn of the loop
all_less : (op made : List Comp) (ops : List (List Comp)) → new_units made ≤ new_units op → All (λ other. Room (new_units op) other) ops → All (λ other. Room (new_units made) other) ops
all_less op made [] h a = All-nil (λ other. Room (new_units made) other)
all_less op made (x ∷ xs) h a =
    let P : List Comp → Type 0 = λ other. Room (new_units op) other in
    All-cons (λ other. Room (new_units made) other) x xs (room_less (2 ^ 32) (new_units made) (new_units op) x h (All-head P x xs a)) (all_less op made xs h (All-tail P x xs a))

pub through_turn : (op : List Comp) (past : List (List Comp)) (i : ℕ) (other : List Comp) → i < length past → other ≡ get_or past i other → through op (drop i past) ≡ option_and_then (λ (both : List Comp × List Comp). through both.0 (drop (i + 1) past)) (crossed op other)
through_turn op past i other lt is = at_drop_more (through op) past i other lt ∙ ap (λ (x : List Comp). option_and_then (λ (both : List Comp × List Comp). through both.0 (drop (i + 1) past)) (crossed op x)) (sym is)

pub through_stops : (first op : List Comp) (past : List (List Comp)) (i : ℕ) (other : List Comp) → through op (drop i past) ≡ through first past → i < length past → other ≡ get_or past i other → crossed op other ≡ None → through first past ≡ None
through_stops first op past i other same lt is none =
    sym same ∙ through_turn op past i other lt is ∙ ap (option_and_then (λ (both : List Comp × List Comp). through both.0 (drop (i + 1) past))) none

pub through_goes_on : (first op next right : List Comp) (past : List (List Comp)) (i : ℕ) (other : List Comp) → through op (drop i past) ≡ through first past → i < length past → other ≡ get_or past i other → crossed op other ≡ Some (next, right) → through next (drop (i + 1) past) ≡ through first past
through_goes_on first op next right past i other same lt is given =
    sym (sym same ∙ through_turn op past i other lt is ∙ ap (option_and_then (λ (both : List Comp × List Comp). through both.0 (drop (i + 1) past))) given)

pub past_turn : (past : List (List Comp)) (i : ℕ) (other : List Comp) → i < length past → other ≡ get_or past i other → drop i past ≡ other ∷ drop (i + 1) past
past_turn past i other lt is = at_drop_more (λ (xs : List (List Comp)). xs) past i other lt ∙ ap (λ (x : List Comp). x ∷ drop (i + 1) past) (sym is)

pub fits_all_first : (op other : List Comp) (rest : List (List Comp)) → FitsAll op (other ∷ rest) → Fits op other
fits_all_first op other rest f =
    (room_less (2 ^ 32) (new_units other) (new_units other + new_units_of_all rest) op (omega arith) f.0, All-head (λ (x : List Comp). Room (new_units op) x) other rest f.1)

-- what crossing leaves may move past the rest
pub fits_all_next : (op other : List Comp) (rest : List (List Comp)) (both : List Comp × List Comp) → FitsAll op (other ∷ rest) → crossed op other ≡ Some both → FitsAll both.0 rest
fits_all_next op other rest both f e =
    let k : Kept (2 ^ 32) (2 ^ 32) (new_units_of_all rest) 0 op other both =
    given_at (Kept (2 ^ 32) (2 ^ 32) (new_units_of_all rest) 0 op other) (crossed op other) both e
    (crossed_roomy (2 ^ 32) (2 ^ 32) (new_units_of_all rest) 0 op other f.0 (room_less (2 ^ 32) (new_units op + 0) (new_units op) other (omega arith) (All-head (λ (x : List Comp). Room (new_units op) x) other rest f.1))) in
    (k.2, all_less op both.0 rest k.0 (All-tail (λ (x : List Comp). Room (new_units op) x) other rest f.1))

-- ---- the clauses of what is made
if_given : {A : Type 0} (o : Option A) (P : A → Type 0) → IfGiven o P → IfSome o P
if_given None P h = tt
if_given (Some x) P h = h

pub no_larger_on : {E : Type 0} (ls rs : List Comp) (r : Result Crossed E) → IfOk r (λ both. both ≡ crossed ls rs) → IfOk r (λ both. IfSome both (BothNoLarger ls rs))
no_larger_on ls rs (Ok both) e = if_given both (BothNoLarger ls rs) (subst (λ (o : Crossed). IfGiven o (BothNoLarger ls rs)) (sym e) (crossed_no_larger ls rs))
no_larger_on ls rs (Err x) e = tt

pub follows_on : {E : Type 0} (op : List Comp) (past : List (List Comp)) (r : Result (Option (List Comp)) E) → IfOk r (λ made. made ≡ through op past) → IfOk r (λ made. Follows op past made)
follows_on op past (Ok made) e = subst (λ (o : Option (List Comp)). Follows op past o) (sym e) (follows op past)
follows_on op past (Err x) e = tt

pub through_no_larger_on : {E : Type 0} (op : List Comp) (past : List (List Comp)) (r : Result (Option (List Comp)) E) → IfOk r (λ made. made ≡ through op past) → IfOk r (λ made. IfSome made (NoLarger op (new_units_of_all past)))
through_no_larger_on op past (Ok made) e = if_given made (NoLarger op (new_units_of_all past)) (subst (λ (o : Option (List Comp)). IfGiven o (NoLarger op (new_units_of_all past))) (sym e) (through_no_larger op past))
through_no_larger_on op past (Err x) e = tt
