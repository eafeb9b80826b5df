-- Each call of a client keeps what it keeps of itself.
use Rattle.std.proofs.Common.{◌≡◌, ℕ, ◌+◌, ◌-◌, ◌^◌, ◌≤◌, List, [], ◌∷◌, length, Bool, true, false, ◌&&◌, refl, sym, ap, ◌∙◌, subst, arith, eq-eqb}
use Rattle.std.specs.Prelude.{Option, Some, None, is_some, nat_le, nat_lt, unwrap_or, if◌then◌else◌}
use Rattle.std.specs.Option.{option_and_then}
use Rattle.std.proofs.lemmas.Bool.{and_from, le-leb, ltb-false}
use Rattle.ot_op.specs.declared.comp.Comp.{Comp}
use Rattle.ot_op.specs.declared.comp.Comp.TheVariants.{Ins, Del, Com}
use Rattle.ot_op.specs.declared.limits.TheConstants.{MAX_COMPONENTS, MAX_OPERATION_UNITS}
use Rattle.ot_op.specs.Apply.{applied, applied_all}
use Rattle.ot_op.specs.Compose.{appended, behind, joined}
use Rattle.ot_op.specs.Operation.{is_void, place, total_units}
use Rattle.ot_transform.specs.Room.{Room}
use Rattle.ot_transform.specs.Size.{edit_units, edit_units_in}
use Rattle.ot_transform.proofs.Rooms.{length-put, room-composed}
use Rattle.std.proofs.lemmas.List.Sums.{sum_by-cons}
use Rattle.journal_entries.specs.declared.message.Msg.TheVariants.{Op}
use Rattle.journal_rules.specs.Documents.{is_in}
use Rattle.journal_rules.specs.Client.{Client, Shift, bounded, delivered, flight_fits, given_op, greatest_place, has_flight, is_alive, landed, longest_text, places_fit, shifted, shifted_to, stale}
use Rattle.journal_rules.proofs.Sizes.{all_size, comments_least, edits_least}
use Rattle.journal_sizes.specs.Sizes.{AreSized, IsSized}
use Rattle.journal_sizes.proofs.Delivering.{goes_on}
use Rattle.journal_sizes.proofs.Rooms.{low_said, room_within}
use Rattle.share_client.specs.Bounds.{IsBounded, IsBoundedIfAlive, units_in_flight}

-- ---- a component behind an operation
-- what is edited is edited still
edits_if : (b : Bool) (xs ys : List Comp) (n : ℕ) → n ≤ edit_units_in xs → n ≤ edit_units_in ys → n ≤ edit_units_in (if b then xs else ys)
edits_if true xs ys n h k = h
edits_if false xs ys n h k = k

edits_least-joined : (l c : Comp) → edit_units l + edit_units c ≤ edit_units_in (joined l c)
edits_least-joined (Ins p s) (Ins q u) = edits_if (nat_le p q && nat_le q (p + length s)) _ _ _ (omega (arith, length-put s (q - p) u)) (omega arith)
edits_least-joined (Ins p s) (Del q u) = omega arith
edits_least-joined (Ins p s) (Com q u t) = omega arith
edits_least-joined (Del p s) (Ins q u) = omega arith
edits_least-joined (Del p s) (Del q u) = edits_if (nat_le q p && nat_le p (q + length u)) _ _ _ (omega (arith, length-put u (p - q) s)) (omega arith)
edits_least-joined (Del p s) (Com q u t) = omega arith
edits_least-joined (Com p s t) c = omega arith

edits_least-behind : (cs : List Comp) (c : Comp) → edit_units_in cs + edit_units c ≤ edit_units_in (behind cs c)
edits_least-behind [] c = omega arith
edits_least-behind (l ∷ []) c = omega (arith, edits_least-joined l c, sum_by-cons edit_units l [])
edits_least-behind (l ∷ m ∷ ls) c = omega (arith, edits_least-behind (m ∷ ls) c, sum_by-cons edit_units l (behind (m ∷ ls) c), sum_by-cons edit_units l (m ∷ ls))

-- and places stay low: each has room for so many units more
fits_room : (n : ℕ) (cs : List Comp) → 2 ^ 32 ≤ greatest_place + n + 1 → Room n cs → places_fit cs ≡ true
fits_room n [] top room = refl
fits_room n (c ∷ cs) top room = and_from (nat_le (place c) greatest_place) (places_fit cs) (le-leb (place c) greatest_place (let r = room.0 in omega (arith, r, top))) (fits_room n cs top room.1)

fits_appended : (cs : List Comp) (c : Comp) → places_fit cs ≡ true → places_fit (c ∷ []) ≡ true → places_fit (appended cs c) ≡ true
fits_appended cs c low here =
    fits_room 3294967295 (appended cs c) (omega arith)
    (room-composed (2 ^ 32) 3294967295 cs (c ∷ []) (room_within 3294967295 greatest_place cs (omega arith) (low_said cs low)) (room_within 3294967295 greatest_place (c ∷ []) (omega arith) (low_said (c ∷ []) here)))

-- ---- edits
flight_few : (flight : Option (List Comp)) → ((f : List Comp) → flight ≡ Some f → IsSized f) → units_in_flight flight ≤ MAX_OPERATION_UNITS
flight_few None flies = omega arith
flight_few (Some f) flies = (flies f refl).light.units

edited_size : (s : Client) (comp : Comp) (next : List ℕ) → IsBounded s → is_void comp ≡ false → applied s.text comp ≡ Some next → length (appended s.pending comp) ≤ MAX_COMPONENTS → total_units (appended s.pending comp) ≤ MAX_OPERATION_UNITS
    → IsSized (appended s.pending comp) × (length next ≤ longest_text + units_in_flight s.flight + edit_units_in (appended s.pending comp))
edited_size s comp next bound solid applies few short = (
  record { light = record { units = units; comments = omega (arith, comments_least (appended s.pending comp), few) }; low = fits_appended s.pending comp bound.sized.waits.low size.1 },
  let g = size.0 in let l = bound.long in let m = more in let o = one in omega (arith, g, l, m, o),
)
  where
    is_behind : appended s.pending comp ≡ behind s.pending comp
    is_behind = ap (λ b. if b then s.pending else behind s.pending comp) solid

    more : edit_units_in s.pending + edit_units comp ≤ edit_units_in (appended s.pending comp)
    more = let e = ap edit_units_in is_behind in let b = edits_least-behind s.pending comp in omega (arith, e, b)

    units : edit_units_in (appended s.pending comp) ≤ MAX_OPERATION_UNITS
    units = let e = edits_least (appended s.pending comp) in omega (arith, e, short)

    one : edit_units_in (comp ∷ []) ≡ edit_units comp
    one = omega (arith, sum_by-cons edit_units comp [])

    size : (length next ≤ length s.text + edit_units_in (comp ∷ [])) × (places_fit (comp ∷ []) ≡ true)
    size = all_size s.text next (comp ∷ []) (ap (λ o. option_and_then (λ (t : List ℕ). applied_all t []) o) applies)
        (let l = bound.long in let f = flight_few s.flight bound.sized.flies in let p = bound.sized.waits.light.units in let m = more in let u = units in let o = one in omega (arith, l, f, p, m, u, o))

pub bounded_edited : (s t : Client) (comp : Comp) → IsBoundedIfAlive s → is_alive s.state ≡ true → is_void comp ≡ false → is_some (applied s.text comp) ≡ true → length (appended s.pending comp) ≤ MAX_COMPONENTS → total_units (appended s.pending comp) ≤ MAX_OPERATION_UNITS
    → t.flight ≡ s.flight → t.pending ≡ appended s.pending comp → t.text ≡ unwrap_or (applied s.text comp) s.text → IsBoundedIfAlive t
bounded_edited s t comp bound alive solid applies few short flight_is pending_is text_is lives = go (applied s.text comp) refl applies
  where
    go : (o : Option (List ℕ)) → applied s.text comp ≡ o → is_some o ≡ true → IsBounded t
    go None is some = absurd (cc)
    go (Some next) is some =
        let size = edited_size s comp next (bound alive) solid is few short in
        let text = ap length (text_is ∙ ap (λ o. unwrap_or o s.text) is) in
        let flight = ap units_in_flight flight_is in
        let pending = ap edit_units_in pending_is in
        let long = size.1 in
        record {
          sized = record { flies = λ f at. (bound alive).sized.flies f (sym flight_is ∙ at); waits = subst IsSized (sym pending_is) size.0 };
          long = omega (arith, text, flight, pending, long);
        }

-- ---- an operation of another: behind it the text is no longer than the greatest length
abbrev IsShortIfAlive : Client → Type 0
IsShortIfAlive s = is_alive s.state ≡ true → length s.text ≤ longest_text

short_bounded : (s : Client) → IsShortIfAlive (bounded s)
short_bounded s = go (nat_lt longest_text (length s.text)) refl
  where
    go : (b : Bool) → nat_lt longest_text (length s.text) ≡ b → IsShortIfAlive (if b then stale s else s)
    go true long lives = absurd (cc)
    go false short lives = ltb-false longest_text (length s.text) short

short_shifted : (s : Client) (o : Option Shift) → IsShortIfAlive (shifted_to s o)
short_shifted s None lives = absurd (cc)
short_shifted s (Some x) lives = go (flight_fits x.flight && places_fit x.pending) lives
  where
    go : (b : Bool) → IsShortIfAlive (if b then bounded (record s { flight = x.flight; pending = x.pending; text = x.text; version = s.version + 1 }) else stale s)
    go true lives = short_bounded (record s { flight = x.flight; pending = x.pending; text = x.text; version = s.version + 1 }) lives
    go false lives = absurd (cc)

pub bounded_shifted : (s : Client) (op : List Comp) (source : ℕ) → IsBoundedIfAlive s → is_alive s.state ≡ true → (has_flight s.flight && is_in source s.sources) ≡ false → IsBoundedIfAlive (shifted_to s (shifted s.flight s.pending s.text op))
bounded_shifted s op source bound alive other lives =
    (let on = goes_on s op source (λ was. (bound was).sized) (ap (λ (t : Client). is_alive t.state) is ∙ lives) in
    let sized = subst (λ (t : Client). AreSized t.flight t.pending) is on.sized in
    let short = short_shifted s (shifted s.flight s.pending s.text op) lives in
    record { sized = sized; long = omega (arith, short) })
  where
    moved : Client
    moved = shifted_to s (shifted s.flight s.pending s.text op)

    is : delivered s (Op s.version op source) ≡ moved
    is =
        ap (λ b. if b then given_op s s.version op source else s) alive
        ∙ ap (λ b. if b then (if has_flight s.flight && is_in source s.sources then landed s else moved) else s) (eq-eqb s.version s.version refl)
        ∙ ap (λ b. if b then landed s else moved) other
