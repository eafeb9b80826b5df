-- Operations of one component at a low place, as the tests have them.
use Rattle.std.proofs.Common.{◌≡◌, ℕ, ◌+◌, ◌*◌, ◌<◌, ◌≤◌, List, [], ◌∷◌, ◌++◌, ap, sym, ◌∙◌, arith, length, take, get_or, subst}
use Rattle.std.specs.List.{All}
use Rattle.std.proofs.lemmas.List.{take_more, take_all}
use Rattle.std.proofs.lemmas.List.Elements.{All-nil, All-cons, All-append, All-head, All-tail}
use Rattle.ot_op.specs.declared.comp.Comp.{Comp}
use Rattle.ot_op.specs.declared.comp.Comp.TheVariants.{Ins, Del, Com}
use Rattle.ot_op.specs.Operation.{place, units_of}
use Rattle.ot_transform.specs.Room.{new_units, new_units_of_all, Room}
use Rattle.ot_transform.specs.Size.{edit_units_in, comments_in}
use Rattle.dup_check.specs.declared.past.Past.{Past}
use Rattle.dup_check.specs.declared.snapshot.Snapshot.{Snapshot}
use Rattle.dup_check.specs.Snapshot.{operations, IsSmall, InReach, IsReady}

abbrev pub IsLow : List Comp → Type 0
IsLow op = (length op ≤ 1) × All (λ c. place c + units_of c < 1000) op

-- ---- the loop over the past
pub low_more : (past : List Past) (i : ℕ) (x : Past) → i < length past → x ≡ get_or past i x → All (λ y. IsLow y.op) (take i past) → IsLow x.op → All (λ y. IsLow y.op) (take (i + 1) past)
low_more past i x lt is low here =
    let P : Past → Type 0 = λ y. IsLow y.op in
    let cut : take (i + 1) past ≡ take i past ++ x ∷ [] = take_more past i x lt ∙ ap (λ y. take i past ++ y ∷ []) (sym is) in
    subst (λ (xs : List Past). All P xs) (sym cut) (All-append P (take i past) (x ∷ []) low (All-cons P x [] here (All-nil P)))

pub low_all : (past : List Past) (i : ℕ) → length past ≤ i → All (λ y. IsLow y.op) (take i past) → All (λ y. IsLow y.op) past
low_all past i past_end low = subst (λ (xs : List Past). All (λ y. IsLow y.op) xs) (take_all i past past_end) low

-- ---- what they need
units_low : (c : Comp) → new_units (c ∷ []) ≤ units_of c
units_low (Ins at part) = omega arith
units_low (Del at part) = omega arith
units_low (Com at part thread) = omega arith

edits_low : (c : Comp) → edit_units_in (c ∷ []) ≤ units_of c
edits_low (Ins at part) = omega arith
edits_low (Del at part) = omega arith
edits_low (Com at part thread) = omega arith

comments_low : (c : Comp) → comments_in (c ∷ []) ≤ 1
comments_low (Ins at part) = omega arith
comments_low (Del at part) = omega arith
comments_low (Com at part thread) = omega arith

low_here : (c : Comp) (cs : List Comp) → All (λ x. place x + units_of x < 1000) (c ∷ cs) → place c + units_of c < 1000
low_here c cs low = All-head (λ x. place x + units_of x < 1000) c cs low

low_small : (op : List Comp) → IsLow op → IsSmall op
low_small [] low = record { units = omega arith; comments = omega arith }
low_small (c ∷ []) low = record { units = omega (arith, edits_low c, low_here c [] low.1); comments = omega (arith, comments_low c) }
low_small (c ∷ d ∷ cs) low = absurd (omega (arith, low.0))

low_units : (op : List Comp) → IsLow op → new_units op ≤ 1000
low_units [] low = omega arith
low_units (c ∷ []) low = omega (arith, units_low c, low_here c [] low.1)
low_units (c ∷ d ∷ cs) low = absurd (omega (arith, low.0))

low_room : (op : List Comp) (n : ℕ) → IsLow op → n ≤ 100000 → Room n op
low_room [] n low few = tt
low_room (c ∷ []) n low few = (omega (arith, low_here c [] low.1), tt)
low_room (c ∷ d ∷ cs) n low few = absurd (omega (arith, low.0))

low_total : (past : List Past) → All (λ y. IsLow y.op) past → new_units_of_all (operations past) ≤ 1000 * length past
low_total [] low = omega arith
low_total (x ∷ xs) low =
    let P : Past → Type 0 = λ y. IsLow y.op in
    omega (arith, low_units x.op (All-head P x xs low), low_total xs (All-tail P x xs low))

rooms : (past : List Past) (n : ℕ) → All (λ y. IsLow y.op) past → n ≤ 100000 → All (λ other. Room n other) (operations past)
rooms [] n low few = All-nil (λ other. Room n other)
rooms (x ∷ xs) n low few =
    let P : Past → Type 0 = λ y. IsLow y.op in
    All-cons (λ other. Room n other) x.op (operations xs) (low_room x.op n (All-head P x xs low) few) (rooms xs n (All-tail P x xs low) few)

pub low_ready : (look : Snapshot) → IsLow look.update.op → All (λ y. IsLow y.op) look.past.items → length look.past.items ≤ 100 → (InReach look → look.update.v + length look.past.items ≡ look.version) → InReach look → IsReady look
low_ready look low past few whole reach = record {
  whole = whole reach;
  small = low_small look.update.op low;
  room = (
    low_room look.update.op (new_units_of_all (operations look.past.items)) low (omega (arith, low_total look.past.items past)),
    rooms look.past.items (new_units look.update.op) past (omega (arith, low_units look.update.op low)),
  );
}
