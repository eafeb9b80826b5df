-- The updates of a legal journal are sized, and what was applied of them.
use Rattle.std.proofs.Common.{◌≡◌, ◌⊎◌, inl, inr, ℕ, zero, suc, ◌+◌, ◌-◌, ◌<◌, ◌≤◌, List, [], ◌∷◌, ◌++◌, length, take, drop, true, ◌&&◌, refl, sym, ap, ◌∙◌, subst, arith, All, length-drop}
use Rattle.std.specs.Prelude.{Option, Some, None, nat_le}
use Rattle.std.proofs.lemmas.List.{length-map}
use Rattle.std.proofs.lemmas.Bool.{cases_lt}
use Rattle.std.proofs.lemmas.Bool.Decides.{nat_tests}
use Rattle.std.proofs.lemmas.List.Elements.{All-nil, All-cons, All-head, All-tail}
use Rattle.ot_op.specs.declared.comp.Comp.{Comp}
use Rattle.ot_op.specs.Operation.{place, IsWithinLimits}
use Rattle.ot_transform.specs.Crossing.{through}
use Rattle.ot_transform.specs.Room.{new_units_of_all, FitsAll}
use Rattle.ot_transform.specs.Size.{NoLarger}
use Rattle.ot_transform.proofs.Converging.{given_at}
use Rattle.ot_transform.proofs.Following.{through_no_larger}
use Rattle.journal_entries.specs.declared.update.Update.{Update}
use Rattle.journal_entries.specs.declared.act.Entry.{Entry}
use Rattle.journal_rules.specs.Documents.{IsMade, makings, Item, applied_list, operations, base, version, first, replayed, update_at, update_of}
use Rattle.journal_rules.specs.Deciding.{longest, greatest_age}
use Rattle.journal_rules.specs.Locks.{clock}
use Rattle.journal_rules.specs.Client.{client, places_fit, greatest_place}
use Rattle.journal_rules.specs.Legal.{IsAllowed, IsLegal, IsSending}
use Rattle.journal_rules.proofs.Legality.{Keeps, by_last}
use Rattle.journal_rules.proofs.Lists.{AllIn, Each, some_same}
use Rattle.journal_rules.proofs.Replaying.{ops, replays_on}
use Rattle.journal_rules.proofs.Sizes as rules
use Rattle.journal_rules.proofs.Sizes.{edits_least, comments_least}
use Rattle.journal_laws.proofs.Alive.{IsItem}
use Rattle.journal_laws.proofs.World.{sent_is, joined_alive}
use Rattle.journal_laws.proofs.Updates.{update_new, Sends, Fresh, Again, sending_is}
use Rattle.journal_laws.proofs.Everything.{world}
use Rattle.journal_laws.proofs.Unmade.{unmade_applied}
use Rattle.journal_laws.proofs.Staying.{first_short}
use Rattle.journal_sizes.specs.Sizes.{IsSized, AreSized}
use Rattle.journal_sizes.proofs.Rooms.{fits_past}
use Rattle.journal_sizes.proofs.Clients.{client_sized, light_places, lighter}

-- ---- an update
low_tested : (cs : List Comp) → All (λ c. place c ≤ 1000000000) cs → places_fit cs ≡ true
low_tested [] all = refl
low_tested (c ∷ cs) all =
    let h = All-head (λ (x : Comp). place x ≤ 1000000000) c cs all in
    ap (λ b. b && places_fit cs) (is_low (place c) h) ∙ low_tested cs (All-tail (λ (x : Comp). place x ≤ 1000000000) c cs all)
  where
    is_low : (n : ℕ) → n ≤ greatest_place → nat_le n greatest_place ≡ true
    is_low n le = grind (arith, nat_tests)

pub raw_sized : (op : List Comp) → IsWithinLimits op → IsSized op
raw_sized op raw =
    let e = edits_least op in let s = raw.short in let c = comments_least op in let f = raw.few in
    record { light = record { units = omega (arith, e, s); comments = omega (arith, c, f) }; low = low_tested op raw.in_reach }

sent_sized : (h : List Entry) (u : Update) → IsLegal h → IsSending h u u.client → IsSized u.op
sent_sized h u legal sending = by u.client sending
  where
    by_sends : (c : ℕ) → AreSized (client c h).flight (client c h).pending → Sends c (client c h) (clock h) u → IsSized u.op
    by_sends c sized (Fresh none is) = subst IsSized (ap (λ (v : Update). v.op) (sym is)) sized.waits
    by_sends c sized (Again f flies is) = subst IsSized (ap (λ (v : Update). v.op) (sym is)) (sized.flies f flies)

    by : (o : Option ℕ) → IsSending h u o → IsSized u.op
    by None raw = raw_sized u.op raw.within
    by (Some c) sends =
        let is = sending_is c (client c h) (clock h) u sends in
        by_sends c (client_sized c h legal (joined_alive (client c h).state is.0)) is.1

pub update_sized : (t : ℕ) (u : Update) (j : List Entry) → IsLegal j → update_at j t ≡ Some u → IsSized u.op
update_sized t u = by_last (λ j. update_at j t ≡ Some u → IsSized u.op) (λ e. absurd (cc)) more
  where
    more : Keeps (λ j. update_at j t ≡ Some u → IsSized u.op)
    more h e legal may before at = by (update_new h e t u at)
      where
        by : (update_at h t ≡ Some u) ⊎ ((t ≡ length h) × (update_of e.act ≡ Some u)) → IsSized u.op
        by (inl earlier) = before earlier
        by (inr now) = sent_sized h u legal (subst (IsAllowed h e.seat) (sent_is e.act u now.1) may)

-- ---- what was applied
item_sized : (d : ℕ) (j : List Entry) (before : List Item) (x : Item) → IsLegal j → IsMade d j → length (first d j) ≤ longest → (here : List ℕ) → replayed (first d j) (ops before) ≡ Some here → length here ≤ longest → IsItem d j before x → IsSized x.op
item_sized d j before x legal made short here here_is le it =
    let u = update_sized x.ticket x.update j legal it.known in
    let n : NoLarger x.update.op (new_units_of_all (ops it.since)) x.op = given_at (NoLarger x.update.op (new_units_of_all (ops it.since))) (through x.update.op (ops it.since)) x.op it.passing.is (through_no_larger x.update.op (ops it.since)) in
    let l0 = u.light.units in let l1 = u.light.comments in let n0 = n.units in let n1 = n.comments in
    let light : rules.IsLight x.op = (omega (arith, l0, n0), omega (arith, l1, n1)) in
    let same : length it.here ≡ length here = ap length (some_same it.here here (sym it.here_is ∙ here_is)) in
    record { light = lighter x.op light; low = (light_places it.here it.to x.op light (omega (arith, same, le)) it.to_is).0 }

sized_on : (d : ℕ) (j : List Entry) (before xs : List Item) → IsLegal j → IsMade d j → (here : List ℕ) → replayed (first d j) (ops before) ≡ Some here → length here ≤ longest → Each (IsItem d j) before xs → AllIn IsSized (ops xs)
sized_on d j before [] legal made here is le each = tt
sized_on d j before (x ∷ xs) legal made here is le each = (
  item_sized d j before x legal made (first_short d j legal) here is le each.0,
  sized_on d j (before ++ x ∷ []) xs legal made each.0.to (replays_on (first d j) each.0.here each.0.to before x each.0.here_is each.0.to_is) each.0.short each.1,
)

pub items_sized : (d : ℕ) (j : List Entry) → IsLegal j → AllIn IsSized (operations d j)
items_sized d j legal = by (cases_lt d (length (makings j)))
  where
    by : (d < length (makings j)) ⊎ (length (makings j) ≤ d) → AllIn IsSized (operations d j)
    by (inl made) = sized_on d j [] (applied_list d j) legal made (first d j) refl (first_short d j legal) ((world j legal).items d made)
    by (inr unmade) = subst (λ (xs : List Item). AllIn IsSized (ops xs)) (sym (unmade_applied d j legal unmade)) tt

-- ---- parts of what was applied
pub all_in_drop : {A : Type 0} (P : A → Type 0) (n : ℕ) (xs : List A) → AllIn P xs → AllIn P (drop n xs)
all_in_drop P zero xs all = all
all_in_drop P (suc n) [] all = tt
all_in_drop P (suc n) (x ∷ xs) all = all_in_drop P n xs all.1

pub all_in_take : {A : Type 0} (P : A → Type 0) (n : ℕ) (xs : List A) → AllIn P xs → AllIn P (take n xs)
all_in_take P zero xs all = tt
all_in_take P (suc n) [] all = tt
all_in_take P (suc n) (x ∷ xs) all = (all.0, all_in_take P n xs all.1)

pub all_in_all : {A : Type 0} (P : A → Type 0) (xs : List A) → AllIn P xs → All P xs
all_in_all P [] all = All-nil P
all_in_all P (x ∷ xs) all = All-cons P x xs all.0 (all_in_all P xs all.1)

pub operations_sized : (d : ℕ) (j : List Entry) → IsLegal j → All IsSized (operations d j)
operations_sized d j legal = all_in_all IsSized (operations d j) (items_sized d j legal)

-- there is room to move an update past what was applied since its version
pub has_room : (d : ℕ) (u : Update) (j : List Entry) (t : ℕ) → IsLegal j → update_at j t ≡ Some u → base d j ≤ u.v → version d j ≤ u.v + greatest_age → FitsAll u.op (drop (u.v - base d j) (operations d j))
has_room d u j t legal at low young =
    let l = length-drop (u.v - base d j) (operations d j) in
    let m = length-map (applied_list d j) (λ (x : Item). x.op) in
    fits_past u.op (drop (u.v - base d j) (operations d j)) (update_sized t u j legal at) (all_in_drop IsSized (u.v - base d j) (operations d j) (items_sized d j legal)) (omega (arith, l, low, young, m))
