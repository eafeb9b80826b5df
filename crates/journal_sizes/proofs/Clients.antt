-- The operations of a client of a legal journal are sized, since its version's text is short and they apply to it.
use Rattle.std.proofs.Common.{◌≡◌, ℕ, zero, suc, ◌+◌, ◌-◌, ◌≤◌, List, [], ◌∷◌, ◌++◌, length, take, true, refl, sym, ap, ◌∙◌, subst, arith}
use Rattle.std.specs.Prelude.{Option, Some, None}
use Rattle.std.specs.Option.{option_and_then}
use Rattle.std.specs.List.{take-map}
use Rattle.ot_op.specs.declared.comp.Comp.{Comp}
use Rattle.ot_op.specs.Apply.{applied_all}
use Rattle.journal_entries.specs.declared.act.Entry.{Entry}
use Rattle.journal_rules.specs.Documents.{IsMade, Item, applied_list, base, first, replayed, text_at}
use Rattle.journal_rules.specs.Deciding.{longest}
use Rattle.journal_rules.specs.Whys.{most_units}
use Rattle.journal_rules.specs.Client.{client, places_fit, flight_fits, is_alive}
use Rattle.journal_rules.specs.Legal.{IsLegal}
use Rattle.journal_rules.proofs.Lists.{Each, some_same}
use Rattle.journal_rules.proofs.Replaying.{ops, replays_on}
use Rattle.journal_rules.proofs.Sizes as rules
use Rattle.journal_rules.proofs.Sizes.{all_size, IsLightFlight}
use Rattle.journal_laws.specs.ClientLaw.{flown, Shows}
use Rattle.journal_laws.proofs.Alive.{IsItem}
use Rattle.journal_laws.proofs.Everything.{world}
use Rattle.journal_laws.proofs.Laws.{shows}
use Rattle.journal_laws.proofs.Staying.{small, first_short}
use Rattle.journal_sizes.specs.Sizes.{IsLight, IsSized, AreSized, IsAtEase}

-- ---- a document's text at a version
short_next : (d : ℕ) (j : List Entry) (before : List Item) (x : Item) (here to : List ℕ) (rest : List (List Comp)) (it : IsItem d j before x) → replayed (first d j) (ops before) ≡ Some here
    → option_and_then (λ next. replayed next rest) (applied_all here x.op) ≡ Some to → replayed it.to rest ≡ Some to
short_next d j before x here to rest it here_is to_is =
    let same : it.here ≡ here = some_same it.here here (sym it.here_is ∙ here_is) in
    let applies : applied_all here x.op ≡ Some it.to = ap (λ h. applied_all h x.op) (sym same) ∙ it.to_is in
    ap (λ o. option_and_then (λ next. replayed next rest) o) (sym applies) ∙ to_is

short_on : (d : ℕ) (j : List Entry) (k : ℕ) (before xs : List Item) (here to : List ℕ) → length here ≤ longest → replayed (first d j) (ops before) ≡ Some here → Each (IsItem d j) before xs → replayed here (ops (take k xs)) ≡ Some to → length to ≤ longest
short_on d j zero before xs here to le is each to_is = let same : length here ≡ length to = ap length (some_same here to to_is) in omega (arith, same, le)
short_on d j (suc k) before [] here to le is each to_is = let same : length here ≡ length to = ap length (some_same here to to_is) in omega (arith, same, le)
short_on d j (suc k) before (x ∷ xs) here to le is each to_is =
    short_on d j k (before ++ x ∷ []) xs each.0.to to each.0.short (replays_on (first d j) each.0.here each.0.to before x each.0.here_is each.0.to_is) each.1
    (short_next d j before x here to (ops (take k xs)) each.0 is to_is)

pub text_short : (d n : ℕ) (j : List Entry) (here : List ℕ) → IsLegal j → IsMade d j → text_at d n j ≡ Some here → length here ≤ longest
text_short d n j here legal made is =
    short_on d j (n - base d j) [] (applied_list d j) (first d j) here (first_short d j legal) refl ((world j legal).items d made)
    (ap (replayed (first d j)) (sym (take-map (λ (x : Item). x.op) (n - base d j) (applied_list d j))) ∙ is)

-- ---- what applies to it
pub light_places : (here to : List ℕ) (op : List Comp) → rules.IsLight op → length here ≤ longest + most_units → applied_all here op ≡ Some to → (places_fit op ≡ true) × (length to ≤ length here + most_units)
light_places here to op light le is =
    let u = light.0 in let r = all_size here to op is (omega (arith, u, le)) in let l = r.0 in (r.1, omega (arith, l, u))

pub under_flight : (f : Option (List Comp)) (here there : List ℕ) → flown here f ≡ Some there → IsLightFlight f → length here ≤ longest → (length there ≤ longest + most_units) × (flight_fits f ≡ true)
under_flight None here there e small le = let same : length here ≡ length there = ap length (some_same here there e) in (omega (arith, same, le), refl)
under_flight (Some f) here there e light le = let r = light_places here there f light (omega (arith, le)) e in let l = r.1 in (omega (arith, l, le), r.0)

pub lighter : (op : List Comp) → rules.IsLight op → IsLight op
lighter op light = record { units = light.0; comments = light.1 }

pub sized_flight : (flight : Option (List Comp)) → IsLightFlight flight → flight_fits flight ≡ true → (f : List Comp) → flight ≡ Some f → IsSized f
sized_flight None light fits f is = absurd (cc)
sized_flight (Some g) light fits f is = let same : g ≡ f = cc in subst IsSized same (record { light = lighter g light; low = fits })

pub client_sized : (c : ℕ) (j : List Entry) → IsLegal j → is_alive (client c j).state ≡ true → AreSized (client c j).flight (client c j).pending
client_sized c j legal lives =
    let s = client c j in
    let sh : Shows c j s = shows c j legal lives in
    let light = small c j legal in
    let short = text_short s.doc s.version j sh.here legal sh.made sh.here_is in
    let u = under_flight s.flight sh.here sh.there sh.flight_is light.0 short in
    record {
      flies = sized_flight s.flight light.0 u.1;
      waits = record { light = lighter s.pending light.1; low = (light_places sh.there s.text s.pending light.1 u.0 sh.text_is).0 };
    }

pub at_ease : (c : ℕ) (j : List Entry) → IsLegal j → IsAtEase (client c j)
at_ease c j legal lives = client_sized c j legal lives
