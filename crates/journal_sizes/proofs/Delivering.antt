-- An operation that is delivered at a client's version leaves it stale, or with operations that are sized still, at the next version.
use Rattle.std.proofs.Common.{◌≡◌, ℕ, ◌+◌, List, [], length, Bool, true, false, ◌&&◌, refl, sym, ◌∙◌, subst, eq-eqb, true≢false}
use Rattle.std.specs.Prelude.{Option, Some, None, if◌then◌else◌, nat_lt}
use Rattle.std.proofs.lemmas.Bool.{and_parts}
use Rattle.ot_op.specs.declared.comp.Comp.{Comp}
use Rattle.ot_op.specs.Apply.{applied_all}
use Rattle.ot_transform.specs.Crossing.{crossed}
use Rattle.ot_transform.proofs.Depth.{IfGiven, given_then, given_map, given_any}
use Rattle.journal_entries.specs.declared.message.Msg.TheVariants.{Op}
use Rattle.journal_rules.specs.Documents.{is_in}
use Rattle.journal_rules.specs.Client.{Client, Shift, bounded, delivered, flight_crossed, flight_fits, given_op, has_flight, is_alive, landed, longest_text, places_fit, shifted, shifted_to, stale}
use Rattle.journal_rules.proofs.Sizes as rules
use Rattle.journal_rules.proofs.Sizes.{IsLightFlight, crossed_light}
use Rattle.journal_sizes.specs.Sizes.{AreSized, IsAtEase, IsSized}
use Rattle.journal_sizes.proofs.Clients.{lighter, sized_flight}

pub record IsOnward (s t : Client) : Type 0 where
  pub sized : AreSized t.flight t.pending
  pub next : t.version ≡ s.version + 1

abbrev pub GoesOn : Client → Client → Type 0
GoesOn s t = is_alive t.state ≡ true → IsOnward s t

on_if : (b : Bool) (s t u : Client) → GoesOn s t → GoesOn s u → GoesOn s (if b then t else u)
on_if true s t u on other = on
on_if false s t u on other = other

on_stale : (s t : Client) → GoesOn s (stale t)
on_stale s t lives = absurd (cc)

on_bounded : (s t : Client) → GoesOn s t → GoesOn s (bounded t)
on_bounded s t on = on_if (nat_lt longest_text (length t.text)) s (stale t) t (on_stale s t) on

on_landed : (s : Client) → AreSized s.flight s.pending → GoesOn s (landed s)
on_landed s sized = on_bounded s (record s { flight = None; sources = []; version = s.version + 1 }) (λ lives. record { sized = record { flies = λ f is. absurd (cc); waits = sized.waits }; next = refl })

-- what crossing leaves of them is light, so the bound of places makes it sized
abbrev IsSizedIfLow : Shift → Type 0
IsSizedIfLow x = (flight_fits x.flight && places_fit x.pending) ≡ true → AreSized x.flight x.pending

low_sized : (flight : Option (List Comp)) (pending : List Comp) → IsLightFlight flight → rules.IsLight pending → (flight_fits flight ≡ true) × (places_fit pending ≡ true) → AreSized flight pending
low_sized flight pending flies waits low = record { flies = sized_flight flight flies low.0; waits = record { light = lighter pending waits; low = low.1 } }

shift_sized : (flight : Option (List Comp)) (pending : List Comp) (text : List ℕ) (op : List Comp) → AreSized flight pending → IfGiven (shifted flight pending text op) IsSizedIfLow
shift_sized flight pending text op sized =
    given_then (λ f. IsLightFlight f.0) IsSizedIfLow _ (flight_crossed flight op) (by flight sized.flies)
    (λ f flies. given_then (λ p. rules.IsLight p.0) IsSizedIfLow _ (crossed pending f.1) (crossed_light pending f.1 (sized.waits.light.units, sized.waits.light.comments))
    (λ p waits. given_map (λ t. Unit {0}) IsSizedIfLow _ (applied_all text p.1) (given_any (applied_all text p.1))
    (λ t any low. low_sized f.0 p.0 flies waits (and_parts (flight_fits f.0) (places_fit p.0) low))))
  where
    by : (g : Option (List Comp)) → ((f : List Comp) → g ≡ Some f → IsSized f) → IfGiven (flight_crossed g op) (λ f. IsLightFlight f.0)
    by None flies = tt
    by (Some g) flies = let light = (flies g refl).light in given_map (λ both. rules.IsLight both.0) (λ f. IsLightFlight f.0) _ (crossed g op) (crossed_light g op (light.units, light.comments)) (λ both h. h)

on_shifted : (s : Client) (o : Option Shift) → IfGiven o IsSizedIfLow → GoesOn s (shifted_to s o)
on_shifted s None sized = on_stale s s
on_shifted s (Some x) sized = by (flight_fits x.flight && places_fit x.pending) refl
  where
    t : Client
    t = record s { flight = x.flight; pending = x.pending; text = x.text; version = s.version + 1 }

    by : (b : Bool) → (flight_fits x.flight && places_fit x.pending) ≡ b → GoesOn s (if b then bounded t else stale s)
    by true low = on_bounded s t (λ lives. record { sized = sized low; next = refl })
    by false high = on_stale s s

given_on : (s : Client) (op : List Comp) (source : ℕ) → AreSized s.flight s.pending → GoesOn s (given_op s s.version op source)
given_on s op source sized =
    let moved : Client = shifted_to s (shifted s.flight s.pending s.text op) in
    let next : Client = if has_flight s.flight && is_in source s.sources then landed s else moved in
    subst (λ b. GoesOn s (if b then next else s)) (sym (eq-eqb s.version s.version refl))
    (on_if (has_flight s.flight && is_in source s.sources) s (landed s) moved (on_landed s sized) (on_shifted s (shifted s.flight s.pending s.text op) (shift_sized s.flight s.pending s.text op sized)))

pub goes_on : (s : Client) (op : List Comp) (source : ℕ) → IsAtEase s → GoesOn s (delivered s (Op s.version op source))
goes_on s op source ease = by (is_alive s.state) refl
  where
    by : (b : Bool) → is_alive s.state ≡ b → GoesOn s (if b then given_op s s.version op source else s)
    by true lives = given_on s op source (ease lives)
    by false gone = λ lives. absurd (true≢false (sym lives ∙ gone))
