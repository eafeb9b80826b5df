-- An item of its document is delivered to a client.
use Rattle.std.proofs.Common.{◌≡◌, ◌⊎◌, ℕ, ◌+◌, List, [], ◌∷◌, ◌++◌, length, Bool, true, false, true≢false, ◌&&◌, refl, sym, ap, ◌∙◌, subst, inl, inr, ⊎_elim, arith, eqb, eq-eqb, append_assoc, length-append}
use Rattle.std.specs.Prelude.{Option, Some, None, if◌then◌else◌, nat_lt}
use Rattle.ot_op.specs.declared.comp.Comp.{Comp}
use Rattle.ot_op.specs.Apply.{applied_all}
use Rattle.ot_transform.specs.Crossing.{crossed}
use Rattle.journal_entries.specs.declared.update.Update.{Update}
use Rattle.journal_entries.specs.declared.act.Entry.{Entry}
use Rattle.journal_rules.specs.Documents.{Item, applied_list, base, first, is_in}
use Rattle.ot_transform.specs.Crossing.{through}
use Rattle.journal_rules.specs.Client.{Client, shifted, shifted_to, landed, bounded, stale, has_flight, flight_fits, places_fit, given_op, is_alive}
use Rattle.journal_rules.proofs.Lists.{all_in-append, any_in_left, any_in_last, all_any, same_cut, some_same}
use Rattle.journal_rules.proofs.Replaying.{ops, replays_on, goes_through}
use Rattle.journal_laws.proofs.Alive.{Owned, owner_is, IsCopy, IsItem, flown, IsFlying, IsGrounded, IsAlive, Flew, Shifts, shifts}

-- the client that is not stale is the one within its bounds
pub bounded_alive : (s : Client) → is_alive (bounded s).state ≡ true → bounded s ≡ s
bounded_alive s alive = go (nat_lt 4194304 (length s.text)) alive
  where
    go : (b : Bool) → is_alive (if b then stale s else s).state ≡ true → (if b then stale s else s) ≡ s
    go true a = absurd (true≢false (sym a))
    go false a = refl

pub if_alive : (b : Bool) (s s' : Client) → is_alive (if b then s else stale s').state ≡ true → (if b then s else stale s') ≡ s
if_alive true s s' a = refl
if_alive false s s' a = absurd (true≢false (sym a))

-- what a message leaves as it was
pub record Keeps (s t : Client) : Type 0 where
  pub state_is : t.state ≡ s.state
  pub doc_is : t.doc ≡ s.doc
  pub source_is : t.source ≡ s.source
  pub number_is : t.number ≡ s.number
  pub version_is : t.version ≡ s.version + 1

pub record Stepped (c : ℕ) (j : List Entry) (s : Client) (seen : List Item) (x : Item) (rest : List Item) (t : Client) : Type 0 where
  pub alive : IsAlive c j t (seen ++ x ∷ []) rest
  pub keeps : Keeps s t

module _ (c : ℕ) (j : List Entry) (s : Client) (seen : List Item) (x : Item) (rest : List Item) (owned : Owned j) (al : IsAlive c j s seen (x ∷ rest)) (it : IsItem s.doc j seen x) where
  longer : length (seen ++ x ∷ []) ≡ length seen + 1
  longer = length-append seen (x ∷ [])

  split_on : applied_list s.doc j ≡ (seen ++ x ∷ []) ++ rest
  split_on = al.split ∙ sym (append_assoc seen (x ∷ []) rest)

  at_on : s.version + 1 ≡ base s.doc j + length (seen ++ x ∷ [])
  at_on = let a = al.at in omega (arith, a, longer)

  -- it starts where the client stands
  pub from_here : applied_all al.here x.op ≡ Some it.to
  from_here = let same : it.here ≡ al.here = some_same it.here al.here (sym it.here_is ∙ al.here_is) in ap (λ (h : List ℕ). applied_all h x.op) (sym same) ∙ it.to_is

  -- an item under a source of the flight is a copy of it, and has its operation
  pub own : is_in x.update.source s.sources ≡ true → IsFlying j s seen x.update
  own under =
      let mine = al.under_mine x.update.source under in
      let is : x.update.client ≡ Some c = owner_is c j x.update.client x.update.source mine.0 (owned x.ticket x.update it.known) in
      ⊎_elim {C = IsFlying j s seen x.update}
      (λ (f : IsFlying j s seen x.update). f)
      (λ (g : IsGrounded c j s seen x.update). absurd (all_any (IsCopy c x.update.number) seen (it.once c is) (g.done mine.1)))
      (al.filed x.ticket x.update it.known is)

  pub same_op : (f : IsFlying j s seen x.update) → f.flight ≡ x.op
  same_op f =
      let long : length f.past ≡ length it.past = let a = f.from in let b = it.from in omega (arith, a, b) in
      let cut = same_cut f.past f.since it.past it.since (sym f.cut ∙ it.cut) long in
      some_same f.flight x.op (sym f.through_is ∙ ap (λ l. through x.update.op (ops l)) cut.1 ∙ it.passing.is)

  land : (f : IsFlying j s seen x.update) → x.update.client ≡ Some c → Stepped c j s seen x rest (record s { flight = None; sources = []; version = s.version + 1 })
  land f is =
      let to_there : applied_all al.here x.op ≡ Some al.there = ap (applied_all al.here) (sym (same_op f)) ∙ ap (flown al.here) (sym f.flight_is) ∙ al.flight_is in
      let t : Client = record s { flight = None; sources = []; version = s.version + 1 } in
      let alive : IsAlive c j t (seen ++ x ∷ []) rest = record {
        made = al.made;
        split = split_on;
        at = at_on;
        here = al.there;
        there = al.there;
        here_is = replays_on (first s.doc j) al.here al.there seen x al.here_is to_there;
        flight_is = refl;
        text_is = al.text_is;
        filed = λ k u known mine. inr (grounded u (al.filed k u known mine));
        late = λ h. absurd (true≢false (sym h));
        under_mine = λ source h. absurd (true≢false (sym h));
        source_mine = al.source_mine;
      } in
      record { alive = alive; keeps = record { state_is = refl; doc_is = refl; source_is = refl; number_is = refl; version_is = refl } }
    where
      grounded : (u : Update) → IsFlying j s seen u ⊎ IsGrounded c j s seen u → IsGrounded c j (record s { flight = None; sources = []; version = s.version + 1 }) (seen ++ x ∷ []) u
      grounded u (inl g) = record { other = λ h. absurd (true≢false (sym h)); done = λ le. any_in_last (IsCopy c u.number) seen x (is, f.number_is ∙ sym g.number_is) }
      grounded u (inr g) = record { other = λ h. absurd (true≢false (sym h)); done = λ le. any_in_left (IsCopy c u.number) seen (x ∷ []) (g.done le) }

  -- an item of someone else
  apart : (has_flight s.flight && is_in x.update.source s.sources) ≡ false → has_flight s.flight ≡ true → IsCopy c s.number x → ⊥
  apart other_one flies copy = ⊎_elim {C = ⊥}
      (λ (f : IsFlying j s seen x.update). true≢false (sym (both flies f.under) ∙ other_one))
      (λ (g : IsGrounded c j s seen x.update). g.other flies copy.1)
      (al.filed x.ticket x.update it.known copy.0)
    where
      both : {a b : Bool} → a ≡ true → b ≡ true → (a && b) ≡ true
      both {a} {b} p q = ap (λ y. y && b) p ∙ q

  pass : (has_flight s.flight && is_in x.update.source s.sources) ≡ false → (sh : Shifts s.flight s.pending s.text x.op it.to)
      → Stepped c j s seen x rest (record s { flight = sh.shift.flight; pending = sh.shift.pending; text = sh.shift.text; version = s.version + 1 })
  pass other_one sh =
      let t : Client = record s { flight = sh.shift.flight; pending = sh.shift.pending; text = sh.shift.text; version = s.version + 1 } in
      let alive : IsAlive c j t (seen ++ x ∷ []) rest = record {
        made = al.made;
        split = split_on;
        at = at_on;
        here = it.to;
        there = sh.there;
        here_is = replays_on (first s.doc j) al.here it.to seen x al.here_is from_here;
        flight_is = sh.flight_is;
        text_is = sh.text_is;
        filed = λ k u known mine. file u (al.filed k u known mine);
        late = λ h. all_in-append (λ y. IsCopy c s.number y → ⊥) seen (x ∷ []) (al.late (flies s.flight h sh.flew)) (apart other_one (flies s.flight h sh.flew), tt);
        under_mine = al.under_mine;
        source_mine = al.source_mine;
      } in
      record { alive = alive; keeps = record { state_is = refl; doc_is = refl; source_is = refl; number_is = refl; version_is = refl } }
    where
      flies : (f : Option (List Comp)) → has_flight sh.shift.flight ≡ true → Flew f x.op sh.shift.flight → has_flight f ≡ true
      flies None h e = absurd (true≢false (sym h ∙ ap has_flight e))
      flies (Some f) h e = refl

      flew_to : (f : List Comp) (o : Option (List Comp)) → o ≡ Some f → Flew o x.op sh.shift.flight → (g : List Comp) × (other : List Comp) × (crossed f x.op ≡ Some (g, other)) × (sh.shift.flight ≡ Some g)
      flew_to f None e w = absurd (cc)
      flew_to f (Some h) e w = let same : h ≡ f = some_same h f e in (w.0, w.1, ap (λ y. crossed y x.op) (sym same) ∙ w.2, w.3)

      file : (u : Update) → IsFlying j s seen u ⊎ IsGrounded c j s seen u
          → IsFlying j (record s { flight = sh.shift.flight; pending = sh.shift.pending; text = sh.shift.text; version = s.version + 1 }) (seen ++ x ∷ []) u
          ⊎ IsGrounded c j (record s { flight = sh.shift.flight; pending = sh.shift.pending; text = sh.shift.text; version = s.version + 1 }) (seen ++ x ∷ []) u
      file u (inl g) =
          let w = flew_to g.flight s.flight g.flight_is sh.flew in
          inl (record {
            flight = w.0;
            flight_is = w.3;
            number_is = g.number_is;
            doc_is = g.doc_is;
            under = g.under;
            past = g.past;
            since = g.since ++ x ∷ [];
            cut = ap (λ l. l ++ x ∷ []) g.cut ∙ append_assoc g.past g.since (x ∷ []);
            from = g.from;
            through_is = goes_through u.op g.flight w.0 [] g.since x w.1 g.through_is w.2;
          })
      file u (inr g) = inr (record { other = λ h. g.other (flies s.flight h sh.flew); done = λ le. any_in_left (IsCopy c u.number) seen (x ∷ []) (g.done le) })

  -- THE ITEM STEP
  pub step : is_alive (given_op s x.v x.op x.update.source).state ≡ true → Stepped c j s seen x rest (given_op s x.v x.op x.update.source)
  step alive =
      let v : eqb x.v s.version ≡ true = eq-eqb x.v s.version (it.v_is ∙ sym al.at) in
      go (eqb x.v s.version) v (has_flight s.flight && is_in x.update.source s.sources) refl alive
    where
      Out : Client → Type 0
      Out t = Stepped c j s seen x rest t

      second : (a b : Bool) → (a && b) ≡ true → b ≡ true
      second true b h = h
      second false b h = absurd (true≢false (sym h))

      sh : Shifts s.flight s.pending s.text x.op it.to
      sh = shifts s.flight s.pending s.text x.op al.here al.there it.to al.flight_is al.text_is from_here

      go : (b : Bool) → b ≡ true → (mine_too : Bool) → (has_flight s.flight && is_in x.update.source s.sources) ≡ mine_too
          → is_alive (if b then (if mine_too then landed s else shifted_to s (shifted s.flight s.pending s.text x.op)) else s).state ≡ true
          → Stepped c j s seen x rest (if b then (if mine_too then landed s else shifted_to s (shifted s.flight s.pending s.text x.op)) else s)
      go false v mine_too h a = absurd (true≢false (sym v))
      go true v true h a =
          let u = second (has_flight s.flight) (is_in x.update.source s.sources) h in
          let mine = al.under_mine x.update.source u in
          let is : x.update.client ≡ Some c = owner_is c j x.update.client x.update.source mine.0 (owned x.ticket x.update it.known) in
          let t : Client = record s { flight = None; sources = []; version = s.version + 1 } in
          subst (Stepped c j s seen x rest) (sym (bounded_alive t a)) (land (own u) is)
      go true v false h a =
          let t : Client = record s { flight = sh.shift.flight; pending = sh.shift.pending; text = sh.shift.text; version = s.version + 1 } in
          let to : shifted_to s (shifted s.flight s.pending s.text x.op) ≡ shifted_to s (Some sh.shift) = ap (shifted_to s) sh.is in
          let a1 : is_alive (shifted_to s (Some sh.shift)).state ≡ true = sym (ap (λ (k : Client). is_alive k.state) to) ∙ a in
          let in_bounds : shifted_to s (Some sh.shift) ≡ bounded t = if_alive (flight_fits sh.shift.flight && places_fit sh.shift.pending) (bounded t) s a1 in
          let a2 : is_alive (bounded t).state ≡ true = sym (ap (λ (k : Client). is_alive k.state) in_bounds) ∙ a1 in
          subst (Stepped c j s seen x rest) (sym (to ∙ in_bounds ∙ bounded_alive t a2)) (pass h sh)
