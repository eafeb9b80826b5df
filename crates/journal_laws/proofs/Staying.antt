-- No bound of a client is ever met.
use Rattle.std.proofs.Common.{◌≡◌, ℕ, zero, suc, ◌+◌, ◌-◌, ◌≤◌, List, [], ◌∷◌, ◌++◌, length, Bool, true, false, ◌&&◌, refl, sym, ap, ap₂, ◌∙◌, subst, inl, inr, ⊎_elim, arith, eqb, eq-eqb, ne_eqb, append-nil, append_assoc, length-append, take, drop}
use Rattle.std.specs.Prelude.{Option, Some, None, if◌then◌else◌, nat_lt, slice_get}
use Rattle.std.proofs.lemmas.Bool.{eqb-true}
use Rattle.std.proofs.lemmas.Bool.Decides.{nat_tests}
use native.Mathlib.Decide.{ℕ_discrete}
use Rattle.ot_op.specs.declared.comp.Comp.{Comp}
use Rattle.ot_op.specs.Apply.{applied_all}
use Rattle.ot_op.specs.Compose.{appended}
use Rattle.ot_op.specs.Operation.{total_units}
use Rattle.ot_transform.specs.Crossing.{crossed}
use Rattle.ot_transform.proofs.Depth.{IfGiven, given_then, given_map, given_any}
use Rattle.ot_transform.proofs.Converging.{given_at}
use Rattle.journal_entries.specs.declared.message.Msg.{Msg}
use Rattle.journal_entries.specs.declared.message.Msg.TheVariants.{Op, Ack, Error}
use Rattle.journal_entries.specs.declared.message.Brief.{Brief}
use Rattle.journal_entries.specs.declared.act.Act.{Act}
use Rattle.journal_entries.specs.declared.act.Act.TheVariants.{Made, Joined as JoinedAct, Edited, Sent, Got, Left as LeftAct}
use Rattle.journal_entries.specs.declared.act.Entry.{Entry}
use Rattle.journal_rules.specs.declared.state.ClientState.TheVariants.{Joined, Left}
use Rattle.journal_rules.specs.Documents.{Making, making_of, makings, first_in, Item, applied_list, base, version, first, replayed, is_in}
use Rattle.journal_rules.specs.Deciding.{longest}
use Rattle.journal_rules.specs.Whys.{most_components, most_units}
use Rattle.journal_rules.specs.Mail.{mail_in, mail}
use Rattle.journal_rules.specs.Client.{longest_text, Client, client, client_by, Shift, shifted, shifted_to, flight_crossed, landed, bounded, stale, has_flight, flight_fits, places_fit, given_op, given, delivered, is_alive, is_of, caught_up, items_between, joined_by, back_under, edited_by, sent_by, got_by, left_by}
use Rattle.journal_rules.specs.Legal.{IsAllowed, IsLegal}
use Rattle.journal_laws.specs.ClientLaw.{flown, Delivers, StaysUnlessRefused}
use Rattle.journal_rules.proofs.Pushing.{makings-push, makings-none, client-push, client-none}
use Rattle.journal_rules.proofs.Legality.{by_last, legal_front, allowed_next}
use Rattle.journal_rules.proofs.Lists.{AllIn, Each, all_in-append, each_at, each_left, some_same, drop_past, take_all}
use Rattle.journal_rules.proofs.Replaying.{ops, replays_on}
use Rattle.journal_laws.proofs.Alive.{IsItem, IsAlive, Shifts, shifts}
use Rattle.journal_laws.proofs.Stepping.{Stepped, step, from_here}
use Rattle.journal_laws.proofs.World.{IsWell}
use Rattle.journal_laws.proofs.ClientsOn.{alive_states, if_true, if_false, delivered_is}
use Rattle.journal_laws.proofs.Everything.{world}
use Rattle.journal_rules.proofs.Sizes.{all_size, edits_least, comments_least, IsLight, IsLightFlight, crossed_light}

-- flight and pending are light
abbrev AreLight : Option (List Comp) → List Comp → Type 0
AreLight flight pending = IsLightFlight flight × IsLight pending

abbrev pub IsSmall : Client → Type 0
IsSmall s = AreLight s.flight s.pending

small_stale : (b : Bool) (s t : Client) → IsSmall s → IsSmall t → IsSmall (if b then s else t)
small_stale true s t a b = a
small_stale false s t a b = b

small_bounded : (s : Client) → IsSmall s → IsSmall (bounded s)
small_bounded s a = small_stale (nat_lt longest_text (length s.text)) (stale s) s a a

small_landed : (s : Client) → IsSmall s → IsSmall (landed s)
small_landed s a = small_bounded (record s { flight = None; sources = []; version = s.version + 1 }) (tt, a.1)

shifted_small : (flight : Option (List Comp)) (pending : List Comp) (text : List ℕ) (op : List Comp) → AreLight flight pending → IfGiven (shifted flight pending text op) (λ x. AreLight x.flight x.pending)
shifted_small flight pending text op light =
    given_then (λ f. IsLightFlight f.0) (λ (x : Shift). AreLight x.flight x.pending) _ (flight_crossed flight op) (by flight light.0)
    (λ f flies. given_then (λ p. IsLight p.0) (λ (x : Shift). AreLight x.flight x.pending) _ (crossed pending f.1) (crossed_light pending f.1 light.1)
    (λ p waits. given_map (λ t. Unit {0}) (λ (x : Shift). AreLight x.flight x.pending) _ (applied_all text p.1) (given_any (applied_all text p.1)) (λ t any. (flies, waits))))
  where
    by : (g : Option (List Comp)) → IsLightFlight g → IfGiven (flight_crossed g op) (λ f. IsLightFlight f.0)
    by None l = tt
    by (Some g) l = given_map (λ both. IsLight both.0) (λ f. IsLightFlight f.0) _ (crossed g op) (crossed_light g op l) (λ both h. h)

small_shifted : (s : Client) (o : Option Shift) → IfGiven o (λ x. AreLight x.flight x.pending) → IsSmall s → IsSmall (shifted_to s o)
small_shifted s None h a = a
small_shifted s (Some x) h a =
    let t : Client = record s { flight = x.flight; pending = x.pending; text = x.text; version = s.version + 1 } in
    small_stale (flight_fits x.flight && places_fit x.pending) (bounded t) (stale s) (small_bounded t h) a

small_op : (s : Client) (v : ℕ) (op : List Comp) (source : ℕ) → IsSmall s → IsSmall (given_op s v op source)
small_op s v op source a =
    small_stale (eqb v s.version) (if has_flight s.flight && is_in source s.sources then landed s else shifted_to s (shifted s.flight s.pending s.text op)) s
    (small_stale (has_flight s.flight && is_in source s.sources) (landed s) (shifted_to s (shifted s.flight s.pending s.text op)) (small_landed s a) (small_shifted s (shifted s.flight s.pending s.text op) (shifted_small s.flight s.pending s.text op a) a)) a

small_given : (s : Client) (m : Msg) → IsSmall s → IsSmall (given s m)
small_given s (Op v op source) a = small_op s v op source a
small_given s (Ack v number) a = small_stale (eqb v s.version && has_flight s.flight) (landed s) s (small_landed s a) a
small_given s (Error number cause) a = small_stale (has_flight s.flight && eqb number s.number) (stale s) s a a

small_delivered : (s : Client) (m : Msg) → IsSmall s → IsSmall (delivered s m)
small_delivered s m a = small_stale (is_alive s.state) (given s m) s (small_given s m a) a

small_caught : (xs : List Item) (s : Client) → IsSmall s → IsSmall (caught_up s xs)
small_caught [] s a = a
small_caught (x ∷ xs) s a = small_caught xs (delivered s (Op x.v x.op x.update.source)) (small_delivered s (Op x.v x.op x.update.source) a)

small_by : (c : ℕ) (h : List Entry) (seat : ℕ) (a : Act) (s : Client) → s ≡ client c h → IsAllowed h seat a → IsSmall s → IsSmall (client_by c h a s)
small_by c h seat (JoinedAct client doc user track None source v) s is row a = small_stale (eqb client c) (joined_by s h doc user track None source v) s (tt, (omega arith, omega arith)) a
small_by c h seat (JoinedAct client doc user track (Some n) source v) s is row a =
    let t : Client = caught_up s (items_between doc n v h) in
    let b : IsSmall t = small_caught (items_between doc n v h) s a in
    small_stale (eqb client c) (back_under source t) s (small_stale (is_alive t.state) (record t { state = Joined; source = source }) t b b) a
small_by c h seat (Edited k comp) s is row a = go (eqb k c) refl
  where
    go : (b : Bool) → eqb k c ≡ b → IsSmall (if b then edited_by s comp else s)
    go true same =
        let mine : k ≡ c = eqb-true k c same in
        let here : client k h ≡ s = ap (λ n. client n h) mine ∙ sym is in
        let long : total_units (appended s.pending comp) ≤ most_units = subst (λ (t : Client). total_units (appended t.pending comp) ≤ most_units) here row.short in
        let few : length (appended s.pending comp) ≤ most_components = subst (λ (t : Client). length (appended t.pending comp) ≤ most_components) here row.few in
        let u = edits_least (appended s.pending comp) in let k = comments_least (appended s.pending comp) in
        (a.0, (omega (arith, u, long), omega (arith, k, few)))
    go false same = a
small_by c h seat (Sent u) s is row a = go (is_of c u.client) s.flight
  where
    go : (b : Bool) (f : Option (List Comp)) → IsSmall (if b then sent_by s f else s)
    go true None = (a.1, (omega arith, omega arith))
    go true (Some f) = a
    go false f = a
small_by c h seat (Got client brief) s is row a = go (eqb client c) (mail c h)
  where
    go : (b : Bool) (ms : List Msg) → IsSmall (if b then got_by s ms else s)
    go true [] = a
    go true (m ∷ ms) = small_delivered s m a
    go false ms = a
small_by c h seat (LeftAct client) s is row a = small_stale (eqb client c) (left_by s) s (small_stale (is_alive s.state) (record s { state = Left }) s a a) a
small_by c h seat _ s is row a = a

pub small : (c : ℕ) (j : List Entry) → IsLegal j → IsSmall (client c j)
small c = by_last (λ j. IsSmall (client c j)) (subst IsSmall (sym (client-none c)) (tt, (omega arith, omega arith)))
    (λ h e legal may a. subst IsSmall (sym (client-push c h e)) (small_by c h e.seat e.act (client c h) refl may a))

-- ---- texts of documents are short
pub all_in_get : {A : Type 0} (P : A → Type 0) (xs : List A) (i : ℕ) (x : A) → slice_get xs i ≡ Some x → AllIn P xs → P x
all_in_get P [] i x e a = absurd (cc)
all_in_get P (y ∷ ys) zero x e a = let same : y ≡ x = cc in subst P same a.0
all_in_get P (y ∷ ys) (suc i) x e a = all_in_get P ys i x e a.1

abbrev IsShort : Making → Type 0
IsShort m = length m.first ≤ longest

pub firsts : (j : List Entry) → IsLegal j → AllIn IsShort (makings j)
firsts = by_last (λ j. AllIn IsShort (makings j)) (subst (AllIn IsShort) (sym makings-none) tt)
    (λ h e legal may a. subst (AllIn IsShort) (sym (makings-push h e)) (all_in-append IsShort (makings h) (making_of e.act) a (by h e.seat e.act may)))
  where
    by : (h : List Entry) (seat : ℕ) (a : Act) → IsAllowed h seat a → AllIn IsShort (making_of a)
    by h seat (Made doc name project first base) row = (row.short, tt)
    by h seat _ row = tt

pub first_short : (d : ℕ) (j : List Entry) → IsLegal j → length (first d j) ≤ longest
first_short d j legal = go (slice_get (makings j) d) refl
  where
    go : (o : Option Making) → slice_get (makings j) d ≡ o → length (first_in o) ≤ longest
    go None e = omega arith
    go (Some m) e = all_in_get IsShort (makings j) d m e (firsts j legal)

short_on : (d : ℕ) (j : List Entry) (before xs : List Item) (here : List ℕ) → length here ≤ longest → replayed (first d j) (ops before) ≡ Some here → Each (IsItem d j) before xs → (to : List ℕ) × (replayed (first d j) (ops (before ++ xs)) ≡ Some to) × (length to ≤ longest)
short_on d j before [] here le is e = (here, ap (λ l. replayed (first d j) (ops l)) (append-nil before) ∙ is, le)
short_on d j before (x ∷ xs) here le is e =
    let r = short_on d j (before ++ x ∷ []) xs e.0.to e.0.short (replays_on (first d j) e.0.here e.0.to before x e.0.here_is e.0.to_is) e.1 in
    (r.0, ap (λ l. replayed (first d j) (ops l)) (sym (append_assoc before (x ∷ []) xs)) ∙ r.1, r.2)

module _ (j : List Entry) (legal : IsLegal j) where
  here_short : (d : ℕ) (seen : List Item) (here : List ℕ) → Each (IsItem d j) [] seen → replayed (first d j) (ops seen) ≡ Some here → length here ≤ longest
  here_short d seen here each is =
      let r = short_on d j [] seen (first d j) (first_short d j legal) refl each in
      let same : length r.0 ≡ length here = ap length (some_same r.0 here (sym r.1 ∙ is)) in
      let l = r.2 in omega (arith, same, l)

  seen_items : (c : ℕ) (s : Client) (seen ahead : List Item) → IsAlive c j s seen ahead → Each (IsItem s.doc j) [] (seen ++ ahead)
  seen_items c s seen ahead al = subst (λ (l : List Item). Each (IsItem s.doc j) [] l) al.split ((world j legal).items s.doc al.made)

  under_flight : (f : Option (List Comp)) (here there : List ℕ) → flown here f ≡ Some there → IsLightFlight f → length here ≤ longest → (length there ≤ longest + most_units) × (flight_fits f ≡ true)
  under_flight None here there e small le = let same : length here ≡ length there = ap length (some_same here there e) in (omega (arith, same, le), refl)
  under_flight (Some f) here there e light le = let u = light.0 in let r = all_size here there f e (omega (arith, u, le)) in let l = r.0 in (omega (arith, l, u, le), r.1)

  in_bound : (n : ℕ) → n ≤ longest_text → nat_lt longest_text n ≡ false
  in_bound n le = grind (arith, nat_tests)

  bounded_is : (s : Client) → length s.text ≤ longest_text → bounded s ≡ s
  bounded_is s le = if_false (nat_lt longest_text (length s.text)) (stale s) s (in_bound (length s.text) le)

  text_short : (c : ℕ) (s : Client) (seen ahead : List Item) (al : IsAlive c j s seen ahead) → IsSmall s → length s.text ≤ longest_text
  text_short c s seen ahead al a =
      let short : length al.here ≤ longest = here_short s.doc seen al.here (each_left (IsItem s.doc j) [] seen ahead (seen_items c s seen ahead al)) al.here_is in
      let f = (under_flight s.flight al.here al.there al.flight_is a.0 short).0 in let a1 = a.1.0 in
      let p = (all_size al.there s.text s.pending al.text_is (omega (arith, f, a1))).0 in
      omega (arith, f, a1, p)

  step_alive : (c : ℕ) (s : Client) (seen : List Item) (x : Item) (rest : List Item) (al : IsAlive c j s seen (x ∷ rest)) → IsSmall s → is_alive s.state ≡ true → is_alive (given_op s x.v x.op x.update.source).state ≡ true
  step_alive c s seen x rest al a lives = go (eqb x.v s.version) (has_flight s.flight && is_in x.update.source s.sources)
    where
      each : Each (IsItem s.doc j) [] (seen ++ x ∷ rest)
      each = seen_items c s seen (x ∷ rest) al

      it : IsItem s.doc j seen x
      it = each_at (IsItem s.doc j) [] seen x rest each

      sh : Shifts s.flight s.pending s.text x.op it.to
      sh = shifts s.flight s.pending s.text x.op al.here al.there it.to al.flight_is al.text_is (from_here c j s seen x rest (world j legal).owned al it)

      light : AreLight sh.shift.flight sh.shift.pending
      light = given_at (λ (y : Shift). AreLight y.flight y.pending) (shifted s.flight s.pending s.text x.op) sh.shift sh.is (shifted_small s.flight s.pending s.text x.op a)

      pass : is_alive (shifted_to s (shifted s.flight s.pending s.text x.op)).state ≡ true
      pass =
          let t : Client = record s { flight = sh.shift.flight; pending = sh.shift.pending; text = sh.shift.text; version = s.version + 1 } in
          let a1 = light.1.0 in
          let u = under_flight sh.shift.flight it.to sh.there sh.flight_is light.0 it.short in
          let f = u.0 in
          let p = all_size sh.there sh.shift.text sh.shift.pending sh.text_is (omega (arith, f, a1)) in
          let l = p.0 in
          let fits : (flight_fits sh.shift.flight && places_fit sh.shift.pending) ≡ true = ap (λ b. b && places_fit sh.shift.pending) u.1 ∙ p.1 in
          let to : shifted_to s (shifted s.flight s.pending s.text x.op) ≡ t =
          ap (shifted_to s) sh.is ∙ if_true (flight_fits sh.shift.flight && places_fit sh.shift.pending) (bounded t) (stale s) fits ∙ bounded_is t (omega (arith, f, a1, l)) in
          ap (λ (k : Client). is_alive k.state) to ∙ lives

      land : is_alive (landed s).state ≡ true
      land = ap (λ (k : Client). is_alive k.state) (bounded_is (record s { flight = None; sources = []; version = s.version + 1 }) (text_short c s seen (x ∷ rest) al a)) ∙ lives

      go : (b own : Bool) → is_alive (if b then (if own then landed s else shifted_to s (shifted s.flight s.pending s.text x.op)) else s).state ≡ true
      go true true = land
      go true false = pass
      go false own = lives

  caught_on : (c : ℕ) (xs : List Item) (s : Client) (seen : List Item) → IsAlive c j s seen xs → IsSmall s → is_alive s.state ≡ true → is_alive (caught_up s xs).state ≡ true
  caught_on c [] s seen al a lives = lives
  caught_on c (x ∷ xs) s seen al a lives =
      let m : Msg = Op x.v x.op x.update.source in
      let is : delivered s m ≡ given_op s x.v x.op x.update.source = delivered_is s m lives in
      let next : is_alive (given_op s x.v x.op x.update.source).state ≡ true = step_alive c s seen x xs al a lives in
      let it : IsItem s.doc j seen x = each_at (IsItem s.doc j) [] seen x xs (seen_items c s seen (x ∷ xs) al) in
      let st : Stepped c j s seen x xs (delivered s m) = subst (Stepped c j s seen x xs) (sym is) (step c j s seen x xs (world j legal).owned al it next) in
      caught_on c xs (delivered s m) (seen ++ x ∷ []) st.alive (small_delivered s m a) (ap (λ (k : Client). is_alive k.state) is ∙ next)

-- a client becomes stale by a refusal of its operation in flight alone
pub stays_well : (c : ℕ) (j : List Entry) (e : Entry) → IsLegal (j ++ e ∷ []) → is_alive (client c j).state ≡ true → StaysUnlessRefused c j e
stays_well c j e legal lives = by e.act refl (allowed_next j e [] legal)
  where
    low : IsLegal j
    low = legal_front j (e ∷ []) legal

    x : IsWell c j (client c j)
    x = (world j low).clients c lives

    on : (a : Act) → e.act ≡ a → is_alive (client_by c j a (client c j)).state ≡ true → StaysUnlessRefused c j e
    on a is h = inl (ap (λ (s : Client). is_alive s.state) (client-push c j e ∙ ap (λ b. client_by c j b (client c j)) is) ∙ h)

    if_both : (b : Bool) (s t : Client) → is_alive s.state ≡ true → is_alive t.state ≡ true → is_alive (if b then s else t).state ≡ true
    if_both true s t p q = p
    if_both false s t p q = q

    back : (source : ℕ) (s : Client) → is_alive s.state ≡ true → is_alive (back_under source s).state ≡ true
    back source s h = if_both (is_alive s.state) (record s { state = Joined; source = source }) s refl h

    ahead_is : (n v doc : ℕ) → (client c j).version ≡ n → (client c j).doc ≡ doc → v ≡ version doc j → items_between doc n v j ≡ x.ahead
    ahead_is n v doc at same v_is =
        let at' = x.alive.at in
        let b : base (client c j).doc j ≡ base doc j = ap (λ m. base m j) same in
        let l : length (applied_list (client c j).doc j) ≡ length x.seen + length x.ahead = ap length x.alive.split ∙ length-append x.seen x.ahead in
        let l' : length (applied_list doc j) ≡ length (applied_list (client c j).doc j) = ap (λ m. length (applied_list m j)) (sym same) in
        let one : n - base doc j ≡ length x.seen = omega (arith, at, at', b) in
        let two : v - n ≡ length x.ahead = omega (arith, at, at', b, l, l', v_is) in
        ap₂ (λ i k. take k (drop i (applied_list doc j))) one two
        ∙ ap (λ l. take (length x.ahead) (drop (length x.seen) l)) (ap (λ m. applied_list m j) (sym same) ∙ x.alive.split)
        ∙ ap (take (length x.ahead)) (drop_past x.seen x.ahead)
        ∙ take_all x.ahead

    rejoins : (doc : ℕ) (user : List ℕ) (track : Bool) (n source v : ℕ) → IsAllowed j e.seat (JoinedAct c doc user track (Some n) source v) → is_alive (joined_by (client c j) j doc user track (Some n) source v).state ≡ true
    rejoins doc user track n source v row =
        let caught : is_alive (caught_up (client c j) x.ahead).state ≡ true = caught_on j low c x.ahead (client c j) x.seen x.alive (small c j low) lives in
        let same : items_between doc n v j ≡ x.ahead = ahead_is n v doc row.since_is row.doc_is row.v_is in
        back source (caught_up (client c j) (items_between doc n v j)) (ap (λ l. is_alive (caught_up (client c j) l).state) same ∙ caught)

    gets : (k : ℕ) (brief : Brief) → k ≡ c → e.act ≡ Got k brief → IsAllowed j e.seat (Got k brief) → StaysUnlessRefused c j e
    gets k brief mine is row =
        let row' : IsAllowed j e.seat (Got c brief) = subst (λ n. IsAllowed j e.seat (Got n brief)) mine row in
        let is' : e.act ≡ Got c brief = is ∙ ap (λ n. Got n brief) mine in
        ⊎_elim {C = StaysUnlessRefused c j e}
        (λ (st : (client c j).state ≡ Joined).
        let p = x.posted st in
        let first : drop p.place.got p.place.posted ≡ row'.message ∷ row'.rest = sym (ap mail_in p.place_is) ∙ row'.first in
        take_it is' row'.message row'.rest row'.first (subst (λ (l : List Msg). Delivers (client c j).source (client c j).version x.ahead l) first p.delivers))
        (λ (st : (client c j).state ≡ Left). let empty : [] ≡ row'.message ∷ row'.rest = sym (ap mail_in (x.gone st)) ∙ row'.first in absurd (cc))
        (alive_states (client c j).state lives)
      where
        by_given : e.act ≡ Got c brief → (m : Msg) (ms : List Msg) → mail c j ≡ m ∷ ms → is_alive (given (client c j) m).state ≡ true → StaysUnlessRefused c j e
        by_given is' m ms mail_is h =
            on (Got c brief) is' (ap (λ (s : Client). is_alive s.state) (if_true (eqb c c) (got_by (client c j) (mail c j)) (client c j) (eq-eqb c c refl) ∙ ap (got_by (client c j)) mail_is ∙ delivered_is (client c j) m lives) ∙ h)

        item_alive : (i : Item) (rest : List Item) → x.ahead ≡ i ∷ rest → is_alive (given_op (client c j) i.v i.op i.update.source).state ≡ true
        item_alive i rest first = step_alive j low c (client c j) x.seen i rest (subst (λ (l : List Item). IsAlive c j (client c j) x.seen l) first x.alive) (small c j low) lives

        landed_alive : (i : Item) (rest : List Item) → x.ahead ≡ i ∷ rest → is_alive (landed (client c j)).state ≡ true
        landed_alive i rest first = ap (λ (k : Client). is_alive k.state) (bounded_is j low (record (client c j) { flight = None; sources = []; version = (client c j).version + 1 }) (text_short j low c (client c j) x.seen x.ahead x.alive (small c j low))) ∙ lives

        take_it : e.act ≡ Got c brief → (m : Msg) (ms : List Msg) → mail c j ≡ m ∷ ms → Delivers (client c j).source (client c j).version x.ahead (m ∷ ms) → StaysUnlessRefused c j e
        take_it is' (Op v op source) ms mail_is f =
            let al : IsAlive c j (client c j) x.seen (f.0 ∷ f.1) = subst (λ (l : List Item). IsAlive c j (client c j) x.seen l) f.2 x.alive in
            let it : IsItem (client c j).doc j x.seen f.0 = each_at (IsItem (client c j).doc j) [] x.seen f.0 f.1 (seen_items j low c (client c j) x.seen (f.0 ∷ f.1) al) in
            let v_is : v ≡ f.0.v = f.3 ∙ al.at ∙ sym it.v_is in
            let same : given (client c j) (Op v op source) ≡ given_op (client c j) f.0.v f.0.op f.0.update.source = ap (λ n. given_op (client c j) n op source) v_is ∙ ap (λ o. given_op (client c j) f.0.v o source) f.4 ∙ ap (given_op (client c j) f.0.v f.0.op) f.5 in
            by_given is' (Op v op source) ms mail_is (ap (λ (k : Client). is_alive k.state) same ∙ item_alive f.0 f.1 f.2)
        take_it is' (Ack v number) ms mail_is (inl f) = by_given is' (Ack v number) ms mail_is (if_both (eqb v (client c j).version && has_flight (client c j).flight) (landed (client c j)) (client c j) (landed_alive f.0 f.1 f.2) lives)
        take_it is' (Ack v number) ms mail_is (inr f) =
            let old : eqb v (client c j).version ≡ false = ne_eqb v (client c j).version (λ same. let l = f.0 in omega (arith, l, same)) in
            by_given is' (Ack v number) ms mail_is (ap (λ b. is_alive (if b && has_flight (client c j).flight then landed (client c j) else client c j).state) old ∙ lives)
        take_it is' (Error number cause) ms mail_is f = err (has_flight (client c j).flight) (eqb number (client c j).number) refl refl
          where
            err : (a b : Bool) → has_flight (client c j).flight ≡ a → eqb number (client c j).number ≡ b → StaysUnlessRefused c j e
            err true true flies same = inr (brief, cause, ms, is', mail_is ∙ ap (λ n. Error n cause ∷ ms) (eqb-true number (client c j).number same), flies)
            err true false flies same = by_given is' (Error number cause) ms mail_is (ap₂ (λ a b. is_alive (if a && b then stale (client c j) else client c j).state) flies same ∙ lives)
            err false b flies same = by_given is' (Error number cause) ms mail_is (ap (λ a. is_alive (if a && eqb number (client c j).number then stale (client c j) else client c j).state) flies ∙ lives)

    by : (a : Act) → e.act ≡ a → IsAllowed j e.seat a → StaysUnlessRefused c j e
    by (JoinedAct k doc user track None source v) is row = on (JoinedAct k doc user track None source v) is (if_both (eqb k c) (joined_by (client c j) j doc user track None source v) (client c j) refl lives)
    by (JoinedAct k doc user track (Some n) source v) is row = go (ℕ_discrete k c)
      where
        go : Dec (k ≡ c) → StaysUnlessRefused c j e
        go (yes mine) = on (JoinedAct k doc user track (Some n) source v) is (if_both (eqb k c) (joined_by (client c j) j doc user track (Some n) source v) (client c j) (rejoins doc user track n source v (subst (λ m. IsAllowed j e.seat (JoinedAct m doc user track (Some n) source v)) mine row)) lives)
        go (no apart) = on (JoinedAct k doc user track (Some n) source v) is (ap (λ (s : Client). is_alive s.state) (if_false (eqb k c) (joined_by (client c j) j doc user track (Some n) source v) (client c j) (ne_eqb k c apart)) ∙ lives)
    by (Edited k comp) is row = on (Edited k comp) is (if_both (eqb k c) (edited_by (client c j) comp) (client c j) lives lives)
    by (Sent u) is row = on (Sent u) is (if_both (is_of c u.client) (sent_by (client c j) (client c j).flight) (client c j) (sends (client c j).flight) lives)
      where
        sends : (f : Option (List Comp)) → is_alive (sent_by (client c j) f).state ≡ true
        sends None = lives
        sends (Some f) = lives
    by (Got k brief) is row = go (ℕ_discrete k c)
      where
        go : Dec (k ≡ c) → StaysUnlessRefused c j e
        go (yes mine) = gets k brief mine is row
        go (no apart) = on (Got k brief) is (ap (λ (s : Client). is_alive s.state) (if_false (eqb k c) (got_by (client c j) (mail c j)) (client c j) (ne_eqb k c apart)) ∙ lives)
    by (LeftAct k) is row = on (LeftAct k) is (if_both (eqb k c) (left_by (client c j)) (client c j) (if_both (is_alive (client c j).state) (record (client c j) { state = Left }) (client c j) refl lives) lives)
    by a is row = on a is lives
