-- What is true of every legal journal: updates and items.
use Rattle.std.proofs.Common.{◌≡◌, ◌≢◌, ◌⊎◌, ℕ, ◌+◌, ◌<◌, ◌≤◌, List, [], ◌∷◌, ◌++◌, length, Bool, true, false, ◌&&◌, refl, sym, ap, ap₂, ◌∙◌, subst, inl, inr, ⊎_elim, arith, eqb, eq-eqb, ne_eqb, length-append}
use Rattle.std.specs.Prelude.{Option, Some, None, if◌then◌else◌, nat_lt, filter}
use Rattle.ot_op.specs.declared.comp.Comp.{Comp}
use Rattle.journal_entries.specs.declared.update.Update.{Update}
use Rattle.journal_entries.specs.declared.message.Msg.{Msg}
use Rattle.journal_entries.specs.declared.message.Msg.TheVariants.{Op, Ack, Error}
use Rattle.journal_entries.specs.declared.update.Outcome.{Outcome}
use Rattle.journal_entries.specs.declared.act.Act.{Act}
use Rattle.journal_entries.specs.declared.act.Act.TheVariants.{Joined as JoinedAct, Edited, Sent, Got, Left as LeftAct, Committed}
use Rattle.journal_entries.specs.declared.act.Entry.{Entry}
use Rattle.journal_rules.specs.declared.state.ClientState.{ClientState}
use Rattle.journal_rules.specs.declared.state.ClientState.TheVariants.{Joined, Left}
use Rattle.journal_rules.specs.Documents.{making_of, makings, committed, sent, base_in, Item, item_of, items_by, applied_list, base, version, update_of, update_at, waiting, is_in}
use Rattle.journal_rules.specs.Locks.{clock}
use Rattle.journal_rules.specs.Mail.{mail, outbox}
use Rattle.journal_rules.specs.Client.{Client, client, client_by, sent_by, has_flight, is_alive, is_of, given, delivered, given_op, shifted, shifted_to, bounded, landed, stale, caught_up, items_between, joined_by, back_under, edited_by, got_by, flight_fits, places_fit, Shift}
use Rattle.journal_rules.specs.Legal.{IsAllowed, IsLegal, IsSending}
use Rattle.journal_rules.specs.Documents.{IsMade}
use Rattle.journal_rules.proofs.Pushing.{applied_list-push, client-push, makings-push}
use Rattle.journal_rules.proofs.Rising.{RisesFrom}
use Rattle.journal_rules.proofs.Waits.{sent_rises, update_within, open_in}
use Rattle.journal_rules.proofs.Fencing.{Quiet, commit_or, made_stays, making_stays, acquired_made}
use Rattle.journal_rules.proofs.Lists.{AllIn, Each, all_in_map, some_same}
use Rattle.journal_laws.proofs.Alive.{Mine, OwnedBy, Owned, start, start_by, start-push, IsItem, IsFlying, IsGrounded, IsAlive}
use Rattle.journal_laws.proofs.Updates.{update_new, mine_stays, Sends, Fresh, Again, sending_is}
use Rattle.journal_laws.proofs.Mailing.{IsPosted}

pub record IsWell (c : ℕ) (j : List Entry) (s : Client) : Type 0 where
  pub seen : List Item
  pub ahead : List Item
  pub alive : IsAlive c j s seen ahead
  pub posted : s.state ≡ Joined → IsPosted c j s ahead
  pub gone : s.state ≡ Left → outbox c j ≡ None

pub record World (j : List Entry) : Type 0 where
  pub owned : Owned j
  pub started : (c : ℕ) → start c j ≤ 1000000 + length j
  pub unmade : (d : ℕ) → length (makings j) ≤ d → applied_list d j ≡ []
  pub items : (d : ℕ) → IsMade d j → Each (IsItem d j) [] (applied_list d j)
  pub counted : (c t : ℕ) (u : Update) → update_at j t ≡ Some u → u.client ≡ Some c → (u.number ≤ (client c j).number) × IsMade u.doc j × (u.v ≤ version u.doc j)
  pub paired : (c t t' : ℕ) (u u' : Update) → update_at j t ≡ Some u → update_at j t' ≡ Some u' → u.client ≡ Some c → u'.client ≡ Some c → u.number ≡ u'.number → t < t' → (is_in u.source u'.dup ≡ true) × (u.doc ≡ u'.doc)
  pub clients : (c : ℕ) → is_alive (client c j).state ≡ true → IsWell c j (client c j)

pub sent_is : (a : Act) (u : Update) → update_of a ≡ Some u → a ≡ Sent u
sent_is (Sent v) u e = ap (λ (x : Update). Sent x) (some_same v u e)
sent_is _ u e = absurd (cc)

pub joined_alive : (st : ClientState) → st ≡ Joined → is_alive st ≡ true
joined_alive st e = ap is_alive e

-- ---- a client's number never falls
bounded_number : (s : Client) → (bounded s).number ≡ s.number
bounded_number s = go (nat_lt 4194304 (length s.text))
  where
    go : (b : Bool) → (if b then stale s else s).number ≡ s.number
    go true = refl
    go false = refl

shifted_number : (s : Client) (o : Option Shift) → (shifted_to s o).number ≡ s.number
shifted_number s None = refl
shifted_number s (Some x) = go (flight_fits x.flight && places_fit x.pending)
  where
    go : (b : Bool) → (if b then bounded (record s { flight = x.flight; pending = x.pending; text = x.text; version = s.version + 1 }) else stale s).number ≡ s.number
    go true = bounded_number (record s { flight = x.flight; pending = x.pending; text = x.text; version = s.version + 1 })
    go false = refl

op_number : (s : Client) (v : ℕ) (op : List Comp) (source : ℕ) → (given_op s v op source).number ≡ s.number
op_number s v op source = go (eqb v s.version) (has_flight s.flight && is_in source s.sources)
  where
    go : (b c : Bool) → (if b then (if c then landed s else shifted_to s (shifted s.flight s.pending s.text op)) else s).number ≡ s.number
    go true true = bounded_number (record s { flight = None; sources = []; version = s.version + 1 })
    go true false = shifted_number s (shifted s.flight s.pending s.text op)
    go false c = refl

given_number : (s : Client) (m : Msg) → (given s m).number ≡ s.number
given_number s (Op v op source) = op_number s v op source
given_number s (Ack v number) = go (eqb v s.version && has_flight s.flight)
  where
    go : (b : Bool) → (if b then landed s else s).number ≡ s.number
    go true = bounded_number (record s { flight = None; sources = []; version = s.version + 1 })
    go false = refl
given_number s (Error number cause) = go (has_flight s.flight && eqb number s.number)
  where
    go : (b : Bool) → (if b then stale s else s).number ≡ s.number
    go true = refl
    go false = refl

pub delivered_number : (s : Client) (m : Msg) → (delivered s m).number ≡ s.number
delivered_number s m = go (is_alive s.state)
  where
    go : (b : Bool) → (if b then given s m else s).number ≡ s.number
    go true = given_number s m
    go false = refl

caught_number : (s : Client) (xs : List Item) → (caught_up s xs).number ≡ s.number
caught_number s [] = refl
caught_number s (x ∷ xs) = caught_number (delivered s (Op x.v x.op x.update.source)) xs ∙ delivered_number s (Op x.v x.op x.update.source)

back_number : (source : ℕ) (s : Client) → (back_under source s).number ≡ s.number
back_number source s = go (is_alive s.state)
  where
    go : (b : Bool) → (if b then record s { state = Joined; source = source } else s).number ≡ s.number
    go true = refl
    go false = refl

number_by : (c : ℕ) (h : List Entry) (a : Act) (s : Client) → s.number ≤ (client_by c h a s).number
number_by c h (JoinedAct client doc user track None source v) s = go (eqb client c)
  where
    go : (b : Bool) → s.number ≤ (if b then joined_by s h doc user track None source v else s).number
    go true = omega arith
    go false = omega arith
number_by c h (JoinedAct client doc user track (Some n) source v) s = go (eqb client c)
  where
    go : (b : Bool) → s.number ≤ (if b then joined_by s h doc user track (Some n) source v else s).number
    go true = let e : (back_under source (caught_up s (items_between doc n v h))).number ≡ s.number = back_number source (caught_up s (items_between doc n v h)) ∙ caught_number s (items_between doc n v h) in omega (arith, e)
    go false = omega arith
number_by c h (Edited client comp) s = go (eqb client c)
  where
    go : (b : Bool) → s.number ≤ (if b then edited_by s comp else s).number
    go true = omega arith
    go false = omega arith
number_by c h (Sent u) s = go (is_of c u.client) s.flight
  where
    go : (b : Bool) (f : Option (List Comp)) → s.number ≤ (if b then sent_by s f else s).number
    go true None = omega arith
    go true (Some f) = omega arith
    go false f = omega arith
number_by c h (Got client brief) s = go (eqb client c) (mail c h)
  where
    go : (b : Bool) (ms : List Msg) → s.number ≤ (if b then got_by s ms else s).number
    go true [] = omega arith
    go true (m ∷ ms) = let e = delivered_number s m in omega (arith, e)
    go false ms = omega arith
number_by c h (LeftAct client) s = go (eqb client c) (is_alive s.state)
  where
    go : (b a : Bool) → s.number ≤ (if b then (if a then record s { state = Left } else s) else s).number
    go true true = omega arith
    go true false = omega arith
    go false a = omega arith
number_by c h _ s = omega arith

pub number_grows : (c : ℕ) (h : List Entry) (e : Entry) → (client c h).number ≤ (client c (h ++ e ∷ [])).number
number_grows c h e = let n = number_by c h e.act (client c h) in let p : (client c (h ++ e ∷ [])).number ≡ (client_by c h e.act (client c h)).number = ap (λ (s : Client). s.number) (client-push c h e) in omega (arith, n, p)

pub is_of_same : (c : ℕ) (o : Option ℕ) → o ≡ Some c → is_of c o ≡ true
is_of_same c None e = absurd (cc)
is_of_same c (Some k) e = eq-eqb k c (some_same k c e)

filter_all : (P : ℕ → Type 0) (p : ℕ → Bool) (xs : List ℕ) → AllIn P xs → AllIn P (filter p xs)
filter_all P p [] a = tt
filter_all P p (x ∷ xs) a = go (p x) (filter_all P p xs a.1)
  where
    go : (b : Bool) → AllIn P (filter p xs) → AllIn P (if b then x ∷ filter p xs else filter p xs)
    go true rest = (a.0, rest)
    go false rest = rest

rises_above : (n : ℕ) (xs : List ℕ) → RisesFrom n xs → AllIn (λ t. n ≤ t) xs
rises_above n [] r = tt
rises_above n (x ∷ xs) r = (r.0, all_in_map (λ t. x + 1 ≤ t) (λ t. n ≤ t) xs (λ t le. let l = r.0 in omega (arith, le, l)) (rises_above (x + 1) xs r.1))

filter_rises : (n : ℕ) (p : ℕ → Bool) (xs : List ℕ) → RisesFrom n xs → (t : ℕ) (rest : List ℕ) → filter p xs ≡ t ∷ rest → AllIn (λ x. t < x) rest
filter_rises n p [] r t rest e = absurd (cc)
filter_rises n p (x ∷ xs) r t rest e = go (p x) (λ f. filter_rises (x + 1) p xs r.1 t rest f) e
  where
    go : (b : Bool) → (filter p xs ≡ t ∷ rest → AllIn (λ y. t < y) rest) → (if b then x ∷ filter p xs else filter p xs) ≡ t ∷ rest → AllIn (λ y. t < y) rest
    go true later f =
        let same : x ≡ t = cc in
        let tail : filter p xs ≡ rest = cc in
        subst (AllIn (λ y. t < y)) tail (filter_all (λ y. t < y) p xs (all_in_map (λ y. x + 1 ≤ y) (λ y. t < y) xs (λ y le. omega (arith, le, same)) (rises_above (x + 1) xs r.1)))
    go false later f = later f

pub waiting_rises : (d t : ℕ) (h : List Entry) (rest : List ℕ) → waiting d h ≡ t ∷ rest → AllIn (λ x. t < x) rest
waiting_rises d t h rest e = filter_rises 0 (open_in (committed h)) (sent d h) (sent_rises d h) t rest e

-- ---- one entry more
module _ (h : List Entry) (e : Entry) (legal : IsLegal h) (may : IsAllowed h e.seat e.act) (w : World h) where
  owned_stays : (client : Option ℕ) (source : ℕ) → OwnedBy h client source → OwnedBy (h ++ e ∷ []) client source
  owned_stays (Some c) source o = mine_stays c h (e ∷ []) source o
  owned_stays None source o = o

  -- what a client sends is of a client that is joined
  pub sent_row : (u : Update) → update_of e.act ≡ Some u → IsSending h u u.client
  sent_row u is = subst (λ a. IsAllowed h e.seat a) (sent_is e.act u is) may

  pub sent_by_client : (c : ℕ) (u : Update) → update_of e.act ≡ Some u → u.client ≡ Some c → ((client c h).state ≡ Joined) × Sends c (client c h) (clock h) u
  sent_by_client c u is own = sending_is c (client c h) (clock h) u (subst (IsSending h u) own (sent_row u is))

  pub well : (c : ℕ) → (client c h).state ≡ Joined → IsWell c h (client c h)
  well c st = w.clients c (joined_alive (client c h).state st)

  sends_source : (c : ℕ) (s : Client) (now : ℕ) (u : Update) → Sends c s now u → (u.source ≡ s.source) × (u.client ≡ Some c) × (u.v ≡ s.version) × (u.doc ≡ s.doc)
  sends_source c s now u (Fresh f is) = (ap (λ (x : Update). x.source) is, ap (λ (x : Update). x.client) is, ap (λ (x : Update). x.v) is, ap (λ (x : Update). x.doc) is)
  sends_source c s now u (Again g f is) = (ap (λ (x : Update). x.source) is, ap (λ (x : Update). x.client) is, ap (λ (x : Update). x.v) is, ap (λ (x : Update). x.doc) is)

  pub owned_on : Owned (h ++ e ∷ [])
  owned_on t u is = ⊎_elim {C = OwnedBy (h ++ e ∷ []) u.client u.source}
      (λ old. owned_stays u.client u.source (w.owned t u old))
      (λ new. owned_stays u.client u.source (fresh u new.1 u.client refl))
      (update_new h e t u is)
    where
      fresh : (u : Update) → update_of e.act ≡ Some u → (o : Option ℕ) → u.client ≡ o → OwnedBy h o u.source
      fresh u is None own = let row : IsSending h u None = subst (IsSending h u) own (sent_row u is) in row.source_low
      fresh u is (Some c) own =
          let s = sent_by_client c u is own in
          let well = well c s.0 in
          subst (Mine c h) (sym (sends_source c (client c h) (clock h) u s.1).0) well.alive.source_mine.0

  longer : length (h ++ e ∷ []) ≡ length h + 1
  longer = length-append h (e ∷ [])

  pub started_on : (c : ℕ) → start c (h ++ e ∷ []) ≤ 1000000 + length (h ++ e ∷ [])
  started_on c =
      let was = w.started c in
      let b = by e.act may in
      let p = start-push c h e in
      omega (arith, b, p, longer)
    where
      by : (a : Act) → IsAllowed h e.seat a → start_by c a (start c h) ≤ 1000000 + length h
      by (JoinedAct client doc user track None source v) row = go (eqb client c)
        where
          go : (b : Bool) → (if b then source else start c h) ≤ 1000000 + length h
          go true = let s = row.source_is in omega (arith, s)
          go false = w.started c
      by _ row = w.started c

  -- what commits is of a document that was made
  pub commit_made : (doc token ticket : ℕ) (outcome : Outcome) → e.act ≡ Committed doc token ticket outcome → IsMade doc h
  commit_made doc token ticket outcome is = let row : IsAllowed h e.seat (Committed doc token ticket outcome) = subst (λ a. IsAllowed h e.seat a) is may in acquired_made doc h legal row.holds.acquiring row.holds.held.last

  -- an entry that commits nothing of a document leaves its applied list
  pub items_none : (d : ℕ) → Quiet e.act ⊎ ((doc : ℕ) × (token : ℕ) × (ticket : ℕ) × (outcome : Outcome) × (e.act ≡ Committed doc token ticket outcome) × (doc ≢ d)) → items_by d h e.act ≡ []
  items_none d (inl q) = q.items_none d h
  items_none d (inr c) = ap (items_by d h) c.4 ∙ ap (λ b. if b then item_of c.2 (update_at h c.2) c.3 else []) (ne_eqb c.0 d c.5)

  pub unmade_on : (d : ℕ) → length (makings (h ++ e ∷ [])) ≤ d → applied_list d (h ++ e ∷ []) ≡ []
  unmade_on d le =
      let more : length (makings (h ++ e ∷ [])) ≡ length (makings h) + length (making_of e.act) = ap length (makings-push h e) ∙ length-append (makings h) (making_of e.act) in
      let low : length (makings h) ≤ d = omega (arith, le, more) in
      let nothing : items_by d h e.act ≡ [] = ⊎_elim {C = items_by d h e.act ≡ []}
      (λ c. items_none d (inr (c.0, c.1, c.2, c.3, c.4, λ same. let m = commit_made c.0 c.1 c.2 c.3 c.4 in omega (arith, m, low, same))))
      (λ q. items_none d (inl q))
      (commit_or e.act) in
      applied_list-push d h e ∙ ap₂ (λ x y. x ++ y) (w.unmade d low) nothing

  pub version_grows : (d : ℕ) → IsMade d h → version d h ≤ version d (h ++ e ∷ [])
  version_grows d made =
      let b : base d (h ++ e ∷ []) ≡ base d h = ap base_in (making_stays d h e made) in
      let l : length (applied_list d (h ++ e ∷ [])) ≡ length (applied_list d h) + length (items_by d h e.act) = ap length (applied_list-push d h e) ∙ length-append (applied_list d h) (items_by d h e.act) in
      omega (arith, b, l)

  pub counted_on : (c t : ℕ) (u : Update) → update_at (h ++ e ∷ []) t ≡ Some u → u.client ≡ Some c → (u.number ≤ (client c (h ++ e ∷ [])).number) × IsMade u.doc (h ++ e ∷ []) × (u.v ≤ version u.doc (h ++ e ∷ []))
  counted_on c t u is own = ⊎_elim {C = (u.number ≤ (client c (h ++ e ∷ [])).number) × IsMade u.doc (h ++ e ∷ []) × (u.v ≤ version u.doc (h ++ e ∷ []))}
      (λ old. let x = w.counted c t u old own in (let a = x.0 in let g = number_grows c h e in omega (arith, a, g), made_stays u.doc h e x.1, let a = x.2 in let g = version_grows u.doc x.1 in omega (arith, a, g)))
      (λ new. fresh new.1)
      (update_new h e t u is)
    where
      after : update_of e.act ≡ Some u → client c (h ++ e ∷ []) ≡ sent_by (client c h) (client c h).flight
      after is = client-push c h e ∙ ap (λ a. client_by c h a (client c h)) (sent_is e.act u is) ∙ ap (λ b. if b then sent_by (client c h) (client c h).flight else client c h) (is_of_same c u.client own)

      number : (s : Client) (now : ℕ) → Sends c s now u → u.number ≤ (sent_by s s.flight).number
      number s now (Fresh f is) = let a : (sent_by s s.flight).number ≡ s.number + 1 = ap (λ x. (sent_by s x).number) f in let b : u.number ≡ s.number + 1 = ap (λ (x : Update). x.number) is in omega (arith, a, b)
      number s now (Again g f is) = let a : (sent_by s s.flight).number ≡ s.number = ap (λ x. (sent_by s x).number) f in let b : u.number ≡ s.number = ap (λ (x : Update). x.number) is in omega (arith, a, b)

      fresh : update_of e.act ≡ Some u → (u.number ≤ (client c (h ++ e ∷ [])).number) × IsMade u.doc (h ++ e ∷ []) × (u.v ≤ version u.doc (h ++ e ∷ []))
      fresh is =
          let s = sent_by_client c u is own in
          let x = well c s.0 in
          let f = sends_source c (client c h) (clock h) u s.1 in
          let n = number (client c h) (clock h) s.1 in
          let a : (client c (h ++ e ∷ [])).number ≡ (sent_by (client c h) (client c h).flight).number = ap (λ (s : Client). s.number) (after is) in
          let made : IsMade u.doc h = subst (λ d. IsMade d h) (sym f.3) x.alive.made in
          let high : (client c h).version ≤ version (client c h).doc h =
          let at = x.alive.at in let l : length (applied_list (client c h).doc h) ≡ length x.seen + length x.ahead = ap length x.alive.split ∙ length-append x.seen x.ahead in omega (arith, at, l) in
          let here : version u.doc h ≡ version (client c h).doc h = ap (λ d. version d h) f.3 in
          (omega (arith, n, a), made_stays u.doc h e made, let g = version_grows u.doc made in let v = f.2 in omega (arith, g, v, high, here))

  pub paired_on : (c t t' : ℕ) (u u' : Update) → update_at (h ++ e ∷ []) t ≡ Some u → update_at (h ++ e ∷ []) t' ≡ Some u' → u.client ≡ Some c → u'.client ≡ Some c → u.number ≡ u'.number → t < t' → (is_in u.source u'.dup ≡ true) × (u.doc ≡ u'.doc)
  paired_on c t t' u u' is is' own own' number lt = ⊎_elim {C = (is_in u.source u'.dup ≡ true) × (u.doc ≡ u'.doc)}
      (λ old. ⊎_elim {C = (is_in u.source u'.dup ≡ true) × (u.doc ≡ u'.doc)}
      (λ old'. w.paired c t t' u u' old old' own own' number lt)
      (λ new'. later old new'.1)
      (update_new h e t' u' is'))
      (λ new. let l = update_within (h ++ e ∷ []) t' u' is' in let a = new.0 in absurd (omega (arith, l, a, lt, longer)))
      (update_new h e t u is)
    where
      by : (s : Client) (now : ℕ) (seen : List Item) → Sends c s now u' → u.number ≤ s.number → IsFlying h s seen u ⊎ IsGrounded c h s seen u → (is_in u.source u'.dup ≡ true) × (u.doc ≡ u'.doc)
      by s now seen (Fresh f same) le filed = let b : u'.number ≡ s.number + 1 = ap (λ (x : Update). x.number) same in absurd (omega (arith, b, le, number))
      by s now seen (Again g f same) le (inl fly) = (ap (is_in u.source) (ap (λ (x : Update). x.dup) same) ∙ fly.under, fly.doc_is ∙ sym (ap (λ (x : Update). x.doc) same))
      by s now seen (Again g f same) le (inr ground) = absurd (ground.other (ap has_flight f) (number ∙ ap (λ (x : Update). x.number) same))

      later : update_at h t ≡ Some u → update_of e.act ≡ Some u' → (is_in u.source u'.dup ≡ true) × (u.doc ≡ u'.doc)
      later old new =
          let s = sent_by_client c u' new own' in
          let x = well c s.0 in
          by (client c h) (clock h) x.seen s.1 (w.counted c t u old own).0 (x.alive.filed t u old own)
