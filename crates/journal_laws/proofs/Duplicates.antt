-- A duplicate names the item of its number.
use Rattle.std.proofs.Common.{◌≡◌, ◌⊎◌, ℕ, ◌+◌, ◌-◌, ◌<◌, ◌≤◌, List, [], ◌∷◌, ◌++◌, length, map, Bool, true, false, true≢false, ◌&&◌, ◌||◌, refl, sym, ap, ◌∙◌, subst, inl, inr, ⊎_elim, arith, eqb, eq-eqb, append_assoc, length-append, take, drop}
use Rattle.std.specs.Prelude.{Option, Some, None, if◌then◌else◌, nat_lt}
use Rattle.std.specs.Option.{option_and_then}
use Rattle.std.proofs.lemmas.Bool.{cases_lt, eqb-true, ltb-false}
use Rattle.std.proofs.lemmas.List.{take-append-le}
use native.Mathlib.Decide.{ℕ_discrete}
use Rattle.ot_op.specs.declared.comp.Comp.{Comp}
use Rattle.ot_op.specs.Apply.{applied_all}
use Rattle.ot_transform.specs.Crossing.{crossed, Crossed}
use Rattle.journal_entries.specs.declared.update.Update.{Update}
use Rattle.journal_entries.specs.declared.message.Msg.{Msg}
use Rattle.journal_entries.specs.declared.message.Msg.TheVariants.{Op, Ack, Error}
use Rattle.journal_entries.specs.declared.update.Outcome.TheVariants.{Applied, Dup, Refused}
use Rattle.journal_entries.specs.declared.update.Cause.TheVariants.{Future, TooOld, TooLong, StoreFault as StoreFailed}
use Rattle.journal_entries.specs.declared.act.Act.{Act}
use Rattle.journal_entries.specs.declared.act.Act.TheVariants.{Joined as JoinedAct, Edited, Sent, Got, Left as LeftAct, Committed}
use Rattle.journal_entries.specs.declared.act.Entry.{Entry}
use Rattle.journal_rules.specs.declared.state.ClientState.TheVariants.{Joined, Left}
use Rattle.journal_rules.specs.Documents.{Item, items_by, applied_list, base, base_in, version, text, update_of, update_in, update_at, waiting, is_in}
use Rattle.journal_rules.specs.Locks.{clock}
use Rattle.journal_rules.specs.Deciding.{passed_of, decided, concluded, fitted, scanned, moved_on, Scan, Twin, Stuck, Moved, longest}
use Rattle.journal_rules.specs.Mail.{mail}
use Rattle.journal_rules.specs.Client.{Client, client, client_by, Shift, shifted, shifted_to, landed, bounded, stale, has_flight, flight_fits, places_fit, given, delivered, is_alive, is_of, caught_up, items_between, joined_by, back_under, edited_by, sent_by, got_by, left_by, added}
use Rattle.journal_rules.specs.Legal.{IsAllowed, IsLegal}
use Rattle.journal_rules.specs.Documents.{IsMade}
use Rattle.journal_laws.specs.Once.{IsCopy, NamesItem}
use Rattle.journal_rules.proofs.Pushing.{client-push, client-none, applied_list-push}
use Rattle.journal_rules.proofs.Legality.{seam, by_last, take_whole}
use Rattle.journal_rules.proofs.Waits.{waits_sent, update_stays, update_within}
use Rattle.journal_rules.proofs.Fencing.{making_stays, acquired_made}
use Rattle.journal_rules.proofs.Lists.{AllIn, AnyIn, Each, all_in-append, all_in_left, all_any, all_any_way, each_all, each_at, each_left, each_right, same_cut, some_same, cut_at_length}
use Rattle.journal_laws.proofs.Alive.{Mine, OwnedBy, owner_is, start, IsItem, IsFlying, IsGrounded, IsAlive}
use Rattle.journal_laws.proofs.Updates.{update_new, Sends, Fresh, Again}
use Rattle.journal_laws.proofs.World.{World, sent_is, sent_by_client, well}
use Rattle.journal_laws.proofs.Joins.{added_from}
use Rattle.journal_laws.proofs.Everything.{world, nothing_sent}

-- ---- what a decision that finds a duplicate says
pub record FindsTwin (d : ℕ) (h : List Entry) (u : Update) (v : ℕ) : Type 0 where
  pub past : List Item
  pub free : List Item
  pub twin : Item
  pub after : List Item
  pub cut : applied_list d h ≡ past ++ (free ++ twin ∷ after)
  pub from : u.v ≡ base d h + length past
  pub apart : AllIn (λ x. is_in x.update.source u.dup ≡ false) free
  pub inside : is_in twin.update.source u.dup ≡ true
  pub v_is : twin.v ≡ v

record Twins (dup : List ℕ) (w : ℕ) (xs : List Item) : Type 0 where
  free : List Item
  twin : Item
  after : List Item
  cut : xs ≡ free ++ twin ∷ after
  apart : AllIn (λ x. is_in x.update.source dup ≡ false) free
  inside : is_in twin.update.source dup ≡ true
  v_is : twin.v ≡ w

twins : (dup : List ℕ) (op : List Comp) (w : ℕ) (xs : List Item) → scanned dup op (map passed_of xs) ≡ Twin w → Twins dup w xs
twins dup op w [] e = absurd (cc)
twins dup op w (x ∷ xs) e = go (is_in x.update.source dup) refl (crossed op x.op) (λ next f. twins dup next w xs f) e
  where
    go : (b : Bool) → is_in x.update.source dup ≡ b → (r : Crossed) → ((next : List Comp) → scanned dup next (map passed_of xs) ≡ Twin w → Twins dup w xs) → (if b then Twin x.v else moved_on r (λ next. scanned dup next (map passed_of xs))) ≡ Twin w → Twins dup w (x ∷ xs)
    go true h r rest f = record { free = []; twin = x; after = xs; cut = refl; apart = tt; inside = h; v_is = cc }
    go false h None rest f = absurd (cc)
    go false h (Some both) rest f = let t = rest both.0 f in record { free = x ∷ t.free; twin = t.twin; after = t.after; cut = ap (λ l. x ∷ l) t.cut; apart = (h, t.apart); inside = t.inside; v_is = t.v_is }

finds_twin : (d : ℕ) (h : List Entry) (u : Update) (w : ℕ) → decided h d u ≡ Dup w → FindsTwin d h u w
finds_twin d h u w e = first_test (nat_lt (version d h) u.v) refl e
  where
    rest : List Item
    rest = drop (u.v - base d h) (applied_list d h)

    by_fit : (o : List Comp) (next : List ℕ) (b : Bool) → (if b then Refused (TooLong (length next)) else Applied (version d h) o) ≡ Dup w → FindsTwin d h u w
    by_fit o next true e = absurd (cc)
    by_fit o next false e = absurd (cc)

    by_next : (o : List Comp) (r : Option (List ℕ)) → fitted (version d h) o r ≡ Dup w → FindsTwin d h u w
    by_next o None e = absurd (cc)
    by_next o (Some next) e = by_fit o next (nat_lt longest (length next)) e

    by_scan : (s : Scan) → scanned u.dup u.op (map passed_of rest) ≡ s → u.v ≤ version d h → base d h ≤ u.v → concluded (version d h) (text d h) s ≡ Dup w → FindsTwin d h u w
    by_scan (Twin z) moves low high e =
        let same : z ≡ w = cc in
        let t : Twins u.dup w rest = twins u.dup u.op w rest (moves ∙ ap Twin same) in
        let c = cut_at_length (u.v - base d h) (applied_list d h) (omega (arith, low)) in
        record {
          past = take (u.v - base d h) (applied_list d h);
          free = t.free;
          twin = t.twin;
          after = t.after;
          cut = c.0 ∙ ap (λ l. take (u.v - base d h) (applied_list d h) ++ l) t.cut;
          from = let l = c.1 in omega (arith, l, high);
          apart = t.apart;
          inside = t.inside;
          v_is = t.v_is;
        }
    by_scan Stuck moves low high e = absurd (cc)
    by_scan (Moved o) moves low high e = by_next o (option_and_then (λ here. applied_all here o) (text d h)) e

    second_test : (b c : Bool) → nat_lt u.v (base d h) ≡ b → u.v ≤ version d h → (if b || c then Refused (TooOld (version d h)) else concluded (version d h) (text d h) (scanned u.dup u.op (map passed_of rest))) ≡ Dup w → FindsTwin d h u w
    second_test true c b_is low e = absurd (cc)
    second_test false true b_is low e = absurd (cc)
    second_test false false b_is low e = by_scan (scanned u.dup u.op (map passed_of rest)) refl low (ltb-false u.v (base d h) b_is) e

    first_test : (b : Bool) → nat_lt (version d h) u.v ≡ b → (if b then Refused (Future (version d h)) else if nat_lt u.v (base d h) || nat_lt (u.v + 100) (version d h) then Refused (TooOld (version d h)) else concluded (version d h) (text d h) (scanned u.dup u.op (map passed_of rest))) ≡ Dup w → FindsTwin d h u w
    first_test true b_is e = absurd (cc)
    first_test false b_is e = second_test (nat_lt u.v (base d h)) (nat_lt (u.v + 100) (version d h)) refl (ltb-false (version d h) u.v b_is) e

-- ---- sources and numbers, more closely
pub record Origin (c : ℕ) (j : List Entry) (number source : ℕ) : Type 0 where
  pub t : ℕ
  pub u : Update
  pub known : update_at j t ≡ Some u
  pub mine : u.client ≡ Some c
  pub number_is : u.number ≡ number
  pub source_is : u.source ≡ source

pub record IsDone (c : ℕ) (j : List Entry) (number d v : ℕ) : Type 0 where
  pub before : List Item
  pub after : List Item
  pub cut : applied_list d j ≡ before ++ after
  pub at : v ≡ base d j + length before
  pub there : AnyIn (IsCopy c number) before

pub record Second (j : List Entry) : Type 0 where
  pub under_from : (c source : ℕ) → is_in source (client c j).sources ≡ true → Origin c j (client c j).number source
  pub dup_from : (c t : ℕ) (u : Update) (source : ℕ) → update_at j t ≡ Some u → u.client ≡ Some c → is_in source u.dup ≡ true → Origin c j u.number source × (start c (take t j) ≤ source)
  pub source_from : (c t : ℕ) (u : Update) → update_at j t ≡ Some u → u.client ≡ Some c → start c (take t j) ≤ u.source
  pub older : (c t t' : ℕ) (u u' : Update) → update_at j t ≡ Some u → update_at j t' ≡ Some u' → u.client ≡ Some c → u'.client ≡ Some c → u.number < u'.number → start c (take t' j) ≤ u.source → IsDone c j u.number u'.doc u'.v

origin_stays : (c : ℕ) (h : List Entry) (e : Entry) (number source : ℕ) → Origin c h number source → Origin c (h ++ e ∷ []) number source
origin_stays c h e number source o = record { t = o.t; u = o.u; known = update_stays h (e ∷ []) o.t o.u o.known; mine = o.mine; number_is = o.number_is; source_is = o.source_is }

-- the sources of a flight after one entry that is nothing sent by the client
abbrev SameUnder : Client → Client → Type 0
SameUnder s t = (t.sources ≡ []) ⊎ ((t.sources ≡ s.sources) × (t.number ≡ s.number))

under_if : (b : Bool) (s t u : Client) → SameUnder s t → SameUnder s u → SameUnder s (if b then t else u)
under_if true s t u p q = p
under_if false s t u p q = q

under_bounded : (s t : Client) → SameUnder s t → SameUnder s (bounded t)
under_bounded s t p = under_if (nat_lt 4194304 (length t.text)) s (stale t) t p p

under_shifted : (s : Client) (o : Option Shift) → SameUnder s (shifted_to s o)
under_shifted s None = inr (refl, refl)
under_shifted s (Some x) =
    let t : Client = record s { flight = x.flight; pending = x.pending; text = x.text; version = s.version + 1 } in
    under_if (flight_fits x.flight && places_fit x.pending) s (bounded t) (stale s) (under_bounded s t (inr (refl, refl))) (inr (refl, refl))

under_landed : (s : Client) → SameUnder s (landed s)
under_landed s = under_bounded s (record s { flight = None; sources = []; version = s.version + 1 }) (inl refl)

under_delivered : (s : Client) (m : Msg) → SameUnder s (delivered s m)
under_delivered s m = under_if (is_alive s.state) s (given s m) s (by m) (inr (refl, refl))
  where
    by : (m : Msg) → SameUnder s (given s m)
    by (Op v op source) = under_if (eqb v s.version) s (if has_flight s.flight && is_in source s.sources then landed s else shifted_to s (shifted s.flight s.pending s.text op)) s
        (under_if (has_flight s.flight && is_in source s.sources) s (landed s) (shifted_to s (shifted s.flight s.pending s.text op)) (under_landed s) (under_shifted s (shifted s.flight s.pending s.text op))) (inr (refl, refl))
    by (Ack v number) = under_if (eqb v s.version && has_flight s.flight) s (landed s) s (under_landed s) (inr (refl, refl))
    by (Error number cause) = under_if (has_flight s.flight && eqb number s.number) s (stale s) s (inr (refl, refl)) (inr (refl, refl))

under_more : (s t u : Client) → SameUnder s t → SameUnder t u → SameUnder s u
under_more s t u p (inl e) = inl e
under_more s t u (inl f) (inr e) = inl (e.0 ∙ f)
under_more s t u (inr f) (inr e) = inr (e.0 ∙ f.0, e.1 ∙ f.1)

under_caught : (xs : List Item) (s : Client) → SameUnder s (caught_up s xs)
under_caught [] s = inr (refl, refl)
under_caught (x ∷ xs) s = under_more s (delivered s (Op x.v x.op x.update.source)) (caught_up s (x ∷ xs)) (under_delivered s (Op x.v x.op x.update.source)) (under_caught xs (delivered s (Op x.v x.op x.update.source)))

under_by : (c : ℕ) (h : List Entry) (a : Act) (s : Client) → ((u : Update) → a ≡ Sent u → u.client ≡ Some c → ⊥) → SameUnder s (client_by c h a s)
under_by c h (JoinedAct client doc user track None source v) s unsent = under_if (eqb client c) s (joined_by s h doc user track None source v) s (inl refl) (inr (refl, refl))
under_by c h (JoinedAct client doc user track (Some n) source v) s unsent =
    let t : Client = caught_up s (items_between doc n v h) in
    let p : SameUnder s t = under_caught (items_between doc n v h) s in
    under_if (eqb client c) s (back_under source t) s (under_if (is_alive t.state) s (record t { state = Joined; source = source }) t p p) (inr (refl, refl))
under_by c h (Edited client comp) s unsent = under_if (eqb client c) s (edited_by s comp) s (inr (refl, refl)) (inr (refl, refl))
under_by c h (Sent u) s unsent = go (is_of c u.client) refl
  where
    mine : (o : Option ℕ) → is_of c o ≡ true → o ≡ Some c
    mine None e = absurd (true≢false (sym e))
    mine (Some k) e = ap (λ (n : ℕ). Some n) (eqb-true k c e)

    go : (b : Bool) → is_of c u.client ≡ b → SameUnder s (if b then sent_by s s.flight else s)
    go true e = absurd (unsent u refl (mine u.client e))
    go false e = inr (refl, refl)
under_by c h (Got client brief) s unsent = under_if (eqb client c) s (got_by s (mail c h)) s (by (mail c h)) (inr (refl, refl))
  where
    by : (ms : List Msg) → SameUnder s (got_by s ms)
    by [] = inr (refl, refl)
    by (m ∷ ms) = under_delivered s m
under_by c h (LeftAct client) s unsent = under_if (eqb client c) s (left_by s) s (under_if (is_alive s.state) s (record s { state = Left }) s (inr (refl, refl)) (inr (refl, refl))) (inr (refl, refl))
under_by c h _ s unsent = inr (refl, refl)

module _ (h : List Entry) (e : Entry) (legal : IsLegal h) (may : IsAllowed h e.seat e.act) (two : Second h) where
  w : World h
  w = world h legal

  take_old : (t : ℕ) (u : Update) → update_at h t ≡ Some u → take t (h ++ e ∷ []) ≡ take t h
  take_old t u known = let l = update_within h t u known in take-append-le t h (e ∷ []) (omega (arith, l))

  take_new : (t : ℕ) → t ≡ length h → take t (h ++ e ∷ []) ≡ h
  take_new t is = ap (λ n. take n (h ++ e ∷ [])) is ∙ take_whole h (e ∷ [])

  origin_new : (c : ℕ) (u : Update) → update_of e.act ≡ Some u → u.client ≡ Some c → Origin c (h ++ e ∷ []) u.number u.source
  origin_new c u is own = record { t = length h; u = u; known = ap update_in (seam h e []) ∙ is; mine = own; number_is = refl; source_is = refl }

  sent_mine : (c : ℕ) (u : Update) → update_of e.act ≡ Some u → u.client ≡ Some c → client c (h ++ e ∷ []) ≡ sent_by (client c h) (client c h).flight
  sent_mine c u is own = client-push c h e ∙ ap (λ a. client_by c h a (client c h)) (sent_is e.act u is) ∙ ap (λ b. if b then sent_by (client c h) (client c h).flight else client c h) (same u.client own)
    where
      same : (o : Option ℕ) → o ≡ Some c → is_of c o ≡ true
      same None e = absurd (cc)
      same (Some k) e = let q : k ≡ c = cc in eq-eqb k c q

  -- what a Sent makes of the sources
  sent_under : (c : ℕ) (s : Client) (u : Update) → Sends c s (clock h) u → (source : ℕ) → ((n : ℕ) → is_in n s.sources ≡ true → Origin c h s.number n) → Origin c (h ++ e ∷ []) u.number u.source → is_in source (sent_by s s.flight).sources ≡ true → Origin c (h ++ e ∷ []) (sent_by s s.flight).number source
  sent_under c s u (Fresh none is) source old new inside =
      let here : is_in source (s.source ∷ []) ≡ true = ap (λ f. is_in source (sent_by s f).sources) (sym none) ∙ inside in
      let q : source ≡ s.source = ⊎_elim {C = source ≡ s.source} (λ a. absurd (true≢false (sym a))) (λ b. b) (added_from source s.source [] here) in
      let n : (sent_by s s.flight).number ≡ s.number + 1 = ap (λ f. (sent_by s f).number) none in
      record { t = new.t; u = new.u; known = new.known; mine = new.mine; number_is = new.number_is ∙ ap (λ (x : Update). x.number) is ∙ sym n; source_is = new.source_is ∙ ap (λ (x : Update). x.source) is ∙ sym q }
  sent_under c s u (Again g some is) source old new inside =
      let here : is_in source (added s.sources s.source) ≡ true = ap (λ f. is_in source (sent_by s f).sources) (sym some) ∙ inside in
      let n : (sent_by s s.flight).number ≡ s.number = ap (λ f. (sent_by s f).number) some in
      ⊎_elim {C = Origin c (h ++ e ∷ []) (sent_by s s.flight).number source}
      (λ a. subst (λ k. Origin c (h ++ e ∷ []) k source) (sym n) (origin_stays c h e s.number source (old source a)))
      (λ q. record { t = new.t; u = new.u; known = new.known; mine = new.mine; number_is = new.number_is ∙ ap (λ (x : Update). x.number) is ∙ sym n; source_is = new.source_is ∙ ap (λ (x : Update). x.source) is ∙ sym q })
      (added_from source s.source s.sources here)

  under_on : (c source : ℕ) → is_in source (client c (h ++ e ∷ [])).sources ≡ true → Origin c (h ++ e ∷ []) (client c (h ++ e ∷ [])).number source
  under_on c source inside = is_sent (update_of e.act) refl
    where
      quiet : ((u : Update) → e.act ≡ Sent u → u.client ≡ Some c → ⊥) → Origin c (h ++ e ∷ []) (client c (h ++ e ∷ [])).number source
      quiet unsent =
          let p = client-push c h e in
          let here : is_in source (client_by c h e.act (client c h)).sources ≡ true = ap (λ (s : Client). is_in source s.sources) (sym p) ∙ inside in
          ⊎_elim {C = Origin c (h ++ e ∷ []) (client c (h ++ e ∷ [])).number source}
          (λ none. let f : is_in source [] ≡ true = ap (is_in source) (sym none) ∙ here in absurd (true≢false (sym f)))
          (λ same. subst (λ n. Origin c (h ++ e ∷ []) n source) (sym (ap (λ (s : Client). s.number) p ∙ same.1)) (origin_stays c h e (client c h).number source (two.under_from c source (ap (is_in source) (sym same.0) ∙ here))))
          (under_by c h e.act (client c h) unsent)

      sent : (u : Update) → update_of e.act ≡ Some u → (o : Option ℕ) → u.client ≡ o → Dec (o ≡ Some c) → Origin c (h ++ e ∷ []) (client c (h ++ e ∷ [])).number source
      sent u is o o_is (yes mine) =
          let own : u.client ≡ Some c = o_is ∙ mine in
          let r = sent_by_client h e legal may w c u is own in
          let q = sent_mine c u is own in
          subst (λ n. Origin c (h ++ e ∷ []) n source) (sym (ap (λ (s : Client). s.number) q))
          (sent_under c (client c h) u r.1 source (λ n inside. two.under_from c n inside) (origin_new c u is own) (ap (λ (s : Client). is_in source s.sources) (sym q) ∙ inside))
      sent u is o o_is (no apart) = quiet (λ v is' own. let same : Some u ≡ Some v = sym is ∙ ap update_of is' in let q : u ≡ v = some_same u v same in apart (sym o_is ∙ ap (λ (x : Update). x.client) q ∙ own))

      is_sent : (o : Option Update) → update_of e.act ≡ o → Origin c (h ++ e ∷ []) (client c (h ++ e ∷ [])).number source
      is_sent None is = quiet (λ v is' own. let same : None ≡ Some v = sym is ∙ ap update_of is' in absurd (cc))
      is_sent (Some u) is = sent u is u.client refl (decide_client u.client)
        where
          decide_client : (o : Option ℕ) → Dec (o ≡ Some c)
          decide_client None = no (λ q. absurd (cc))
          decide_client (Some k) = go (ℕ_discrete k c)
            where
              go : Dec (k ≡ c) → Dec (Some k ≡ Some c)
              go (yes q) = yes (ap (λ (n : ℕ). Some n) q)
              go (no q) = no (λ r. q (some_same k c r))

  dup_on : (c t : ℕ) (u : Update) (source : ℕ) → update_at (h ++ e ∷ []) t ≡ Some u → u.client ≡ Some c → is_in source u.dup ≡ true → Origin c (h ++ e ∷ []) u.number source × (start c (take t (h ++ e ∷ [])) ≤ source)
  dup_on c t u source known own inside = ⊎_elim {C = Origin c (h ++ e ∷ []) u.number source × (start c (take t (h ++ e ∷ [])) ≤ source)}
      (λ old. (let r = two.dup_from c t u source old own inside in (origin_stays c h e u.number source r.0, subst (λ (j : List Entry). start c j ≤ source) (sym (take_old t u old)) r.1)))
      (λ new.
      let r = sent_by_client h e legal may w c u new.1 own in
      let x = well h e legal may w c r.0 in
      let a = by (client c h) r.1 (λ inner. (two.under_from c source inner, (x.alive.under_mine source inner).1)) in
      (a.0, subst (λ (j : List Entry). start c j ≤ source) (sym (take_new t new.0)) a.1))
      (update_new h e t u known)
    where
      by : (s : Client) → Sends c s (clock h) u → (is_in source s.sources ≡ true → Origin c h s.number source × (start c h ≤ source)) → Origin c (h ++ e ∷ []) u.number source × (start c h ≤ source)
      by s (Fresh none is) from = let f : is_in source [] ≡ true = ap (is_in source) (sym (ap (λ (y : Update). y.dup) is)) ∙ inside in absurd (true≢false (sym f))
      by s (Again g some is) from =
          let a = from (ap (is_in source) (sym (ap (λ (y : Update). y.dup) is)) ∙ inside) in
          (subst (λ n. Origin c (h ++ e ∷ []) n source) (sym (ap (λ (y : Update). y.number) is)) (origin_stays c h e s.number source a.0), a.1)

  sends_source : (c : ℕ) (s : Client) (u : Update) → Sends c s (clock h) u → (u.source ≡ s.source) × (u.v ≡ s.version) × (u.doc ≡ s.doc) × (s.number ≤ u.number)
  sends_source c s u (Fresh f is) = (ap (λ (x : Update). x.source) is, ap (λ (x : Update). x.v) is, ap (λ (x : Update). x.doc) is, let n : u.number ≡ s.number + 1 = ap (λ (x : Update). x.number) is in omega (arith, n))
  sends_source c s u (Again g f is) = (ap (λ (x : Update). x.source) is, ap (λ (x : Update). x.v) is, ap (λ (x : Update). x.doc) is, let n : u.number ≡ s.number = ap (λ (x : Update). x.number) is in omega (arith, n))

  source_on : (c t : ℕ) (u : Update) → update_at (h ++ e ∷ []) t ≡ Some u → u.client ≡ Some c → start c (take t (h ++ e ∷ [])) ≤ u.source
  source_on c t u known own = ⊎_elim {C = start c (take t (h ++ e ∷ [])) ≤ u.source}
      (λ old. subst (λ (j : List Entry). start c j ≤ u.source) (sym (take_old t u old)) (two.source_from c t u old own))
      (λ new.
      let r = sent_by_client h e legal may w c u new.1 own in
      let x = well h e legal may w c r.0 in
      subst (λ (j : List Entry). start c j ≤ u.source) (sym (take_new t new.0)) (subst (λ n. start c h ≤ n) (sym (sends_source c (client c h) u r.1).0) x.alive.source_mine.1))
      (update_new h e t u known)

  base_same : (d : ℕ) → IsMade d h → base d (h ++ e ∷ []) ≡ base d h
  base_same d made = ap base_in (making_stays d h e made)

  done_stays : (c number d v : ℕ) → IsMade d h → IsDone c h number d v → IsDone c (h ++ e ∷ []) number d v
  done_stays c number d v made x = record {
    before = x.before;
    after = x.after ++ items_by d h e.act;
    cut = applied_list-push d h e ∙ ap (λ l. l ++ items_by d h e.act) x.cut ∙ append_assoc x.before x.after (items_by d h e.act);
    at = x.at ∙ ap (λ n. n + length x.before) (sym (base_same d made));
    there = x.there;
  }

  older_new : (c t : ℕ) (u u' : Update) → update_at h t ≡ Some u → u.client ≡ Some c → update_of e.act ≡ Some u' → u'.client ≡ Some c → u.number < u'.number → start c h ≤ u.source → IsDone c (h ++ e ∷ []) u.number u'.doc u'.v
  older_new c t u u' old own new own' less le =
      let r = sent_by_client h e legal may w c u' new own' in
      let x = well h e legal may w c r.0 in
      by (client c h) r.1 x.seen x.ahead x.alive
    where
      by : (s : Client) → Sends c s (clock h) u' → (seen ahead : List Item) → IsAlive c h s seen ahead → IsDone c (h ++ e ∷ []) u.number u'.doc u'.v
      by s sends seen ahead al =
          let f = sends_source c s u' sends in
          let there : AnyIn (IsCopy c u.number) seen = ⊎_elim {C = AnyIn (IsCopy c u.number) seen}
          (λ fly. absurd (flying sends fly))
          (λ (g : IsGrounded c h s seen u). g.done le)
          (al.filed t u old own) in
          let done : IsDone c h u.number s.doc s.version = record { before = seen; after = ahead; cut = al.split; at = al.at; there = there } in
          subst (λ n. IsDone c (h ++ e ∷ []) u.number n u'.v) (sym f.2) (subst (λ n. IsDone c (h ++ e ∷ []) u.number s.doc n) (sym f.1) (done_stays c u.number s.doc s.version al.made done))
        where
          flying : Sends c s (clock h) u' → IsFlying h s seen u → ⊥
          flying (Fresh none is) fly = let q : None ≡ Some fly.flight = sym none ∙ fly.flight_is in cc
          flying (Again g some is) fly = let n : u'.number ≡ s.number = ap (λ (x : Update). x.number) is in let m = fly.number_is in omega (arith, n, m, less)

  older_on : (c t t' : ℕ) (u u' : Update) → update_at (h ++ e ∷ []) t ≡ Some u → update_at (h ++ e ∷ []) t' ≡ Some u' → u.client ≡ Some c → u'.client ≡ Some c → u.number < u'.number → start c (take t' (h ++ e ∷ [])) ≤ u.source → IsDone c (h ++ e ∷ []) u.number u'.doc u'.v
  older_on c t t' u u' known known' own own' less le = ⊎_elim {C = IsDone c (h ++ e ∷ []) u.number u'.doc u'.v}
      (λ old. ⊎_elim {C = IsDone c (h ++ e ∷ []) u.number u'.doc u'.v}
      (λ old'. done_stays c u.number u'.doc u'.v (w.counted c t' u' old' own').1 (two.older c t t' u u' old old' own own' less (subst (λ (j : List Entry). start c j ≤ u.source) (take_old t' u' old') le)))
      (λ new'. older_new c t u u' old own new'.1 own' less (subst (λ (j : List Entry). start c j ≤ u.source) (take_new t' new'.0) le))
      (update_new h e t' u' known'))
      (λ new. ⊎_elim {C = IsDone c (h ++ e ∷ []) u.number u'.doc u'.v}
      (λ old'.
      let r = sent_by_client h e legal may w c u new.1 own in
      let f = (sends_source c (client c h) u r.1).3 in
      let k = (w.counted c t' u' old' own').0 in
      absurd (omega (arith, f, k, less)))
      (λ new'. let same : u ≡ u' = some_same u u' (sym new.1 ∙ new'.1) in let n : u.number ≡ u'.number = ap (λ (x : Update). x.number) same in absurd (omega (arith, n, less)))
      (update_new h e t' u' known'))
      (update_new h e t u known)

pub second : (j : List Entry) → IsLegal j → Second j
second = by_last Second
    (record {
      under_from = λ c source inside. (let f : is_in source [] ≡ true = ap (λ (s : Client). is_in source s.sources) (sym (client-none c)) ∙ inside in absurd (true≢false (sym f)));
      dup_from = λ c t u source known own inside. nothing_sent t u known;
      source_from = λ c t u known own. nothing_sent t u known;
      older = λ c t t' u u' known known' own own' less le. nothing_sent t u known;
    })
    (λ h e legal may two. record { under_from = under_on h e legal may two; dup_from = dup_on h e legal may two; source_from = source_on h e legal may two; older = older_on h e legal may two })

-- ---- a duplicate names the item of its number
module _ (j : List Entry) (legal : IsLegal j) (w : World j) (two : Second j) (d ticket v : ℕ) (u : Update) (known : update_at j ticket ≡ Some u) (c : ℕ) (own : u.client ≡ Some c) (made : IsMade d j) (doc : u.doc ≡ d) (later : List ℕ) (first : waiting d j ≡ ticket ∷ later) (f : FindsTwin d j u v) where
  all : Each (IsItem d j) [] ((f.past ++ f.free) ++ f.twin ∷ f.after)
  all = subst (λ (l : List Item). Each (IsItem d j) [] l) (f.cut ∙ sym (append_assoc f.past f.free (f.twin ∷ f.after))) (w.items d made)

  it : IsItem d j (f.past ++ f.free) f.twin
  it = each_at (IsItem d j) [] (f.past ++ f.free) f.twin f.after all

  -- before the twin no copy of this number stands
  clear : AllIn (λ z. IsCopy c u.number z → ⊥) (f.past ++ f.free)
  clear =
      let R : Item → Type 0 = λ z. IsCopy c u.number z → ⊥ in
      let front : Each (IsItem d j) [] (f.past ++ f.free) = each_left (IsItem d j) [] (f.past ++ f.free) (f.twin ∷ f.after) all in
      all_in-append R f.past f.free
      (each_all (IsItem d j) (λ z. Unit {0}) R [] f.past
      (λ b z low high i any copy. let l = i.low ticket u c known own copy in let a = f.from in omega (arith, l, a, high))
      (each_left (IsItem d j) [] f.past f.free front) (all_any_way f.past))
      (each_all (IsItem d j) (λ (z : Item). is_in z.update.source u.dup ≡ false) R f.past f.free
      (λ b z low high i free copy.
      let sooner : z.ticket < ticket = (subst (AllIn (λ t. z.ticket < t)) first i.early).0 in
      true≢false (sym (w.paired c z.ticket ticket z.update u i.known known copy.0 own copy.1 sooner).0 ∙ free))
      (each_right (IsItem d j) [] f.past f.free front) f.apart)

  from : Origin c j u.number f.twin.update.source × (start c (take ticket j) ≤ f.twin.update.source)
  from = two.dup_from c ticket u f.twin.update.source known own f.inside

  twin_own : f.twin.update.client ≡ Some c
  twin_own =
      let o = from.0 in
      let m : Mine c j o.u.source = subst (λ k. OwnedBy j k o.u.source) o.mine (w.owned o.t o.u o.known) in
      owner_is c j f.twin.update.client f.twin.update.source (subst (Mine c j) o.source_is m) (w.owned f.twin.ticket f.twin.update it.known)

  lower : f.twin.update.number < u.number → ⊥
  lower less =
      let x = two.older c f.twin.ticket ticket f.twin.update u it.known known twin_own own less from.1 in
      let cut : applied_list d j ≡ x.before ++ x.after = ap (λ n. applied_list n j) (sym doc) ∙ x.cut in
      let same_base : base u.doc j ≡ base d j = ap (λ n. base n j) doc in
      let long : length f.past ≡ length x.before = let a = f.from in let b = x.at in omega (arith, a, b, same_base) in
      let past : f.past ≡ x.before = (same_cut f.past (f.free ++ f.twin ∷ f.after) x.before x.after (sym f.cut ∙ cut) long).0 in
      all_any (IsCopy c f.twin.update.number) f.past (all_in_left (λ z. IsCopy c f.twin.update.number z → ⊥) f.past f.free (it.once c twin_own)) (subst (AnyIn (IsCopy c f.twin.update.number)) (sym past) x.there)

  front_of : (P : Item → Type 0) (xs ys us vs : List Item) → xs ++ ys ≡ us ++ vs → length xs ≤ length us → AllIn P us → AllIn P xs
  front_of P [] ys us vs e le a = tt
  front_of P (x ∷ xs) ys [] vs e le a = absurd (omega arith)
  front_of P (x ∷ xs) ys (z ∷ us) vs e le a = let h : z ≡ x = cc in let t : xs ++ ys ≡ us ++ vs = cc in (subst P h a.0, front_of P xs ys us vs t (omega arith) a.1)

  higher : u.number < f.twin.update.number → ⊥
  higher more =
      let o = from.0 in
      let less : o.u.number < f.twin.update.number = let n = o.number_is in omega (arith, n, more) in
      let low : start c (take f.twin.ticket j) ≤ o.u.source = subst (λ n. start c (take f.twin.ticket j) ≤ n) (sym o.source_is) (two.source_from c f.twin.ticket f.twin.update it.known twin_own) in
      let x = two.older c o.t f.twin.ticket o.u f.twin.update o.known it.known o.mine twin_own less low in
      let cut : applied_list d j ≡ x.before ++ x.after = ap (λ n. applied_list n j) (sym it.doc_is) ∙ x.cut in
      let same_base : base f.twin.update.doc j ≡ base d j = ap (λ n. base n j) it.doc_is in
      let inside : length (f.past ++ f.free) ≡ length it.past + length it.since = ap length it.cut ∙ length-append it.past it.since in
      let long : length x.before ≤ length (f.past ++ f.free) = let a = it.from in let b = x.at in omega (arith, a, b, same_base, inside) in
      let there : AnyIn (IsCopy c u.number) x.before = subst (λ n. AnyIn (IsCopy c n) x.before) o.number_is x.there in
      all_any (IsCopy c u.number) x.before (front_of (λ z. IsCopy c u.number z → ⊥) x.before x.after (f.past ++ f.free) (f.twin ∷ f.after) (sym cut ∙ f.cut ∙ sym (append_assoc f.past f.free (f.twin ∷ f.after))) long clear) there

  pub found : NamesItem j d v c u
  found =
      let number : f.twin.update.number ≡ u.number = ⊎_elim {C = f.twin.update.number ≡ u.number}
      (λ (lt : f.twin.update.number < u.number). absurd (lower lt))
      (λ (le : u.number ≤ f.twin.update.number). ⊎_elim {C = f.twin.update.number ≡ u.number}
      (λ (lt : u.number < f.twin.update.number). absurd (higher lt))
      (λ (ge : f.twin.update.number ≤ u.number). omega (arith, le, ge))
      (cases_lt u.number f.twin.update.number))
      (cases_lt f.twin.update.number u.number) in
      record { before = f.past ++ f.free; item = f.twin; after = f.after; stands = f.cut ∙ sym (append_assoc f.past f.free (f.twin ∷ f.after)); v_is = f.v_is; copy = (twin_own, number) }

pub names_item : (j : List Entry) → IsLegal j → (seat d token ticket v : ℕ) → IsAllowed j seat (Committed d token ticket (Dup v)) → (u : Update) → update_at j ticket ≡ Some u → (c : ℕ) → u.client ≡ Some c → NamesItem j d v c u
names_item j legal seat d token ticket v row u known c own =
    let s = waits_sent d ticket j row.rest row.first in
    let doc : u.doc ≡ d = ap (λ (x : Update). x.doc) (some_same u s.0 (sym known ∙ s.1)) ∙ s.2 in
    found j legal (world j legal) (second j legal) d ticket v u known c own (acquired_made d j legal row.holds.acquiring row.holds.held.last) doc row.rest row.first (finds_twin d j u v decided_is)
  where
    decided_is : decided j d u ≡ Dup v
    decided_is = ⊎_elim {C = decided j d u ≡ Dup v}
        (λ r. ap (decided j d) (some_same u r.update (sym known ∙ r.named)) ∙ sym r.outcome_is)
        (λ r. ⊎_elim {C = decided j d u ≡ Dup v} (λ memory. absurd (cc)) (λ fault. let f : Dup v ≡ Refused StoreFailed = fault.outcome_is in absurd (cc)) r)
        row.ends
