-- A client sends, or joins.
use Rattle.std.proofs.Common.{◌≡◌, ◌⊎◌, ℕ, ◌+◌, ◌-◌, ◌≤◌, List, [], ◌∷◌, ◌++◌, length, Bool, true, false, true≢false, ◌||◌, refl, sym, ap, ap₂, ◌∙◌, subst, inl, inr, ⊎_elim, arith, eqb, eq-eqb, append-nil, length-append, take, drop}
use Rattle.std.specs.Prelude.{Option, Some, None, if◌then◌else◌, unwrap_or}
use Rattle.std.proofs.lemmas.Bool.{eqb-true, or_cases, or_left, or_right}
use Rattle.std.proofs.lemmas.List.Folds.{list_any-append}
use Rattle.ot_op.specs.declared.comp.Comp.{Comp}
use Rattle.ot_op.specs.Apply.{applied_all}
use Rattle.journal_entries.specs.declared.update.Update.{Update}
use Rattle.journal_entries.specs.declared.act.Act.TheVariants.{Joined as JoinedAct}
use Rattle.journal_entries.specs.declared.act.Entry.{Entry}
use Rattle.journal_rules.specs.declared.state.ClientState.TheVariants.{Joined}
use Rattle.journal_rules.specs.Documents.{Item, items_by, applied_list, base, first, base_in, first_in, version, text_at, replayed, update_of, update_at, is_in}
use Rattle.ot_transform.specs.Crossing.{through}
use Rattle.journal_rules.specs.Locks.{clock}
use Rattle.journal_rules.specs.Mail.{outbox}
use Rattle.journal_rules.specs.Client.{Client, sent_by, added, is_alive, caught_up, items_between, joined_anew, back_under, update_from}
use Rattle.journal_rules.specs.Legal.{IsAllowed, IsLegal}
use Rattle.journal_rules.specs.Documents.{IsMade}
use Rattle.journal_rules.proofs.Fencing.{made_stays, making_stays}
use Rattle.journal_rules.proofs.Lists.{AllIn, Each, each_all, each_left, each_right, all_any_way, drop_past, take_all, some_same}
use Rattle.journal_rules.proofs.Replaying.{ops}
use Rattle.journal_laws.proofs.Alive.{Mine, OwnedBy, joiner_of, start, start_by, start-push, IsCopy, IsItem, flown, IsFlying, IsGrounded, IsAlive}
use Rattle.journal_laws.proofs.Updates.{update_new, mine_stays, mine_below, mine_new, Sends, Fresh, Again, text_at_version}
use Rattle.journal_laws.proofs.World.{IsWell, World}
use Rattle.journal_laws.proofs.ClientsOn.{retyped, Caught, catch, text_exists, stays, same_list}

pub is_in-append : (x : ℕ) (xs ys : List ℕ) → is_in x (xs ++ ys) ≡ (is_in x xs || is_in x ys)
is_in-append x xs ys = list_any-append (λ y. eqb y x) xs ys

in_one : (x y : ℕ) → is_in x (y ∷ []) ≡ true → x ≡ y
in_one x y e = ⊎_elim {C = x ≡ y} (λ a. sym (eqb-true y x a)) (λ b. absurd (true≢false (sym b))) (or_cases (eqb y x) false e)

one_in : (x y : ℕ) → x ≡ y → is_in x (y ∷ []) ≡ true
one_in x y e = or_left (eqb y x) false (eq-eqb y x (sym e))

pub added_keeps : (x source : ℕ) (under : List ℕ) → is_in x under ≡ true → is_in x (added under source) ≡ true
added_keeps x source under e = go (is_in source under)
  where
    go : (b : Bool) → is_in x (if b then under else under ++ source ∷ []) ≡ true
    go true = e
    go false = is_in-append x under (source ∷ []) ∙ or_left (is_in x under) (is_in x (source ∷ [])) e

pub added_has : (x source : ℕ) (under : List ℕ) → x ≡ source → is_in x (added under source) ≡ true
added_has x source under e = go (is_in source under) refl
  where
    go : (b : Bool) → is_in source under ≡ b → is_in x (if b then under else under ++ source ∷ []) ≡ true
    go true is = ap (λ n. is_in n under) e ∙ is
    go false is = is_in-append x under (source ∷ []) ∙ or_right (is_in x under) (is_in x (source ∷ [])) (one_in x source e)

pub added_from : (x source : ℕ) (under : List ℕ) → is_in x (added under source) ≡ true → (is_in x under ≡ true) ⊎ (x ≡ source)
added_from x source under = go (is_in source under)
  where
    go : (b : Bool) → is_in x (if b then under else under ++ source ∷ []) ≡ true → (is_in x under ≡ true) ⊎ (x ≡ source)
    go true e = inl e
    go false e = ⊎_elim {C = (is_in x under ≡ true) ⊎ (x ≡ source)} (λ a. inl a) (λ b. inr (in_one x source b)) (or_cases (is_in x under) (is_in x (source ∷ [])) (sym (is_in-append x under (source ∷ [])) ∙ e))

module _ (h : List Entry) (e : Entry) (legal : IsLegal h) (may : IsAllowed h e.seat e.act) (w : World h) (c : ℕ) (nothing : (d : ℕ) → items_by d h e.act ≡ []) where
  base_on : (d : ℕ) → IsMade d h → base d (h ++ e ∷ []) ≡ base d h
  base_on d made = ap base_in (making_stays d h e made)

  first_on : (d : ℕ) → IsMade d h → first d (h ++ e ∷ []) ≡ first d h
  first_on d made = ap first_in (making_stays d h e made)

  list_on : (d : ℕ) → applied_list d (h ++ e ∷ []) ≡ applied_list d h
  list_on d = same_list h e legal may w c d (nothing d) ∙ append-nil (applied_list d h)

  -- ---- it sends
  module _ (s : Client) (x : IsWell c h s) (u : Update) (is : update_of e.act ≡ Some u) (own : u.client ≡ Some c) (same_start : start c (h ++ e ∷ []) ≡ start c h) (same_room : outbox c (h ++ e ∷ []) ≡ outbox c h) (counts : (t : ℕ) (u : Update) → update_at h t ≡ Some u → u.client ≡ Some c → u.number ≤ s.number) where
    al : IsAlive c h s x.seen x.ahead
    al = x.alive

    start_on : (source : ℕ) → Mine c h source × (start c h ≤ source) → Mine c (h ++ e ∷ []) source × (start c (h ++ e ∷ []) ≤ source)
    start_on source m = (mine_stays c h (e ∷ []) source m.0, subst (λ n. n ≤ source) (sym same_start) m.1)

    the_one : (v : Update) → update_of e.act ≡ Some v → v ≡ u
    the_one v sent = some_same v u (sym sent ∙ is)

    at_on : s.version ≡ base s.doc (h ++ e ∷ []) + length x.seen
    at_on = al.at ∙ ap (λ n. n + length x.seen) (sym (base_on s.doc al.made))

    fresh_well : s.flight ≡ None → u ≡ update_from c s (clock h) (s.number + 1) s.pending [] → IsWell c (h ++ e ∷ []) (record s { flight = Some s.pending; pending = []; number = s.number + 1; sources = s.source ∷ [] })
    fresh_well none u_is =
        let t : Client = record s { flight = Some s.pending; pending = []; number = s.number + 1; sources = s.source ∷ [] } in
        let same : al.here ≡ al.there = some_same al.here al.there (ap (flown al.here) (sym none) ∙ al.flight_is) in
        let alive : IsAlive c (h ++ e ∷ []) t x.seen x.ahead = record {
          made = made_stays s.doc h e al.made;
          split = list_on s.doc ∙ al.split;
          at = at_on;
          here = al.here;
          there = s.text;
          here_is = ap (λ f. replayed f (ops x.seen)) (first_on s.doc al.made) ∙ al.here_is;
          flight_is = ap (λ (f : List ℕ). applied_all f s.pending) same ∙ al.text_is;
          text_is = refl;
          filed = λ n v known mine. ⊎_elim {C = IsFlying (h ++ e ∷ []) t x.seen v ⊎ IsGrounded c (h ++ e ∷ []) t x.seen v}
              (λ old. inr (old_one v (counts n v old mine) (al.filed n v old mine)))
              (λ new. inl (new_one v (the_one v new.1)))
              (update_new h e n v known);
          late = λ f. late_one;
          under_mine = λ source inside. start_on source (let q = in_one source s.source inside in subst (λ n. Mine c h n × (start c h ≤ n)) (sym q) al.source_mine);
          source_mine = start_on s.source al.source_mine;
        } in
        record { seen = x.seen; ahead = x.ahead; alive = alive; posted = λ j. (let p = x.posted j in record { place = p.place; place_is = same_room ∙ p.place_is; doc_is = p.doc_is; source_is = p.source_is; within = p.within; delivers = p.delivers }); gone = λ l. same_room ∙ x.gone l }
      where
        old_one : (v : Update) → v.number ≤ s.number → IsFlying h s x.seen v ⊎ IsGrounded c h s x.seen v → IsGrounded c (h ++ e ∷ []) (record s { flight = Some s.pending; pending = []; number = s.number + 1; sources = s.source ∷ [] }) x.seen v
        old_one v le (inl fly) = let f : None ≡ Some fly.flight = sym none ∙ fly.flight_is in absurd (cc)
        old_one v le (inr g) = record { other = λ f same. omega (arith, le, same); done = λ low. g.done (subst (λ n. n ≤ v.source) same_start low) }

        new_one : (v : Update) → v ≡ u → IsFlying (h ++ e ∷ []) (record s { flight = Some s.pending; pending = []; number = s.number + 1; sources = s.source ∷ [] }) x.seen v
        new_one v same =
            let v_is : v ≡ update_from c s (clock h) (s.number + 1) s.pending [] = same ∙ u_is in
            record {
              flight = s.pending;
              flight_is = refl;
              number_is = ap (λ (y : Update). y.number) v_is;
              doc_is = ap (λ (y : Update). y.doc) v_is;
              under = one_in v.source s.source (ap (λ (y : Update). y.source) v_is);
              past = x.seen;
              since = [];
              cut = sym (append-nil x.seen);
              from = ap (λ (y : Update). y.v) v_is ∙ at_on;
              through_is = ap (λ (y : Update). through y.op []) v_is;
            }

        late_one : AllIn (λ y. IsCopy c (s.number + 1) y → ⊥) x.seen
        late_one = each_all (IsItem s.doc h) (λ y. Unit {0}) (λ y. IsCopy c (s.number + 1) y → ⊥) [] x.seen
            (λ b y low high it any copy. let n = counts y.ticket y.update it.known copy.0 in let m = copy.1 in omega (arith, n, m))
            (each_left (IsItem s.doc h) [] x.seen x.ahead (subst (λ (l : List Item). Each (IsItem s.doc h) [] l) al.split (w.items s.doc al.made)))
            (all_any_way x.seen)

    again_well : (g : List Comp) → s.flight ≡ Some g → u ≡ update_from c s (clock h) s.number g s.sources → IsWell c (h ++ e ∷ []) (record s { sources = added s.sources s.source })
    again_well g some_g u_is =
        let t : Client = record s { sources = added s.sources s.source } in
        let alive : IsAlive c (h ++ e ∷ []) t x.seen x.ahead = record {
          made = made_stays s.doc h e al.made;
          split = list_on s.doc ∙ al.split;
          at = at_on;
          here = al.here;
          there = al.there;
          here_is = ap (λ f. replayed f (ops x.seen)) (first_on s.doc al.made) ∙ al.here_is;
          flight_is = al.flight_is;
          text_is = al.text_is;
          filed = λ n v known mine. ⊎_elim {C = IsFlying (h ++ e ∷ []) t x.seen v ⊎ IsGrounded c (h ++ e ∷ []) t x.seen v}
              (λ old. old_one v (al.filed n v old mine))
              (λ new. inl (new_one v (the_one v new.1)))
              (update_new h e n v known);
          late = al.late;
          under_mine = λ source inside. start_on source (⊎_elim {C = Mine c h source × (start c h ≤ source)} (λ a. al.under_mine source a) (λ b. subst (λ n. Mine c h n × (start c h ≤ n)) (sym b) al.source_mine) (added_from source s.source s.sources inside));
          source_mine = start_on s.source al.source_mine;
        } in
        record { seen = x.seen; ahead = x.ahead; alive = alive; posted = λ j. (let p = x.posted j in record { place = p.place; place_is = same_room ∙ p.place_is; doc_is = p.doc_is; source_is = p.source_is; within = p.within; delivers = p.delivers }); gone = λ l. same_room ∙ x.gone l }
      where
        old_one : (v : Update) → IsFlying h s x.seen v ⊎ IsGrounded c h s x.seen v → IsFlying (h ++ e ∷ []) (record s { sources = added s.sources s.source }) x.seen v ⊎ IsGrounded c (h ++ e ∷ []) (record s { sources = added s.sources s.source }) x.seen v
        old_one v (inl fly) = inl (record {
          flight = fly.flight;
          flight_is = fly.flight_is;
          number_is = fly.number_is;
          doc_is = fly.doc_is;
          under = added_keeps v.source s.source s.sources fly.under;
          past = fly.past;
          since = fly.since;
          cut = fly.cut;
          from = fly.from ∙ ap (λ n. n + length fly.past) (sym (base_on s.doc al.made));
          through_is = fly.through_is;
        })
        old_one v (inr q) = inr (record { other = q.other; done = λ low. q.done (subst (λ n. n ≤ v.source) same_start low) })

        new_one : (v : Update) → v ≡ u → IsFlying (h ++ e ∷ []) (record s { sources = added s.sources s.source }) x.seen v
        new_one v same =
            let v_is : v ≡ update_from c s (clock h) s.number g s.sources = same ∙ u_is in
            record {
              flight = g;
              flight_is = some_g;
              number_is = ap (λ (y : Update). y.number) v_is;
              doc_is = ap (λ (y : Update). y.doc) v_is;
              under = added_has v.source s.source s.sources (ap (λ (y : Update). y.source) v_is);
              past = x.seen;
              since = [];
              cut = sym (append-nil x.seen);
              from = ap (λ (y : Update). y.v) v_is ∙ at_on;
              through_is = ap (λ (y : Update). through y.op []) v_is;
            }

    pub sent_well : Sends c s (clock h) u → IsWell c (h ++ e ∷ []) (sent_by s s.flight)
    sent_well (Fresh none u_is) = subst (λ f. IsWell c (h ++ e ∷ []) (sent_by s f)) (sym none) (fresh_well none u_is)
    sent_well (Again g some_g u_is) = subst (λ f. IsWell c (h ++ e ∷ []) (sent_by s f)) (sym some_g) (again_well g some_g u_is)

  -- ---- it joins
  module _ (doc : ℕ) (user : List ℕ) (track : Bool) (source v : ℕ) (since : Option ℕ) (is : e.act ≡ JoinedAct c doc user track since source v) (source_is : source ≡ 1000000 + length h) (v_is : v ≡ version doc h) (new_room : outbox c (h ++ e ∷ []) ≡ Some (record { doc = doc; source = source; posted = []; got = 0 })) where
    unsent : (u : Update) → update_of e.act ≡ Some u → u.client ≡ Some c → ⊥
    unsent u sent own = let f : None ≡ Some u = sym (ap update_of is) ∙ sent in cc

    mine : Mine c (h ++ e ∷ []) source
    mine = mine_new c h e source source_is (ap joiner_of is)

    pub anew_well : IsMade doc h → start c (h ++ e ∷ []) ≡ source → (s : Client) → IsWell c (h ++ e ∷ []) (joined_anew s doc user track source v (unwrap_or (text_at doc v h) []))
    anew_well made starts s =
        let t = text_exists doc h (w.items doc made) in
        let text_is : text_at doc v h ≡ Some t.0 = ap (λ n. text_at doc n h) v_is ∙ text_at_version doc h ∙ t.1 in
        let b = base_on doc made in
        let l : length (applied_list doc (h ++ e ∷ [])) ≡ length (applied_list doc h) = ap length (list_on doc) in
        let alive : IsAlive c (h ++ e ∷ []) (joined_anew s doc user track source v (unwrap_or (text_at doc v h) [])) (applied_list doc h) [] = record {
          made = made_stays doc h e made;
          split = list_on doc ∙ sym (append-nil (applied_list doc h));
          at = omega (arith, v_is, b, l);
          here = t.0;
          there = t.0;
          here_is = ap (λ f. replayed f (ops (applied_list doc h))) (first_on doc made) ∙ t.1;
          flight_is = refl;
          text_is = ap (λ o. Some (unwrap_or o [])) (sym text_is);
          filed = λ n u known own. inr (ground n u known own);
          late = λ f. absurd (true≢false (sym f));
          under_mine = λ x f. absurd (true≢false (sym f));
          source_mine = (mine, omega (arith, starts));
        } in
        record {
          seen = applied_list doc h;
          ahead = [];
          alive = alive;
          posted = λ j. record { place = record { doc = doc; source = source; posted = []; got = 0 }; place_is = new_room; doc_is = refl; source_is = refl; within = omega arith; delivers = refl };
          gone = λ l. absurd (cc);
        }
      where
        ground : (n : ℕ) (u : Update) → update_at (h ++ e ∷ []) n ≡ Some u → u.client ≡ Some c → IsGrounded c (h ++ e ∷ []) (joined_anew s doc user track source v (unwrap_or (text_at doc v h) [])) (applied_list doc h) u
        ground n u known own = ⊎_elim {C = IsGrounded c (h ++ e ∷ []) (joined_anew s doc user track source v (unwrap_or (text_at doc v h) [])) (applied_list doc h) u}
            (λ old. record {
              other = λ f. absurd (true≢false (sym f));
              done = λ low.
                  let m : Mine c h u.source = subst (λ o. OwnedBy h o u.source) own (w.owned n u old) in
                  let below = mine_below c h u.source m in
                  absurd (omega (arith, below, low, starts, source_is));
            })
            (λ new. absurd (unsent u new.1 own))
            (update_new h e n u known)

    pub back_well : (s : Client) (x : IsWell c h s) (n : ℕ) → s.version ≡ n → s.doc ≡ doc → start_by c e.act (start c h) ≡ start c h → is_alive (back_under source (caught_up s (items_between doc n v h))).state ≡ true
        → IsWell c (h ++ e ∷ []) (back_under source (caught_up s (items_between doc n v h)))
    back_well s x n at doc_is same_start a = go (is_alive (caught_up s (items_between doc n v h)).state) refl a
      where
        items : items_between doc n v h ≡ x.ahead
        items =
            let at' = x.alive.at in
            let b : base s.doc h ≡ base doc h = ap (λ m. base m h) doc_is in
            let l : length (applied_list s.doc h) ≡ length x.seen + length x.ahead = ap length x.alive.split ∙ length-append x.seen x.ahead in
            let l' : length (applied_list doc h) ≡ length (applied_list s.doc h) = ap (λ m. length (applied_list m h)) (sym doc_is) in
            let one : n - base doc h ≡ length x.seen = omega (arith, at, at', b) in
            let two : v - n ≡ length x.ahead = omega (arith, at, at', b, l, l', v_is) in
            ap₂ (λ i k. take k (drop i (applied_list doc h))) one two
            ∙ ap (λ l. take (length x.ahead) (drop (length x.seen) l)) (ap (λ m. applied_list m h) (sym doc_is) ∙ x.alive.split)
            ∙ ap (take (length x.ahead)) (drop_past x.seen x.ahead)
            ∙ take_all x.ahead

        go : (b : Bool) → is_alive (caught_up s (items_between doc n v h)).state ≡ b → is_alive (if b then record (caught_up s (items_between doc n v h)) { state = Joined; source = source } else caught_up s (items_between doc n v h)).state ≡ true
            → IsWell c (h ++ e ∷ []) (if b then record (caught_up s (items_between doc n v h)) { state = Joined; source = source } else caught_up s (items_between doc n v h))
        go false dead a = absurd (true≢false (sym a ∙ dead))
        go true lives a =
            let each : Each (IsItem s.doc h) [] (x.seen ++ x.ahead) = subst (λ (l : List Item). Each (IsItem s.doc h) [] l) x.alive.split (w.items s.doc x.alive.made) in
            let caught : Caught c h s (x.seen ++ x.ahead) (caught_up s x.ahead) =
            catch c h w x.ahead s x.seen x.alive (each_right (IsItem s.doc h) [] x.seen x.ahead each) (ap (λ l. is_alive (caught_up s l).state) (sym items) ∙ lives) in
            let here : Caught c h s (x.seen ++ x.ahead) (caught_up s (items_between doc n v h)) = subst (λ (l : List Item). Caught c h s (x.seen ++ x.ahead) (caught_up s l)) (sym items) caught in
            let st : start c (h ++ e ∷ []) ≡ start c h = start-push c h e ∙ same_start in
            let on : IsAlive c (h ++ e ∷ []) (caught_up s (items_between doc n v h)) (x.seen ++ x.ahead) [] =
            stays h e legal may w c (caught_up s (items_between doc n v h)) (x.seen ++ x.ahead) [] [] here.alive unsent st (same_list h e legal may w c (caught_up s (items_between doc n v h)).doc (nothing (caught_up s (items_between doc n v h)).doc)) in
            let low : start c (h ++ e ∷ []) ≤ source = let b = w.started c in omega (arith, b, st, source_is) in
            record {
              seen = x.seen ++ x.ahead;
              ahead = [];
              alive = retyped c (h ++ e ∷ []) (caught_up s (items_between doc n v h)) (x.seen ++ x.ahead) [] Joined source (caught_up s (items_between doc n v h)).pending (caught_up s (items_between doc n v h)).text on on.text_is (mine, low);
              posted = λ j. record { place = record { doc = doc; source = source; posted = []; got = 0 }; place_is = new_room; doc_is = sym doc_is ∙ sym here.doc_is; source_is = refl; within = omega arith; delivers = refl };
              gone = λ l. absurd (cc);
            }
