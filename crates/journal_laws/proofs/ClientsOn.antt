-- The clients after one entry more.
use Rattle.std.proofs.Common.{◌≡◌, ◌≢◌, ◌⊎◌, ℕ, ◌+◌, ◌-◌, ◌<◌, ◌≤◌, List, [], ◌∷◌, ◌++◌, length, Bool, true, false, true≢false, ◌&&◌, refl, sym, ap, ◌∙◌, subst, inl, inr, ⊎_elim, arith, eqb, eq-eqb, ne_eqb, append-nil, append_assoc, length-append, drop}
use Rattle.std.specs.Prelude.{Option, Some, None, if◌then◌else◌, unwrap_or, option_map, is_some}
use native.Mathlib.Decide.{ℕ_discrete}
use Rattle.ot_op.specs.declared.comp.Comp.{Comp}
use Rattle.ot_op.specs.Apply.{applied, applied_all}
use Rattle.ot_op.specs.Compose.{appended}
use Rattle.ot_op.proofs.Merging.{appends}
use Rattle.journal_entries.specs.declared.update.Update.{Update}
use Rattle.journal_entries.specs.declared.message.Msg.{Msg}
use Rattle.journal_entries.specs.declared.message.Msg.TheVariants.{Op, Ack, Error}
use Rattle.journal_entries.specs.declared.update.Outcome.{Outcome}
use Rattle.journal_entries.specs.declared.update.Outcome.TheVariants.{Applied, Dup, Refused}
use Rattle.journal_entries.specs.declared.act.Act.TheVariants.{Committed}
use Rattle.journal_entries.specs.declared.act.Entry.{Entry}
use Rattle.journal_rules.specs.declared.state.ClientState.{ClientState}
use Rattle.journal_rules.specs.declared.state.ClientState.TheVariants.{Away, Joined, Left, Stale}
use Rattle.journal_rules.specs.Documents.{first_in, base_in, Item, item_of, items_by, applied_list, base, first, version, text, replayed, update_of, update_at, is_in}
use Rattle.journal_rules.specs.Deciding.{decided}
use Rattle.journal_rules.specs.Mail.{told, told_of, Outbox, outbox_by, outbox, posted_to, one_got}
use Rattle.journal_rules.specs.Client.{Client, has_flight, shifted, shifted_to, is_alive, given, delivered, given_op, landed, stale, caught_up, edited_by}
use Rattle.journal_rules.specs.Legal.{IsAllowed, IsLegal}
use Rattle.journal_rules.proofs.Pushing.{applied_list-push, outbox-push}
use Rattle.journal_rules.proofs.Waits.{waits_sent}
use Rattle.journal_rules.proofs.Fencing.{made_stays, making_stays}
use Rattle.journal_rules.proofs.Lists.{Each, all_any, each_at, each_any, any_in_drop, drop_next, drop_within, drop_front, some_same}
use Rattle.journal_rules.proofs.Replaying.{ops, replays_on}
use Rattle.journal_laws.proofs.Alive.{Mine, owner_is, start, start_by, start-push, IsCopy, IsItem, IsFlying, IsGrounded, IsAlive}
use Rattle.journal_laws.proofs.Stepping.{Stepped, step, own}
use Rattle.journal_laws.proofs.Updates.{update_new, mine_stays, decided_applies, decided_twin}
use Rattle.journal_laws.proofs.Mailing.{Delivers, delivers_item, delivers_ack, delivers_error, IsPosted}
use Rattle.journal_laws.proofs.World.{IsWell, World, commit_made}

-- the states of a client that is not away and not stale
pub alive_states : (st : ClientState) → is_alive st ≡ true → (st ≡ Joined) ⊎ (st ≡ Left)
alive_states Away a = absurd (true≢false (sym a))
alive_states Joined a = inl refl
alive_states Left a = inr refl
alive_states Stale a = absurd (true≢false (sym a))

-- a client of which only text and pending differ, or state and source
pub flying_as : (j : List Entry) (s t : Client) (seen : List Item) (u : Update) → t.flight ≡ s.flight → t.number ≡ s.number → t.doc ≡ s.doc → t.sources ≡ s.sources → IsFlying j s seen u → IsFlying j t seen u
flying_as j s t seen u f n d un fly = record {
  flight = fly.flight;
  flight_is = f ∙ fly.flight_is;
  number_is = fly.number_is ∙ sym n;
  doc_is = fly.doc_is ∙ sym d;
  under = ap (is_in u.source) un ∙ fly.under;
  past = fly.past;
  since = fly.since;
  cut = fly.cut;
  from = fly.from ∙ ap (λ x. base x j + length fly.past) (sym d);
  through_is = fly.through_is;
}

pub grounded_as : (c : ℕ) (j : List Entry) (s t : Client) (seen : List Item) (u : Update) → t.flight ≡ s.flight → t.number ≡ s.number → IsGrounded c j s seen u → IsGrounded c j t seen u
grounded_as c j s t seen u f n g = record { other = λ h is. g.other (sym (ap has_flight f) ∙ h) (is ∙ n); done = g.done }

-- the same client with another text and pending
pub retyped : (c : ℕ) (j : List Entry) (s : Client) (seen ahead : List Item) (state : ClientState) (source : ℕ) (pending : List Comp) (text : List ℕ) → (al : IsAlive c j s seen ahead) → applied_all al.there pending ≡ Some text → Mine c j source × (start c j ≤ source)
    → IsAlive c j (record s { state = state; source = source; pending = pending; text = text }) seen ahead
retyped c j s seen ahead state source pending text al typed mine = record {
  made = al.made;
  split = al.split;
  at = al.at;
  here = al.here;
  there = al.there;
  here_is = al.here_is;
  flight_is = al.flight_is;
  text_is = typed;
  filed = λ t u known own. ⊎_elim {C = IsFlying j (record s { state = state; source = source; pending = pending; text = text }) seen u ⊎ IsGrounded c j (record s { state = state; source = source; pending = pending; text = text }) seen u}
      (λ fly. inl (flying_as j s (record s { state = state; source = source; pending = pending; text = text }) seen u refl refl refl refl fly))
      (λ g. inr (grounded_as c j s (record s { state = state; source = source; pending = pending; text = text }) seen u refl refl g))
      (al.filed t u known own);
  late = al.late;
  under_mine = al.under_mine;
  source_mine = mine;
}

-- ---- deliveries to a client
pub delivered_alive : (s : Client) (m : Msg) → is_alive (delivered s m).state ≡ true → is_alive s.state ≡ true
delivered_alive s m = go (is_alive s.state) refl
  where
    go : (b : Bool) → is_alive s.state ≡ b → is_alive (if b then given s m else s).state ≡ true → is_alive s.state ≡ true
    go true is a = is
    go false is a = a

pub delivered_is : (s : Client) (m : Msg) → is_alive s.state ≡ true → delivered s m ≡ given s m
delivered_is s m a = ap (λ b. if b then given s m else s) a

pub caught_alive : (s : Client) (xs : List Item) → is_alive (caught_up s xs).state ≡ true → is_alive s.state ≡ true
caught_alive s [] a = a
caught_alive s (x ∷ xs) a = delivered_alive s (Op x.v x.op x.update.source) (caught_alive (delivered s (Op x.v x.op x.update.source)) xs a)

pub record Caught (c : ℕ) (j : List Entry) (s : Client) (all : List Item) (t : Client) : Type 0 where
  pub alive : IsAlive c j t all []
  pub doc_is : t.doc ≡ s.doc

pub catch : (c : ℕ) (j : List Entry) (w : World j) (xs : List Item) (s : Client) (seen : List Item) → IsAlive c j s seen xs → Each (IsItem s.doc j) seen xs → is_alive (caught_up s xs).state ≡ true → Caught c j s (seen ++ xs) (caught_up s xs)
catch c j w [] s seen al each a = record { alive = subst (λ (l : List Item). IsAlive c j s l []) (sym (append-nil seen)) al; doc_is = refl }
catch c j w (x ∷ xs) s seen al each a =
    let m : Msg = Op x.v x.op x.update.source in
    let here : is_alive s.state ≡ true = caught_alive s (x ∷ xs) a in
    let next : is_alive (delivered s m).state ≡ true = caught_alive (delivered s m) xs a in
    let is : delivered s m ≡ given_op s x.v x.op x.update.source = delivered_is s m here in
    let st : Stepped c j s seen x xs (given_op s x.v x.op x.update.source) = step c j s seen x xs w.owned al each.0 (sym (ap (λ (t : Client). is_alive t.state) is) ∙ next) in
    let st' : Stepped c j s seen x xs (delivered s m) = subst (Stepped c j s seen x xs) (sym is) st in
    let rest : Caught c j (delivered s m) ((seen ++ x ∷ []) ++ xs) (caught_up (delivered s m) xs) =
    catch c j w xs (delivered s m) (seen ++ x ∷ []) st'.alive (subst (λ d. Each (IsItem d j) (seen ++ x ∷ []) xs) (sym st'.keeps.doc_is) each.1) a in
    record { alive = subst (λ (l : List Item). IsAlive c j (caught_up s (x ∷ xs)) l []) (append_assoc seen (x ∷ []) xs) rest.alive; doc_is = rest.doc_is ∙ st'.keeps.doc_is }

-- the text at the version exists
text_on : (d : ℕ) (j : List Entry) (before xs : List Item) (here : List ℕ) → replayed (first d j) (ops before) ≡ Some here → Each (IsItem d j) before xs → (to : List ℕ) × (replayed (first d j) (ops (before ++ xs)) ≡ Some to)
text_on d j before [] here is e = (here, ap (λ l. replayed (first d j) (ops l)) (append-nil before) ∙ is)
text_on d j before (x ∷ xs) here is e =
    let r = text_on d j (before ++ x ∷ []) xs e.0.to (replays_on (first d j) e.0.here e.0.to before x e.0.here_is e.0.to_is) e.1 in
    (r.0, ap (λ l. replayed (first d j) (ops l)) (sym (append_assoc before (x ∷ []) xs)) ∙ r.1)

pub text_exists : (d : ℕ) (j : List Entry) → Each (IsItem d j) [] (applied_list d j) → (to : List ℕ) × (replayed (first d j) (ops (applied_list d j)) ≡ Some to)
text_exists d j each = text_on d j [] (applied_list d j) (first d j) refl each

abbrev IsRefused : Outcome → Type 0
IsRefused (Refused cause) = Unit {0}
IsRefused (Applied v op) = ⊥
IsRefused (Dup v) = ⊥

pub if_true : {A : Type 0} (b : Bool) (x y : A) → b ≡ true → (if b then x else y) ≡ x
if_true b x y e = ap (λ c. if c then x else y) e

pub if_false : {A : Type 0} (b : Bool) (x y : A) → b ≡ false → (if b then x else y) ≡ y
if_false b x y e = ap (λ c. if c then x else y) e

module _ (h : List Entry) (e : Entry) (legal : IsLegal h) (may : IsAllowed h e.seat e.act) (w : World h) (c : ℕ) where
  -- an entry that is nothing of the client's own: more may be ahead of it
  pub stays : (s : Client) (seen ahead more : List Item) → IsAlive c h s seen ahead → ((u : Update) → update_of e.act ≡ Some u → u.client ≡ Some c → ⊥) → start c (h ++ e ∷ []) ≡ start c h
      → applied_list s.doc (h ++ e ∷ []) ≡ applied_list s.doc h ++ more → IsAlive c (h ++ e ∷ []) s seen (ahead ++ more)
  stays s seen ahead more al unsent st list =
      let b : base s.doc (h ++ e ∷ []) ≡ base s.doc h = ap base_in (making_stays s.doc h e al.made) in
      let f : first s.doc (h ++ e ∷ []) ≡ first s.doc h = ap first_in (making_stays s.doc h e al.made) in
      record {
        made = made_stays s.doc h e al.made;
        split = list ∙ ap (λ l. l ++ more) al.split ∙ append_assoc seen ahead more;
        at = al.at ∙ ap (λ n. n + length seen) (sym b);
        here = al.here;
        there = al.there;
        here_is = ap (λ t. replayed t (ops seen)) f ∙ al.here_is;
        flight_is = al.flight_is;
        text_is = al.text_is;
        filed = λ t u known own. ⊎_elim {C = IsFlying (h ++ e ∷ []) s seen u ⊎ IsGrounded c (h ++ e ∷ []) s seen u}
            (λ old. ⊎_elim {C = IsFlying (h ++ e ∷ []) s seen u ⊎ IsGrounded c (h ++ e ∷ []) s seen u}
            (λ fly. inl (flying_on s seen u b fly))
            (λ g. inr (grounded_on s seen u g))
            (al.filed t u old own))
            (λ new. absurd (unsent u new.1 own))
            (update_new h e t u known);
        late = al.late;
        under_mine = λ source is. (let m = al.under_mine source is in (mine_stays c h (e ∷ []) source m.0, subst (λ n. n ≤ source) (sym st) m.1));
        source_mine = (mine_stays c h (e ∷ []) s.source al.source_mine.0, subst (λ n. n ≤ s.source) (sym st) al.source_mine.1);
      }
    where
      flying_on : (s : Client) (seen : List Item) (u : Update) → base s.doc (h ++ e ∷ []) ≡ base s.doc h → IsFlying h s seen u → IsFlying (h ++ e ∷ []) s seen u
      flying_on s seen u b fly = record {
        flight = fly.flight;
        flight_is = fly.flight_is;
        number_is = fly.number_is;
        doc_is = fly.doc_is;
        under = fly.under;
        past = fly.past;
        since = fly.since;
        cut = fly.cut;
        from = fly.from ∙ ap (λ n. n + length fly.past) (sym b);
        through_is = fly.through_is;
      }

      grounded_on : (s : Client) (seen : List Item) (u : Update) → IsGrounded c h s seen u → IsGrounded c (h ++ e ∷ []) s seen u
      grounded_on s seen u g = record { other = g.other; done = λ le. g.done (subst (λ n. n ≤ u.source) st le) }

  pub same_list : (d : ℕ) → items_by d h e.act ≡ [] → applied_list d (h ++ e ∷ []) ≡ applied_list d h ++ []
  same_list d nothing = applied_list-push d h e ∙ ap (λ l. applied_list d h ++ l) nothing

  posted_on : (s : Client) (ahead : List Item) → outbox c (h ++ e ∷ []) ≡ outbox c h → IsPosted c h s ahead → IsPosted c (h ++ e ∷ []) s ahead
  posted_on s ahead same p = record { place = p.place; place_is = same ∙ p.place_is; doc_is = p.doc_is; source_is = p.source_is; within = p.within; delivers = p.delivers }

  -- an entry that touches neither client, nor items, nor mail
  pub untouched : (s : Client) → IsWell c h s → ((u : Update) → update_of e.act ≡ Some u → u.client ≡ Some c → ⊥) → start_by c e.act (start c h) ≡ start c h → items_by s.doc h e.act ≡ [] → outbox_by c h e.act (outbox c h) ≡ outbox c h → IsWell c (h ++ e ∷ []) s
  untouched s x unsent st nothing quiet =
      let same : outbox c (h ++ e ∷ []) ≡ outbox c h = outbox-push c h e ∙ quiet in
      record {
        seen = x.seen;
        ahead = x.ahead;
        alive = subst (λ (l : List Item). IsAlive c (h ++ e ∷ []) s x.seen l) (append-nil x.ahead) (stays s x.seen x.ahead [] x.alive unsent (start-push c h e ∙ st) (same_list s.doc nothing));
        posted = λ j. posted_on s x.ahead same (x.posted j);
        gone = λ l. same ∙ x.gone l;
      }

  -- ---- a commit
  module _ (d token ticket : ℕ) (outcome : Outcome) (is : e.act ≡ Committed d token ticket outcome) where
    row : IsAllowed h e.seat (Committed d token ticket outcome)
    row = subst (λ a. IsAllowed h e.seat a) is may

    known : (u : Update) × (update_at h ticket ≡ Some u) × (u.doc ≡ d)
    known = waits_sent d ticket h row.rest row.first

    right : (u : Update) → update_at h ticket ≡ Some u → (o : Outcome) → outcome ≡ o → (IsRefused o → ⊥) → decided h d u ≡ o
    right u at o o_is free = ⊎_elim {C = decided h d u ≡ o}
        (λ r. ap (decided h d) (some_same u r.update (sym at ∙ r.named)) ∙ sym r.outcome_is ∙ o_is)
        (λ r. ⊎_elim {C = decided h d u ≡ o}
        (λ memory. absurd (free (subst IsRefused (sym memory ∙ o_is) tt)))
        (λ fault. absurd (free (subst IsRefused (sym fault.outcome_is ∙ o_is) tt)))
        r)
        row.ends

    below : (u : Update) (v : ℕ) → decided h d u ≡ Dup v → v < version d h
    below u v twin = each_any (IsItem d h) (λ (x : Item). x.v ≡ v) (v < version d h) [] (applied_list d h)
        (λ b x lt it same. let a = it.v_is in omega (arith, a, lt, same))
        (w.items d (commit_made h e legal may w d token ticket outcome is))
        (any_in_drop (λ (x : Item). x.v ≡ v) (u.v - base d h) (applied_list d h) (decided_twin d h u v twin))

    -- what a member of the outbox is told fits what is ahead
    told_delivers : (source n : ℕ) (ahead : List Item) (ms : List Msg) → version d h ≡ n + length ahead → Delivers source n ahead ms
        → Delivers source n (ahead ++ item_of ticket (Some known.0) outcome) (ms ++ told source known.0 outcome)
    told_delivers source n ahead ms high f = by outcome refl (eqb known.0.source source)
      where
        by : (o : Outcome) → outcome ≡ o → Bool → Delivers source n (ahead ++ item_of ticket (Some known.0) o) (ms ++ told source known.0 o)
        by (Applied v op) o_is any =
            let x : Item = record { op = op; v = v; ticket = ticket; update = known.0 } in
            let dd = decided_applies d h known.0 v op (right known.0 known.1 (Applied v op) o_is (λ r. r)) in
            delivers_item source n ahead ms x (dd.v_is ∙ high) f
        by (Dup v) o_is any =
            let lt = below known.0 v (right known.0 known.1 (Dup v) o_is (λ r. r)) in
            subst (λ (l : List Item). Delivers source n l (ms ++ told source known.0 (Dup v))) (sym (append-nil ahead)) (dup (eqb known.0.source source) v (omega (arith, lt, high)))
          where
            dup : (b : Bool) (v : ℕ) → v < n + length ahead → Delivers source n ahead (ms ++ (if b then Ack v known.0.number ∷ [] else []))
            dup true v lt = delivers_ack source n ahead ms v known.0.number lt f
            dup false v lt = subst (Delivers source n ahead) (sym (append-nil ms)) f
        by (Refused cause) o_is any = subst (λ (l : List Item). Delivers source n l (ms ++ told source known.0 (Refused cause))) (sym (append-nil ahead)) (error (eqb known.0.source source))
          where
            error : (b : Bool) → Delivers source n ahead (ms ++ (if b then Error known.0.number cause ∷ [] else []))
            error true = delivers_error source n ahead ms known.0.number cause f
            error false = subst (Delivers source n ahead) (sym (append-nil ms)) f

    unsent : (u : Update) → update_of e.act ≡ Some u → u.client ≡ Some c → ⊥
    unsent u sent own = let f : None ≡ Some u = sym (ap update_of is) ∙ sent in cc

    outbox_is : outbox c (h ++ e ∷ []) ≡ option_map (posted_to d h ticket outcome) (outbox c h)
    outbox_is = outbox-push c h e ∙ ap (λ a. outbox_by c h a (outbox c h)) is

    start_is : start c (h ++ e ∷ []) ≡ start c h
    start_is = start-push c h e ∙ ap (λ a. start_by c a (start c h)) is

    -- in the outbox of the document
    inside : (s : Client) (x : IsWell c h s) → d ≡ s.doc → IsWell c (h ++ e ∷ []) s
    inside s x doc =
        let items : items_by s.doc h e.act ≡ item_of ticket (Some known.0) outcome =
        ap (items_by s.doc h) is ∙ if_true (eqb d s.doc) (item_of ticket (update_at h ticket) outcome) [] (eq-eqb d s.doc doc) ∙ ap (λ o. item_of ticket o outcome) known.1 in
        let list : applied_list s.doc (h ++ e ∷ []) ≡ applied_list s.doc h ++ item_of ticket (Some known.0) outcome = applied_list-push s.doc h e ∙ ap (λ l. applied_list s.doc h ++ l) items in
        record {
          seen = x.seen;
          ahead = x.ahead ++ item_of ticket (Some known.0) outcome;
          alive = stays s x.seen x.ahead (item_of ticket (Some known.0) outcome) x.alive unsent start_is list;
          posted = λ j. post (x.posted j);
          gone = λ l. outbox_is ∙ ap (option_map (posted_to d h ticket outcome)) (x.gone l);
        }
      where
        high : version d h ≡ s.version + length x.ahead
        high =
            let at = x.alive.at in
            let l : length (applied_list s.doc h) ≡ length x.seen + length x.ahead = ap length x.alive.split ∙ length-append x.seen x.ahead in
            let v : version d h ≡ version s.doc h = ap (λ n. version n h) doc in
            omega (arith, at, l, v)

        post : IsPosted c h s x.ahead → IsPosted c (h ++ e ∷ []) s (x.ahead ++ item_of ticket (Some known.0) outcome)
        post p =
            let more : told_of p.place.source (update_at h ticket) outcome ≡ told s.source known.0 outcome = ap (λ o. told_of p.place.source o outcome) known.1 ∙ ap (λ n. told n known.0 outcome) p.source_is in
            let place : Outbox = record { doc = p.place.doc; source = p.place.source; posted = p.place.posted ++ told_of p.place.source (update_at h ticket) outcome; got = p.place.got } in
            let here : posted_to d h ticket outcome p.place ≡ place = if_true (eqb d p.place.doc) place p.place (eq-eqb d p.place.doc (doc ∙ sym p.doc_is)) in
            let at : outbox c (h ++ e ∷ []) ≡ Some place = outbox_is ∙ ap (option_map (posted_to d h ticket outcome)) p.place_is ∙ ap (λ (r : Outbox). Some r) here in
            let left : drop p.place.got (p.place.posted ++ told_of p.place.source (update_at h ticket) outcome) ≡ drop p.place.got p.place.posted ++ told s.source known.0 outcome =
            drop_front p.place.got p.place.posted (told_of p.place.source (update_at h ticket) outcome) p.within ∙ ap (λ l. drop p.place.got p.place.posted ++ l) more in
            record {
              place = place;
              place_is = at;
              doc_is = p.doc_is;
              source_is = p.source_is;
              within = let l = length-append p.place.posted (told_of p.place.source (update_at h ticket) outcome) in let a = p.within in omega (arith, l, a);
              delivers = subst (λ (l : List Msg). Delivers s.source s.version (x.ahead ++ item_of ticket (Some known.0) outcome) l) (sym left) (told_delivers s.source s.version x.ahead (drop p.place.got p.place.posted) high p.delivers);
            }

    outside : (s : Client) (x : IsWell c h s) → (d ≢ s.doc) → IsWell c (h ++ e ∷ []) s
    outside s x apart =
        let nothing : items_by s.doc h e.act ≡ [] = ap (items_by s.doc h) is ∙ if_false (eqb d s.doc) (item_of ticket (update_at h ticket) outcome) [] (ne_eqb d s.doc apart) in
        record {
          seen = x.seen;
          ahead = x.ahead;
          alive = subst (λ (l : List Item). IsAlive c (h ++ e ∷ []) s x.seen l) (append-nil x.ahead) (stays s x.seen x.ahead [] x.alive unsent start_is (same_list s.doc nothing));
          posted = λ j. post (x.posted j);
          gone = λ l. outbox_is ∙ ap (option_map (posted_to d h ticket outcome)) (x.gone l);
        }
      where
        post : IsPosted c h s x.ahead → IsPosted c (h ++ e ∷ []) s x.ahead
        post p =
            let here : posted_to d h ticket outcome p.place ≡ p.place = if_false (eqb d p.place.doc) (record { doc = p.place.doc; source = p.place.source; posted = p.place.posted ++ told_of p.place.source (update_at h ticket) outcome; got = p.place.got }) p.place (ne_eqb d p.place.doc (λ same. apart (same ∙ p.doc_is))) in
            record {
              place = p.place;
              place_is = outbox_is ∙ ap (option_map (posted_to d h ticket outcome)) p.place_is ∙ ap (λ (r : Outbox). Some r) here;
              doc_is = p.doc_is;
              source_is = p.source_is;
              within = p.within;
              delivers = p.delivers;
            }

    pub committed_well : (s : Client) (x : IsWell c h s) → IsWell c (h ++ e ∷ []) s
    committed_well s x = go (ℕ_discrete d s.doc)
      where
        go : Dec (d ≡ s.doc) → IsWell c (h ++ e ∷ []) s
        go (yes same) = inside s x same
        go (no apart) = outside s x apart

  -- ---- the client's own entries: nothing is committed
  module _ (nothing : (d : ℕ) → items_by d h e.act ≡ []) where
    -- with no update sent and the epoch as it was
    stays_so : (s : Client) (seen ahead : List Item) → IsAlive c h s seen ahead → ((u : Update) → update_of e.act ≡ Some u → u.client ≡ Some c → ⊥) → start_by c e.act (start c h) ≡ start c h → IsAlive c (h ++ e ∷ []) s seen ahead
    stays_so s seen ahead al unsent st = subst (λ (l : List Item). IsAlive c (h ++ e ∷ []) s seen l) (append-nil ahead) (stays s seen ahead [] al unsent (start-push c h e ∙ st) (same_list s.doc (nothing s.doc)))

    -- it types
    pub typed_well : (s : Client) (x : IsWell c h s) (comp : Comp) → is_some (applied s.text comp) ≡ true → ((u : Update) → update_of e.act ≡ Some u → u.client ≡ Some c → ⊥) → start_by c e.act (start c h) ≡ start c h → outbox_by c h e.act (outbox c h) ≡ outbox c h → IsWell c (h ++ e ∷ []) (edited_by s comp)
    typed_well s x comp fits unsent st quiet = go (applied s.text comp) refl fits
      where
        same : outbox c (h ++ e ∷ []) ≡ outbox c h
        same = outbox-push c h e ∙ quiet

        go : (o : Option (List ℕ)) → applied s.text comp ≡ o → is_some o ≡ true → IsWell c (h ++ e ∷ []) (record s { text = unwrap_or o s.text; pending = appended s.pending comp })
        go None is f = absurd (true≢false (sym f))
        go (Some next) is f =
            let al : IsAlive c h (record s { text = next; pending = appended s.pending comp }) x.seen x.ahead =
            retyped c h s x.seen x.ahead s.state s.source (appended s.pending comp) next x.alive (appends x.alive.there s.text next s.pending comp x.alive.text_is is) x.alive.source_mine in
            record {
              seen = x.seen;
              ahead = x.ahead;
              alive = stays_so (record s { text = next; pending = appended s.pending comp }) x.seen x.ahead al unsent st;
              posted = λ j. (let p = posted_on s x.ahead same (x.posted j) in record { place = p.place; place_is = p.place_is; doc_is = p.doc_is; source_is = p.source_is; within = p.within; delivers = p.delivers });
              gone = λ l. same ∙ x.gone l;
            }

    -- it leaves
    pub left_well : (s : Client) (x : IsWell c h s) → ((u : Update) → update_of e.act ≡ Some u → u.client ≡ Some c → ⊥) → start_by c e.act (start c h) ≡ start c h → outbox_by c h e.act (outbox c h) ≡ None → IsWell c (h ++ e ∷ []) (record s { state = Left })
    left_well s x unsent st quiet =
        record {
          seen = x.seen;
          ahead = x.ahead;
          alive = stays_so (record s { state = Left }) x.seen x.ahead (retyped c h s x.seen x.ahead Left s.source s.pending s.text x.alive x.alive.text_is x.alive.source_mine) unsent st;
          posted = λ j. absurd (cc);
          gone = λ l. outbox-push c h e ∙ quiet;
        }

    -- it gets the first of its mail
    module _ (s : Client) (x : IsWell c h s) (st : s.state ≡ Joined) (unsent : (u : Update) → update_of e.act ≡ Some u → u.client ≡ Some c → ⊥) (same_start : start_by c e.act (start c h) ≡ start c h)
        (got : outbox_by c h e.act (outbox c h) ≡ option_map one_got (outbox c h)) where
      abbrev pub p : IsPosted c h s x.ahead
      p = x.posted st

      next_place : (t : Client) (ahead : List Item) (m : Msg) (rest : List Msg) → drop p.place.got p.place.posted ≡ m ∷ rest → t.doc ≡ s.doc → t.source ≡ s.source → Delivers t.source t.version ahead rest → IsPosted c (h ++ e ∷ []) t ahead
      next_place t ahead m rest first doc source f = record {
        place = record { doc = p.place.doc; source = p.place.source; posted = p.place.posted; got = p.place.got + 1 };
        place_is = outbox-push c h e ∙ got ∙ ap (option_map one_got) p.place_is;
        doc_is = p.doc_is ∙ sym doc;
        source_is = p.source_is ∙ sym source;
        within = drop_within p.place.got p.place.posted m rest first;
        delivers = subst (λ (l : List Msg). Delivers t.source t.version ahead l) (sym (drop_next p.place.got p.place.posted m rest first)) f;
      }

      not_left : (t : Client) → t.state ≡ s.state → t.state ≡ Left → ⊥
      not_left t same l = let f : Joined ≡ Left = sym st ∙ sym same ∙ l in cc

      -- an item
      stepped : (i : Item) (rest : List Item) (m : Msg) (ms : List Msg) → x.ahead ≡ i ∷ rest → drop p.place.got p.place.posted ≡ m ∷ ms → Delivers s.source (s.version + 1) rest ms
          → is_alive (given_op s i.v i.op i.update.source).state ≡ true → IsWell c (h ++ e ∷ []) (given_op s i.v i.op i.update.source)
      stepped i rest m ms first mail_is f a =
          let al : IsAlive c h s x.seen (i ∷ rest) = subst (λ (l : List Item). IsAlive c h s x.seen l) first x.alive in
          let each : Each (IsItem s.doc h) [] (x.seen ++ i ∷ rest) = subst (λ (l : List Item). Each (IsItem s.doc h) [] l) al.split (w.items s.doc al.made) in
          let it : IsItem s.doc h x.seen i = each_at (IsItem s.doc h) [] x.seen i rest each in
          let go : Stepped c h s x.seen i rest (given_op s i.v i.op i.update.source) = step c h s x.seen i rest w.owned al it a in
          let k = go.keeps in
          record {
            seen = x.seen ++ i ∷ [];
            ahead = rest;
            alive = stays_so (given_op s i.v i.op i.update.source) (x.seen ++ i ∷ []) rest go.alive unsent same_start;
            posted = λ j. next_place (given_op s i.v i.op i.update.source) rest m ms mail_is k.doc_is k.source_is
                (subst (λ n. Delivers n (given_op s i.v i.op i.update.source).version rest ms) (sym k.source_is) (subst (λ n. Delivers s.source n rest ms) (sym k.version_is) f));
            gone = λ l. absurd (not_left (given_op s i.v i.op i.update.source) k.state_is l);
          }

      -- a message that changes nothing
      ignored : (m : Msg) (ms : List Msg) → drop p.place.got p.place.posted ≡ m ∷ ms → Delivers s.source s.version x.ahead ms → IsWell c (h ++ e ∷ []) s
      ignored m ms mail_is f = record {
        seen = x.seen;
        ahead = x.ahead;
        alive = stays_so s x.seen x.ahead x.alive unsent same_start;
        posted = λ j. next_place s x.ahead m ms mail_is refl refl f;
        gone = λ l. absurd (not_left s refl l);
      }

      -- an Ack that stands for an item is what an operation under the client's source is
      ack_is : (i : Item) (rest : List Item) (number : ℕ) → x.ahead ≡ i ∷ rest → i.update.source ≡ s.source → given s (Ack s.version number) ≡ given_op s i.v i.op i.update.source
      ack_is i rest number first mine =
          let al : IsAlive c h s x.seen (i ∷ rest) = subst (λ (l : List Item). IsAlive c h s x.seen l) first x.alive in
          let each : Each (IsItem s.doc h) [] (x.seen ++ i ∷ rest) = subst (λ (l : List Item). Each (IsItem s.doc h) [] l) al.split (w.items s.doc al.made) in
          let it : IsItem s.doc h x.seen i = each_at (IsItem s.doc h) [] x.seen i rest each in
          let m : Mine c h i.update.source = subst (Mine c h) (sym mine) al.source_mine.0 in
          let own : i.update.client ≡ Some c = owner_is c h i.update.client i.update.source m (w.owned i.ticket i.update it.known) in
          ⊎_elim {C = given s (Ack s.version number) ≡ given_op s i.v i.op i.update.source}
          (λ (f : IsFlying h s x.seen i.update).
          let flies : has_flight s.flight ≡ true = ap has_flight f.flight_is in
          let v : eqb i.v s.version ≡ true = eq-eqb i.v s.version (it.v_is ∙ sym al.at) in
          let one : (has_flight s.flight && is_in i.update.source s.sources) ≡ true = both flies f.under in
          let two : (eqb s.version s.version && has_flight s.flight) ≡ true = both (eq-eqb s.version s.version refl) flies in
          let left : given s (Ack s.version number) ≡ landed s = if_true (eqb s.version s.version && has_flight s.flight) (landed s) s two in
          let right : given_op s i.v i.op i.update.source ≡ landed s =
          if_true (eqb i.v s.version) (if has_flight s.flight && is_in i.update.source s.sources then landed s else shifted_to s (shifted s.flight s.pending s.text i.op)) s v
          ∙ if_true (has_flight s.flight && is_in i.update.source s.sources) (landed s) (shifted_to s (shifted s.flight s.pending s.text i.op)) one in
          left ∙ sym right)
          (λ (g : IsGrounded c h s x.seen i.update). absurd (all_any (IsCopy c i.update.number) x.seen (it.once c own) (g.done (subst (λ n. start c h ≤ n) (sym mine) al.source_mine.1))))
          (al.filed i.ticket i.update it.known own)
        where
          both : {a b : Bool} → a ≡ true → b ≡ true → (a && b) ≡ true
          both {a} {b} q r = ap (λ y. y && b) q ∙ r

      pub got_well : (m : Msg) (ms : List Msg) → drop p.place.got p.place.posted ≡ m ∷ ms → Delivers s.source s.version x.ahead (m ∷ ms) → is_alive (given s m).state ≡ true → IsWell c (h ++ e ∷ []) (given s m)
      got_well (Op v op source) ms mail_is f a =
          let al : IsAlive c h s x.seen (f.0 ∷ f.1) = subst (λ (l : List Item). IsAlive c h s x.seen l) f.2 x.alive in
          let each : Each (IsItem s.doc h) [] (x.seen ++ f.0 ∷ f.1) = subst (λ (l : List Item). Each (IsItem s.doc h) [] l) al.split (w.items s.doc al.made) in
          let it : IsItem s.doc h x.seen f.0 = each_at (IsItem s.doc h) [] x.seen f.0 f.1 each in
          let v_is : v ≡ f.0.v = f.3 ∙ al.at ∙ sym it.v_is in
          let same : given s (Op v op source) ≡ given_op s f.0.v f.0.op f.0.update.source = ap (λ n. given_op s n op source) v_is ∙ ap (λ o. given_op s f.0.v o source) f.4 ∙ ap (given_op s f.0.v f.0.op) f.5 in
          subst (IsWell c (h ++ e ∷ [])) (sym same) (stepped f.0 f.1 (Op v op source) ms f.2 mail_is f.6 (sym (ap (λ (t : Client). is_alive t.state) same) ∙ a))
      got_well (Ack v number) ms mail_is (inl f) a =
          let same : given s (Ack v number) ≡ given_op s f.0.v f.0.op f.0.update.source = ap (λ n. given s (Ack n number)) f.3 ∙ ack_is f.0 f.1 number f.2 f.5 in
          subst (IsWell c (h ++ e ∷ [])) (sym same) (stepped f.0 f.1 (Ack v number) ms f.2 mail_is f.6 (sym (ap (λ (t : Client). is_alive t.state) same) ∙ a))
      got_well (Ack v number) ms mail_is (inr f) a =
          let old : eqb v s.version ≡ false = ne_eqb v s.version (λ same. let l = f.0 in omega (arith, l, same)) in
          let same : given s (Ack v number) ≡ s = if_false (eqb v s.version && has_flight s.flight) (landed s) s (ap (λ b. b && has_flight s.flight) old) in
          subst (IsWell c (h ++ e ∷ [])) (sym same) (ignored (Ack v number) ms mail_is f.1)
      got_well (Error number cause) ms mail_is f a = go (has_flight s.flight && eqb number s.number) a
        where
          go : (b : Bool) → is_alive (if b then stale s else s).state ≡ true → IsWell c (h ++ e ∷ []) (if b then stale s else s)
          go true a = absurd (true≢false (sym a))
          go false a = ignored (Error number cause) ms mail_is f
