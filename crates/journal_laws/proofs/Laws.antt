-- The client law and exactly once.
use Rattle.std.proofs.Common.{◌≡◌, ℕ, zero, suc, ◌+◌, ◌-◌, ◌<◌, ◌≤◌, List, [], ◌∷◌, ◌++◌, length, true, refl, sym, ap, ap₂, ◌∙◌, subst, ⊎_elim, arith, length-append, drop, take}
use Rattle.std.specs.Prelude.{Some, None, slice_get}
use Rattle.std.proofs.lemmas.Bool.{cases_lt}
use Rattle.ot_op.specs.declared.comp.Comp.{Comp}
use Rattle.journal_entries.specs.declared.update.Update.{Update}
use Rattle.journal_entries.specs.declared.message.Msg.{Msg}
use Rattle.journal_entries.specs.declared.act.Entry.{Entry}
use Rattle.journal_rules.specs.Documents.{makings, Item, applied_list, base, first, operations, replayed, text_at, update_at, is_in}
use Rattle.journal_rules.specs.Mail.{mail_in}
use Rattle.journal_rules.specs.Client.{client, has_flight, is_alive}
use Rattle.journal_rules.specs.Legal.{IsLegal}
use Rattle.journal_rules.specs.Documents.{IsMade}
use Rattle.journal_laws.specs.Once.{IsCopy, AreOnce, IsFlightKnown}
use Rattle.journal_laws.specs.ClientLaw.{items_from, Delivers, Shows}
use Rattle.journal_rules.proofs.Lists.{Each, all_any, each_at, each_right, all_in_at, all_in_left, drop_past, some_same}
use Rattle.journal_rules.proofs.Replaying.{ops, ops-append}
use Rattle.journal_laws.proofs.Alive.{Mine, start, owner_is, IsItem, IsFlying, IsGrounded, IsAlive}
use Rattle.journal_laws.proofs.Stepping.{own, same_op}
use Rattle.journal_laws.proofs.World.{IsWell, World}
use Rattle.journal_laws.proofs.Everything.{world}

take_first : {A : Type 0} (xs ys : List A) → take (length xs) (xs ++ ys) ≡ xs
take_first [] ys = refl
take_first (x ∷ xs) ys = ap (λ l. x ∷ l) (take_first xs ys)

length-ops : (xs : List Item) → length (ops xs) ≡ length xs
length-ops [] = refl
length-ops (x ∷ xs) = let r = length-ops xs in omega (arith, r)

pub text_there : (d n : ℕ) (j : List Entry) (seen ahead : List Item) → applied_list d j ≡ seen ++ ahead → n ≡ base d j + length seen → text_at d n j ≡ replayed (first d j) (ops seen)
text_there d n j seen ahead split at =
    let l = length-ops seen in
    let k : n - base d j ≡ length (ops seen) = omega (arith, at, l) in
    ap (λ m. replayed (first d j) (take m (operations d j))) k
    ∙ ap (λ x. replayed (first d j) (take (length (ops seen)) x)) (ap ops split ∙ ops-append seen ahead)
    ∙ ap (replayed (first d j)) (take_first (ops seen) (ops ahead))

pub items_ahead : (d n : ℕ) (j : List Entry) (seen ahead : List Item) → applied_list d j ≡ seen ++ ahead → n ≡ base d j + length seen → items_from d n j ≡ ahead
items_ahead d n j seen ahead split at = let k : n - base d j ≡ length seen = omega (arith, at) in ap₂ (λ m x. drop m x) k split ∙ drop_past seen ahead

module _ (c : ℕ) (j : List Entry) (legal : IsLegal j) (alive : is_alive (client c j).state ≡ true) where
  w : World j
  w = world j legal

  x : IsWell c j (client c j)
  x = w.clients c alive

  all : Each (IsItem (client c j).doc j) [] (x.seen ++ x.ahead)
  all = subst (λ (l : List Item). Each (IsItem (client c j).doc j) [] l) x.alive.split (w.items (client c j).doc x.alive.made)

  ahead_is : items_from (client c j).doc (client c j).version j ≡ x.ahead
  ahead_is = items_ahead (client c j).doc (client c j).version j x.seen x.ahead x.alive.split x.alive.at

  -- an item under the client's present source is a copy of the flight
  own_now : (y : Item) → IsItem (client c j).doc j x.seen y → y.update.source ≡ (client c j).source → IsFlying j (client c j) x.seen y.update
  own_now y it mine =
      let m : Mine c j y.update.source = subst (Mine c j) (sym mine) x.alive.source_mine.0 in
      let is : y.update.client ≡ Some c = owner_is c j y.update.client y.update.source m (w.owned y.ticket y.update it.known) in
      ⊎_elim {C = IsFlying j (client c j) x.seen y.update}
      (λ (f : IsFlying j (client c j) x.seen y.update). f)
      (λ (g : IsGrounded c j (client c j) x.seen y.update). absurd (all_any (IsCopy c y.update.number) x.seen (it.once c is) (g.done (subst (λ n. start c j ≤ n) (sym mine) x.alive.source_mine.1))))
      (x.alive.filed y.ticket y.update it.known is)

  pub shows : Shows c j (client c j)
  shows = record {
    made = x.alive.made;
    low = let at = x.alive.at in omega (arith, at);
    high = let at = x.alive.at in let l : length (applied_list (client c j).doc j) ≡ length x.seen + length x.ahead = ap length x.alive.split ∙ length-append x.seen x.ahead in omega (arith, at, l);
    here = x.alive.here;
    there = x.alive.there;
    here_is = text_there (client c j).doc (client c j).version j x.seen x.ahead x.alive.split x.alive.at ∙ x.alive.here_is;
    flight_is = x.alive.flight_is;
    text_is = x.alive.text_is;
    mail_is = λ st. (let p = x.posted st in
        subst (λ (l : List Msg). Delivers (client c j).source (client c j).version (items_from (client c j).doc (client c j).version j) l) (sym (ap mail_in p.place_is))
        (subst (λ (l : List Item). Delivers (client c j).source (client c j).version l (drop p.place.got p.place.posted)) (sym ahead_is) p.delivers));
    lands = λ y rest ahead whose. (
        let first : x.ahead ≡ y ∷ rest = sym ahead_is ∙ ahead in
        let al : IsAlive c j (client c j) x.seen (y ∷ rest) = subst (λ (l : List Item). IsAlive c j (client c j) x.seen l) first x.alive in
        let it : IsItem (client c j).doc j x.seen y = each_at (IsItem (client c j).doc j) [] x.seen y rest (subst (λ (l : List Item). Each (IsItem (client c j).doc j) [] (x.seen ++ l)) first all) in
        let f : IsFlying j (client c j) x.seen y.update = ⊎_elim {C = IsFlying j (client c j) x.seen y.update}
        (λ under. own c j (client c j) x.seen y rest w.owned al it under)
        (λ mine. own_now y it mine)
        whose in
        f.flight_is ∙ ap (λ (o : List Comp). Some o) (same_op c j (client c j) x.seen y rest w.owned al it f));
  }

  pub flies : has_flight (client c j).flight ≡ true → IsFlightKnown c j (client c j)
  flies flying = record {
    copies = λ t u known mine number. ⊎_elim {C = (u.v ≤ (client c j).version) × (is_in u.source (client c j).sources ≡ true)}
        (λ (f : IsFlying j (client c j) x.seen u).
        let l : length x.seen ≡ length f.past + length f.since = ap length f.cut ∙ length-append f.past f.since in
        let at = x.alive.at in let from = f.from in (omega (arith, l, at, from), f.under))
        (λ (g : IsGrounded c j (client c j) x.seen u). absurd (g.other flying number))
        (x.alive.filed t u known mine);
    items = λ before y rest ahead under. (
        let cut : x.ahead ≡ before ++ y ∷ rest = sym ahead_is ∙ ahead in
        let each : Each (IsItem (client c j).doc j) x.seen (before ++ y ∷ rest) = subst (λ (l : List Item). Each (IsItem (client c j).doc j) x.seen l) cut (each_right (IsItem (client c j).doc j) [] x.seen x.ahead all) in
        let it : IsItem (client c j).doc j (x.seen ++ before) y = each_at (IsItem (client c j).doc j) x.seen before y rest each in
        let mine = x.alive.under_mine y.update.source under in
        let is : y.update.client ≡ Some c = owner_is c j y.update.client y.update.source mine.0 (w.owned y.ticket y.update it.known) in
        let number : y.update.number ≡ (client c j).number = ⊎_elim {C = y.update.number ≡ (client c j).number}
        (λ (f : IsFlying j (client c j) x.seen y.update). f.number_is)
        (λ (g : IsGrounded c j (client c j) x.seen y.update). absurd (all_any (IsCopy c y.update.number) x.seen (all_in_left (λ z. IsCopy c y.update.number z → ⊥) x.seen before (it.once c is)) (g.done mine.1)))
        (x.alive.filed y.ticket y.update it.known is) in
        (is, number));
  }

-- ---- exactly once
at_index : {A : Type 0} (xs : List A) (i : ℕ) (x : A) → slice_get xs i ≡ Some x → (xs ≡ take i xs ++ x ∷ drop (suc i) xs) × (length (take i xs) ≡ i)
at_index [] i x e = absurd (cc)
at_index (y ∷ ys) zero x e = let same : y ≡ x = cc in (ap (λ z. z ∷ ys) same, refl)
at_index (y ∷ ys) (suc i) x e = let r = at_index ys i x e in (ap (λ l. y ∷ l) r.0, let l = r.1 in omega (arith, l))

made_if : (j : List Entry) → World j → (d i : ℕ) (x : Item) → slice_get (applied_list d j) i ≡ Some x → IsMade d j
made_if j w d i x e = ⊎_elim {C = IsMade d j}
    (λ (lt : d < length (makings j)). lt)
    (λ (le : length (makings j) ≤ d). let f : slice_get [] i ≡ Some x = ap (λ (l : List Item). slice_get l i) (sym (w.unmade d le)) ∙ e in absurd (nothing_at i f))
    (cases_lt d (length (makings j)))
  where
    nothing_at : (i : ℕ) → slice_get [] i ≡ Some x → ⊥
    nothing_at i f = let g : None ≡ Some x = f in cc

item_at : (j : List Entry) (w : World j) (d i : ℕ) (x : Item) → slice_get (applied_list d j) i ≡ Some x → IsItem d j (take i (applied_list d j)) x
item_at j w d i x e =
    let r = at_index (applied_list d j) i x e in
    each_at (IsItem d j) [] (take i (applied_list d j)) x (drop (suc i) (applied_list d j)) (subst (λ (l : List Item). Each (IsItem d j) [] l) r.0 (w.items d (made_if j w d i x e)))

one_place : (j : List Entry) (w : World j) (c d i i' : ℕ) (x x' : Item) → slice_get (applied_list d j) i ≡ Some x → slice_get (applied_list d j) i' ≡ Some x' → IsCopy c x'.update.number x → x'.update.client ≡ Some c → i < i' → ⊥
one_place j w c d i i' x x' e e' copy own lt =
    let r = at_index (applied_list d j) i x e in
    let r' = at_index (applied_list d j) i' x' e' in
    let it = item_at j w d i' x' e' in
    let l = r.1 in let l' = r'.1 in
    all_in_at (λ y. IsCopy c x'.update.number y → ⊥) (take i' (applied_list d j)) (x' ∷ drop (suc i') (applied_list d j)) (take i (applied_list d j)) x (drop (suc i) (applied_list d j)) (sym r'.0 ∙ r.0) (omega (arith, l, l', lt)) (it.once c own) copy

pub once : (j : List Entry) → IsLegal j → AreOnce j
once j legal c n d d' i i' x x' e e' copy copy' =
    let w : World j = world j legal in
    let it = item_at j w d i x e in
    let it' = item_at j w d' i' x' e' in
    let docs : x.update.doc ≡ x'.update.doc = ⊎_elim {C = x.update.doc ≡ x'.update.doc}
    (λ (lt : x.ticket < x'.ticket). (w.paired c x.ticket x'.ticket x.update x'.update it.known it'.known copy.0 copy'.0 (copy.1 ∙ sym copy'.1) lt).1)
    (λ (le : x'.ticket ≤ x.ticket). ⊎_elim {C = x.update.doc ≡ x'.update.doc}
    (λ (lt : x'.ticket < x.ticket). sym (w.paired c x'.ticket x.ticket x'.update x.update it'.known it.known copy'.0 copy.0 (copy'.1 ∙ sym copy.1) lt).1)
    (λ (ge : x.ticket ≤ x'.ticket). let same : x.ticket ≡ x'.ticket = omega (arith, le, ge) in ap (λ (u : Update). u.doc) (some_same x.update x'.update (sym it.known ∙ ap (update_at j) same ∙ it'.known)))
    (cases_lt x'.ticket x.ticket))
    (cases_lt x.ticket x'.ticket) in
    let same : d ≡ d' = sym it.doc_is ∙ docs ∙ it'.doc_is in
    let e2 : slice_get (applied_list d j) i' ≡ Some x' = ap (λ n. slice_get (applied_list n j) i') same ∙ e' in (
      same,
      ⊎_elim {C = i ≡ i'}
          (λ (lt : i < i'). absurd (one_place j w c d i i' x x' e e2 (copy.0, copy.1 ∙ sym copy'.1) copy'.0 lt))
          (λ (le : i' ≤ i). ⊎_elim {C = i ≡ i'}
          (λ (lt : i' < i). absurd (one_place j w c d i' i x' x e2 e (copy'.0, copy'.1 ∙ sym copy.1) copy.0 lt))
          (λ (ge : i ≤ i'). omega (arith, le, ge))
          (cases_lt i' i))
          (cases_lt i i'),
    )
