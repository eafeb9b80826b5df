-- Updates and sources after one entry more; what a client sends; what a decision says.
use Rattle.std.proofs.Common.{◌≡◌, ◌⊎◌, ℕ, ◌+◌, ◌-◌, ◌<◌, ◌≤◌, List, [], ◌∷◌, ◌++◌, length, map, Bool, true, false, true≢false, ◌||◌, refl, sym, ap, ◌∙◌, subst, inl, inr, ⊎_elim, arith, length-append, take, drop}
use Rattle.std.specs.Prelude.{Option, Some, None, slice_get, if◌then◌else◌, nat_lt}
use Rattle.std.specs.Option.{option_and_then}
use Rattle.std.proofs.lemmas.Bool.{cases_lt, ltb-false}
use Rattle.std.proofs.lemmas.Bool.Decides.{nat_tests}
use Rattle.std.proofs.lemmas.Option.{slice_get_within, slice_get_past}
use Rattle.ot_op.specs.declared.comp.Comp.{Comp}
use Rattle.ot_op.specs.Apply.{applied_all}
use Rattle.journal_entries.specs.declared.update.Update.{Update}
use Rattle.journal_entries.specs.declared.update.Outcome.TheVariants.{Applied, Dup, Refused}
use Rattle.journal_entries.specs.declared.update.Cause.TheVariants.{Future, TooOld, TooLong}
use Rattle.journal_entries.specs.declared.act.Entry.{Entry}
use Rattle.journal_rules.specs.declared.state.ClientState.{ClientState}
use Rattle.journal_rules.specs.declared.state.ClientState.TheVariants.{Away, Joined, Left, Stale}
use Rattle.journal_rules.specs.Documents.{Item, applied_list, base, first, version, text, text_at, replayed, operations, update_of, update_in, update_at}
use Rattle.journal_rules.specs.Deciding.{passed_of, decided, concluded, fitted, scanned, Scan, Twin, Stuck, Moved, longest}
use Rattle.journal_rules.specs.Client.{Client, sending, sends_by, sends_flight, update_from}
use Rattle.journal_rules.proofs.Legality.{front, seam}
use Rattle.journal_rules.proofs.Fencing.{slice_get-front}
use Rattle.journal_rules.proofs.Lists.{AnyIn, some_same, cut_at_length, take_all}
use Rattle.journal_rules.proofs.Replaying.{ops, Passes, passes, twin_of}
use Rattle.journal_laws.proofs.Alive.{joiner_of, joiner_in, Mine}

pub update_new : (h : List Entry) (e : Entry) (t : ℕ) (u : Update) → update_at (h ++ e ∷ []) t ≡ Some u → (update_at h t ≡ Some u) ⊎ ((t ≡ length h) × (update_of e.act ≡ Some u))
update_new h e t u is = ⊎_elim {C = (update_at h t ≡ Some u) ⊎ ((t ≡ length h) × (update_of e.act ≡ Some u))}
    (λ (lt : t < length h). inl (ap update_in (sym (slice_get-front h (e ∷ []) t lt)) ∙ is))
    (λ (le : length h ≤ t). ⊎_elim {C = (update_at h t ≡ Some u) ⊎ ((t ≡ length h) × (update_of e.act ≡ Some u))}
    (λ (lt : length h < t). let past : None ≡ Some u = sym (ap update_in (slice_get_past (h ++ e ∷ []) t (let l = length-append h (e ∷ []) in omega (arith, l, lt)))) ∙ is in absurd (cc))
    (λ (ge : t ≤ length h). let same : t ≡ length h = omega (arith, le, ge) in inr (same, sym (ap update_in (ap (slice_get (h ++ e ∷ [])) same ∙ seam h e [])) ∙ is))
    (cases_lt (length h) t))
    (cases_lt t (length h))

pub mine_stays : (c : ℕ) (h more : List Entry) (source : ℕ) → Mine c h source → Mine c (h ++ more) source
mine_stays c h more source m = (m.0, go (slice_get h (source - 1000000)) refl m.1)
  where
    go : (o : Option Entry) → slice_get h (source - 1000000) ≡ o → joiner_in o ≡ Some c → joiner_in (slice_get (h ++ more) (source - 1000000)) ≡ Some c
    go None at is = absurd (cc)
    go (Some e) at is = ap joiner_in (front h more (source - 1000000) e at) ∙ is

pub mine_below : (c : ℕ) (h : List Entry) (source : ℕ) → Mine c h source → source < 1000000 + length h
mine_below c h source m = go (slice_get h (source - 1000000)) refl m.1
  where
    go : (o : Option Entry) → slice_get h (source - 1000000) ≡ o → joiner_in o ≡ Some c → source < 1000000 + length h
    go None at is = absurd (cc)
    go (Some e) at is = let l = slice_get_within h (source - 1000000) e at in let b = m.0 in omega (arith, l, b)

pub mine_new : (c : ℕ) (h : List Entry) (e : Entry) (source : ℕ) → source ≡ 1000000 + length h → joiner_of e.act ≡ Some c → Mine c (h ++ e ∷ []) source
mine_new c h e source is joins =
    let at : source - 1000000 ≡ length h = omega (arith, is) in
    (omega (arith, is), ap joiner_in (ap (slice_get (h ++ e ∷ [])) at ∙ seam h e []) ∙ joins)

-- what a client sends
pub data Sends (c : ℕ) (s : Client) (now : ℕ) (u : Update) : Type 0 where
  Fresh : s.flight ≡ None → u ≡ update_from c s now (s.number + 1) s.pending [] → Sends c s now u
  Again : (flight : List Comp) → s.flight ≡ Some flight → u ≡ update_from c s now s.number flight s.sources → Sends c s now u

pub sending_is : (c : ℕ) (s : Client) (now : ℕ) (u : Update) → sending c s now ≡ Some u → (s.state ≡ Joined) × Sends c s now u
sending_is c s now u e = by_state s.state refl e
  where
    by_parts : (f : Option (List Comp)) (p : List Comp) → s.flight ≡ f → s.pending ≡ p → sends_flight c s now f p ≡ Some u → Sends c s now u
    by_parts None [] is at e = absurd (cc)
    by_parts None (p ∷ ps) is at e = Fresh is (sym (some_same (update_from c s now (s.number + 1) (p ∷ ps) []) u e) ∙ ap (λ l. update_from c s now (s.number + 1) l []) (sym at))
    by_parts (Some []) p is at e = absurd (cc)
    by_parts (Some (f ∷ fs)) p is at e = Again (f ∷ fs) is (sym (some_same (update_from c s now s.number (f ∷ fs) s.sources) u e))

    by_state : (st : ClientState) → s.state ≡ st → sends_by c s now st ≡ Some u → (s.state ≡ Joined) × Sends c s now u
    by_state Joined is e = (is, by_parts s.flight s.pending refl refl e)
    by_state Away is e = absurd (cc)
    by_state Left is e = absurd (cc)
    by_state Stale is e = absurd (cc)

-- what a decision to apply says
pub record Decided (d : ℕ) (h : List Entry) (u : Update) (v : ℕ) (op : List Comp) : Type 0 where
  pub v_is : v ≡ version d h
  pub past : List Item
  pub since : List Item
  pub cut : applied_list d h ≡ past ++ since
  pub from : u.v ≡ base d h + length past
  pub passing : Passes u.dup u.op since op
  pub here : List ℕ
  pub to : List ℕ
  pub here_is : replayed (first d h) (ops (applied_list d h)) ≡ Some here
  pub to_is : applied_all here op ≡ Some to
  pub short : length to ≤ longest

-- the text at the version is the text
pub text_at_version : (d : ℕ) (h : List Entry) → text_at d (version d h) h ≡ text d h
text_at_version d h =
    let n : version d h - base d h ≡ length (operations d h) = let l = length-ops (applied_list d h) in omega (arith, l) in
    ap (λ k. replayed (first d h) (take k (operations d h))) n ∙ ap (replayed (first d h)) (take_all (operations d h))
  where
    length-ops : (xs : List Item) → length (ops xs) ≡ length xs
    length-ops [] = refl
    length-ops (x ∷ xs) = let r = length-ops xs in omega (arith, r)

pub or_false : (a b : Bool) → (a || b) ≡ false → (a ≡ false) × (b ≡ false)
or_false true b e = absurd (true≢false e)
or_false false b e = (refl, e)

pub decided_applies : (d : ℕ) (h : List Entry) (u : Update) (v : ℕ) (op : List Comp) → decided h d u ≡ Applied v op → Decided d h u v op
decided_applies d h u v op e = first_test (nat_lt (version d h) u.v) refl e
  where
    rest : List Item
    rest = drop (u.v - base d h) (applied_list d h)

    by_fit : (o : List Comp) (here next : List ℕ) (b : Bool) → nat_lt longest (length next) ≡ b → u.v ≤ version d h → base d h ≤ u.v → scanned u.dup u.op (map passed_of rest) ≡ Moved o → text d h ≡ Some here → applied_all here o ≡ Some next
        → (if b then Refused (TooLong (length next)) else Applied (version d h) o) ≡ Applied v op → Decided d h u v op
    by_fit o here next true b_is low high moves at to e = absurd (cc)
    by_fit o here next false b_is low high moves at to e =
        let same : o ≡ op = cc in
        let v_same : v ≡ version d h = cc in
        let c = cut_at_length (u.v - base d h) (applied_list d h) (omega (arith, low)) in
        record {
          v_is = v_same;
          past = take (u.v - base d h) (applied_list d h);
          since = rest;
          cut = c.0;
          from = let l = c.1 in omega (arith, l, high);
          passing = subst (λ (x : List Comp). Passes u.dup u.op rest x) same (passes u.dup u.op o rest moves);
          here = here;
          to = next;
          here_is = at;
          to_is = ap (applied_all here) (sym same) ∙ to;
          short = ltb-false longest (length next) b_is;
        }

    by_next : (o : List Comp) (here : List ℕ) (r : Option (List ℕ)) → applied_all here o ≡ r → u.v ≤ version d h → base d h ≤ u.v → scanned u.dup u.op (map passed_of rest) ≡ Moved o → text d h ≡ Some here → fitted (version d h) o r ≡ Applied v op → Decided d h u v op
    by_next o here None to low high moves at e = absurd (cc)
    by_next o here (Some next) to low high moves at e = by_fit o here next (nat_lt longest (length next)) refl low high moves at to e

    by_text : (o : List Comp) (r : Option (List ℕ)) → text d h ≡ r → u.v ≤ version d h → base d h ≤ u.v → scanned u.dup u.op (map passed_of rest) ≡ Moved o → fitted (version d h) o (option_and_then (λ here. applied_all here o) r) ≡ Applied v op → Decided d h u v op
    by_text o None at low high moves e = absurd (cc)
    by_text o (Some here) at low high moves e = by_next o here (applied_all here o) refl low high moves at e

    by_scan : (s : Scan) → scanned u.dup u.op (map passed_of rest) ≡ s → u.v ≤ version d h → base d h ≤ u.v → concluded (version d h) (text d h) s ≡ Applied v op → Decided d h u v op
    by_scan (Twin w) moves low high e = absurd (cc)
    by_scan Stuck moves low high e = absurd (cc)
    by_scan (Moved o) moves low high e = by_text o (text d h) refl low high moves e

    second_test : (b : Bool) → (nat_lt u.v (base d h) || nat_lt (u.v + 100) (version d h)) ≡ b → u.v ≤ version d h
        → (if b then Refused (TooOld (version d h)) else concluded (version d h) (text d h) (scanned u.dup u.op (map passed_of rest))) ≡ Applied v op → Decided d h u v op
    second_test true b_is low e = absurd (cc)
    second_test false b_is low e = by_scan (scanned u.dup u.op (map passed_of rest)) refl low (ltb-false u.v (base d h) (or_false (nat_lt u.v (base d h)) (nat_lt (u.v + 100) (version d h)) b_is).0) e

    first_test : (b : Bool) → nat_lt (version d h) u.v ≡ b
        → (if b then Refused (Future (version d h)) else if nat_lt u.v (base d h) || nat_lt (u.v + 100) (version d h) then Refused (TooOld (version d h)) else concluded (version d h) (text d h) (scanned u.dup u.op (map passed_of rest))) ≡ Applied v op → Decided d h u v op
    first_test true b_is e = absurd (cc)
    first_test false b_is e = second_test (nat_lt u.v (base d h) || nat_lt (u.v + 100) (version d h)) refl (ltb-false (version d h) u.v b_is) e

-- a duplicate names one of the items from the update's version on
pub decided_twin : (d : ℕ) (h : List Entry) (u : Update) (w : ℕ) → decided h d u ≡ Dup w → AnyIn (λ (x : Item). x.v ≡ w) (drop (u.v - base d h) (applied_list d h))
decided_twin d h u w e = first_test (nat_lt (version d h) u.v) e
  where
    rest : List Item
    rest = drop (u.v - base d h) (applied_list d h)

    by_fit : (o : List Comp) (next : List ℕ) (b : Bool) → (if b then Refused (TooLong (length next)) else Applied (version d h) o) ≡ Dup w → AnyIn (λ (x : Item). x.v ≡ w) rest
    by_fit o next true e = absurd (cc)
    by_fit o next false e = absurd (cc)

    by_next : (o : List Comp) (r : Option (List ℕ)) → fitted (version d h) o r ≡ Dup w → AnyIn (λ (x : Item). x.v ≡ w) rest
    by_next o None e = absurd (cc)
    by_next o (Some next) e = by_fit o next (nat_lt longest (length next)) e

    by_scan : (s : Scan) → scanned u.dup u.op (map passed_of rest) ≡ s → concluded (version d h) (text d h) s ≡ Dup w → AnyIn (λ (x : Item). x.v ≡ w) rest
    by_scan (Twin z) moves e = let same : z ≡ w = cc in twin_of u.dup u.op w rest (moves ∙ ap Twin same)
    by_scan Stuck moves e = absurd (cc)
    by_scan (Moved o) moves e = by_next o (option_and_then (λ here. applied_all here o) (text d h)) e

    second_test : (b : Bool) → (if b then Refused (TooOld (version d h)) else concluded (version d h) (text d h) (scanned u.dup u.op (map passed_of rest))) ≡ Dup w → AnyIn (λ (x : Item). x.v ≡ w) rest
    second_test true e = absurd (cc)
    second_test false e = by_scan (scanned u.dup u.op (map passed_of rest)) refl e

    first_test : (b : Bool) → (if b then Refused (Future (version d h)) else if nat_lt u.v (base d h) || nat_lt (u.v + 100) (version d h) then Refused (TooOld (version d h)) else concluded (version d h) (text d h) (scanned u.dup u.op (map passed_of rest))) ≡ Dup w → AnyIn (λ (x : Item). x.v ≡ w) rest
    first_test true e = absurd (cc)
    first_test false e = second_test (nat_lt u.v (base d h) || nat_lt (u.v + 100) (version d h)) e
