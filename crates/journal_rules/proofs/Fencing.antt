-- The law of the fence.
use Rattle.std.proofs.Common.{◌≡◌, ◌≢◌, ◌⊎◌, ℕ, zero, suc, ◌+◌, ◌-◌, ◌<◌, ◌≤◌, List, [], ◌∷◌, ◌++◌, length, map, Bool, true, false, true≢false, ◌||◌, refl, sym, ap, ap₂, ◌∙◌, subst, inl, inr, ⊎_elim, arith, eqb, eq-eqb, ne_eqb, take, drop, append-nil, append_assoc, length-append, All}
use Rattle.std.specs.Prelude.{slice_get, Some, None, if◌then◌else◌}
use Rattle.std.specs.Option.{unwrap_or}
use Rattle.std.proofs.lemmas.Bool.{eqb-true}
use Rattle.journal_entries.specs.declared.update.Outcome.{Outcome}
use Rattle.journal_entries.specs.declared.act.Act.{Act}
use Rattle.journal_entries.specs.declared.act.Act.TheVariants.{Made, Acquired, Loaded, Committed, Unloaded}
use Rattle.journal_entries.specs.declared.act.Entry.{Entry}
use Rattle.journal_rules.specs.Documents.{Making, making_of, makings, making, first_in, base_in, Item, item_of, items_by, update_at, applied_list, replayed, text_at, sends, ticket_of, waiting, is_in}
use Rattle.journal_rules.specs.Locks.{Acquiring, acquiring_of, acquirings, acquired_by, last_acquiring, token_in, next_token, used_by}
use Rattle.journal_rules.specs.Keeping.{cached_by, cached}
use Rattle.journal_rules.specs.Legal.{IsAllowed, IsLegal}
use Rattle.journal_rules.specs.Documents.{IsMade}
use Rattle.journal_rules.specs.Fence.{IsFenced, last_of}
use Rattle.journal_rules.specs.Deciding.{decided, decided_of, passed_of, greatest_age}
use Rattle.journal_rules.specs.Tracking.{cells_at, tracked}
use Rattle.ranges_tracker.specs.Cells.{plain_row}
use Rattle.journal_entries.specs.declared.update.Update.{Update}
use Rattle.journal_rules.proofs.Pushing.{makings-push, applied_list-push, acquirings-push, cached-push, last_acquiring-push, last_acquiring-none}
use Rattle.journal_rules.proofs.Legality.{legal_front, allowed_next, Keeps, by_last, goes_on}
use Rattle.journal_rules.proofs.Waits.{one_if, committed_below, waiting-more, waiting-committed_other}

-- an act commits, or it changes nothing of what was applied and takes nothing from what waits
abbrev pub IsCommit : Act → Type 0
IsCommit a = (doc : ℕ) × (token : ℕ) × (ticket : ℕ) × (outcome : Outcome) × (a ≡ Committed doc token ticket outcome)

pub record Quiet (a : Act) : Type 0 where
  pub ticket_none : ticket_of a ≡ []
  pub items_none : (d : ℕ) (h : List Entry) → items_by d h a ≡ []

pub commit_or : (a : Act) → IsCommit a ⊎ Quiet a
commit_or (Committed doc token ticket outcome) = inl (doc, token, ticket, outcome, refl)
commit_or _ = inr (record { ticket_none = refl; items_none = λ d h. refl })

pub slice_get-front : {A : Type 0} (xs ys : List A) (i : ℕ) → i < length xs → slice_get (xs ++ ys) i ≡ slice_get xs i
slice_get-front [] ys i lt = absurd (omega arith)
slice_get-front (x ∷ xs) ys zero lt = refl
slice_get-front (x ∷ xs) ys (suc i) lt = slice_get-front xs ys i (omega arith)

-- a document that was made stays as it was made
pub made_stays : (d : ℕ) (h : List Entry) (e : Entry) → IsMade d h → IsMade d (h ++ e ∷ [])
made_stays d h e made = let long : length (makings (h ++ e ∷ [])) ≡ length (makings h) + length (making_of e.act) = ap length (makings-push h e) ∙ length-append (makings h) (making_of e.act) in omega (arith, long)

pub making_stays : (d : ℕ) (h : List Entry) (e : Entry) → IsMade d h → making d (h ++ e ∷ []) ≡ making d h
making_stays d h e made = ap (λ (l : List Making). slice_get l d) (makings-push h e) ∙ slice_get-front (makings h) (making_of e.act) d made

-- a new last_acquiring acquiring has the next token
pub new_last : (d seat : ℕ) (a : Act) (h : List Entry) → IsAllowed h seat a
    → (acquired_by d seat a (last_acquiring d h) ≡ last_acquiring d h) ⊎ ((token_in (acquired_by d seat a (last_acquiring d h)) ≡ next_token h) × (length (acquiring_of seat a) ≡ 1))
new_last d seat (Acquired doc token until) h may = by (eqb doc d)
  where
    by : (b : Bool) → ((if b then Some (record { seat = seat; doc = doc; token = token; until = until }) else last_acquiring d h) ≡ last_acquiring d h)
        ⊎ ((token_in (if b then Some (record { seat = seat; doc = doc; token = token; until = until }) else last_acquiring d h) ≡ next_token h) × (length (acquiring_of seat (Acquired doc token until)) ≡ 1))
    by true = inr (may.token_is, refl)
    by false = inl refl
new_last d seat _ h may = inl refl

pub acquirings_more : (h : List Entry) (e : Entry) → length (acquirings (h ++ e ∷ [])) ≡ length (acquirings h) + length (acquiring_of e.seat e.act)
acquirings_more h e = ap length (acquirings-push h e) ∙ length-append (acquirings h) (acquiring_of e.seat e.act)

pub token_bound : (d : ℕ) (j : List Entry) → IsLegal j → token_in (last_acquiring d j) ≤ length (acquirings j)
token_bound d = by_last (λ j. token_in (last_acquiring d j) ≤ length (acquirings j)) none more
  where
    none : token_in (last_acquiring d []) ≤ length (acquirings [])
    none = let e : token_in (last_acquiring d []) ≡ 0 = ap token_in (last_acquiring-none d) in omega (arith, e)

    more : Keeps (λ j. token_in (last_acquiring d j) ≤ length (acquirings j))
    more h e legal may bound =
        let long = acquirings_more h e in
        let now : token_in (last_acquiring d (h ++ e ∷ [])) ≡ token_in (acquired_by d e.seat e.act (last_acquiring d h)) = ap token_in (last_acquiring-push d h e) in
        ⊎_elim {C = token_in (last_acquiring d (h ++ e ∷ [])) ≤ length (acquirings (h ++ e ∷ []))}
        (λ same. let s : token_in (acquired_by d e.seat e.act (last_acquiring d h)) ≡ token_in (last_acquiring d h) = ap token_in same in omega (arith, s, now, long, bound))
        (λ fresh. let a = fresh.0 in let b = fresh.1 in omega (arith, a, b, now, long, bound))
        (new_last d e.seat e.act h may)

-- the last_acquiring token of a document never falls
pub token_grows : (d m : ℕ) (es h : List Entry) → IsLegal (h ++ es) → m ≤ token_in (last_acquiring d h) → m ≤ token_in (last_acquiring d (h ++ es))
token_grows d m = goes_on (λ j. m ≤ token_in (last_acquiring d j)) more
  where
    more : Keeps (λ j. m ≤ token_in (last_acquiring d j))
    more h e legal may le =
        let bound = token_bound d h legal in
        let now : token_in (last_acquiring d (h ++ e ∷ [])) ≡ token_in (acquired_by d e.seat e.act (last_acquiring d h)) = ap token_in (last_acquiring-push d h e) in
        ⊎_elim {C = m ≤ token_in (last_acquiring d (h ++ e ∷ []))}
        (λ same. let s : token_in (acquired_by d e.seat e.act (last_acquiring d h)) ≡ token_in (last_acquiring d h) = ap token_in same in omega (arith, s, now, le))
        (λ fresh. let a = fresh.0 in omega (arith, a, now, le, bound))
        (new_last d e.seat e.act h may)

-- a document that was acquired was made
pub acquired_made : (d : ℕ) (j : List Entry) → IsLegal j → (a : Acquiring) → last_acquiring d j ≡ Some a → IsMade d j
acquired_made d = by_last (λ j. (a : Acquiring) → last_acquiring d j ≡ Some a → IsMade d j) none more
  where
    none : (a : Acquiring) → last_acquiring d [] ≡ Some a → IsMade d []
    none a is = let e : None ≡ Some a = sym (last_acquiring-none d) ∙ is in absurd (cc)

    here : (h : List Entry) (seat : ℕ) (x : Act) (a : Acquiring) → IsAllowed h seat x → ((a : Acquiring) → last_acquiring d h ≡ Some a → IsMade d h) → acquired_by d seat x (last_acquiring d h) ≡ Some a → IsMade d h
    here h seat (Acquired doc token until) a may before is = by (eqb doc d) refl is
      where
        by : (b : Bool) → eqb doc d ≡ b → (if b then Some (record { seat = seat; doc = doc; token = token; until = until }) else last_acquiring d h) ≡ Some a → IsMade d h
        by true same is = subst (λ k. IsMade k h) (eqb-true doc d same) may.made
        by false same is = before a is
    here h seat _ a may before is = before a is

    more : Keeps (λ j. (a : Acquiring) → last_acquiring d j ≡ Some a → IsMade d j)
    more h e legal may before a is = made_stays d h e (here h e.seat e.act a may before (sym (last_acquiring-push d h e) ∙ is))

-- what stays of a document, entry by entry
pub record Stays (d : ℕ) (h k : List Entry) : Type 0 where
  pub making_is : making d k ≡ making d h
  pub applied_is : applied_list d k ≡ applied_list d h
  pub more : List ℕ
  pub waiting_is : waiting d k ≡ waiting d h ++ more
  pub cached_is : (ticket : ℕ) (rest : List ℕ) → waiting d h ≡ ticket ∷ rest → cached d h ≡ true → cached d k ≡ true

-- a document is unloaded only where nothing waits for it
still_cached : (d seat : ℕ) (x : Act) (h : List Entry) (ticket : ℕ) (rest : List ℕ) → IsAllowed h seat x → waiting d h ≡ ticket ∷ rest → cached_by d x true ≡ true
still_cached d seat (Made doc name project first base) h ticket rest may waits = either (eqb doc d)
  where
    either : (b : Bool) → (if b then true else true) ≡ true
    either true = refl
    either false = refl
still_cached d seat (Loaded doc token v) h ticket rest may waits = either (eqb doc d)
  where
    either : (b : Bool) → (if b then true else true) ≡ true
    either true = refl
    either false = refl
still_cached d seat (Unloaded doc token) h ticket rest may waits = by (eqb doc d) refl
  where
    by : (b : Bool) → eqb doc d ≡ b → (if b then false else true) ≡ true
    by true same = let none : [] ≡ ticket ∷ rest = sym may.settled ∙ ap (λ k. waiting k h) (eqb-true doc d same) ∙ waits in absurd (cc)
    by false same = refl
still_cached d seat _ h ticket rest may waits = refl

cached_on : (d : ℕ) (h : List Entry) (e : Entry) → IsAllowed h e.seat e.act → (ticket : ℕ) (rest : List ℕ) → waiting d h ≡ ticket ∷ rest → cached d h ≡ true → cached d (h ++ e ∷ []) ≡ true
cached_on d h e may ticket rest waits was = cached-push d h e ∙ ap (cached_by d e.act) was ∙ still_cached d e.seat e.act h ticket rest may waits

module _ (d : ℕ) (a : Acquiring) where
  one : (h : List Entry) (e : Entry) → IsLegal h → IsAllowed h e.seat e.act → last_acquiring d h ≡ Some a → is_in a.token (used_by e.act) ≡ false → Stays d h (h ++ e ∷ [])
  one h e legal may holds unused = ⊎_elim {C = Stays d h (h ++ e ∷ [])} commits quiet (commit_or e.act)
    where
      made : making d (h ++ e ∷ []) ≡ making d h
      made = making_stays d h e (acquired_made d h legal a holds)

      quiet : Quiet e.act → Stays d h (h ++ e ∷ [])
      quiet q = record {
        making_is = made;
        applied_is = applied_list-push d h e ∙ ap (λ l. applied_list d h ++ l) (q.items_none d h) ∙ append-nil (applied_list d h);
        more = one_if (sends d e.act) (length h);
        waiting_is = waiting-more d h e (committed_below h legal) q.ticket_none;
        cached_is = cached_on d h e may;
      }

      by : (doc token ticket : ℕ) (outcome : Outcome) → e.act ≡ Committed doc token ticket outcome → IsAllowed h e.seat (Committed doc token ticket outcome) → is_in a.token (token ∷ []) ≡ false → Stays d h (h ++ e ∷ [])
      by doc token ticket outcome is row free =
          let apart : doc ≢ d = λ same.
          let mine : Some row.holds.acquiring ≡ Some a = sym row.holds.held.last ∙ ap (λ k. last_acquiring k h) same ∙ holds in
          let it : row.holds.acquiring ≡ a = ap (λ o. unwrap_or o a) mine in
          let t : token ≡ a.token = sym row.holds.token_is ∙ ap (λ (x : Acquiring). x.token) it in
          let b : eqb token a.token ≡ true = eq-eqb token a.token t in
          true≢false (sym (ap (λ x. x || false) b) ∙ free) in
          record {
            making_is = made;
            applied_is = applied_list-push d h e ∙ ap (λ x. applied_list d h ++ items_by d h x) is ∙ ap (λ b. applied_list d h ++ (if b then item_of ticket (update_at h ticket) outcome else [])) (ne_eqb doc d apart) ∙ append-nil (applied_list d h);
            more = [];
            waiting_is = waiting-committed_other d doc h e ticket row.rest (λ s. apart (sym s)) (ap (sends d) is) (ap ticket_of is) row.first ∙ sym (append-nil (waiting d h));
            cached_is = cached_on d h e may;
          }

      commits : IsCommit e.act → Stays d h (h ++ e ∷ [])
      commits c = by c.0 c.1 c.2 c.3 c.4 (subst (λ x. IsAllowed h e.seat x) c.4 may) (ap (λ x. is_in a.token (used_by x)) (sym c.4) ∙ unused)

  -- an acquiring behind would be a later last_acquiring
  kept_last : (h : List Entry) (e : Entry) (es : List Entry) → IsLegal (h ++ e ∷ es) → last_acquiring d h ≡ Some a → last_acquiring d (h ++ e ∷ es) ≡ Some a → last_acquiring d (h ++ e ∷ []) ≡ Some a
  kept_last h e es legal holds ends =
      let low : IsLegal h = legal_front h (e ∷ es) legal in
      let again : (h ++ e ∷ []) ++ es ≡ h ++ e ∷ es = append_assoc h (e ∷ []) es in
      let grows : token_in (last_acquiring d (h ++ e ∷ [])) ≤ token_in (last_acquiring d ((h ++ e ∷ []) ++ es)) = token_grows d (token_in (last_acquiring d (h ++ e ∷ []))) es (h ++ e ∷ []) (subst IsLegal (sym again) legal) (omega arith) in
      let end : token_in (last_acquiring d ((h ++ e ∷ []) ++ es)) ≡ a.token = ap (λ j. token_in (last_acquiring d j)) again ∙ ap token_in ends in
      let now : token_in (last_acquiring d (h ++ e ∷ [])) ≡ token_in (acquired_by d e.seat e.act (last_acquiring d h)) = ap token_in (last_acquiring-push d h e) in
      let was : token_in (last_acquiring d h) ≡ a.token = ap token_in holds in
      let bound = token_bound d h low in
      ⊎_elim {C = last_acquiring d (h ++ e ∷ []) ≡ Some a}
      (λ same. last_acquiring-push d h e ∙ same ∙ holds)
      (λ fresh. let f = fresh.0 in absurd (omega (arith, f, grows, end, now, was, bound)))
      (new_last d e.seat e.act h (allowed_next h e es legal))

  stays : (more h : List Entry) → IsLegal (h ++ more) → last_acquiring d h ≡ Some a → last_acquiring d (h ++ more) ≡ Some a → All (λ (e : Entry). is_in a.token (used_by e.act) ≡ false) more → Stays d h (h ++ more)
  stays [] h legal holds ends unused = subst (λ (k : List Entry). Stays d h k) (sym (append-nil h)) (record { making_is = refl; applied_is = refl; more = []; waiting_is = sym (append-nil (waiting d h)); cached_is = λ ticket rest waits was. was })
  stays (e ∷ es) h legal holds ends unused =
      let again : (h ++ e ∷ []) ++ es ≡ h ++ e ∷ es = append_assoc h (e ∷ []) es in
      let s : Stays d h (h ++ e ∷ []) = one h e (legal_front h (e ∷ es) legal) (allowed_next h e es legal) holds (unused 0 e (omega arith)) in
      let rest : Stays d (h ++ e ∷ []) ((h ++ e ∷ []) ++ es) =
      stays es (h ++ e ∷ []) (subst IsLegal (sym again) legal) (kept_last h e es legal holds ends) (ap (last_acquiring d) again ∙ ends) (λ k x l. unused (suc k) x (omega arith)) in
      let all : Stays d h ((h ++ e ∷ []) ++ es) = record {
        making_is = rest.making_is ∙ s.making_is;
        applied_is = rest.applied_is ∙ s.applied_is;
        more = s.more ++ rest.more;
        waiting_is = rest.waiting_is ∙ ap (λ l. l ++ rest.more) s.waiting_is ∙ append_assoc (waiting d h) s.more rest.more;
        cached_is = λ ticket others waits was. rest.cached_is ticket (others ++ s.more) (s.waiting_is ∙ ap (λ l. l ++ s.more) waits) (s.cached_is ticket others waits was);
      } in
      subst (λ (k : List Entry). Stays d h k) again all

-- what is read of a document by how it was made and what was applied to it
pub stays_text : (d n : ℕ) (h k : List Entry) → making d k ≡ making d h → applied_list d k ≡ applied_list d h → text_at d n k ≡ text_at d n h
stays_text d n h k m l = ap₂ (λ x y. replayed (first_in x) (take (n - base_in x) (map (λ (i : Item). i.op) y))) m l

pub stays_cells : (d n : ℕ) (h k : List Entry) → making d k ≡ making d h → applied_list d k ≡ applied_list d h → cells_at d n k ≡ cells_at d n h
stays_cells d n h k m l = ap₂ (λ x y. tracked (plain_row (first_in x)) (take (n - base_in x) y)) m l

pub stays_decided : (d : ℕ) (u : Update) (h k : List Entry) → making d k ≡ making d h → applied_list d k ≡ applied_list d h → decided k d u ≡ decided h d u
stays_decided d u h k m l =
    ap₂ (λ x y. decided_of (base_in x) (base_in x + length y) (replayed (first_in x) (map (λ (i : Item). i.op) y)) u (map passed_of (drop (u.v - base_in x) y))) m l

pub fenced : (early more : List Entry) (d : ℕ) (a : Acquiring) → IsFenced early more d a
fenced early more d a legal holds ends unused =
    let s : Stays d early (early ++ more) = stays d a more early legal holds ends unused in
    record {
      making_is = s.making_is;
      applied_is = s.applied_is;
      version_is = ap₂ (λ x y. base_in x + length y) s.making_is s.applied_is;
      text_is = λ n. stays_text d n early (early ++ more) s.making_is s.applied_is;
      cells_is = λ n. stays_cells d n early (early ++ more) s.making_is s.applied_is;
      recent_is = ap (λ y. last_of greatest_age (map (λ (i : Item). i.op) y)) s.applied_is;
      more = s.more;
      waiting_is = s.waiting_is;
      first_is = λ ticket rest first. s.waiting_is ∙ ap (λ l. l ++ s.more) first;
      cached_is = s.cached_is;
      decided_is = λ u. stays_decided d u early (early ++ more) s.making_is s.applied_is;
    }
