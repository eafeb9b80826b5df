-- The law of the fence, over the weaker legality.
use Rattle.std.proofs.Common.{◌≡◌, ◌≢◌, ◌⊎◌, ℕ, suc, ◌+◌, ◌-◌, ◌≤◌, List, [], ◌∷◌, ◌++◌, length, map, Bool, true, false, true≢false, ◌||◌, refl, sym, ap, ap₂, ◌∙◌, subst, inl, inr, ⊎_elim, arith, eqb, eq-eqb, ne_eqb, take, drop, append-nil, append_assoc, All}
use Rattle.std.specs.Prelude.{Some, None, if◌then◌else◌}
use Rattle.std.specs.Option.{unwrap_or}
use Rattle.std.proofs.lemmas.Bool.{eqb-true}
use Rattle.journal_entries.specs.declared.update.Outcome.{Outcome}
use Rattle.journal_entries.specs.declared.act.Act.{Act}
use Rattle.journal_entries.specs.declared.act.Act.TheVariants.{Made, Acquired, Loaded, Committed, Unloaded}
use Rattle.journal_entries.specs.declared.act.Entry.{Entry}
use Rattle.journal_rules.specs.Documents.{making, first_in, base_in, Item, item_of, items_by, update_at, applied_list, replayed, sends, ticket_of, waiting, is_in, IsMade}
use Rattle.journal_rules.specs.Locks.{Acquiring, acquiring_of, acquirings, acquired_by, last_acquiring, token_in, next_token, used_by}
use Rattle.journal_rules.specs.Keeping.{cached_by, cached}
use Rattle.journal_rules.specs.Fence.{last_of}
use Rattle.journal_rules.specs.Deciding.{decided, decided_of, passed_of, greatest_age}
use Rattle.journal_rules.specs.Tracking.{cells_at, tracked}
use Rattle.ranges_tracker.specs.Cells.{plain_row}
use Rattle.journal_entries.specs.declared.update.Update.{Update}
use Rattle.journal_rules.proofs.Pushing.{applied_list-push, cached-push, last_acquiring-push, last_acquiring-none}
use Rattle.journal_rules.proofs.Waits.{one_if, waiting-more, waiting-committed_other}
use Rattle.loading_rules.specs.LegalBut.{IsLegalBut, IsAllowedBut}
use Rattle.loading_rules.proofs.Legality.{legal_front, allowed_next, Keeps, goes_on, by_last}
use Rattle.journal_rules.proofs.Fencing.{IsCommit, Quiet, Stays, acquirings_more, commit_or, made_stays, making_stays, stays_cells, stays_decided, stays_text}
use Rattle.loading_rules.proofs.Waits.{committed_below}
use Rattle.loading_rules.specs.Fence.{IsFencedBut}

-- a new last_acquiring acquiring has the next token
pub new_last : (d seat : ℕ) (a : Act) (h : List Entry) → IsAllowedBut h seat a
    → (acquired_by d seat a (last_acquiring d h) ≡ last_acquiring d h) ⊎ ((token_in (acquired_by d seat a (last_acquiring d h)) ≡ next_token h) × (length (acquiring_of seat a) ≡ 1))
new_last d seat (Acquired doc token until) h may = by (eqb doc d)
  where
    by : (b : Bool) → ((if b then Some (record { seat = seat; doc = doc; token = token; until = until }) else last_acquiring d h) ≡ last_acquiring d h)
        ⊎ ((token_in (if b then Some (record { seat = seat; doc = doc; token = token; until = until }) else last_acquiring d h) ≡ next_token h) × (length (acquiring_of seat (Acquired doc token until)) ≡ 1))
    by true = inr (may.token_is, refl)
    by false = inl refl
new_last d seat _ h may = inl refl

pub token_bound : (d : ℕ) (j : List Entry) → IsLegalBut j → token_in (last_acquiring d j) ≤ length (acquirings j)
token_bound d = by_last (λ j. token_in (last_acquiring d j) ≤ length (acquirings j)) none more
  where
    none : token_in (last_acquiring d []) ≤ length (acquirings [])
    none = let e : token_in (last_acquiring d []) ≡ 0 = ap token_in (last_acquiring-none d) in omega (arith, e)

    more : Keeps (λ j. token_in (last_acquiring d j) ≤ length (acquirings j))
    more h e legal may bound =
        let long = acquirings_more h e in
        let now : token_in (last_acquiring d (h ++ e ∷ [])) ≡ token_in (acquired_by d e.seat e.act (last_acquiring d h)) = ap token_in (last_acquiring-push d h e) in
        ⊎_elim {C = token_in (last_acquiring d (h ++ e ∷ [])) ≤ length (acquirings (h ++ e ∷ []))}
        (λ same. let s : token_in (acquired_by d e.seat e.act (last_acquiring d h)) ≡ token_in (last_acquiring d h) = ap token_in same in omega (arith, s, now, long, bound))
        (λ fresh. let a = fresh.0 in let b = fresh.1 in omega (arith, a, b, now, long, bound))
        (new_last d e.seat e.act h may)

-- the last_acquiring token of a document never falls
pub token_grows : (d m : ℕ) (es h : List Entry) → IsLegalBut (h ++ es) → m ≤ token_in (last_acquiring d h) → m ≤ token_in (last_acquiring d (h ++ es))
token_grows d m = goes_on (λ j. m ≤ token_in (last_acquiring d j)) more
  where
    more : Keeps (λ j. m ≤ token_in (last_acquiring d j))
    more h e legal may le =
        let bound = token_bound d h legal in
        let now : token_in (last_acquiring d (h ++ e ∷ [])) ≡ token_in (acquired_by d e.seat e.act (last_acquiring d h)) = ap token_in (last_acquiring-push d h e) in
        ⊎_elim {C = m ≤ token_in (last_acquiring d (h ++ e ∷ []))}
        (λ same. let s : token_in (acquired_by d e.seat e.act (last_acquiring d h)) ≡ token_in (last_acquiring d h) = ap token_in same in omega (arith, s, now, le))
        (λ fresh. let a = fresh.0 in omega (arith, a, now, le, bound))
        (new_last d e.seat e.act h may)

-- a document that was acquired was made
pub acquired_made : (d : ℕ) (j : List Entry) → IsLegalBut j → (a : Acquiring) → last_acquiring d j ≡ Some a → IsMade d j
acquired_made d = by_last (λ j. (a : Acquiring) → last_acquiring d j ≡ Some a → IsMade d j) none more
  where
    none : (a : Acquiring) → last_acquiring d [] ≡ Some a → IsMade d []
    none a is = let e : None ≡ Some a = sym (last_acquiring-none d) ∙ is in absurd (cc)

    here : (h : List Entry) (seat : ℕ) (x : Act) (a : Acquiring) → IsAllowedBut h seat x → ((a : Acquiring) → last_acquiring d h ≡ Some a → IsMade d h) → acquired_by d seat x (last_acquiring d h) ≡ Some a → IsMade d h
    here h seat (Acquired doc token until) a may before is = by (eqb doc d) refl is
      where
        by : (b : Bool) → eqb doc d ≡ b → (if b then Some (record { seat = seat; doc = doc; token = token; until = until }) else last_acquiring d h) ≡ Some a → IsMade d h
        by true same is = subst (λ k. IsMade k h) (eqb-true doc d same) may.made
        by false same is = before a is
    here h seat _ a may before is = before a is

    more : Keeps (λ j. (a : Acquiring) → last_acquiring d j ≡ Some a → IsMade d j)
    more h e legal may before a is = made_stays d h e (here h e.seat e.act a may before (sym (last_acquiring-push d h e) ∙ is))

-- a document is unloaded only where nothing waits for it
still_cached : (d seat : ℕ) (x : Act) (h : List Entry) (ticket : ℕ) (rest : List ℕ) → IsAllowedBut h seat x → waiting d h ≡ ticket ∷ rest → cached_by d x true ≡ true
still_cached d seat (Made doc name project first base) h ticket rest may waits = either (eqb doc d)
  where
    either : (b : Bool) → (if b then true else true) ≡ true
    either true = refl
    either false = refl
still_cached d seat (Loaded doc token v) h ticket rest may waits = either (eqb doc d)
  where
    either : (b : Bool) → (if b then true else true) ≡ true
    either true = refl
    either false = refl
still_cached d seat (Unloaded doc token) h ticket rest may waits = by (eqb doc d) refl
  where
    by : (b : Bool) → eqb doc d ≡ b → (if b then false else true) ≡ true
    by true same = let none : [] ≡ ticket ∷ rest = sym may.settled ∙ ap (λ k. waiting k h) (eqb-true doc d same) ∙ waits in absurd (cc)
    by false same = refl
still_cached d seat _ h ticket rest may waits = refl

cached_on : (d : ℕ) (h : List Entry) (e : Entry) → IsAllowedBut h e.seat e.act → (ticket : ℕ) (rest : List ℕ) → waiting d h ≡ ticket ∷ rest → cached d h ≡ true → cached d (h ++ e ∷ []) ≡ true
cached_on d h e may ticket rest waits was = cached-push d h e ∙ ap (cached_by d e.act) was ∙ still_cached d e.seat e.act h ticket rest may waits

module _ (d : ℕ) (a : Acquiring) where
  one : (h : List Entry) (e : Entry) → IsLegalBut h → IsAllowedBut h e.seat e.act → last_acquiring d h ≡ Some a → is_in a.token (used_by e.act) ≡ false → Stays d h (h ++ e ∷ [])
  one h e legal may holds unused = ⊎_elim {C = Stays d h (h ++ e ∷ [])} commits quiet (commit_or e.act)
    where
      made : making d (h ++ e ∷ []) ≡ making d h
      made = making_stays d h e (acquired_made d h legal a holds)

      quiet : Quiet e.act → Stays d h (h ++ e ∷ [])
      quiet q = record {
        making_is = made;
        applied_is = applied_list-push d h e ∙ ap (λ l. applied_list d h ++ l) (q.items_none d h) ∙ append-nil (applied_list d h);
        more = one_if (sends d e.act) (length h);
        waiting_is = waiting-more d h e (committed_below h legal) q.ticket_none;
        cached_is = cached_on d h e may;
      }

      by : (doc token ticket : ℕ) (outcome : Outcome) → e.act ≡ Committed doc token ticket outcome → IsAllowedBut h e.seat (Committed doc token ticket outcome) → is_in a.token (token ∷ []) ≡ false → Stays d h (h ++ e ∷ [])
      by doc token ticket outcome is row free =
          let apart : doc ≢ d = λ same.
          let mine : Some row.holds.acquiring ≡ Some a = sym row.holds.held.last ∙ ap (λ k. last_acquiring k h) same ∙ holds in
          let it : row.holds.acquiring ≡ a = ap (λ o. unwrap_or o a) mine in
          let t : token ≡ a.token = sym row.holds.token_is ∙ ap (λ (x : Acquiring). x.token) it in
          let b : eqb token a.token ≡ true = eq-eqb token a.token t in
          true≢false (sym (ap (λ x. x || false) b) ∙ free) in
          record {
            making_is = made;
            applied_is = applied_list-push d h e ∙ ap (λ x. applied_list d h ++ items_by d h x) is ∙ ap (λ b. applied_list d h ++ (if b then item_of ticket (update_at h ticket) outcome else [])) (ne_eqb doc d apart) ∙ append-nil (applied_list d h);
            more = [];
            waiting_is = waiting-committed_other d doc h e ticket row.rest (λ s. apart (sym s)) (ap (sends d) is) (ap ticket_of is) row.first ∙ sym (append-nil (waiting d h));
            cached_is = cached_on d h e may;
          }

      commits : IsCommit e.act → Stays d h (h ++ e ∷ [])
      commits c = by c.0 c.1 c.2 c.3 c.4 (subst (λ x. IsAllowedBut h e.seat x) c.4 may) (ap (λ x. is_in a.token (used_by x)) (sym c.4) ∙ unused)

  -- an acquiring behind would be a later last_acquiring
  pub last_kept : (h : List Entry) (e : Entry) (es : List Entry) → IsLegalBut (h ++ e ∷ es) → last_acquiring d h ≡ Some a → last_acquiring d (h ++ e ∷ es) ≡ Some a → last_acquiring d (h ++ e ∷ []) ≡ Some a
  last_kept h e es legal holds ends =
      let low : IsLegalBut h = legal_front h (e ∷ es) legal in
      let again : (h ++ e ∷ []) ++ es ≡ h ++ e ∷ es = append_assoc h (e ∷ []) es in
      let grows : token_in (last_acquiring d (h ++ e ∷ [])) ≤ token_in (last_acquiring d ((h ++ e ∷ []) ++ es)) = token_grows d (token_in (last_acquiring d (h ++ e ∷ []))) es (h ++ e ∷ []) (subst IsLegalBut (sym again) legal) (omega arith) in
      let end : token_in (last_acquiring d ((h ++ e ∷ []) ++ es)) ≡ a.token = ap (λ j. token_in (last_acquiring d j)) again ∙ ap token_in ends in
      let now : token_in (last_acquiring d (h ++ e ∷ [])) ≡ token_in (acquired_by d e.seat e.act (last_acquiring d h)) = ap token_in (last_acquiring-push d h e) in
      let was : token_in (last_acquiring d h) ≡ a.token = ap token_in holds in
      let bound = token_bound d h low in
      ⊎_elim {C = last_acquiring d (h ++ e ∷ []) ≡ Some a}
      (λ same. last_acquiring-push d h e ∙ same ∙ holds)
      (λ fresh. let f = fresh.0 in absurd (omega (arith, f, grows, end, now, was, bound)))
      (new_last d e.seat e.act h (allowed_next h e es legal))

  stays : (more h : List Entry) → IsLegalBut (h ++ more) → last_acquiring d h ≡ Some a → last_acquiring d (h ++ more) ≡ Some a → All (λ (e : Entry). is_in a.token (used_by e.act) ≡ false) more → Stays d h (h ++ more)
  stays [] h legal holds ends unused = subst (λ (k : List Entry). Stays d h k) (sym (append-nil h)) (record { making_is = refl; applied_is = refl; more = []; waiting_is = sym (append-nil (waiting d h)); cached_is = λ ticket rest waits was. was })
  stays (e ∷ es) h legal holds ends unused =
      let again : (h ++ e ∷ []) ++ es ≡ h ++ e ∷ es = append_assoc h (e ∷ []) es in
      let s : Stays d h (h ++ e ∷ []) = one h e (legal_front h (e ∷ es) legal) (allowed_next h e es legal) holds (unused 0 e (omega arith)) in
      let rest : Stays d (h ++ e ∷ []) ((h ++ e ∷ []) ++ es) =
      stays es (h ++ e ∷ []) (subst IsLegalBut (sym again) legal) (last_kept h e es legal holds ends) (ap (last_acquiring d) again ∙ ends) (λ k x l. unused (suc k) x (omega arith)) in
      let all : Stays d h ((h ++ e ∷ []) ++ es) = record {
        making_is = rest.making_is ∙ s.making_is;
        applied_is = rest.applied_is ∙ s.applied_is;
        more = s.more ++ rest.more;
        waiting_is = rest.waiting_is ∙ ap (λ l. l ++ rest.more) s.waiting_is ∙ append_assoc (waiting d h) s.more rest.more;
        cached_is = λ ticket others waits was. rest.cached_is ticket (others ++ s.more) (s.waiting_is ∙ ap (λ l. l ++ s.more) waits) (s.cached_is ticket others waits was);
      } in
      subst (λ (k : List Entry). Stays d h k) again all

pub fenced : (early more : List Entry) (d : ℕ) (a : Acquiring) → IsFencedBut early more d a
fenced early more d a legal holds ends unused =
    let s : Stays d early (early ++ more) = stays d a more early legal holds ends unused in
    record {
      making_is = s.making_is;
      applied_is = s.applied_is;
      version_is = ap₂ (λ x y. base_in x + length y) s.making_is s.applied_is;
      text_is = λ n. stays_text d n early (early ++ more) s.making_is s.applied_is;
      cells_is = λ n. stays_cells d n early (early ++ more) s.making_is s.applied_is;
      recent_is = ap (λ y. last_of greatest_age (map (λ (i : Item). i.op) y)) s.applied_is;
      more = s.more;
      waiting_is = s.waiting_is;
      first_is = λ ticket rest first. s.waiting_is ∙ ap (λ l. l ++ s.more) first;
      cached_is = s.cached_is;
      decided_is = λ u. stays_decided d u early (early ++ more) s.making_is s.applied_is;
    }
