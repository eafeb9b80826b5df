-- At the end of a run no lock keeps seat 0 out, and each drained update takes the first that waits.
use Rattle.std.proofs.Common.{◌≡◌, ◌≢◌, ◌⊎◌, ℕ, ◌+◌, ◌≤◌, ◌&&◌, ◌||◌, List, [], ◌∷◌, ◌++◌, length, Bool, true, false, not, true≢false, refl, sym, ap, ◌∙◌, subst, inl, inr, arith, eqb, eq-eqb, append_assoc, All}
use Rattle.std.specs.Prelude.{Option, Some, None, map, option_map, if◌then◌else◌}
use Rattle.std.specs.List.{list_any}
use Rattle.std.proofs.lemmas.Bool.Decides.{eqb_tells}
use Rattle.std.proofs.lemmas.List.Folds.{list_any-append}
use Rattle.std.proofs.lemmas.List.Elements.{All-nil, All-cons}
use Rattle.expiring_lock.specs.declared.lock.TheConstants.{LOCK_LIFE}
use Rattle.journal_entries.specs.declared.act.Act.{Act}
use Rattle.journal_entries.specs.declared.act.Act.TheVariants.{Acquired, Ticked, Committed, Released}
use Rattle.journal_entries.specs.declared.act.Entry.{Entry}
use Rattle.journal_rules.specs.Keeping.{cached}
use Rattle.journal_rules.specs.Legal.{IsLegal}
use Rattle.journal_rules.specs.Documents.{is_in}
use Rattle.journal_rules.specs.Locks.{Acquiring, acquired_by, clock, is_expired, is_held, is_held_in, last_acquiring, next_token, released}
use Rattle.journal_rules.proofs.Pushing.{last_acquiring-push, released-push}
use Rattle.ending_rules.specs.Drained.{TakesFirst}
use Rattle.ending_rules.proofs.Drained.{IsDrainedUpdate, IsFree, IsLoadUnder}
use Rattle.ending_rules.proofs.Locks.{expire, free_stays, update_leaves}
use Rattle.run_rules.specs.Counting.{is_taking}
use Rattle.turn_rules.specs.Draining.{Caches, DrainsOne, IsLoad, IsWhole}
use Rattle.run_rules.specs.Ending.{at_end}
use Rattle.turn_rules.specs.Flushing.{IsPut}
use Rattle.turn_rules.specs.Locking.{acquired, busy, busy_by}
use Rattle.turn_rules.specs.Turns.{Alone, entry_by}
use Rattle.run_rules.proofs.Whole.{maps, whole}

-- ---- a lock that keeps nobody out is free
not_busy : (d : ℕ) (j : List Entry) → IsFree d j → busy d j ≡ None
not_busy d j (inl free) = ap (λ h. if h && not (is_expired d j) then option_map busy_by (last_acquiring d j) else None) free
not_busy d j (inr expired) = ap (λ x. if is_held d j && not x then option_map busy_by (last_acquiring d j) else None) expired ∙ go (is_held d j)
  where
    go : (h : Bool) → (if h && false then option_map busy_by (last_acquiring d j) else None) ≡ None
    go true = refl
    go false = refl

free_of : (d : ℕ) (j : List Entry) → busy d j ≡ None → IsFree d j
free_of d j none = go (last_acquiring d j) refl (is_held d j) refl (is_expired d j) refl none
  where
    go : (o : Option Acquiring) → last_acquiring d j ≡ o → (h : Bool) → is_held d j ≡ h → (x : Bool) → is_expired d j ≡ x → (if h && not x then option_map busy_by o else None) ≡ None → IsFree d j
    go o o_is false held x expired none = inl held
    go o o_is true held true expired none = inr expired
    go None o_is true held false expired none = absurd (true≢false (sym held ∙ ap (λ o. is_held_in o (released j)) o_is))
    go (Some a) o_is true held false expired none = let f : Some (busy_by a) ≡ None = none in absurd (cc)

pub expired : (j : List Entry) → IsLegal (j ++ at_end (Ticked LOCK_LIFE) ∷ []) → (d : ℕ) → busy d (j ++ at_end (Ticked LOCK_LIFE) ∷ []) ≡ None
expired j legal d = not_busy d (j ++ at_end (Ticked LOCK_LIFE) ∷ []) (expire j (at_end (Ticked LOCK_LIFE)) legal refl d)

takes_not : (act : Act) → is_taking act ≡ false → (d seat : ℕ) (now : Option Acquiring) → acquired_by d seat act now ≡ now
takes_not (Acquired doc token until) e d seat now = absurd (true≢false e)
takes_not _ e d seat now = refl

pub still_not_busy : (d : ℕ) (j : List Entry) (e : Entry) → is_taking e.act ≡ false → busy d j ≡ None → busy d (j ++ e ∷ []) ≡ None
still_not_busy d j e takes none = not_busy d (j ++ e ∷ []) (free_stays d j e (takes_not e.act takes d) (free_of d j none))

-- ---- a drained update
module _ (seat : ℕ) (line : Option ℕ) (doc : ℕ) where
  abbrev by : Act → Entry
  by = entry_by seat line

  load_under : (token : ℕ) (ready : Bool) (act : Act) → IsLoad doc (Some token) ready act → IsLoadUnder doc token act
  load_under token true act l = subst (IsLoadUnder doc token) (sym l.1) (refl, refl)
  load_under token false act (inl l) = subst (IsLoadUnder doc token) (sym l.2) (refl, refl)
  load_under token false act (inr l) = subst (IsLoadUnder doc token) (sym l.2) (refl, refl)

  abbrev AreLoads : ℕ → List Act → Type 0
  AreLoads token acts = (length (map by acts) ≤ 1) × All (λ e. IsLoadUnder doc token e.act) (map by acts)

  loads : (here : Bool) (token : ℕ) (ready : Bool) (acts : List Act) → Caches here doc (Some token) ready acts → AreLoads token acts
  loads true token ready acts c = subst (AreLoads token) (sym c.1) (omega arith, All-nil (λ (e : Entry). IsLoadUnder doc token e.act))
  loads false token ready acts c =
      subst (AreLoads token) (sym c.2) (omega arith, All-cons (λ (e : Entry). IsLoadUnder doc token e.act) (by c.0) [] (load_under token ready c.0 c.1) (All-nil (λ (e : Entry). IsLoadUnder doc token e.act)))

  drained : (left last : List Entry) (w : IsWhole by doc left last) → IsDrainedUpdate doc (map by (acquired doc left ∷ w.loading ++ Committed doc w.token w.ticket w.outcome ∷ Released doc w.token ∷ []))
  drained left last w =
      let l = loads (cached doc left) w.token w.ready w.loading w.caches in
      record {
        token = w.token;
        until = clock left + LOCK_LIFE;
        ticket = w.ticket;
        outcome = w.outcome;
        acquires = by (acquired doc left);
        loads = map by w.loading;
        commits = by (Committed doc w.token w.ticket w.outcome);
        releases = by (Released doc w.token);
        cut = ap (λ (es : List Entry). by (acquired doc left) ∷ es) (sym (maps seat line doc w.loading (Committed doc w.token w.ticket w.outcome ∷ Released doc w.token ∷ [])));
        acquires_is = ap (λ (n : ℕ). Acquired doc n (clock left + LOCK_LIFE)) (sym w.token_is);
        few = l.0;
        loads_are = l.1;
        commits_is = refl;
        releases_is = refl;
      }

  pub takes_first : (left last : List Entry) → IsLegal last → DrainsOne by Alone doc left last → TakesFirst doc left last × ((d : ℕ) → busy d left ≡ None → busy d last ≡ None)
  takes_first left last legal x =
      let w = whole seat line doc left last x in
      let es = map by (acquired doc left ∷ w.loading ++ Committed doc w.token w.ticket w.outcome ∷ Released doc w.token ∷ []) in
      let u = update_leaves doc left es (subst IsLegal w.last_is legal) (drained left last w) in
      subst (λ (j : List Entry). TakesFirst doc left j × ((d : ℕ) → busy d left ≡ None → busy d j ≡ None)) (sym w.last_is) (u.0, λ d none. not_busy d (left ++ es) (u.1 d (free_of d left none)))

-- ---- a whole flush
module _ (seat : ℕ) (line : Option ℕ) (doc : ℕ) (left last : List Entry) (put : Act) (is_put : IsPut doc (next_token left) put) (is : last ≡ left ++ map (entry_by seat line) (acquired doc left ∷ put ∷ Released doc (next_token left) ∷ [])) where
  abbrev a : Entry
  a = entry_by seat line (acquired doc left)

  abbrev f : Entry
  f = entry_by seat line put

  abbrev r : Entry
  r = entry_by seat line (Released doc (next_token left))

  one_by_one : last ≡ ((left ++ a ∷ []) ++ f ∷ []) ++ r ∷ []
  one_by_one = is ∙ sym (append_assoc left (a ∷ f ∷ []) (r ∷ [])) ∙ ap (λ (j : List Entry). j ++ r ∷ []) (sym (append_assoc left (a ∷ []) (f ∷ [])))

  put_takes_not : is_taking put ≡ false
  put_takes_not = by is_put
    where
      by : IsPut doc (next_token left) put → is_taking put ≡ false
      by (inl x) = ap is_taking x.1
      by (inr x) = ap is_taking x.2

  others : (d : ℕ) → eqb doc d ≡ false → busy d left ≡ None → busy d last ≡ None
  others d apart none =
      let first = not_busy d (left ++ a ∷ []) (free_stays d left a (λ s now. ap (λ b. if b then Some (record { seat = s; doc = doc; token = next_token left; until = clock left + LOCK_LIFE }) else now) apart) (free_of d left none)) in
      ap (busy d) one_by_one ∙ still_not_busy d ((left ++ a ∷ []) ++ f ∷ []) r refl (still_not_busy d (left ++ a ∷ []) f put_takes_not first)

  abbrev taking : Acquiring
  taking = record { seat = seat; doc = doc; token = next_token left; until = clock left + LOCK_LIFE }

  last_is_own : last_acquiring doc last ≡ Some taking
  last_is_own =
      ap (last_acquiring doc) one_by_one ∙ last_acquiring-push doc ((left ++ a ∷ []) ++ f ∷ []) r ∙ last_acquiring-push doc (left ++ a ∷ []) f
      ∙ takes_not put put_takes_not doc seat (last_acquiring doc (left ++ a ∷ [])) ∙ last_acquiring-push doc left a
      ∙ ap (λ b. if b then Some taking else last_acquiring doc left) (eq-eqb doc doc refl)

  own : busy doc last ≡ None
  own = not_busy doc last (inl (ap (λ o. is_held_in o (released last)) last_is_own ∙ ap (λ ts. not (is_in (next_token left) ts)) (ap released one_by_one ∙ released-push ((left ++ a ∷ []) ++ f ∷ []) r) ∙ ap not (there (released ((left ++ a ∷ []) ++ f ∷ [])))))
    where
      there : (ts : List ℕ) → is_in (next_token left) (ts ++ next_token left ∷ []) ≡ true
      there ts = list_any-append (λ y. eqb y (next_token left)) ts (next_token left ∷ []) ∙ ap (λ b. list_any (λ y. eqb y (next_token left)) ts || (b || false)) (eq-eqb (next_token left) (next_token left) refl) ∙ or_true (list_any (λ y. eqb y (next_token left)) ts)
        where
          or_true : (b : Bool) → (b || true) ≡ true
          or_true true = refl
          or_true false = refl

  pub flush_frees : (d : ℕ) → busy d left ≡ None → busy d last ≡ None
  flush_frees d none = by (eqb_tells doc d)
    where
      by : ((eqb doc d ≡ true) × (doc ≡ d)) ⊎ ((eqb doc d ≡ false) × (doc ≢ d)) → busy d last ≡ None
      by (inl t) = subst (λ (n : ℕ). busy n last ≡ None) t.1 own
      by (inr t) = others d t.0 none
