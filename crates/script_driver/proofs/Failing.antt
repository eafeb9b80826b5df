-- What is left of a book where a line failed: entries of the driver's seat more, and all else as it was.
use Rattle.std.proofs.Common.{◌≡◌, ◌⊎◌, ℕ, zero, suc, List, [], ◌∷◌, ◌++◌, map, refl, sym, ap, ◌∙◌, subst, inl, inr, append_assoc, append-nil, true, Bool, All}
use Rattle.std.specs.Prelude.{Option, Some, None, Result, Ok, Err, OnErr, OnOk}
use Rattle.std.proofs.lemmas.List.Elements.{All-append, All-nil, All-cons}
use Rattle.journal_entries.specs.declared.act.Act.{Act}
use Rattle.journal_entries.specs.declared.act.Entry.{Entry}
use Rattle.journal_entries.specs.declared.act.Act.TheVariants.{Released}
use Rattle.journal_rules.specs.Legal.{closed, closed_by}
use Rattle.journal_rules.specs.Locks.{next_token}
use Rattle.journal_rules.proofs.Pushing.{closed-push}
use Rattle.turn_rules.specs.Draining.{DrainsOne}
use Rattle.turn_rules.specs.Locking.{acquired}
use Rattle.turn_rules.specs.Turns.{Alone, entry_by}
use Rattle.run_rules.proofs.Growing.{any, drains_one}
use Rattle.dispatcher.specs.Draining.{DrainsMany}
use Rattle.flush_manager.specs.Flushes.{Flushes}
use Rattle.flush_manager.specs.declared.flush.FlushEnd.TheVariants.{Memory, Refused}
use Rattle.book.specs.Going.{GoesOn, with_journal}
use Rattle.book.specs.Shown.{Shown, adds}
use Rattle.script_driver.specs.Failing.{GoesByOwn}
use Rattle.script_driver.proofs.Apart.{many_drained, same_closed}

-- ---- entries that close nobody
one_closed : (j : List Entry) (e : Entry) → closed_by e.act ≡ [] → closed (j ++ e ∷ []) ≡ closed j
one_closed j e none = closed-push j e ∙ ap (λ ds. closed j ++ ds) none ∙ append-nil (closed j)

two_closed : (j : List Entry) (e f : Entry) → closed_by e.act ≡ [] → closed_by f.act ≡ [] → closed (j ++ e ∷ f ∷ []) ≡ closed j
two_closed j e f none nor = ap closed (sym (append_assoc j (e ∷ []) (f ∷ []))) ∙ one_closed (j ++ e ∷ []) f nor ∙ one_closed j e none

module _ (seat : ℕ) where
  abbrev IsIts : Entry → Type 0
  IsIts e = e.seat ≡ seat

  -- ---- journals
  abbrev pub GrowsBy : List Entry → List Entry → Type 0
  GrowsBy left last = (own : List Entry) × (last ≡ left ++ own) × All (λ (e : Entry). e.seat ≡ seat) own

  grows_same : (left last : List Entry) → last ≡ left → GrowsBy left last
  grows_same left last is = ([], is ∙ sym (append-nil left), All-nil IsIts)

  pub grows_on : (a b c : List Entry) → GrowsBy a b → GrowsBy b c → GrowsBy a c
  grows_on a b c x y = (x.0 ++ y.0, y.1 ∙ ap (λ (j : List Entry). j ++ y.0) x.1 ∙ append_assoc a x.0 y.0, All-append IsIts x.0 y.0 x.2 y.2)

  all_by : (line : Option ℕ) (acts : List Act) → All IsIts (map (entry_by seat line) acts)
  all_by line [] = All-nil IsIts
  all_by line (act ∷ acts) = All-cons IsIts (entry_by seat line act) (map (entry_by seat line) acts) refl (all_by line acts)

  pub grows_by_acts : (line : Option ℕ) (acts : List Act) (left : List Entry) → GrowsBy left (left ++ map (entry_by seat line) acts)
  grows_by_acts line acts left = (map (entry_by seat line) acts, refl, all_by line acts)

  grows_alone : (left last : List Entry) → Alone left last → GrowsBy left last
  grows_alone left last is = grows_same left last is

  one_grows : (line : Option ℕ) (doc : ℕ) (left last : List Entry) → DrainsOne (entry_by seat line) Alone doc left last → GrowsBy left last
  one_grows line doc left last d =
      drains_one any (λ act e. refl) GrowsBy (λ j. grows_same j j refl) grows_on Alone grows_alone (entry_by seat line) (λ acts may left. grows_by_acts line acts left) doc left last d

  many_grow : (line : Option ℕ) (doc n : ℕ) (left last : List Entry) → DrainsMany (entry_by seat line) doc n left last → GrowsBy left last
  many_grow line doc zero left last d = grows_same left last d
  many_grow line doc (suc n) left last d = grows_on left d.0 last (many_grow line doc n left d.0 d.1) (one_grows line doc d.0 last d.2)

  -- ---- books
  pub same_own : (old new : Shown) → new ≡ old → GoesByOwn seat old new
  same_own old new is = record {
    own = [];
    journal_is = ap (λ (b : Shown). b.journal) is ∙ sym (append-nil old.journal);
    all = All-nil IsIts;
    closed_is = ap (λ (b : Shown). closed b.journal) is;
    drivers_are = ap (λ (b : Shown). b.drivers) is;
    start_is = ap (λ (b : Shown). b.start) is;
  }

  pub added_own : (old new : Shown) (line : Option ℕ) (act : Act) → closed_by act ≡ [] → new ≡ adds old seat line (act ∷ []) → GoesByOwn seat old new
  added_own old new line act none is = record {
    own = entry_by seat line act ∷ [];
    journal_is = ap (λ (b : Shown). b.journal) is;
    all = all_by line (act ∷ []);
    closed_is = ap (λ (b : Shown). closed b.journal) is ∙ one_closed old.journal (entry_by seat line act) none;
    drivers_are = ap (λ (b : Shown). b.drivers) is;
    start_is = ap (λ (b : Shown). b.start) is;
  }

  pub own_on : (a b c : Shown) → GoesByOwn seat a b → GoesByOwn seat b c → GoesByOwn seat a c
  own_on a b c x y = record {
    own = x.own ++ y.own;
    journal_is = y.journal_is ∙ ap (λ (j : List Entry). j ++ y.own) x.journal_is ∙ append_assoc a.journal x.own y.own;
    all = All-append IsIts x.own y.own x.all y.all;
    closed_is = y.closed_is ∙ x.closed_is;
    drivers_are = y.drivers_are ∙ x.drivers_are;
    start_is = y.start_is ∙ x.start_is;
  }

  pub own_rest : (old new : Shown) → new ≡ with_journal old new.journal → closed new.journal ≡ closed old.journal → GrowsBy old.journal new.journal → GoesByOwn seat old new
  own_rest old new is still grows = record {
    own = grows.0;
    journal_is = grows.1;
    all = grows.2;
    closed_is = still;
    drivers_are = ap (λ (b : Shown). b.drivers) is;
    start_is = ap (λ (b : Shown). b.start) is;
  }

  pub own_goes_on : {tells : Bool} (old new : Shown) → GoesOn tells old new → closed new.journal ≡ closed old.journal → GrowsBy old.journal new.journal → GoesByOwn seat old new
  own_goes_on old new goes still grows = record { own = grows.0; journal_is = grows.1; all = grows.2; closed_is = still; drivers_are = goes.drivers_are; start_is = goes.start_is }

  -- ---- a call that failed
  pub failed_kept : {T E : Type 0} (r : Result T E) (old new : Shown) → OnErr r (new ≡ old) → OnErr r (GoesByOwn seat old new)
  failed_kept (Ok x) old new kept = tt
  failed_kept (Err e) old new kept = same_own old new kept

  pub failed_both : {T E : Type 0} (A : Type 0) (r : Result T E) (old new : Shown) → OnErr r ((new ≡ old) × A) → OnErr r (GoesByOwn seat old new)
  failed_both A (Ok x) old new kept = tt
  failed_both A (Err e) old new kept = same_own old new kept.0

  -- behind what went before
  pub failed_behind : {T E : Type 0} (r : Result T E) (old mid new : Shown) → GoesByOwn seat old mid → OnErr r (new ≡ mid) → OnErr r (GoesByOwn seat old new)
  failed_behind (Ok x) old mid new before kept = tt
  failed_behind (Err e) old mid new before kept = own_on old mid new before (same_own mid new kept)

  pub failed_later : {T E : Type 0} (r : Result T E) (old mid new : Shown) → GoesByOwn seat old mid → OnErr r (GoesByOwn seat mid new) → OnErr r (GoesByOwn seat old new)
  failed_later (Ok x) old mid new before failed = tt
  failed_later (Err e) old mid new before failed = own_on old mid new before failed

  pub failed_always : {T E : Type 0} (r : Result T E) (old new : Shown) → GoesByOwn seat old new → OnErr r (GoesByOwn seat old new)
  failed_always (Ok x) old new own = tt
  failed_always (Err e) old new own = own

  -- ---- drains and flushes
  pub drained_own : (line : Option ℕ) (doc n : ℕ) (old new : Shown) → new ≡ with_journal old new.journal → DrainsMany (entry_by seat line) doc n old.journal new.journal → GoesByOwn seat old new
  drained_own line doc n old new rest drains = own_rest old new rest (same_closed (next_token old.journal) old.journal new.journal (many_drained seat line doc n old.journal new.journal drains)) (many_grow line doc n old.journal new.journal drains)

  pub flush_wanting : {tells : Bool} (line : Option ℕ) (doc : ℕ) (old new : Shown) → GoesOn tells old new → Flushes (entry_by seat line) doc old.journal new.journal Memory → GoesByOwn seat old new
  flush_wanting line doc old new goes (inl same) = own_goes_on old new goes (ap closed same) (grows_same old.journal new.journal same)
  flush_wanting line doc old new goes (inr whole) =
      own_goes_on old new goes
      (ap closed whole.1 ∙ two_closed old.journal (entry_by seat line (acquired doc old.journal)) (entry_by seat line (Released doc (next_token old.journal))) refl refl)
      (subst (λ (j : List Entry). GrowsBy old.journal j) (sym whole.1) (grows_by_acts line (acquired doc old.journal ∷ Released doc (next_token old.journal) ∷ []) old.journal))

  pub flush_refused : {tells : Bool} (old new : Shown) → GoesOn tells old new → new.journal ≡ old.journal → GoesByOwn seat old new
  flush_refused old new goes same = own_goes_on old new goes (ap closed same) (grows_same old.journal new.journal same)
