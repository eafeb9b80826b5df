-- What is committed or refused in a turn, and the lock let go.
use Rattle.std.proofs.Common.{◌≡◌, ℕ, List, [], ◌∷◌, ◌++◌, Bool, true, refl, sym, ap, ◌∙◌, subst, inl, inr, append-nil}
use Rattle.std.specs.Prelude.{Option, Some, None, Result, Ok, Err, IfOk, IfErr}
use Rattle.dup_check.specs.declared.snapshot.Snapshot.{Snapshot}
use Rattle.expiring_lock.specs.declared.refusal.Stale.{Stale}
use Rattle.journal_entries.specs.declared.act.Act.TheVariants.{Committed, Released}
use Rattle.journal_entries.specs.declared.act.Entry.{Entry}
use Rattle.journal_entries.specs.declared.update.Cause.TheVariants.{Memory}
use Rattle.journal_entries.specs.declared.update.Outcome.{Outcome}
use Rattle.journal_rules.specs.Legal.{IsLegal}
use Rattle.journal_rules.specs.Locks.{Holds}
use Rattle.turn_rules.specs.Draining.{IsTakenOver, Settles}
use Rattle.turn_rules.specs.Locking.{staleness}
use Rattle.turn_rules.specs.Turns.{Alone, entry_by}
use Rattle.book.specs.Calls.{MayNotCommit, MayRefuse}
use Rattle.book.specs.declared.faults.CommitFault.{CommitFault}
use Rattle.book.specs.declared.faults.CommitFault.TheVariants as commit
use Rattle.book.specs.declared.faults.Prepared.{Prepared}
use Rattle.book.specs.Shown.{Shown, adds}
use Rattle.book.proofs.Fenced.{may_refuse, since_of, token_holds}
use Rattle.book.proofs.Taken.{still_holds, still_stale}
use Rattle.workers.specs.Taking.{IsTakenUp}

-- while the token stands, this seat holds the document, and may refuse the update
module _ (seat : ℕ) (look : Snapshot) (j : List Entry) (legal : IsLegal j) (up : IsTakenUp seat look j) (stands : staleness look.doc look.token j ≡ None) where
  holds_up : Holds seat look.doc look.token j
  holds_up = subst (λ (s : ℕ). Holds s look.doc look.token j) up.seat_is (token_holds look j legal (since_of look j up.of) stands)

  pub may_refuse_up : MayRefuse j seat look.doc look.token look.ticket Memory
  may_refuse_up = subst (λ (s : ℕ). MayRefuse j s look.doc look.token look.ticket Memory) up.seat_is (may_refuse look j legal up.of stands)

-- a commit that was refused, since the token is stale
pub stale_of : (j : List Entry) (p : Prepared) (f : CommitFault) (s : Stale) → f ≡ commit.Stale s → MayNotCommit j p f → staleness p.look.doc p.look.token j ≡ Some s
stale_of j p f s is may = subst (λ (x : CommitFault). MayNotCommit j p x) is may

module _ (seat : ℕ) (line : Option ℕ) (look : Snapshot) (old mid : Shown) (outcome : Outcome) (is : mid ≡ adds old seat line (Committed look.doc look.token look.ticket outcome ∷ [])) where
  journal_is : mid.journal ≡ old.journal ++ entry_by seat line (Committed look.doc look.token look.ticket outcome) ∷ []
  journal_is = ap (λ (b : Shown). b.journal) is

  -- behind the commit the lock is held as before
  pub holds_on : IsLegal old.journal → IsTakenUp seat look old.journal → staleness look.doc look.token old.journal ≡ None → Holds seat look.doc look.token mid.journal
  holds_on legal up stands =
      still_holds seat line (Committed look.doc look.token look.ticket outcome) look.doc look.token old.journal mid.journal journal_is (λ o. refl) refl seat (holds_up seat look old.journal legal up stands)

  pub stands_on : staleness look.doc look.token old.journal ≡ None → staleness look.doc look.token mid.journal ≡ None
  stands_on stands = still_stale seat line (Committed look.doc look.token look.ticket outcome) look.doc look.token old.journal mid.journal journal_is (λ o. refl) refl ∙ stands

  -- it is committed, and the lock is let go
  pub settled : (new : Shown) → new ≡ adds mid seat line (Released look.doc look.token ∷ []) → Settles (entry_by seat line) Alone true look.doc look.token old.journal new.journal
  settled new end =
      let committed = Committed look.doc look.token look.ticket outcome in
      let released = Released look.doc look.token in (
        mid.journal,
        (old.journal, entry_by seat line committed ∷ [], refl, inl (committed, (look.ticket, outcome, refl), refl), journal_is),
        (mid.journal, entry_by seat line released ∷ [], refl, inl (released, refl, refl), ap (λ (b : Shown). b.journal) end),
      )

  -- the lock can be let go
  pub settled_by : (new : Shown) (r : Result Bool Stale) (More : Bool → Type 0) → staleness look.doc look.token old.journal ≡ None
      → IfOk r (λ more. (staleness look.doc look.token mid.journal ≡ None) × More more × (new ≡ adds mid seat line (Released look.doc look.token ∷ []))) → IfErr r (λ s. staleness look.doc look.token mid.journal ≡ Some s)
      → Settles (entry_by seat line) Alone true look.doc look.token old.journal new.journal
  settled_by new (Ok more) More stands ok stale = settled new ok.2
  settled_by new (Err s) More stands ok stale = let f : None ≡ Some s = sym (stands_on stands) ∙ stale in absurd (cc)

-- nothing is done, since another acquired the lock
pub unsettled : (seat : ℕ) (line : Option ℕ) (doc token : ℕ) (old new : Shown) → IsTakenOver doc token old.journal → new ≡ old → Settles (entry_by seat line) Alone true doc token old.journal new.journal
unsettled seat line doc token old new over is = (
  old.journal,
  (old.journal, [], refl, inr (over, refl), sym (append-nil old.journal)),
  (old.journal, [], refl, inr (over, refl), ap (λ (b : Shown). b.journal) is ∙ sym (append-nil old.journal)),
)
