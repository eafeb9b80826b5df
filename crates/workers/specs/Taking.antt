-- An update that a seat took up.
use Rattle.std.specs.Prelude.{◌≡◌, ℕ, Bool, true, false, List, [], ◌∷◌, Option, None}
use Rattle.dup_check.specs.declared.snapshot.Snapshot.{Snapshot}
use Rattle.journal_entries.specs.declared.act.Act.TheVariants.{Committed}
use Rattle.journal_entries.specs.declared.act.Entry.{Entry}
use Rattle.journal_entries.specs.declared.update.Outcome.{Outcome}
use Rattle.journal_rules.specs.Documents.{is_in}
use Rattle.journal_rules.specs.Locks.{released}
use Rattle.turn_rules.specs.Draining.{IsTakenOver}
use Rattle.turn_rules.specs.Locking.{staleness}
use Rattle.book.specs.Looking.{IsOf}
use Rattle.book.specs.Shown.{Shown, adds}

-- by a look of the journal, whose token this seat neither used nor let go
pub record IsTakenUp (seat : ℕ) (look : Snapshot) (journal : List Entry) : Type 0 where
  pub of : IsOf look journal
  pub seat_is : look.seat ≡ seat
  pub unreleased : is_in look.token (released journal) ≡ false

-- an outcome was committed under its token; or another acquired the lock since, and all is as it was
abbrev pub EndsUpdate : ℕ → Option ℕ → ℕ → ℕ → ℕ → Shown → Shown → Bool → Type 0
EndsUpdate seat line doc token ticket old new true =
    (staleness doc token old.journal ≡ None) × ((outcome : Outcome) × (new ≡ adds old seat line (Committed doc token ticket outcome ∷ [])))
EndsUpdate seat line doc token ticket old new false = IsTakenOver doc token old.journal × (new ≡ old)
