-- What becomes of a document by the outcome of an update.
use Rattle.std.specs.Prelude.{◌≡◌, ℕ, ◌≤◌, List, length, Some}
use Rattle.ot_op.specs.declared.comp.Comp.{Comp}
use Rattle.ot_op.specs.Apply.{applied_all}
use Rattle.ranges_tracker.specs.Cells.{Row, steps}
use Rattle.ranges_tracker.specs.declared.stamp.Stamp.{Stamp}
use Rattle.ranges_tracker.specs.Shown.{shown}
use Rattle.ranges_tracker.specs.Trackable.{IsTracked}
use Rattle.dup_check.specs.Window.{pushed}
use Rattle.dup_check.specs.Snapshot.{IsSmall}
use Rattle.journal_entries.specs.declared.update.Update.{Update}
use Rattle.journal_entries.specs.declared.update.Outcome.{Outcome}
use Rattle.journal_entries.specs.declared.update.Outcome.TheVariants.{Applied, Dup, Refused}
use Rattle.journal_rules.specs.Deciding.{longest}
use Rattle.book.specs.declared.document.Document.{Document}

-- the stamp of an update that is applied to a version
abbrev pub stamp_at : ℕ → Update → Stamp
stamp_at v u = record { version = v; user = u.user; ms = u.ms; track = u.track }

-- nothing of a document was changed but what waits
pub record IsSame (old new : Document) : Type 0 where
  pub text_is : new.text ≡ old.text
  pub ranges_are : new.ranges ≡ old.ranges
  pub window_is : new.window ≡ old.window

-- an operation of an update was applied to a document
pub record WasApplied (old : Document) (u : Update) (v : ℕ) (op : List Comp) (new : Document) : Type 0 where
  pub version_is : v ≡ old.window.version
  pub text_is : applied_all old.text op ≡ Some new.text
  pub ranges_are : (row : Row) → IsTracked row old.text old.ranges v → shown (steps row op (stamp_at v u) 0).row ≡ new.ranges
  pub window_is : new.window ≡ pushed old.window (record { source = u.source; op = op })
  pub small : IsSmall op
  pub short : length new.text ≤ longest

-- the document after an outcome
abbrev pub Becomes : Document → Update → Document → Outcome → Type 0
Becomes old u new (Applied v op) = WasApplied old u v op new
Becomes old u new (Dup v) = IsSame old new
Becomes old u new (Refused cause) = IsSame old new
