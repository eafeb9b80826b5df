-- The documents of a book, each as the journal has it.
use Rattle.std.specs.Prelude.{◌≡◌, ℕ, ◌+◌, ◌-◌, ◌≤◌, min, Bool, true, false, not, List, [], ◌∷◌, ◌++◌, length, map, slice_get, slice_set, All, Option, Some, None}
use Rattle.ranges_tracker.specs.Cells.{Row}
use Rattle.expiring_lock.specs.Locks.{LockState}
use Rattle.dup_check.specs.declared.past.Past.{Past}
use Rattle.dup_check.specs.Window.{Recent, empty_at, most, recent}
use Rattle.dup_check.specs.Snapshot.{numbered}
use Rattle.journal_entries.specs.declared.update.Update.{Update}
use Rattle.journal_entries.specs.declared.update.Outcome.{Outcome}
use Rattle.journal_entries.specs.declared.act.Entry.{Entry}
use Rattle.journal_rules.specs.Documents.{Item, makings, base, text, version, applied_list, waiting, is_in}
use Rattle.journal_rules.specs.Tracking.{cells}
use Rattle.journal_rules.specs.Deciding.{decided_of, passed_of, longest}
use Rattle.journal_rules.specs.Keeping.{cached, kept}
use Rattle.journal_rules.specs.Locks.{Acquiring, last_acquiring, released}
use Rattle.journal_rules.specs.Legal.{IsLegal}
use Rattle.book.specs.declared.document.Document.{Document}
use Rattle.book.specs.Passing.{passed_by}
use Rattle.ranges_tracker.specs.Trackable.{IsTracked}
use Rattle.loading_rules.specs.Passable.{IsPassable}
use Rattle.book.specs.Deciding.{IsSame}

-- an operation that was applied, as a window keeps it
abbrev pub past_of : Item → Past
past_of x = record { source = x.update.source; op = x.op }

abbrev pub pasts : ℕ → List Entry → List Past
pasts d journal = map past_of (applied_list d journal)

-- a window is that of the document of this number
pub record IsWindowOf (d : ℕ) (window : Recent) (journal : List Entry) : Type 0 where
  pub base_is : window.base ≡ base d journal
  pub version_is : window.version ≡ version d journal
  pub last_is : window.last ≡ recent (pasts d journal)
  pub numbered_are : map passed_of (applied_list d journal) ≡ numbered (base d journal) (pasts d journal)
  pub small : All (λ x. IsPassable x.op) (pasts d journal)

-- a lock, by the last acquiring of its document and the tokens that were released
abbrev pub lock_in : Option Acquiring → List ℕ → LockState
lock_in (Some a) tokens = record { last = a.token; until = a.until; seat = a.seat; held = not (is_in a.token tokens) }
lock_in None tokens = record { last = 0; until = 0; seat = 0; held = false }

abbrev pub lock_of : ℕ → List Entry → LockState
lock_of d journal = lock_in (last_acquiring d journal) (released journal)

-- the documents by their numbers, and their names
pub record Held : Type 0 where
  pub names : List (List ℕ)
  pub items : List Document

-- a document stands as the journal has the document of this number
pub record IsDocument (d : ℕ) (document : Document) (journal : List Entry) : Type 0 where
  pub text_is : text d journal ≡ Some document.text
  pub short : length document.text ≤ longest
  pub tracked : IsTracked (cells d journal) document.text document.ranges (version d journal)
  pub window_is : IsWindowOf d document.window journal
  pub waiting_is : document.waiting.items ≡ waiting d journal
  pub lock_is : document.lock ≡ lock_of d journal
  pub kept_is : document.kept ≡ kept d journal
  pub cached_is : cached d journal ≡ true

-- the journal is legal, and each document stands as it has it
pub record AreDocuments (documents : List Document) (journal : List Entry) : Type 0 where
  pub legal : IsLegal journal
  pub few : length documents ≤ 1000
  pub count : length documents ≡ length (makings journal)
  pub each : (d : ℕ) (document : Document) → slice_get documents d ≡ Some document → IsDocument d document journal

-- how many entries are owed for a document: one for each update that waits, and one for a lock that wasn't released
abbrev pub one_for : Bool → ℕ
one_for true = 1
one_for false = 0

abbrev pub owed_by : Document → ℕ
owed_by document = length document.waiting.items + one_for document.lock.held

abbrev pub owed_for : List Document → ℕ
owed_for [] = 0
owed_for (x ∷ xs) = owed_by x + owed_for xs

-- a document that was just made
pub record IsNew (document : Document) (first : List ℕ) (base : ℕ) : Type 0 where
  pub text_is : document.text ≡ first
  pub ranges_are : document.ranges ≡ ([], [])
  pub window_is : document.window ≡ empty_at base
  pub waiting_is : document.waiting.items ≡ []
  pub lock_is : document.lock ≡ record { last = 0; until = 0; seat = 0; held = false }
  pub kept_is : document.kept ≡ None

-- the decision on an update by a document as it stands
abbrev pub decision_on : Document → Update → Outcome
decision_on document u = decided_of document.window.base document.window.version (Some document.text) u (passed_by document.window u.v)

-- what a document needs so that updates can be decided on
pub record IsDecidable (document : Document) : Type 0 where
  pub row : Row
  pub tracked : IsTracked row document.text document.ranges document.window.version
  pub short : length document.text ≤ longest
  pub small : All (λ x. IsPassable x.op) document.window.last
  pub from_base : document.window.base ≤ document.window.version
  pub whole : length document.window.last ≡ min most (document.window.version - document.window.base)

-- ---- what a call makes of one document
pub record Turns (doc : ℕ) (R : Document → Document → Type 0) (old new : List Document) : Type 0 where
  pub was : Document
  pub now : Document
  pub at : slice_get old doc ≡ Some was
  pub set_is : new ≡ slice_set old doc now
  pub is : R was now

-- nothing but spare room
pub record IsKeptAs (was now : Document) : Type 0 where
  pub same : IsSame was now
  pub kept_is : now.kept ≡ was.kept
  pub lock_is : now.lock ≡ was.lock
  pub waiting_is : now.waiting.items ≡ was.waiting.items

-- an update of this ticket waits behind the others
pub record IsQueued (ticket : ℕ) (was now : Document) : Type 0 where
  pub same : IsSame was now
  pub kept_is : now.kept ≡ was.kept
  pub lock_is : now.lock ≡ was.lock
  pub waiting_is : now.waiting.items ≡ was.waiting.items ++ ticket ∷ []

-- the first that waited was taken
pub record IsUnqueued (was now : Document) : Type 0 where
  pub same : IsSame was now
  pub kept_is : now.kept ≡ was.kept
  pub lock_is : now.lock ≡ was.lock
  pub ticket : ℕ
  pub waiting_is : was.waiting.items ≡ ticket ∷ now.waiting.items

-- the lock is another
pub record IsLocked (lock : LockState) (was now : Document) : Type 0 where
  pub same : IsSame was now
  pub kept_is : now.kept ≡ was.kept
  pub lock_is : now.lock ≡ lock
  pub waiting_is : now.waiting.items ≡ was.waiting.items

pub record IsFreed (was now : Document) : Type 0 where
  pub same : IsSame was now
  pub kept_is : now.kept ≡ was.kept
  pub lock_is : now.lock ≡ record { last = was.lock.last; until = was.lock.until; seat = was.lock.seat; held = false }
  pub waiting_is : now.waiting.items ≡ was.waiting.items

-- the document was put into the keeper at a version
pub record IsKeptAt (v : ℕ) (was now : Document) : Type 0 where
  pub same : IsSame was now
  pub kept_is : now.kept ≡ Some v
  pub lock_is : now.lock ≡ was.lock
  pub waiting_is : now.waiting.items ≡ was.waiting.items
