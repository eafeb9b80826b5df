-- What a decision on an update looks at: a document as it stands, and as the journal has it.
use Rattle.std.specs.Prelude.{◌≡◌, ℕ, ◌≤◌, ◌++◌, List, [], ◌∷◌, length, Option, Some, None, All, false}
use Rattle.ot_op.specs.declared.comp.Comp.{Comp}
use Rattle.ranges_tracker.specs.Shown.{shown}
use Rattle.ranges_tracker.specs.declared.change.Change.{Change}
use Rattle.ranges_tracker.specs.declared.comment.Comment.{Comment}
use Rattle.dup_check.specs.declared.snapshot.Snapshot.{Snapshot}
use Rattle.dup_check.specs.declared.snapshot.Decision.{Decision}
use Rattle.dup_check.specs.declared.snapshot.Decision.TheVariants.{Apply, Dup, Refuse}
use Rattle.dup_check.specs.Window.{Recent, pushed, recent, since_in}
use Rattle.dup_check.specs.Snapshot.{Agrees, Applies, InReach, IsReady, numbered, outcome_of}
use Rattle.history_queue.specs.declared.item.Item.{Item as HistoryItem}
use Rattle.journal_entries.specs.declared.update.Update.{Update}
use Rattle.journal_entries.specs.declared.act.Entry.{Entry}
use Rattle.journal_rules.specs.Documents.{base, text, update_at, version, waiting, is_in}
use Rattle.journal_rules.specs.Deciding.{decided_of, longest}
use Rattle.journal_rules.specs.Locks.{Acquiring, last_acquiring, used, used_by}
use Rattle.journal_rules.specs.Tracking.{cells}
use Rattle.book.specs.declared.document.Document.{Document}
use Rattle.book.specs.Deciding.{IsSame}
use Rattle.book.specs.Passing.{past_or_none}
use Rattle.book.specs.Standing.{pasts}
use Rattle.project_histories.specs.Histories.{ChangesOf, HasItem, Histories}

-- the document as it stood, and the update
pub record IsLook (old : Document) (u : Update) (look : Snapshot) : Type 0 where
  pub base_is : look.base ≡ old.window.base
  pub version_is : look.version ≡ old.window.version
  pub text_is : look.text ≡ old.text
  pub ranges_are : look.ranges ≡ old.ranges
  pub past_is : look.past.items ≡ past_or_none (since_in old.window u.v)
  pub update_is : look.update ≡ u

-- an applied operation takes its text, its ranges and its place in the window
pub record TakesApplied (old : Document) (look : Snapshot) (op : List Comp) (text : List ℕ) (ranges : List Change × List Comment) (new : Document) : Type 0 where
  pub text_is : new.text ≡ text
  pub ranges_are : new.ranges ≡ ranges
  pub window_is : new.window ≡ pushed old.window (record { source = look.update.source; op = op })

-- what a decision by a look makes of a document
abbrev pub TakesDecision : Document → Snapshot → Decision → Document → Type 0
TakesDecision old look (Apply op text ranges) new = TakesApplied old look op text ranges new
TakesDecision old look (Dup v) new = IsSame old new
TakesDecision old look (Refuse cause) new = IsSame old new

-- a decision was taken up, and its update waits no more
pub record IsSettled (look : Snapshot) (decision : Decision) (was now : Document) : Type 0 where
  pub takes : TakesDecision was look decision now
  pub kept_is : now.kept ≡ was.kept
  pub lock_is : now.lock ≡ was.lock
  pub ticket : ℕ
  pub waiting_is : was.waiting.items ≡ ticket ∷ now.waiting.items

-- the operation that a decision applies
abbrev pub op_of : Decision → List Comp
op_of (Apply op text ranges) = op
op_of (Dup v) = []
op_of (Refuse cause) = []

-- the item of the history that it adds
abbrev pub item_by : Snapshot → Decision → Option HistoryItem
item_by look (Apply op text ranges) = Some (record { doc = look.doc; v = look.version; op = op; user = look.update.user; ms = look.update.ms; length_before = length look.text })
item_by look (Dup v) = None
item_by look (Refuse cause) = None

-- and where there is one, it stands behind the others of the document's project
abbrev pub PutsItem : ℕ → Option HistoryItem → Histories → Histories → Type 0
PutsItem doc (Some item) old new = ChangesOf doc (HasItem item) old new
PutsItem doc None old new = new ≡ old

-- the window of a document, as the journal has it
abbrev pub window_of : ℕ → List Entry → Recent
window_of d journal = record { base = base d journal; version = version d journal; last = recent (pasts d journal) }

-- what is looked at is the document and the first update that waits as this journal has them, whose last acquiring is that of the look, and nothing was committed under its token
pub record IsLookAt (early : List Entry) (look : Snapshot) : Type 0 where
  pub at_is : look.at ≡ length early
  pub acquiring : Acquiring
  pub last : last_acquiring look.doc early ≡ Some acquiring
  pub token_is : acquiring.token ≡ look.token
  pub seat_is : acquiring.seat ≡ look.seat
  pub unused : is_in look.token (used early) ≡ false
  pub rest : List ℕ
  pub first : waiting look.doc early ≡ look.ticket ∷ rest
  pub update_is : update_at early look.ticket ≡ Some look.update
  pub base_is : look.base ≡ base look.doc early
  pub version_is : look.version ≡ version look.doc early
  pub text_is : text look.doc early ≡ Some look.text
  pub ranges_are : shown (cells look.doc early) ≡ look.ranges
  pub past_is : look.past.items ≡ past_or_none (since_in (window_of look.doc early) look.update.v)

-- what a decision asks of a look
pub record CanDecide (look : Snapshot) : Type 0 where
  pub agrees : Agrees look
  pub short : length look.text ≤ longest
  pub ready : InReach look → IsReady look

-- a decision is the one by the look
pub record IsDecided (look : Snapshot) (decision : Decision) : Type 0 where
  pub outcome_is : outcome_of look.version decision ≡ decided_of look.base look.version (Some look.text) look.update (numbered look.update.v look.past.items)
  pub applies : Applies look decision

-- an entry that isn't the look's own commit
abbrev pub IsNoCommit : Snapshot → Entry → Type 0
IsNoCommit look e = e.seat ≡ look.seat → is_in look.token (used_by e.act) ≡ false

-- the journal has gone on from the look, and no update was committed under its token since
pub record IsOf (look : Snapshot) (journal : List Entry) : Type 0 where
  pub early : List Entry
  pub more : List Entry
  pub journal_is : journal ≡ early ++ more
  pub looks : IsLookAt early look
  pub unused : All (λ e. is_in look.token (used_by e.act) ≡ false) more

-- the journal has gone on from the look, which may have been committed
pub record IsSince (look : Snapshot) (journal : List Entry) : Type 0 where
  pub early : List Entry
  pub more : List Entry
  pub journal_is : journal ≡ early ++ more
  pub looks : IsLookAt early look
