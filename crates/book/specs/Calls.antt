-- When the calls of a book refuse, and what they make.
use Rattle.std.specs.Prelude.{◌≡◌, ◌≢◌, ℕ, ◌+◌, ◌<◌, ◌≤◌, ◌⊎◌, ◌==◌, Bool, true, false, nat_lt, List, [], ◌∷◌, length, Option, Some, None, Result, Ok, Err, option_map, if◌then◌else◌}
use Rattle.ot_op.specs.declared.comp.Comp.{Comp}
use Rattle.ot_op.specs.declared.fault.FormFault.{FormFault}
use Rattle.expiring_lock.specs.Locks.{LockState}
use Rattle.expiring_lock.specs.declared.refusal.Busy.{Busy}
use Rattle.expiring_lock.specs.declared.refusal.Stale.{Stale}
use Rattle.expiring_lock.specs.declared.refusal.Stale.TheVariants.{Other, Ended}
use Rattle.journal_entries.specs.declared.update.Update.{Update}
use Rattle.journal_entries.specs.declared.update.Cause.{Cause}
use Rattle.journal_entries.specs.declared.update.Cause.TheVariants.{Memory as WantsMemory, StoreFault}
use Rattle.journal_entries.specs.declared.act.Act.{Act}
use Rattle.journal_entries.specs.declared.act.Act.TheVariants.{Sent, Malformed}
use Rattle.journal_entries.specs.declared.act.Entry.{Entry}
use Rattle.journal_rules.specs.Client.{Client}
use Rattle.journal_rules.specs.Deciding.{greatest_age}
use Rattle.journal_rules.specs.Documents.{IsMade, is_in, makings, version, waiting}
use Rattle.journal_rules.specs.Keeping.{FailedUnder, cached, loading}
use Rattle.journal_rules.specs.Locks.{Holds, clock, used}
use Rattle.journal_rules.specs.Legal.{clock_end, is_project}
use Rattle.journal_rules.specs.declared.state.ClientState.{ClientState}
use Rattle.journal_rules.specs.declared.state.ClientState.TheVariants.{Left}
use Rattle.turn_rules.specs.Clients.{is_present}
use Rattle.turn_rules.specs.Locking.{busy, staleness}
use Rattle.book.specs.declared.faults.MakeFault.{MakeFault}
use Rattle.book.specs.declared.faults.MakeFault.TheVariants as make
use Rattle.book.specs.declared.faults.TickFault.{TickFault}
use Rattle.book.specs.declared.faults.TickFault.TheVariants as tick
use Rattle.book.specs.declared.faults.RawFault.{RawFault}
use Rattle.book.specs.declared.faults.RawFault.TheVariants as raw
use Rattle.book.specs.declared.faults.JoinFault.{JoinFault}
use Rattle.book.specs.declared.faults.JoinFault.TheVariants as join
use Rattle.book.specs.declared.faults.LeaveFault.{LeaveFault}
use Rattle.book.specs.declared.faults.LeaveFault.TheVariants as leave
use Rattle.book.specs.declared.faults.AcquireFault.{AcquireFault}
use Rattle.book.specs.declared.faults.AcquireFault.TheVariants as acquire
use Rattle.book.specs.declared.faults.HandFault.{HandFault}
use Rattle.book.specs.declared.faults.HandFault.TheVariants as hand
use Rattle.book.specs.declared.faults.CommitFault.{CommitFault}
use Rattle.book.specs.declared.faults.CommitFault.TheVariants as commit
use Rattle.book.specs.declared.faults.Prepared.{Prepared}
use Rattle.book.specs.declared.faults.RawUpdate.{RawUpdate}

-- ---- make_doc
-- the number of the document that has the name already, or none where memory was wanting
abbrev pub existing : MakeFault → Option ℕ
existing (make.Exists doc) = Some doc
existing make.Memory = None

-- ---- tick
abbrev pub MayNotTick : List Entry → ℕ → TickFault → Type 0
MayNotTick journal ms (tick.ClockEnd now) = (now ≡ clock journal) × (clock_end < clock journal + ms)
MayNotTick journal ms tick.Memory = clock journal + ms ≤ clock_end

-- ---- send_raw
abbrev pub MayNotSend : List Entry → ℕ → RawFault → Type 0
MayNotSend journal doc raw.NoDoc = length (makings journal) ≤ doc
MayNotSend journal doc raw.Memory = IsMade doc journal

abbrev pub update_by : ℕ → RawUpdate → List Comp → Update
update_by now u op = record { doc = u.doc; client = None; number = 0; source = u.source; dup = u.dup; user = u.user; track = u.track; ms = now; v = u.v; op = op }

-- an update in form is sent, and one that isn't is noted
abbrev pub raw_act_of : Result (List Comp) FormFault → ℕ → RawUpdate → Act
raw_act_of (Ok op) now u = Sent (update_by now u op)
raw_act_of (Err fault) now u = Malformed u.doc fault

abbrev pub raw_act : ℕ → RawUpdate → Act
raw_act now u = raw_act_of u.op now u

-- the ticket of one that was sent
abbrev pub ticket_of_raw : Result (List Comp) FormFault → ℕ → Option ℕ
ticket_of_raw (Ok op) at = Some at
ticket_of_raw (Err fault) at = None

-- ---- join
abbrev pub MayNotJoin : ℕ → List Entry → JoinFault → Type 0
MayNotJoin doc journal join.NoDoc = length (makings journal) ≤ doc
MayNotJoin doc journal join.Memory = IsMade doc journal
MayNotJoin doc journal _ = ⊥

-- ---- rejoin
-- a client that left may come back where its version is within reach
abbrev pub MayReturn : Client → List Entry → Type 0
MayReturn c journal = (c.state ≡ Left) × (version c.doc journal ≤ c.version + greatest_age)

abbrev pub MayNotRejoin : Client → List Entry → JoinFault → Type 0
MayNotRejoin c journal join.NoDoc = ⊥
MayNotRejoin c journal join.NotLeft = c.state ≢ Left
MayNotRejoin c journal (join.TooOld have) = (c.state ≡ Left) × (c.version + greatest_age < have) × (have ≡ version c.doc journal)
MayNotRejoin c journal join.Memory = MayReturn c journal

-- ---- leave
abbrev pub MayNotLeave : ClientState → LeaveFault → Type 0
MayNotLeave state leave.NotJoined = is_present state ≡ false
MayNotLeave state leave.Memory = is_present state ≡ true

-- ---- acquire
abbrev pub refused_of : Option Busy → Option AcquireFault
refused_of o = option_map (λ b. acquire.Busy b) o

abbrev pub refused_where : List ℕ → Option Busy → Option AcquireFault
refused_where [] b = Some acquire.Empty
refused_where (t ∷ ts) b = refused_of b

-- why a document can't be acquired: the first that holds
abbrev pub acquire_refused : ℕ → List Entry → Option AcquireFault
acquire_refused doc journal = if nat_lt doc (length (makings journal)) then refused_where (waiting doc journal) (busy doc journal) else Some acquire.NoDoc

-- ---- acquire_any
abbrev pub unavailable_by : Option Busy → Bool → Option AcquireFault
unavailable_by (Some b) is_cached = Some (acquire.Busy b)
unavailable_by None is_cached = if is_cached then None else Some acquire.Uncached

-- why a document can't be acquired to be flushed: the first that holds
abbrev pub acquire_any_refused : ℕ → List Entry → Option AcquireFault
acquire_any_refused doc journal = if nat_lt doc (length (makings journal)) then unavailable_by (busy doc journal) (cached doc journal) else Some acquire.NoDoc

-- want of memory is told where nothing else is wrong
abbrev pub told : AcquireFault → Option AcquireFault
told acquire.Memory = None
told f = Some f

-- ---- under a token
abbrev pub stale_in : LockState → ℕ → Option Stale
stale_in lock token = if lock.last == token then (if lock.held then None else Some Ended) else Some (Other lock.last)

-- what may be refused: the first update that waits, by who holds the document under a token that was not used, for want of memory or since the document could not be loaded
pub record MayRefuse (journal : List Entry) (seat doc token ticket : ℕ) (cause : Cause) : Type 0 where
  pub holds : Holds seat doc token journal
  pub unused : is_in token (used journal) ≡ false
  pub rest : List ℕ
  pub first : waiting doc journal ≡ ticket ∷ rest
  pub cause_is : (cause ≡ WantsMemory) ⊎ ((cause ≡ StoreFault) × (loading doc journal ≡ FailedUnder (Some token)))

-- ---- commit
-- why a decision isn't committed; where memory was wanting, what was prepared comes back
abbrev pub MayNotCommit : List Entry → Prepared → CommitFault → Type 0
MayNotCommit journal prepared (commit.Stale s) = staleness prepared.look.doc prepared.look.token journal ≡ Some s
MayNotCommit journal prepared (commit.Memory back) = (staleness prepared.look.doc prepared.look.token journal ≡ None) × (back ≡ prepared)

-- ---- hand_history
abbrev pub MayNotHand : List Entry → List ℕ → HandFault → Type 0
MayNotHand journal project hand.NoProject = is_project project journal ≡ false
MayNotHand journal project hand.Memory = is_project project journal ≡ true
