-- Which journals are legal: each entry is allowed by the entries before it.
use Rattle.std.specs.Prelude.{◌≡◌, ◌≢◌, ◌⊎◌, ℕ, ◌+◌, ◌-◌, ◌^◌, ◌<◌, ◌≤◌, Bool, true, false, List, [], ◌∷◌, length, take, sum_by, slice_get, is_some, Option, Some, None, All, ⊤}
use Rattle.std.specs.List.{list_any}
use Rattle.std.specs.Str.{bytes_eq}
use Rattle.ot_op.specs.declared.comp.Comp.{Comp}
use Rattle.ot_op.specs.Operation.{is_void, total_units, IsWithinLimits}
use Rattle.ot_op.specs.Apply.{applied}
use Rattle.ot_op.specs.Compose.{appended}
use Rattle.expiring_lock.specs.declared.lock.TheConstants.{LOCK_LIFE}
use Rattle.journal_entries.specs.declared.update.Update.{Update}
use Rattle.journal_entries.specs.declared.update.Outcome.{Outcome}
use Rattle.journal_entries.specs.declared.update.Outcome.TheVariants.{Refused}
use Rattle.journal_entries.specs.declared.update.Cause.TheVariants.{Memory, StoreFault}
use Rattle.journal_entries.specs.declared.message.Msg.{Msg}
use Rattle.journal_entries.specs.declared.message.Msg.TheVariants.{Op, Ack, Error}
use Rattle.journal_entries.specs.declared.message.Brief.{Brief}
use Rattle.journal_entries.specs.declared.message.Brief.TheVariants.{Op as OpBrief, Ack as AckBrief, Error as ErrorBrief}
use Rattle.journal_entries.specs.declared.act.Act.{Act}
use Rattle.journal_entries.specs.declared.act.Act.TheVariants.{Made, Ticked, Joined as JoinedAct, Edited, Sent, Malformed, Got, Left as LeftAct, Acquired, Loaded, LoadFailed, LoadDiffers, Committed, Released, Flushed, FlushFailed, Unloaded, Handed, Declined, Closed}
use Rattle.journal_entries.specs.declared.act.Entry.{Entry}
use Rattle.journal_rules.specs.declared.state.ClientState.TheVariants.{Joined, Left, Stale}
use Rattle.journal_rules.specs.Folds.{gathered}
use Rattle.journal_rules.specs.Documents.{makings, is_named, IsMade, version, waiting, is_in, update_at}
use Rattle.journal_rules.specs.Locks.{clock, next_token, used, Holds, is_held, is_expired}
pub use Rattle.journal_rules.specs.Deciding.{longest}
use Rattle.journal_rules.specs.Deciding.{decided, greatest_age}
use Rattle.journal_rules.specs.Mail.{mail}
use Rattle.journal_rules.specs.Client.{client, sending}
use Rattle.journal_rules.specs.Keeping.{kept, cached, loading, FailedUnder, faults}
use Rattle.journal_rules.specs.History.{history}
use Rattle.journal_rules.specs.Whys.{most_components, most_units, IsWhy}
use Rattle.journal_entries.specs.declared.limits.TheConstants.{FIRST_SOURCE, MAX_BASE, MAX_MOMENT, MAX_RAW_SOURCE}

-- the greatest version at which a document may be made
abbrev pub highest_base : ℕ
highest_base = MAX_BASE

-- a document is made
pub record IsMaking (before : List Entry) (doc : ℕ) (name first : List ℕ) (base : ℕ) : Type 0 where
  pub next : doc ≡ length (makings before)
  pub new : list_any (λ m. is_named name m) (makings before) ≡ false
  pub short : length first ≤ longest
  pub low : base ≤ highest_base

-- the source of a joining: each joining has its own, and no raw update has one so high
abbrev pub source_at : List Entry → ℕ
source_at before = FIRST_SOURCE + length before

-- a client joins a document, or comes back to where it left
pub record IsJoining (before : List Entry) (doc source v : ℕ) : Type 0 where
  pub made : IsMade doc before
  pub cached_is : cached doc before ≡ true
  pub v_is : v ≡ version doc before
  pub source_is : source ≡ source_at before

pub record IsReturning (before : List Entry) (c doc : ℕ) (user : List ℕ) (track : Bool) (since source v : ℕ) : Type 0 where
  pub left : (client c before).state ≡ Left
  pub since_is : (client c before).version ≡ since
  pub doc_is : (client c before).doc ≡ doc
  pub user_is : (client c before).user ≡ user
  pub track_is : (client c before).track ≡ track
  pub recent : version doc before ≤ since + greatest_age
  pub v_is : v ≡ version doc before
  pub source_is : source ≡ source_at before

abbrev pub IsJoin : List Entry → ℕ → ℕ → List ℕ → Bool → Option ℕ → ℕ → ℕ → Type 0
IsJoin before c doc user track None source v = IsJoining before doc source v
IsJoin before c doc user track (Some since) source v = IsReturning before c doc user track since source v

-- a client edits its text, by no empty insert or delete
pub record IsEdit (before : List Entry) (c : ℕ) (comp : Comp) : Type 0 where
  pub joined : (client c before).state ≡ Joined
  pub solid : is_void comp ≡ false
  pub applies : is_some (applied (client c before).text comp) ≡ true
  pub few : length (appended (client c before).pending comp) ≤ most_components
  pub short : total_units (appended (client c before).pending comp) ≤ most_units

-- an update without a client
pub record IsRawUpdate (before : List Entry) (u : Update) : Type 0 where
  pub made : IsMade u.doc before
  pub unnumbered : u.number ≡ 0
  pub source_low : u.source ≤ MAX_RAW_SOURCE
  pub at_once : u.ms ≡ clock before
  pub within : IsWithinLimits u.op

-- an update: a client's is what it sends
abbrev pub IsSending : List Entry → Update → Option ℕ → Type 0
IsSending before u (Some c) = sending c (client c before) (clock before) ≡ Some u
IsSending before u None = IsRawUpdate before u

-- a client gets the first message of its mail
abbrev pub brief_of : Msg → Brief
brief_of (Op v op source) = OpBrief v
brief_of (Ack v number) = AckBrief v
brief_of (Error number cause) = ErrorBrief number

pub record IsGetting (before : List Entry) (c : ℕ) (brief : Brief) : Type 0 where
  pub message : Msg
  pub rest : List Msg
  pub first : mail c before ≡ message ∷ rest
  pub brief_is : brief_of message ≡ brief

-- a document's lock is acquired
pub record IsAcquiring (before : List Entry) (doc token until : ℕ) : Type 0 where
  pub made : IsMade doc before
  pub free : (is_held doc before ≡ false) ⊎ (is_expired doc before ≡ true)
  pub token_is : token ≡ next_token before
  pub until_is : until ≡ clock before + LOCK_LIFE

-- the keeper's count of faults rose in a call, or stands at its end; and no earlier call saw it higher
pub record FaultsRose (from to : ℕ) (before : List Entry) : Type 0 where
  pub rose : (from < to) ⊎ ((from ≡ 2 ^ 64 - 1) × (to ≡ 2 ^ 64 - 1))
  pub onward : All (λ end. end ≤ from) (faults before)

abbrev pub HoldsIfAny : ℕ → ℕ → Option ℕ → List Entry → Type 0
HoldsIfAny seat d (Some token) before = Holds seat d token before
HoldsIfAny seat d None before = ⊤

-- a document that is not cached is loaded, by the holder of its lock or for a client that joins
pub record MayLoad (before : List Entry) (seat doc : ℕ) (token : Option ℕ) : Type 0 where
  pub made : IsMade doc before
  pub uncached : cached doc before ≡ false
  pub holds : HoldsIfAny seat doc token before

pub record IsLoading (before : List Entry) (seat doc : ℕ) (token : Option ℕ) (v : ℕ) : Type 0 where
  pub loads : MayLoad before seat doc token
  pub v_is : v ≡ version doc before

pub record IsFailingLoad (before : List Entry) (seat doc : ℕ) (token : Option ℕ) (from to : ℕ) : Type 0 where
  pub loads : MayLoad before seat doc token
  pub fails : FaultsRose from to before

pub record IsDifferingLoad (before : List Entry) (seat doc : ℕ) (token : Option ℕ) (had : ℕ) (got : Option ℕ) : Type 0 where
  pub loads : MayLoad before seat doc token
  pub had_is : had ≡ version doc before
  pub differs : got ≢ Some had

-- the outcome of an update: the decision on it, where its document is cached, or a refusal for want of memory, or one since the document could not be loaded under this token
pub record IsDecision (before : List Entry) (doc ticket : ℕ) (outcome : Outcome) : Type 0 where
  pub update : Update
  pub named : update_at before ticket ≡ Some update
  pub cached_is : cached doc before ≡ true
  pub outcome_is : outcome ≡ decided before doc update

pub record IsUnloadable (before : List Entry) (doc token : ℕ) (outcome : Outcome) : Type 0 where
  pub outcome_is : outcome ≡ Refused StoreFault
  pub failed : loading doc before ≡ FailedUnder (Some token)

abbrev pub IsOutcome : List Entry → ℕ → ℕ → ℕ → Outcome → Type 0
IsOutcome before doc token ticket outcome = IsDecision before doc ticket outcome ⊎ (outcome ≡ Refused Memory) ⊎ IsUnloadable before doc token outcome

-- an update is committed: the first that waits, once under each token
pub record IsCommitting (before : List Entry) (seat doc token ticket : ℕ) (outcome : Outcome) : Type 0 where
  pub holds : Holds seat doc token before
  pub unused : is_in token (used before) ≡ false
  pub rest : List ℕ
  pub first : waiting doc before ≡ ticket ∷ rest
  pub ends : IsOutcome before doc token ticket outcome

-- a document is put into the keeper
pub record IsFlushing (before : List Entry) (seat doc token v : ℕ) : Type 0 where
  pub holds : Holds seat doc token before
  pub cached_is : cached doc before ≡ true
  pub v_is : v ≡ version doc before

pub record IsFailingFlush (before : List Entry) (seat doc token from to : ℕ) : Type 0 where
  pub holds : Holds seat doc token before
  pub fails : FaultsRose from to before

-- a document leaves the cache, when its version was flushed and nothing waits
pub record IsUnloading (before : List Entry) (seat doc token : ℕ) : Type 0 where
  pub holds : Holds seat doc token before
  pub cached_is : cached doc before ≡ true
  pub kept_is : kept doc before ≡ Some (version doc before)
  pub settled : waiting doc before ≡ []

-- history is handed out
abbrev pub is_project : List ℕ → List Entry → Bool
is_project project before = list_any (λ m. bytes_eq m.project project) (makings before)

pub record IsHanding (before : List Entry) (project : List ℕ) (count : ℕ) : Type 0 where
  pub known : is_project project before ≡ true
  pub within : count ≤ length (history project before)

-- the drivers that have closed
abbrev pub closed_by : Act → List ℕ
closed_by (Closed driver) = driver ∷ []
closed_by _ = []

unfoldable pub closed : List Entry → List ℕ
closed journal = gathered (λ before e. closed_by e.act) journal

-- the greatest moment of the clock
abbrev pub clock_end : ℕ
clock_end = MAX_MOMENT

-- the rows: an act by a seat is allowed by the entries before it
abbrev pub IsAllowed : List Entry → ℕ → Act → Type 0
IsAllowed before seat (Made doc name project first base) = IsMaking before doc name first base
IsAllowed before seat (Ticked ms) = clock before + ms ≤ clock_end
IsAllowed before seat (JoinedAct c doc user track since source v) = IsJoin before c doc user track since source v
IsAllowed before seat (Edited c comp) = IsEdit before c comp
IsAllowed before seat (Sent u) = IsSending before u u.client
IsAllowed before seat (Malformed doc fault) = IsMade doc before
IsAllowed before seat (Got c brief) = IsGetting before c brief
IsAllowed before seat (LeftAct c) = ((client c before).state ≡ Joined) ⊎ ((client c before).state ≡ Stale)
IsAllowed before seat (Acquired doc token until) = IsAcquiring before doc token until
IsAllowed before seat (Loaded doc token v) = IsLoading before seat doc token v
IsAllowed before seat (LoadFailed doc token from to) = IsFailingLoad before seat doc token from to
IsAllowed before seat (LoadDiffers doc token had got) = IsDifferingLoad before seat doc token had got
IsAllowed before seat (Committed doc token ticket outcome) = IsCommitting before seat doc token ticket outcome
IsAllowed before seat (Released doc token) = Holds seat doc token before
IsAllowed before seat (Flushed doc token v) = IsFlushing before seat doc token v
IsAllowed before seat (FlushFailed doc token from to) = IsFailingFlush before seat doc token from to
IsAllowed before seat (Unloaded doc token) = IsUnloading before seat doc token
IsAllowed before seat (Handed project count) = IsHanding before project count
IsAllowed before seat (Declined session why) = IsWhy before seat session why
IsAllowed before seat (Closed driver) = is_in driver (closed before) ≡ false

-- a legal journal
abbrev pub IsLegal : List Entry → Type 0
IsLegal journal = (i : ℕ) (e : Entry) → slice_get journal i ≡ Some e → IsAllowed (take i journal) e.seat e.act
