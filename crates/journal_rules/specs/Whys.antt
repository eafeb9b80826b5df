-- Why a line of a script did nothing: what each cause says of the entries before.
use Rattle.std.specs.Prelude.{◌≡◌, ◌≢◌, ◌⊎◌, ℕ, ◌+◌, ◌-◌, ◌<◌, true, false, List, [], ◌∷◌, length, slice_get, Option, Some, None, ⊤, IsSomeAnd}
use Rattle.ot_op.specs.declared.comp.Comp.{Comp}
use Rattle.expiring_lock.specs.declared.refusal.Busy.{Busy}
use Rattle.expiring_lock.specs.declared.refusal.Stale.TheVariants.{Other, Ended}
use Rattle.journal_entries.specs.declared.why.Why.{Why}
use Rattle.journal_entries.specs.declared.why.Why.TheVariants.{NoDoc, NoProject, NotJoined, NotLeft, TooOld, PastEnd, Full, InFlight, Nothing, Empty, Busy as IsBusy, Uncached, Holding, Stale, Unflushed, Waiting, StoreFault}
use Rattle.journal_entries.specs.declared.act.Act.{Act}
use Rattle.journal_entries.specs.declared.act.Act.TheVariants.{LoadFailed, LoadDiffers}
use Rattle.journal_entries.specs.declared.act.Entry.{Entry}
use Rattle.journal_rules.specs.declared.state.ClientState.TheVariants.{Joined, Left}
use Rattle.journal_rules.specs.Documents.{IsMade, version, waiting, is_in}
use Rattle.journal_rules.specs.Deciding.{greatest_age}
use Rattle.journal_rules.specs.Locks.{Acquiring, HeldBy, is_expired, last_token, released}
use Rattle.journal_rules.specs.Mail.{mail}
use Rattle.journal_rules.specs.Client.{client, has_flight}
use Rattle.journal_rules.specs.Keeping.{kept, cached}
use Rattle.ot_op.specs.declared.limits.TheConstants.{MAX_COMPONENTS, MAX_OPERATION_UNITS}

-- the limits of an operation that is sent: its components, and the units of their texts
abbrev pub most_components : ℕ
most_components = MAX_COMPONENTS

abbrev pub most_units : ℕ
most_units = MAX_OPERATION_UNITS

-- the client left, and its document has gone on too far since
pub record IsTooOld (before : List Entry) (c have : ℕ) : Type 0 where
  pub left : (client c before).state ≡ Left
  pub have_is : have ≡ version (client c before).doc before
  pub too_old : (client c before).version + greatest_age < have

-- the client is joined, and its text is so long
pub record IsPastEnd (before : List Entry) (c len : ℕ) : Type 0 where
  pub joined : (client c before).state ≡ Joined
  pub len_is : len ≡ length (client c before).text

-- the client is joined, and one of the counts is above its limit
pub record IsFull (before : List Entry) (c comps units : ℕ) : Type 0 where
  pub joined : (client c before).state ≡ Joined
  pub full : (most_components < comps) ⊎ (most_units < units)

-- the client is joined, and has an operation in flight
pub record IsInFlight (before : List Entry) (c : ℕ) : Type 0 where
  pub joined : (client c before).state ≡ Joined
  pub flies : has_flight (client c before).flight ≡ true

-- some document is held under this token, which has not expired
pub record IsBusyWith (before : List Entry) (busy : Busy) : Type 0 where
  pub doc : ℕ
  pub acquiring : Acquiring
  pub held : HeldBy doc acquiring before
  pub unexpired : is_expired doc before ≡ false
  pub token_is : acquiring.token ≡ busy.token
  pub until_is : acquiring.until ≡ busy.until

-- some document has a version that was not flushed
pub record IsUnflushed (before : List Entry) (was : Option ℕ) (have : ℕ) : Type 0 where
  pub doc : ℕ
  pub made : IsMade doc before
  pub kept_is : kept doc before ≡ was
  pub have_is : version doc before ≡ have
  pub behind : (was ≡ None) ⊎ IsSomeAnd was (λ v. v < have)

-- so many updates wait for some document
pub record IsAwaited (before : List Entry) (count : ℕ) : Type 0 where
  pub doc : ℕ
  pub made : IsMade doc before
  pub count_is : length (waiting doc before) ≡ count
  pub some : count ≢ 0

-- a failed loading by no holder of a lock
abbrev pub IsFailedLoad : Act → Type 0
IsFailedLoad (LoadFailed doc None from to) = ⊤
IsFailedLoad (LoadDiffers doc None had got) = ⊤
IsFailedLoad _ = ⊥

-- the entry just before is such a loading, by the same seat
pub record IsStoreFault (before : List Entry) (seat : ℕ) : Type 0 where
  pub entry : Entry
  pub last : slice_get before (length before - 1) ≡ Some entry
  pub seat_is : entry.seat ≡ seat
  pub failed : IsFailedLoad entry.act

-- the table of whys, of a seat and the client of a session. A `nothing` and a `holding` are always allowed: what a line had to do stands in the script
abbrev pub IsWhy : List Entry → ℕ → ℕ → Why → Type 0
IsWhy before seat c NoDoc = ⊤
IsWhy before seat c NoProject = ⊤
IsWhy before seat c NotJoined = (client c before).state ≢ Joined
IsWhy before seat c NotLeft = (client c before).state ≢ Left
IsWhy before seat c (TooOld have) = IsTooOld before c have
IsWhy before seat c (PastEnd len) = IsPastEnd before c len
IsWhy before seat c (Full comps units) = IsFull before c comps units
IsWhy before seat c InFlight = IsInFlight before c
IsWhy before seat c Nothing = ⊤
IsWhy before seat c Holding = ⊤
IsWhy before seat c Empty = ((d : ℕ) × IsMade d before × (waiting d before ≡ [])) ⊎ (mail c before ≡ [])
IsWhy before seat c (IsBusy busy) = IsBusyWith before busy
IsWhy before seat c Uncached = (d : ℕ) × IsMade d before × (cached d before ≡ false)
IsWhy before seat c (Stale (Other token)) = (d : ℕ) × IsMade d before × (last_token d before ≡ token)
IsWhy before seat c (Stale Ended) = (d : ℕ) × IsMade d before × (is_in (last_token d before) (released before) ≡ true)
IsWhy before seat c (Unflushed was have) = IsUnflushed before was have
IsWhy before seat c (Waiting count) = IsAwaited before count
IsWhy before seat c StoreFault = IsStoreFault before seat

-- no operation is in flight, or the empty one
abbrev pub IsFlightVoid : Option (List Comp) → Type 0
IsFlightVoid (Some (f ∷ fs)) = ⊥
IsFlightVoid _ = ⊤

-- what `nothing` means of a line that sends: the client is joined, and has nothing pending, or nothing in flight to send again
pub record HasNothing (before : List Entry) (c : ℕ) : Type 0 where
  pub joined : (client c before).state ≡ Joined
  pub nothing : ((client c before).pending ≡ []) ⊎ IsFlightVoid (client c before).flight
