-- How waiting updates are drained: for each of them the document's lock is acquired, the document loaded where it isn't cached, the update committed, and the lock released.
use Rattle.std.specs.Prelude.{◌≡◌, ◌≢◌, ◌⊎◌, ℕ, zero, suc, Bool, true, false, List, [], ◌∷◌, ◌++◌, map, Option, Some, None, option_map}
use Rattle.expiring_lock.specs.declared.refusal.Busy.{Busy}
use Rattle.journal_entries.specs.declared.update.Outcome.{Outcome}
use Rattle.journal_entries.specs.declared.update.Outcome.TheVariants.{Refused}
use Rattle.journal_entries.specs.declared.update.Cause.TheVariants.{StoreFault}
use Rattle.journal_entries.specs.declared.act.Act.{Act}
use Rattle.journal_entries.specs.declared.act.Act.TheVariants.{Loaded, LoadFailed, LoadDiffers, Committed, Released}
use Rattle.journal_entries.specs.declared.act.Entry.{Entry}
use Rattle.journal_rules.specs.Documents.{waiting}
use Rattle.journal_rules.specs.Keeping.{cached}
use Rattle.journal_rules.specs.Locks.{last_token, next_token}
use Rattle.turn_rules.specs.Locking.{acquired, busy}
use Rattle.turn_rules.specs.Turns.{Turn}

-- a document is loaded, or can't be, by the holder of a token or for a client that joins
abbrev pub IsLoad : ℕ → Option ℕ → Bool → Act → Type 0
IsLoad doc token true act = (v : ℕ) × (act ≡ Loaded doc token v)
IsLoad doc token false act =
    ((from : ℕ) × (to : ℕ) × (act ≡ LoadFailed doc token from to)) ⊎ ((had : ℕ) × (got : Option ℕ) × (act ≡ LoadDiffers doc token had got))

-- so it comes into the cache, or doesn't; nothing is done where it is there
abbrev pub Caches : Bool → ℕ → Option ℕ → Bool → List Act → Type 0
Caches true doc token ready acts = (ready ≡ true) × (acts ≡ [])
Caches false doc token ready acts = (act : Act) × IsLoad doc token ready act × (acts ≡ act ∷ [])

-- an update whose document can't be loaded is refused in the same turn
abbrev pub refused_unless : Bool → ℕ → ℕ → ℕ → List Act
refused_unless true doc token ticket = []
refused_unless false doc token ticket = Committed doc token ticket (Refused StoreFault) ∷ []

-- the turn that takes up the first update that waits: the document is ready then, or can't be loaded
pub record TakesUp (by : Act → Entry) (doc token : ℕ) (ready : Bool) (look made : List Entry) : Type 0 where
  pub free : busy doc look ≡ None
  pub ticket : ℕ
  pub rest : List ℕ
  pub first : waiting doc look ≡ ticket ∷ rest
  pub token_is : token ≡ next_token look
  pub loading : List Act
  pub caches : Caches (cached doc look) doc (Some token) ready loading
  pub made_is : made ≡ map by (acquired doc look ∷ loading ++ refused_unless ready doc token ticket)

-- another acquired the lock since
abbrev pub IsTakenOver : ℕ → ℕ → List Entry → Type 0
IsTakenOver doc token look = last_token doc look ≢ token

-- a turn under a token: an act of this kind, or nothing where another acquired the lock since
abbrev pub Under : (Act → Entry) → ℕ → ℕ → (Act → Type 0) → List Entry → List Entry → Type 0
Under by doc token Is look made = ((act : Act) × Is act × (made ≡ by act ∷ [])) ⊎ (IsTakenOver doc token look × (made ≡ []))

abbrev pub IsCommit : ℕ → ℕ → Act → Type 0
IsCommit doc token act = (ticket : ℕ) × (outcome : Outcome) × (act ≡ Committed doc token ticket outcome)

abbrev pub IsRelease : ℕ → ℕ → Act → Type 0
IsRelease doc token act = act ≡ Released doc token

module _ (by : Act → Entry) (Next : List Entry → List Entry → Type 0) where
  -- the lock is released
  abbrev pub Releases : ℕ → ℕ → List Entry → List Entry → Type 0
  Releases doc token left last = Turn Next (Under by doc token (IsRelease doc token)) left last

  -- an update that was taken up is committed, where it wasn't refused at once, and the lock is released
  abbrev pub Settles : Bool → ℕ → ℕ → List Entry → List Entry → Type 0
  Settles true doc token left last = (mid : List Entry) × Turn Next (Under by doc token (IsCommit doc token)) left mid × Releases doc token mid last
  Settles false doc token left last = Releases doc token left last

  -- one update is drained
  abbrev pub DrainsOne : ℕ → List Entry → List Entry → Type 0
  DrainsOne doc left last =
      (token : ℕ) × (ready : Bool) × (mid : List Entry) × Turn Next (TakesUp by doc token ready) left mid × Settles ready doc token mid last

-- how draining stops: it is done, or the document is held
pub data Stop : Type 0 where
  Done : Stop
  HeldUp : Busy → Stop

-- it stops early at a look at which nothing waits; or something does, and the document is held and hasn't expired
abbrev pub stop_by : List ℕ → Option Busy → Option Stop
stop_by [] b = Some Done
stop_by (ticket ∷ rest) b = option_map HeldUp b

abbrev pub StopsAt : ℕ → List Entry → Stop → Type 0
StopsAt doc look stop = stop_by (waiting doc look) (busy doc look) ≡ Some stop

module _ (by : Act → Entry) (Next : List Entry → List Entry → Type 0) where
  -- at most so many updates are drained
  abbrev pub Drains : ℕ → ℕ → List Entry → List Entry → Stop → Type 0
  Drains doc zero left last stop = (stop ≡ Done) × (last ≡ left)
  Drains doc (suc most) left last stop =
      (Next left last × StopsAt doc last stop) ⊎ ((mid : List Entry) × DrainsOne by Next doc left mid × Drains doc most mid last stop)

-- a drained update of which nothing is missing: acquired; loaded, load-failed or load-differs where the document wasn't cached; committed; released
pub record IsWhole (by : Act → Entry) (doc : ℕ) (left last : List Entry) : Type 0 where
  pub token : ℕ
  pub ready : Bool
  pub loading : List Act
  pub ticket : ℕ
  pub outcome : Outcome
  pub token_is : token ≡ next_token left
  pub caches : Caches (cached doc left) doc (Some token) ready loading
  pub last_is : last ≡ left ++ map by (acquired doc left ∷ loading ++ Committed doc token ticket outcome ∷ Released doc token ∷ [])
