-- Who writes for a client: its owner, the seat of a driver; and seat 0 once each driver has closed.
use Rattle.std.specs.Prelude.{◌≡◌, ◌⊎◌, ℕ, ◌+◌, ◌%◌, ◌<◌, ◌==◌, true, List, ◌∷◌, ◌++◌, Option, Some, None, if◌then◌else◌}
use Rattle.journal_entries.specs.declared.act.Act.{Act}
use Rattle.journal_entries.specs.declared.act.Act.TheVariants.{Joined, Edited, Sent, Got, Left}
use Rattle.journal_entries.specs.declared.act.Entry.{Entry}
use Rattle.journal_rules.specs.Documents.{is_in}
use Rattle.journal_rules.specs.Legal.{closed, closed_by}

-- a run on one thread counts no drivers, and has one
abbrev pub driver_count : ℕ → ℕ
driver_count drivers = if drivers == 0 then 1 else drivers

-- the seats of drivers stand behind seat 0
abbrev pub driver_seat : ℕ → ℕ
driver_seat driver = 1 + driver

-- a driver's owner is its seat, on one thread seat 0
abbrev pub driver_owner : ℕ → ℕ → ℕ
driver_owner drivers driver = if drivers == 0 then 0 else driver_seat driver

-- the clients are dealt out to the drivers, and each is its driver's owner's
abbrev pub client_driver : ℕ → ℕ → ℕ
client_driver drivers client = client % driver_count drivers

abbrev pub client_owner : ℕ → ℕ → ℕ
client_owner drivers client = driver_owner drivers (client_driver drivers client)

-- each driver has closed
abbrev pub IsEachClosed : ℕ → List Entry → Type 0
IsEachClosed drivers journal = (driver : ℕ) → driver < drivers → is_in driver (closed journal) ≡ true

-- a seat may write for a client: it is the client's owner, or seat 0 behind the last closing
abbrev pub MayWriteFor : ℕ → List Entry → ℕ → ℕ → Type 0
MayWriteFor drivers before seat client = (seat ≡ client_owner drivers client) ⊎ ((seat ≡ 0) × IsEachClosed (driver_count drivers) before)

-- seat 0 may write for all clients, as it does at the end of a run
abbrev pub MayEnd : ℕ → List Entry → Type 0
MayEnd drivers before = (client : ℕ) → MayWriteFor drivers before 0 client

-- the client that an act is of
abbrev pub client_of : Act → Option ℕ
client_of (Joined client doc user track since source v) = Some client
client_of (Edited client comp) = Some client
client_of (Sent u) = u.client
client_of (Got client brief) = Some client
client_of (Left client) = Some client
client_of _ = None

-- an act by a seat: one of a client is by who may write for it, and a driver is closed by its owner
pub record IsByOwner (drivers : ℕ) (before : List Entry) (seat : ℕ) (act : Act) : Type 0 where
  pub writes : (client : ℕ) → client_of act ≡ Some client → MayWriteFor drivers before seat client
  pub closes : (driver : ℕ) → is_in driver (closed_by act) ≡ true → seat ≡ driver_owner drivers driver

-- a journal of which each entry is so
abbrev pub IsOwned : ℕ → List Entry → Type 0
IsOwned drivers journal = (before : List Entry) (e : Entry) (after : List Entry) → journal ≡ before ++ e ∷ after → IsByOwner drivers before e.seat e.act
