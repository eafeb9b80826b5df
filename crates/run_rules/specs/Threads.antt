-- Which journals of a board follow a script with workers: each of those who write it goes its own course, among the others.
use Rattle.std.specs.Prelude.{◌≡◌, ◌⊎◌, ℕ, ◌+◌, ◌%◌, ◌<◌, zero, suc, ◌==◌, ◌&&◌, nat_le, nat_lt, Bool, true, false, List, [], ◌∷◌, ◌++◌, length, filter, Option, Some, None}
use Rattle.std.specs.List.{list_all}
use Rattle.journal_entries.specs.declared.act.Act.TheVariants.{Closed}
use Rattle.journal_entries.specs.declared.act.Entry.{Entry}
use Rattle.journal_rules.specs.Documents.{makings, waiting}
use Rattle.journal_rules.specs.Locks.{Acquiring, HeldBy, is_expired}
use Rattle.session_lines.specs.declared.line.Line.{Line}
use Rattle.session_lines.specs.Script.{makes_document, session_of}
use Rattle.turn_rules.specs.Draining.{DrainsOne}
use Rattle.run_rules.specs.Ending.{Ends}
use Rattle.turn_rules.specs.Flushing.{FlushesFrom}
use Rattle.run_rules.specs.Keeping.{nothing_kept}
use Rattle.run_rules.specs.Lines.{Leads, numbered}
use Rattle.turn_rules.specs.Locking.{unavailable}
use Rattle.turn_rules.specs.Owning.{IsEachClosed}
pub use Rattle.turn_rules.specs.Owning.{driver_seat}
pub use Rattle.turn_rules.specs.Turns.{is_by}
use Rattle.turn_rules.specs.Turns.{Alone, Among, entry_by}

-- how many drivers and workers a run has, beside its one flusher
pub record Crew : Type 0 where
  pub drivers : ℕ
  pub workers : ℕ

-- one driver, and so many workers
abbrev pub with_workers : ℕ → Crew
with_workers workers = record { drivers = 1; workers = workers }

-- the seats: seat 0 makes the documents and ends the run, then come the drivers (`driver_seat`), the workers and the flusher
abbrev pub worker_seat : Crew → ℕ → ℕ
worker_seat crew worker = 1 + crew.drivers + worker

abbrev pub flusher_seat : Crew → ℕ
flusher_seat crew = 1 + crew.drivers + crew.workers

abbrev pub is_worker : Crew → ℕ → Bool
is_worker crew seat = nat_lt crew.drivers seat && nat_lt seat (flusher_seat crew)

-- a seat of the crew: not seat 0
abbrev pub is_of_crew : Crew → ℕ → Bool
is_of_crew crew seat = nat_lt 0 seat && nat_le seat (flusher_seat crew)

-- the lines that make documents
abbrev pub document_lines : List Line → List (ℕ × Line)
document_lines lines = filter (λ x. makes_document x.1) (numbered 1 lines)

-- the lines of a driver: the sessions are dealt out to the drivers
abbrev pub is_driven_by : Crew → ℕ → Option ℕ → Bool
is_driven_by crew driver (Some session) = session % crew.drivers == driver
is_driven_by crew driver None = false

abbrev pub lines_of_driver : Crew → ℕ → List Line → List (ℕ × Line)
lines_of_driver crew driver lines = filter (λ x. is_driven_by crew driver (session_of x.1)) (numbered 1 lines)

-- the entry that closes a driver
abbrev pub closing : ℕ → Entry
closing driver = entry_by (driver_seat driver) None (Closed driver)

-- a driver does its lines in order, and closes; no further entry is its own
pub record DriverFollows (crew : Crew) (lines : List Line) (start journal : List Entry) (driver : ℕ) : Type 0 where
  pub done : List Entry
  pub leads : Leads (driver_seat driver) (Among (is_by (driver_seat driver))) (lines_of_driver crew driver lines) nothing_kept start done
  pub look : List Entry
  pub next : Among (is_by (driver_seat driver)) done look
  pub more : Among (is_by (driver_seat driver)) (look ++ closing driver ∷ []) journal

-- a worker drains: so many updates, each of some document
abbrev pub DrainsOn : ℕ → ℕ → List Entry → List Entry → Type 0
DrainsOn seat zero left last = Among (is_by seat) left last
DrainsOn seat (suc n) left last =
    (doc : ℕ) × (mid : List Entry) × DrainsOne (entry_by seat None) (Among (is_by seat)) doc left mid × DrainsOn seat n mid last

abbrev pub WorkerFollows : Crew → List Entry → List Entry → ℕ → Type 0
WorkerFollows crew start journal worker = (n : ℕ) × DrainsOn (worker_seat crew worker) n start journal

-- the flusher flushes: so many times, each time some document
abbrev pub FlushesOn : ℕ → ℕ → List Entry → List Entry → Type 0
FlushesOn seat zero left last = Among (is_by seat) left last
FlushesOn seat (suc n) left last =
    (doc : ℕ) × (look : List Entry) × (mid : List Entry) × Among (is_by seat) left look × (unavailable doc look ≡ None)
    × FlushesFrom (entry_by seat None) (Among (is_by seat)) (λ late. []) doc look mid × FlushesOn seat n mid last

abbrev pub FlusherFollows : Crew → List Entry → List Entry → Type 0
FlusherFollows crew start journal = (n : ℕ) × FlushesOn (flusher_seat crew) n start journal

-- a journal in which each driver has closed
abbrev pub IsClosed : Crew → List Entry → Type 0
IsClosed crew journal = IsEachClosed crew.drivers journal

-- the workers left a document to the end: each driver had closed, and nothing waited, or another than a worker held the document
pub record IsHeldByAnother (crew : Crew) (doc : ℕ) (seen : List Entry) : Type 0 where
  pub acquiring : Acquiring
  pub held : HeldBy doc acquiring seen
  pub unexpired : is_expired doc seen ≡ false
  pub another : is_worker crew acquiring.seat ≡ false

pub record IsSwept (crew : Crew) (journal : List Entry) (doc : ℕ) : Type 0 where
  pub seen : List Entry
  pub rest : List Entry
  pub journal_is : journal ≡ seen ++ rest
  pub closed : IsClosed crew seen
  pub left : (waiting doc seen ≡ []) ⊎ IsHeldByAnother crew doc seen

-- the journal: the documents are made; the crew goes on, each of it its own course; and seat 0 ends the run
pub record FollowsTogether (crew : Crew) (lines : List Line) (sessions : ℕ) (journal : List Entry) : Type 0 where
  pub start : List Entry
  pub makes : Leads 0 Alone (document_lines lines) nothing_kept [] start
  pub between : List Entry
  pub crew_only : list_all (λ e. is_of_crew crew e.seat) between ≡ true
  pub driver : (d : ℕ) → d < crew.drivers → DriverFollows crew lines start (start ++ between) d
  pub worker : (w : ℕ) → w < crew.workers → WorkerFollows crew start (start ++ between) w
  pub flusher : FlusherFollows crew start (start ++ between)
  pub swept : (doc : ℕ) → doc < length (makings start) → IsSwept crew (start ++ between) doc
  pub ends : Ends sessions (start ++ between) journal
