-- What a flusher makes of the journal.
use Rattle.std.specs.Prelude.{◌≡◌, ◌⊎◌, ℕ, List, [], ◌∷◌, ◌++◌, None}
use Rattle.journal_entries.specs.declared.act.Entry.{Entry}
use Rattle.journal_rules.specs.Locks.{next_token}
use Rattle.turn_rules.specs.Draining.{Releases}
use Rattle.turn_rules.specs.Locking.{acquired, unavailable}
use Rattle.turn_rules.specs.Turns.{Among, entry_by}
use Rattle.run_rules.specs.Threads.{FlushesOn, is_by}
use Rattle.seat_turns.specs.declared.ending.WorkerEnd.{WorkerEnd}
use Rattle.seat_turns.specs.declared.ending.WorkerEnd.TheVariants.{Closed, Memory}

-- some flushes, each of some document
abbrev pub FlushesSome : ℕ → List Entry → List Entry → Type 0
FlushesSome seat left last = (n : ℕ) × FlushesOn seat n left last

-- a lock is acquired, and let go with nothing put
abbrev pub LetsGo : ℕ → List Entry → List Entry → Type 0
LetsGo seat left last =
    (doc : ℕ) × (look : List Entry) × Among (is_by seat) left look × (unavailable doc look ≡ None)
    × Releases (entry_by seat None) (Among (is_by seat)) doc (next_token look) (look ++ entry_by seat None (acquired doc look) ∷ []) last

-- where memory was wanting: some flushes, and behind them maybe a lock that was let go with nothing put
abbrev pub FlushesShort : ℕ → List Entry → List Entry → Type 0
FlushesShort seat left last = FlushesSome seat left last ⊎ ((mid : List Entry) × FlushesSome seat left mid × LetsGo seat mid last)

-- by its end
abbrev pub FlushesBy : WorkerEnd → ℕ → List Entry → List Entry → Type 0
FlushesBy Closed seat left last = FlushesSome seat left last
FlushesBy Memory seat left last = FlushesShort seat left last
