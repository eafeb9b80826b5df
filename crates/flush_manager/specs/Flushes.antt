-- What a flush of a document leaves, by how it ended.
use Rattle.std.specs.Prelude.{◌≡◌, ◌⊎◌, ℕ, nat_lt, List, [], ◌∷◌, ◌++◌, length, map, Option, Some, None, if◌then◌else◌}
use Rattle.journal_entries.specs.declared.act.Act.{Act}
use Rattle.journal_entries.specs.declared.act.Act.TheVariants.{Flushed, FlushFailed, Released}
use Rattle.journal_entries.specs.declared.act.Entry.{Entry}
use Rattle.journal_entries.specs.declared.why.Why.{Why}
use Rattle.journal_entries.specs.declared.why.Why.TheVariants.{NoDoc}
use Rattle.journal_rules.specs.Documents.{makings}
use Rattle.journal_rules.specs.Locks.{next_token}
use Rattle.turn_rules.specs.Locking.{acquired, unavailable}
use Rattle.flush_manager.specs.declared.flush.FlushEnd.{FlushEnd}
use Rattle.flush_manager.specs.declared.flush.FlushEnd.TheVariants.{Done, Failed, Memory, Refused}

-- why a document can't be flushed: it wasn't made, or can't be acquired
abbrev pub not_flushable : ℕ → List Entry → Option Why
not_flushable doc look = if nat_lt doc (length (makings look)) then unavailable doc look else Some NoDoc

-- under a token: it was put, or it couldn't be, which is noted; or memory was wanting
abbrev pub Puts : (Act → Entry) → ℕ → ℕ → List Entry → List Entry → FlushEnd → Type 0
Puts by doc token old new Done = (v : ℕ) × (new ≡ old ++ by (Flushed doc token v) ∷ [])
Puts by doc token old new (Failed before after) = new ≡ old ++ by (FlushFailed doc token before after) ∷ []
Puts by doc token old new (Refused why) = ⊥
Puts by doc token old new Memory = new ≡ old

-- a flush of which nothing is missing: acquired; put, or not; released
abbrev pub PutsWhole : (Act → Entry) → ℕ → List Entry → List Entry → List Act → Type 0
PutsWhole by doc old new put = (not_flushable doc old ≡ None) × (new ≡ old ++ map by (acquired doc old ∷ (put ++ Released doc (next_token old) ∷ [])))

-- by its end. Where memory was wanting, the lock wasn't acquired, or was released again
abbrev pub Flushes : (Act → Entry) → ℕ → List Entry → List Entry → FlushEnd → Type 0
Flushes by doc old new Done = (v : ℕ) × PutsWhole by doc old new (Flushed doc (next_token old) v ∷ [])
Flushes by doc old new (Failed before after) = PutsWhole by doc old new (FlushFailed doc (next_token old) before after ∷ [])
Flushes by doc old new (Refused why) = (not_flushable doc old ≡ Some why) × (new ≡ old)
Flushes by doc old new Memory = (new ≡ old) ⊎ PutsWhole by doc old new []
