-- How what was taken up is put into the keeper, and its lock let go.
use Rattle.std.specs.Prelude.{◌≡◌, ℕ, List, [], ◌∷◌, ◌++◌, None, Result, Ok, Err}
use Rattle.std.specs.declared.alloc.AllocError.{AllocError}
use Rattle.journal_entries.specs.declared.act.Act.{Act}
use Rattle.journal_entries.specs.declared.act.Entry.{Entry}
use Rattle.turn_rules.specs.Draining.{IsTakenOver, Releases}
use Rattle.turn_rules.specs.Flushing.{IsPut, Puts}
use Rattle.turn_rules.specs.Locking.{staleness}
use Rattle.flusher.specs.declared.putting.PutEnd.{PutEnd}
use Rattle.flusher.specs.declared.putting.PutEnd.TheVariants.{Done, Overtaken, Memory}

-- a put was done, whether the keeper took it or failed; or another acquired the lock since, or memory was wanting, and nothing was done
abbrev pub EndsPut : (Act → Entry) → ℕ → ℕ → List Entry → List Entry → PutEnd → Type 0
EndsPut by doc token old new Done = (staleness doc token old ≡ None) × ((act : Act) × IsPut doc token act × (new ≡ old ++ by act ∷ []))
EndsPut by doc token old new Overtaken = IsTakenOver doc token old × (new ≡ old)
EndsPut by doc token old new Memory = new ≡ old

-- a flush ends: what was taken up is put, and its lock let go. Where memory is wanting the lock is let go alone
module _ (by : Act → Entry) (Next : List Entry → List Entry → Type 0) where
  abbrev pub EndsFlush : ℕ → ℕ → List Entry → List Entry → Result (Unit {0}) AllocError → Type 0
  EndsFlush doc token left last (Ok done) = Puts by Next (λ late. []) doc token left last
  EndsFlush doc token left last (Err fault) = Releases by Next doc token left last
