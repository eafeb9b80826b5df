-- How a document is flushed: its lock is acquired, it is put into the keeper, and the lock is released.
use Rattle.std.specs.Prelude.{◌≡◌, ◌⊎◌, ℕ, List, [], ◌∷◌, ◌++◌, map}
use Rattle.journal_entries.specs.declared.act.Act.{Act}
use Rattle.journal_entries.specs.declared.act.Act.TheVariants.{Flushed, FlushFailed, Released}
use Rattle.journal_entries.specs.declared.act.Entry.{Entry}
use Rattle.journal_rules.specs.Locks.{next_token}
use Rattle.turn_rules.specs.Draining.{IsTakenOver, Releases}
use Rattle.turn_rules.specs.Locking.{acquired}

-- the document is put into the keeper, or can't be
abbrev pub IsPut : ℕ → ℕ → Act → Type 0
IsPut doc token act = ((v : ℕ) × (act ≡ Flushed doc token v)) ⊎ ((from : ℕ) × (to : ℕ) × (act ≡ FlushFailed doc token from to))

module _ (by : Act → Entry) (Next : List Entry → List Entry → Type 0) (stale_acts : List Entry → List Act) where
  -- under a token: it is put, and the lock is released; or another acquired the lock since, and that is all but for what is then said
  abbrev pub Puts : ℕ → ℕ → List Entry → List Entry → Type 0
  Puts doc token left last =
      (look : List Entry) × Next left look
      × (((act : Act) × IsPut doc token act × Releases by Next doc token (look ++ by act ∷ []) last)
      ⊎ (IsTakenOver doc token look × (last ≡ look ++ map by (stale_acts look))))

  -- from the look at which the lock is acquired
  abbrev pub FlushesFrom : ℕ → List Entry → List Entry → Type 0
  FlushesFrom doc look last = Puts doc (next_token look) (look ++ by (acquired doc look) ∷ []) last

-- a flush of which nothing is missing: acquired; flushed or flush-failed; released
pub record IsWholeFlush (by : Act → Entry) (doc : ℕ) (left last : List Entry) : Type 0 where
  pub put : Act
  pub is_put : IsPut doc (next_token left) put
  pub last_is : last ≡ left ++ map by (acquired doc left ∷ put ∷ Released doc (next_token left) ∷ [])
