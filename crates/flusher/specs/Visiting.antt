-- Going once through the documents.
use Rattle.std.specs.Prelude.{◌≡◌, ◌≢◌, ◌⊎◌, ℕ, ◌<◌, List, ◌∷◌, ◌++◌, length, Some, None}
use Rattle.journal_entries.specs.declared.act.Entry.{Entry}
use Rattle.journal_rules.specs.Documents.{makings, version}
use Rattle.journal_rules.specs.Keeping.{kept}
use Rattle.turn_rules.specs.Locking.{acquired}
use Rattle.turn_rules.specs.Turns.{entry_by}
use Rattle.flusher.specs.Taking.{IsLeftAlone}

-- at a look a document needed no flush, or couldn't have one; or it needed one, and this seat acquired it there
abbrev pub IsVisitedAt : ℕ → ℕ → List Entry → List Entry → Type 0
IsVisitedAt seat doc look rest =
    IsLeftAlone doc look ⊎ ((kept doc look ≢ Some (version doc look)) × ((more : List Entry) × (rest ≡ entry_by seat None (acquired doc look) ∷ more)))

-- and that look came behind this start
pub record IsVisited (seat doc : ℕ) (start seen : List Entry) : Type 0 where
  pub before : List Entry
  pub rest : List Entry
  pub seen_is : seen ≡ (start ++ before) ++ rest
  pub visited : IsVisitedAt seat doc (start ++ before) rest

-- each document that was made by then was visited
pub record HasGoneRound (seat : ℕ) (start seen : List Entry) : Type 0 where
  pub round : List Entry
  pub rest : List Entry
  pub seen_is : seen ≡ round ++ rest
  pub each : (doc : ℕ) → doc < length (makings round) → IsVisited seat doc start round
