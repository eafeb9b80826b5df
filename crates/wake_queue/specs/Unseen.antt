-- A queue that a pass has never seen empty.
use Rattle.std.specs.Prelude.{◌≡◌, ◌≢◌, ◌⊎◌, ℕ, ◌+◌, ◌<◌, List, [], length}
use Rattle.wake_queue.specs.declared.rule.Done.{Done}
use Rattle.wake_queue.specs.Wakes.{At, Was, Steps}

-- how much a pass has done
abbrev pub amount : Done → ℕ
amount v = length v.pushed + length v.popped + v.empties

-- the past in which the queue held something as long as the pass of this number had done just this
abbrev pub Held : ℕ → Done → List ℕ → List Done → Type 0
Held number v items views = (own : Done) × At views number own × (((own ≡ v) × (items ≢ [])) ⊎ (amount v < amount own))

-- in that past the pass can take each step, any state may have been in which the queue held something,
-- and it was not empty
pub record NeverEmpty (number : ℕ) (v : Done) : Type 0 where
  pub steps : Steps (Held number v) number
  pub known : (items : List ℕ) (views : List Done) → items ≢ [] → At views number v → Held number v items views
  pub never : Was (Held number v) number v [] → ⊥
