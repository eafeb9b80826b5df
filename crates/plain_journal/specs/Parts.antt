-- Parts of the definitions that stand on functions of their own here.
use Rattle.std.specs.Prelude.{◌≡◌, Bool, ℕ, ◌+◌, ◌-◌, ◌≤◌, List, ◌∷◌, ◌++◌, ◌==◌, drop, Option, Some, if◌then◌else◌}
use Rattle.ot_transform.specs.Room.{FitsAll}
use Rattle.journal_entries.specs.declared.update.Update.{Update}
use Rattle.journal_entries.specs.declared.update.Outcome.{Outcome}
use Rattle.journal_entries.specs.declared.update.Outcome.TheVariants as outcome
use Rattle.journal_entries.specs.declared.act.Entry.{Entry}
use Rattle.journal_rules.specs.declared.state.ClientState.TheVariants as state
use Rattle.journal_rules.specs.Documents as rules
use Rattle.journal_rules.specs.Deciding.{greatest_age}
use Rattle.journal_rules.specs.Mail as mail
use Rattle.journal_rules.specs.History as history
use Rattle.journal_rules.specs.Client as client

-- an outbox with what its client is told of the outcome of an update for a document
abbrev pub posted : ℕ → Option Update → Outcome → mail.Outbox → mail.Outbox
posted doc update outcome b = if doc == b.doc then record b { posted = b.posted ++ mail.told_of b.source update outcome } else b

-- where an update is neither too young nor too old, there is room to move it past what was applied since its version
abbrev pub HasRoom : List Entry → ℕ → Update → Type 0
HasRoom j d u = rules.base d j ≤ u.v → u.v ≤ rules.version d j → rules.version d j ≤ u.v + greatest_age → FitsAll u.op (drop (u.v - rules.base d j) (rules.operations d j))

-- the first of a list
abbrev pub IsFirst : ℕ → List ℕ → Type 0
IsFirst x xs = (rest : List ℕ) × (xs ≡ x ∷ rest)

-- how many items the outcome of an update adds to the history of a project, where its document was so made
abbrev pub history_count : List ℕ → Option rules.Making → Option Update → Outcome → ℕ
history_count project making (Some u) (outcome.Applied v op) = if history.is_of_project project making then 1 else 0
history_count project making _ _ = 0

-- a client has left a document at a version
pub record HasLeft (s : client.Client) (doc : ℕ) (user : List ℕ) (track : Bool) (since : ℕ) : Type 0 where
  pub left : s.state ≡ state.Left
  pub since_is : s.version ≡ since
  pub doc_is : s.doc ≡ doc
  pub user_is : s.user ≡ user
  pub track_is : s.track ≡ track
