-- The history of a project: each operation that was applied to one of its documents, until it is handed out.
use Rattle.std.specs.Prelude.{ℕ, Bool, false, List, [], ◌∷◌, length, drop, sum, Option, Some, None, unwrap_or, if◌then◌else◌}
use Rattle.std.specs.Str.{bytes_eq}
use Rattle.ot_op.specs.declared.comp.Comp.{Comp}
use Rattle.journal_entries.specs.declared.update.Update.{Update}
use Rattle.journal_entries.specs.declared.update.Outcome.{Outcome}
use Rattle.journal_entries.specs.declared.update.Outcome.TheVariants.{Applied}
use Rattle.journal_entries.specs.declared.act.Act.{Act}
use Rattle.journal_entries.specs.declared.act.Act.TheVariants.{Committed, Handed}
use Rattle.journal_entries.specs.declared.act.Entry.{Entry}
use Rattle.journal_rules.specs.Folds.{gathered}
use Rattle.journal_rules.specs.Documents.{Making, making, update_at, text_at}

-- an operation that was applied: to which version of which document, by whom, when, and how long the text was before it
pub record HistoryItem : Type 0 where
  pub doc : ℕ
  pub v : ℕ
  pub op : List Comp
  pub user : List ℕ
  pub ms : ℕ
  pub length_before : ℕ

abbrev pub is_of_project : List ℕ → Option Making → Bool
is_of_project project (Some m) = bytes_eq m.project project
is_of_project project None = false

abbrev pub history_of : ℕ → List Entry → Option Update → Outcome → List HistoryItem
history_of doc before (Some u) (Applied v op) =
    record { doc = doc; v = v; op = op; user = u.user; ms = u.ms; length_before = length (unwrap_or (text_at doc v before) []) } ∷ []
history_of doc before _ _ = []

abbrev pub history_by : List ℕ → List Entry → Act → List HistoryItem
history_by project before (Committed doc token ticket outcome) =
    if is_of_project project (making doc before) then history_of doc before (update_at before ticket) outcome else []
history_by project before _ = []

-- all of it, in the order of the journal
unfoldable pub all_history : List ℕ → List Entry → List HistoryItem
all_history project journal = gathered (λ before e. history_by project before e.act) journal

-- how many items were handed out, each time
abbrev pub handed_by : List ℕ → Act → List ℕ
handed_by project (Handed p count) = if bytes_eq p project then count ∷ [] else []
handed_by project _ = []

unfoldable pub handed : List ℕ → List Entry → List ℕ
handed project journal = gathered (λ before e. handed_by project e.act) journal

-- what was not handed out
abbrev pub history : List ℕ → List Entry → List HistoryItem
history project journal = drop (sum (handed project journal)) (all_history project journal)
