-- The projects of a journal, and what is handed out of their histories.
use Rattle.std.specs.Prelude.{ℕ, List, [], ◌∷◌, ◌++◌, map, take, if◌then◌else◌}
use Rattle.std.specs.List.{list_any}
use Rattle.std.specs.Str.{bytes_eq}
use Rattle.history_queue.specs.declared.item.Item.{Item}
use Rattle.journal_entries.specs.declared.act.Act.{Act}
use Rattle.journal_entries.specs.declared.act.Act.TheVariants.{Handed}
use Rattle.journal_entries.specs.declared.act.Entry.{Entry}
use Rattle.journal_rules.specs.Documents.{Making, makings}
use Rattle.journal_rules.specs.History.{HistoryItem, history}

-- an item of the history, as it is handed out
abbrev pub shown_item : HistoryItem → Item
shown_item x = record { doc = x.doc; v = x.v; op = x.op; user = x.user; ms = x.ms; length_before = x.length_before }

-- what is left of a project's history
abbrev pub left_of : List ℕ → List Entry → List Item
left_of project journal = map shown_item (history project journal)

-- the items that an entry hands out
abbrev pub items_of : List Entry → Act → List Item
items_of before (Handed project count) = map shown_item (take count (history project before))
items_of before _ = []

-- the projects in the order in which they first appear
abbrev pub with_project : List (List ℕ) → List ℕ → List (List ℕ)
with_project projects project = if list_any (bytes_eq project) projects then projects else projects ++ project ∷ []

abbrev pub with_projects : List (List ℕ) → List Making → List (List ℕ)
with_projects projects [] = projects
with_projects projects (m ∷ ms) = with_projects (with_project projects m.project) ms

abbrev pub projects_of : List Entry → List (List ℕ)
projects_of journal = with_projects [] (makings journal)
