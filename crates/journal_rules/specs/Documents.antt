-- What a journal says of a document: its first text, the operations that were applied to it, its texts, and what waits.
use Rattle.std.specs.Prelude.{ℕ, ◌+◌, ◌-◌, ◌<◌, ◌==◌, Bool, false, not, List, [], ◌∷◌, length, map, filter, take, position, slice_get, Option, Some, None, if◌then◌else◌}
use Rattle.std.specs.List.{list_any}
use Rattle.std.specs.Option.{option_and_then}
use Rattle.std.specs.Str.{bytes_eq}
use Rattle.ot_op.specs.declared.comp.Comp.{Comp}
pub use Rattle.ot_op.specs.Apply.{replayed}
use Rattle.journal_entries.specs.declared.update.Update.{Update}
use Rattle.journal_entries.specs.declared.update.Outcome.{Outcome}
use Rattle.journal_entries.specs.declared.update.Outcome.TheVariants.{Applied}
use Rattle.journal_entries.specs.declared.act.Act.{Act}
use Rattle.journal_entries.specs.declared.act.Act.TheVariants.{Made, Sent, Committed}
use Rattle.journal_entries.specs.declared.act.Entry.{Entry}
use Rattle.journal_rules.specs.Folds.{gathered}

-- how a document was made
pub record Making : Type 0 where
  pub name : List ℕ
  pub project : List ℕ
  pub first : List ℕ
  pub base : ℕ

abbrev pub making_of : Act → List Making
making_of (Made doc name project first base) = record { name = name; project = project; first = first; base = base } ∷ []
making_of _ = []

-- the documents in the order in which they were made, which is that of their numbers
unfoldable pub makings : List Entry → List Making
makings journal = gathered (λ before e. making_of e.act) journal

abbrev pub IsMade : ℕ → List Entry → Type 0
IsMade d journal = d < length (makings journal)

-- the number of the document of a name, where one was made
abbrev pub is_named : List ℕ → Making → Bool
is_named name m = bytes_eq name m.name

abbrev pub number_in : List ℕ → List Making → Option ℕ
number_in name ms = position (λ m. is_named name m) ms

abbrev pub number_of : List ℕ → List Entry → Option ℕ
number_of name journal = number_in name (makings journal)

abbrev pub making : ℕ → List Entry → Option Making
making d journal = slice_get (makings journal) d

abbrev pub first_in : Option Making → List ℕ
first_in (Some m) = m.first
first_in None = []

abbrev pub base_in : Option Making → ℕ
base_in (Some m) = m.base
base_in None = 0

abbrev pub name_in : Option Making → List ℕ
name_in (Some m) = m.name
name_in None = []

abbrev pub first : ℕ → List Entry → List ℕ
first d journal = first_in (making d journal)

abbrev pub base : ℕ → List Entry → ℕ
base d journal = base_in (making d journal)

abbrev pub name : ℕ → List Entry → List ℕ
name d journal = name_in (making d journal)

-- the update that a ticket names
abbrev pub update_of : Act → Option Update
update_of (Sent update) = Some update
update_of _ = None

abbrev pub update_in : Option Entry → Option Update
update_in (Some e) = update_of e.act
update_in None = None

abbrev pub update_at : List Entry → ℕ → Option Update
update_at journal ticket = update_in (slice_get journal ticket)

-- an operation that was applied, at its version, with the update that its ticket names
pub record Item : Type 0 where
  pub op : List Comp
  pub v : ℕ
  pub ticket : ℕ
  pub update : Update

abbrev pub item_of : ℕ → Option Update → Outcome → List Item
item_of ticket (Some update) (Applied v op) = record { op = op; v = v; ticket = ticket; update = update } ∷ []
item_of ticket _ _ = []

abbrev pub items_by : ℕ → List Entry → Act → List Item
items_by d before (Committed doc token ticket outcome) = if doc == d then item_of ticket (update_at before ticket) outcome else []
items_by d before _ = []

-- the applied list of a document
unfoldable pub applied_list : ℕ → List Entry → List Item
applied_list d journal = gathered (λ before e. items_by d before e.act) journal

abbrev pub operations : ℕ → List Entry → List (List Comp)
operations d journal = map (λ x. x.op) (applied_list d journal)

abbrev pub version : ℕ → List Entry → ℕ
version d journal = base d journal + length (applied_list d journal)

-- the text of a document at a version from its base to its version
abbrev pub text_at : ℕ → ℕ → List Entry → Option (List ℕ)
text_at d n journal = replayed (first d journal) (take (n - base d journal) (operations d journal))

-- and at its version
abbrev pub text : ℕ → List Entry → Option (List ℕ)
text d journal = replayed (first d journal) (operations d journal)

-- the tickets of what was sent to a document, in order
abbrev pub sends : ℕ → Act → Bool
sends d (Sent update) = update.doc == d
sends d _ = false

unfoldable pub sent : ℕ → List Entry → List ℕ
sent d journal = gathered (λ before e. if sends d e.act then length before ∷ [] else []) journal

-- the tickets that were committed
abbrev pub ticket_of : Act → List ℕ
ticket_of (Committed doc token ticket outcome) = ticket ∷ []
ticket_of _ = []

unfoldable pub committed : List Entry → List ℕ
committed journal = gathered (λ before e. ticket_of e.act) journal

abbrev pub is_in : ℕ → List ℕ → Bool
is_in x list = list_any (λ y. y == x) list

-- what waits for a document: what was sent to it and not committed, in order
abbrev pub waiting : ℕ → List Entry → List ℕ
waiting d journal = filter (λ ticket. not (is_in ticket (committed journal))) (sent d journal)
