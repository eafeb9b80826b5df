-- What contracts see of the projects with their histories, and that they are those of a journal.
use Rattle.std.specs.Prelude.{◌≡◌, ℕ, ◌+◌, ◌<◌, List, [], ◌∷◌, ◌++◌, length, map, position, slice_get, slice_set, sum, take, drop, Option, Some, None}
use Rattle.std.specs.Str.{bytes_eq}
use Rattle.history_queue.specs.declared.item.Item.{Item}
use Rattle.journal_entries.specs.declared.act.Entry.{Entry}
use Rattle.journal_rules.specs.Documents.{Making, making, makings}
use Rattle.journal_rules.specs.History.{handed}
use Rattle.project_histories.specs.Handing.{left_of, projects_of}
use Rattle.project_histories.specs.declared.project.Project.{Project}

-- the projects, the place of each document's project among them, and how many more of both there is room for
pub record Histories : Type 0 where
  pub projects : List Project
  pub places : List ℕ
  pub spare : ℕ
  pub spare_places : ℕ

abbrev pub names_in : List Project → List (List ℕ)
names_in projects = map (λ (x : Project). x.name) projects

-- the place of a project's name
abbrev pub place_of : List ℕ → List Project → Option ℕ
place_of name projects = position (λ (x : Project). bytes_eq name x.name) projects

-- ---- they are those of a journal
-- a project has the history that the journal has of it
pub record IsHistory (x : Project) (journal : List Entry) : Type 0 where
  pub left_is : x.queue.items ≡ left_of x.name journal
  pub handed_is : x.handed ≡ sum (handed x.name journal)

-- a document is of the project of this name
pub record IsOf (doc : ℕ) (name : List ℕ) (h : Histories) : Type 0 where
  pub place : ℕ
  pub place_is : slice_get h.places doc ≡ Some place
  pub named : slice_get (names_in h.projects) place ≡ Some name

-- the projects in the order in which they first appear, each with its history, and each document of its project
pub record AreHistories (h : Histories) (journal : List Entry) : Type 0 where
  pub names_are : names_in h.projects ≡ projects_of journal
  pub count : length h.places ≡ length (makings journal)
  pub placed : (d : ℕ) (m : Making) → making d journal ≡ Some m → IsOf d m.project h
  pub each : (i : ℕ) (x : Project) → slice_get h.projects i ≡ Some x → IsHistory x journal

-- ---- room
-- for a document more
pub record HasRoom (h : Histories) : Type 0 where
  pub projects : 0 < h.spare
  pub places : 0 < h.spare_places

-- a document's project stands among them
pub record IsOfSome (doc : ℕ) (h : Histories) : Type 0 where
  pub place : ℕ
  pub place_is : slice_get h.places doc ≡ Some place
  pub within : place < length h.projects

-- for an item more of a document's project
abbrev pub HasRoomFor : ℕ → Histories → Type 0
HasRoomFor doc h = (place : ℕ) (x : Project) → slice_get h.places doc ≡ Some place → slice_get h.projects place ≡ Some x → 0 < x.queue.spare

-- ---- what a call makes of them
-- nothing but room
pub record KeepsAll (old new : Histories) : Type 0 where
  pub projects_are : new.projects ≡ old.projects
  pub places_are : new.places ≡ old.places

-- a project without a history
pub record IsNew (name : List ℕ) (x : Project) : Type 0 where
  pub name_is : x.name ≡ name
  pub none_left : x.queue.items ≡ []
  pub none_handed : x.handed ≡ 0

-- a document more, of a project that stands at this place, or of a new one
abbrev pub AddsAt : List ℕ → Option ℕ → Histories → Histories → Type 0
AddsAt name (Some place) old new = (new.projects ≡ old.projects) × (new.places ≡ old.places ++ place ∷ [])
AddsAt name None old new = (x : Project) × IsNew name x × (new.projects ≡ old.projects ++ x ∷ []) × (new.places ≡ old.places ++ length old.projects ∷ [])

abbrev pub Adds : List ℕ → Histories → Histories → Type 0
Adds name old new = AddsAt name (place_of name old.projects) old new

-- one project is another
pub record Changes (place : ℕ) (R : Project → Project → Type 0) (old new : Histories) : Type 0 where
  pub was : Project
  pub now : Project
  pub at : slice_get old.projects place ≡ Some was
  pub set_is : new.projects ≡ slice_set old.projects place now
  pub places_are : new.places ≡ old.places
  pub is : R was now

-- that of a document
pub record ChangesOf (doc : ℕ) (R : Project → Project → Type 0) (old new : Histories) : Type 0 where
  pub place : ℕ
  pub place_is : slice_get old.places doc ≡ Some place
  pub changes : Changes place R old new

-- nothing but spare room
pub record IsRoomier (was now : Project) : Type 0 where
  pub name_is : now.name ≡ was.name
  pub left_is : now.queue.items ≡ was.queue.items
  pub handed_is : now.handed ≡ was.handed

-- an item more
pub record HasItem (item : Item) (was now : Project) : Type 0 where
  pub name_is : now.name ≡ was.name
  pub left_is : now.queue.items ≡ was.queue.items ++ item ∷ []
  pub handed_is : now.handed ≡ was.handed

-- so many items fewer, or none left
pub record HandsOut (n : ℕ) (was now : Project) : Type 0 where
  pub name_is : now.name ≡ was.name
  pub left_is : now.queue.items ≡ drop n was.queue.items
  pub handed_is : now.handed ≡ was.handed + length (take n was.queue.items)
