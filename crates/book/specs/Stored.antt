-- What the keeper of a book holds, by the journal.
use Rattle.std.specs.Prelude.{◌≡◌, ℕ, ◌≤◌, Bool, false, IsTrue, List, [], ◌∷◌, Option, Some, unwrap_or, All, ⊤}
use Rattle.std.specs.List.{list_any}
use Rattle.std.specs.Str.{bytes_eq}
use Rattle.board.specs.declared.view.Start.{Start}
use Rattle.ot_parts.specs.Lines.{lines_of}
use Rattle.ranges_tracker.specs.Kept.{Kept}
use Rattle.ranges_tracker.specs.Shown.{shown}
use Rattle.keeper.specs.Documents.{document_of}
use Rattle.journal_entries.specs.declared.act.Act.{Act}
use Rattle.journal_entries.specs.declared.act.Act.TheVariants.{LoadFailed, Flushed, FlushFailed}
use Rattle.journal_entries.specs.declared.act.Entry.{Entry}
use Rattle.journal_rules.specs.Documents.{IsMade, name, text_at, version}
use Rattle.journal_rules.specs.Folds.{gathered}
use Rattle.journal_rules.specs.Keeping.{faults, kept}
use Rattle.journal_rules.specs.Tracking.{cells_at}

-- a document at a version, as it is put into the keeper: the lines of its text, the version, its changes and its comments
abbrev pub kept_document : ℕ → ℕ → List Entry → Kept
kept_document d v journal = record { lines = lines_of (unwrap_or (text_at d v journal) []); version = v; ranges = shown (cells_at d v journal) }

pub record IsStored (documents : List (List ℕ × Kept)) (d v : ℕ) (journal : List Entry) : Type 0 where
  pub made : IsMade d journal
  pub low : v ≤ version d journal
  pub there : document_of (name d journal) documents ≡ Some (kept_document d v journal)

-- each document that was flushed stands in the keeper as it was at the version of its last flush
abbrev pub AreStored : List (List ℕ × Kept) → List Entry → Type 0
AreStored documents journal = (d v : ℕ) → kept d journal ≡ Some v → IsStored documents d v journal

-- the names of the documents that were flushed
abbrev pub flushed_name : List Entry → Act → List (List ℕ)
flushed_name before (Flushed doc token v) = name doc before ∷ []
flushed_name before _ = []

unfoldable pub flushed_names : List Entry → List (List ℕ)
flushed_names journal = gathered (λ before e. flushed_name before e.act) journal

abbrev pub was_flushed : List ℕ → List Entry → Bool
was_flushed called journal = list_any (λ flushed. bytes_eq called flushed) (flushed_names journal)

-- of a keeper that tells, the documents of names under which nothing was flushed are what they were
abbrev pub KeepsOthers : Bool → List Entry → List (List ℕ × Kept) → List (List ℕ × Kept) → Type 0
KeepsOthers tells journal before now = IsTrue tells → (called : List ℕ) → was_flushed called journal ≡ false → document_of called now ≡ document_of called before

-- no fault of the keeper was counted before the book was made
abbrev pub BeganBy : ℕ → Act → Type 0
BeganBy start (LoadFailed doc token from to) = start ≤ from
BeganBy start (FlushFailed doc token from to) = start ≤ from
BeganBy start _ = ⊤

-- where the keeper's type tells its documents, those that were flushed are stored, and the others are what they were as the book was made; and what the journal has of its faults stands between its count as the book was made and its count now
pub record IsKeeping (tells : Bool) (documents : List (List ℕ × Kept)) (count : ℕ) (start : Start) (journal : List Entry) : Type 0 where
  pub stored : IsTrue tells → AreStored documents journal
  pub others : KeepsOthers tells journal start.documents documents
  pub later : start.faults ≤ count
  pub began : All (λ e. BeganBy start.faults e.act) journal
  pub ended : All (λ end. end ≤ count) (faults journal)
