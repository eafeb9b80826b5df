-- The cells of a document at a version, against its text there.
use Rattle.std.specs.Prelude.{◌≡◌, ℕ, List, Some}
use Rattle.ranges_tracker.specs.declared.stamp.Stamp.{Stamp}
use Rattle.ranges_tracker.specs.Cells.{text_of}
use Rattle.ranges_tracker.specs.Steady.{Steady}
use Rattle.ranges_tracker.specs.WellFormed.{IsWellFormed}
use Rattle.journal_entries.specs.declared.act.Entry.{Entry}
use Rattle.journal_rules.specs.Documents.{text_at}
use Rattle.journal_rules.specs.Tracking.{cells_at}

-- their live units are the text, they are well formed, and they are what the steps of the operation at that version need: its marks are new
pub record AreCellsOfText (d n : ℕ) (journal : List Entry) : Type 0 where
  pub text_is : text_at d n journal ≡ Some (text_of (cells_at d n journal).lives)
  pub well_formed : IsWellFormed (cells_at d n journal)
  pub steady : (stamp : Stamp) → stamp.version ≡ n → Steady (cells_at d n journal) stamp 0
