-- The cells of a document, in which its tracked changes and its comments stand.
use Rattle.std.specs.Prelude.{ℕ, ◌-◌, List, [], ◌∷◌, take}
use Rattle.journal_entries.specs.declared.act.Entry.{Entry}
use Rattle.ranges_tracker.specs.declared.stamp.Stamp.{Stamp}
use Rattle.ranges_tracker.specs.Cells.{Row, plain_row, steps}
use Rattle.journal_rules.specs.Documents.{Item, applied_list, base, first}

-- the stamp of an operation that was applied
abbrev pub stamp_of : Item → Stamp
stamp_of x = record { version = x.v; user = x.update.user; ms = x.update.ms; track = x.update.track }

-- a row with operations applied in order
abbrev pub tracked : Row → List Item → Row
tracked row [] = row
tracked row (x ∷ xs) = tracked (steps row x.op (stamp_of x) 0).row xs

-- the cells of a document at a version from its base to its version
abbrev pub cells_at : ℕ → ℕ → List Entry → Row
cells_at d n journal = tracked (plain_row (first d journal)) (take (n - base d journal) (applied_list d journal))

-- and at its version
abbrev pub cells : ℕ → List Entry → Row
cells d journal = tracked (plain_row (first d journal)) (applied_list d journal)
