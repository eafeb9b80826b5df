-- What a run hands out of the histories of its projects.
use Rattle.std.specs.Prelude.{ℕ, ◌==◌, ◌||◌, Bool, true, List, [], if◌then◌else◌}
use Rattle.turn_rules.specs.Turns.{is_by}
use Rattle.history_queue.specs.declared.item.Item.{Item}
use Rattle.journal_entries.specs.declared.act.Act.{Act}
use Rattle.journal_entries.specs.declared.act.Act.TheVariants.{Handed}
use Rattle.journal_entries.specs.declared.act.Entry.{Entry}
use Rattle.journal_rules.specs.Folds.{gathered}
use Rattle.project_histories.specs.Handing.{items_of}

-- the items that one's own entries handed out, in order
unfoldable pub items_handed_by : (Entry → Bool) → List Entry → List Item
items_handed_by is_own journal = gathered (λ before e. if is_own e then items_of before e.act else []) journal

-- on one thread all entries are one's own
abbrev pub is_own : ℕ → ℕ → Entry → Bool
is_own drivers seat e = drivers == 0 || is_by seat e

-- those of all entries
abbrev pub items_handed : List Entry → List Item
items_handed journal = items_handed_by (λ e. true) journal

-- how many items an act hands out
abbrev pub handed_count : Act → ℕ
handed_count (Handed project count) = count
handed_count _ = 0
