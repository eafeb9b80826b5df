-- What contracts see of a journal.
use Rattle.std.specs.Prelude.{ℕ, ◌-◌, List, length, min}
use Rattle.journal_entries.specs.declared.act.Entry.{Entry}
use Rattle.journal_entries.specs.declared.limits.TheConstants.{MAX_ENTRIES}

-- its entries, and for how many more there is room
abbrev pub Journaled : Type 0
Journaled = List Entry × ℕ

abbrev pub entries : Journaled → List Entry
entries j = j.0

abbrev pub spare : Journaled → ℕ
spare j = j.1

-- the room that so much memory leaves behind so many entries
abbrev pub room_in : ℕ → ℕ → ℕ
room_in capacity len = min capacity MAX_ENTRIES - len
