-- Changes from a place on, under a fresh id where they bear a torn mark.
use Rattle.std.specs.Prelude.{ℕ, ◌+◌, ◌-◌, List, [], ◌∷◌, length, drop, Option, Some, None, nat_lt, if◌then◌else◌}
use Rattle.ranges_tracker.specs.Cells.{Mark, same_mark}
use Rattle.ranges_tracker.specs.Shown.{mark_of}
use Rattle.ranges_tracker.specs.Tracked.{piece, tail_place}
use Rattle.ranges_tracker.specs.declared.change.Change.{Change}
use Rattle.ranges_tracker.specs.declared.mark.Torn.{Torn}

abbrev pub renumber_by : Option Torn → Change → Change
renumber_by None c = c
renumber_by (Some t) c = if same_mark (mark_of c) t.old then record { version = t.version; k = t.k; at = c.at; kind = c.kind; text = c.text; user = c.user; ms = c.ms } else c

abbrev pub tail_by : Option Torn → ℕ → ℕ → Change → List Change
tail_by torn from to c = if nat_lt from (c.at + length c.text) then renumber_by torn (piece c (tail_place from to c) (drop (from - c.at) c.text)) ∷ [] else []

-- the torn mark with its fresh id
abbrev pub torn_by : Option Mark → ℕ → ℕ → Option Torn
torn_by None version k = None
torn_by (Some old) version k = Some (record { old = old; version = version; k = k })

abbrev pub torn_count : Option Torn → ℕ
torn_count None = 0
torn_count (Some t) = 1
