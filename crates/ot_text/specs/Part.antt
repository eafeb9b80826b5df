-- A part of a text.
use Rattle.std.specs.Prelude.{ℕ, ◌+◌, List, length, Option, Some, None, nat_le, if◌then◌else◌}
use Rattle.ot_units.specs.Text.{part_at}

-- the `len` units from place `at` on, where they end within the text
abbrev pub part_within : List ℕ → ℕ → ℕ → Option (List ℕ)
part_within text at len = if nat_le (at + len) (length text) then Some (part_at text at len) else None
