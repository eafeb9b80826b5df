-- The lines of a text: what stands between its line feeds.
use Rattle.std.specs.Prelude.{ℕ, ◌==◌, ◌≢◌, List, [], All}
use Rattle.std.specs.List.{slice_split, join_with_byte}
use Rattle.std.specs.Option.{option_map_or}
use Rattle.ot_parts.specs.declared.lines.LineParts.TheInside.{Inside}

-- the lines between the line feeds, U+000A; one more than there are line feeds
abbrev pub lines_of : List ℕ → List (List ℕ)
lines_of text = slice_split (λ unit. unit == 10) text

-- the lines with a line feed between each two
abbrev pub joined_lines : List (List ℕ) → List ℕ
joined_lines lines = join_with_byte 10 lines

-- no line feed stands in the line
abbrev pub IsLine : List ℕ → Type 0
IsLine line = All (λ unit. unit ≢ 10) line

-- the lines that an iterator has left
abbrev pub lines_left : Inside → List (List ℕ)
lines_left parts = option_map_or (λ text. lines_of text.now) parts.rest []
