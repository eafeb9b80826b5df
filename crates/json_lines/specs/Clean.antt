-- A text with no line feed, and that it is cut off whole.
use Rattle.std.specs.Prelude.{◌≡◌, ℕ, ◌==◌, List, ◌∷◌, ◌++◌, Bool, true, false, not}
use Rattle.std.specs.List.{list_all}
use Rattle.serde_json.specs.Data.{Data}
use Rattle.serde_json.specs.Written.{has_float, compact_text}
use Rattle.json_lines.specs.Lines.{lines_of}

abbrev pub is_clean : List ℕ → Bool
is_clean s = list_all (λ x. not (x == 10)) s

abbrev pub StaysOnALine : Type 0
StaysOnALine = (d : Data) → has_float d ≡ false → is_clean (compact_text d) ≡ true

-- a text with no line feed is the first line before one
abbrev pub CutsBack : Type 0
CutsBack = (line rest : List ℕ) → is_clean line ≡ true → lines_of (line ++ 10 ∷ rest) ≡ line ∷ lines_of rest
