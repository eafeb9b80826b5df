-- Kept documents.
use Rattle.std.specs.Prelude.{ℕ, ◌^◌, ◌<◌, ◌≤◌, List, [], ◌∷◌, ◌++◌, length}
use Rattle.std.specs.List.{All}
use Rattle.ot_parts.specs.Lines.{IsLine}
use Rattle.ranges_tracker.specs.declared.change.Change.{Change}
use Rattle.ranges_tracker.specs.declared.comment.Comment.{Comment}
use Rattle.ranges_tracker.specs.Agree.{Agree, IsSince}

-- a kept document: the lines of its text, its version, its changes and its comments
pub record Kept : Type 0 where
  pub lines : List (List ℕ)
  pub version : ℕ
  pub ranges : List Change × List Comment

-- at least one line, none with a line feed
pub record AreLines (lines : List (List ℕ)) : Type 0 where
  pub each : All IsLine lines
  pub some : 0 < length lines

-- the last line grows by a part
abbrev pub lengthened : List (List ℕ) → List ℕ → List (List ℕ)
lengthened [] part = []
lengthened (line ∷ []) part = (line ++ part) ∷ []
lengthened (line ∷ next ∷ lines) part = line ∷ lengthened (next ∷ lines) part

-- what can be kept
pub record IsKept (text : List ℕ) (version : ℕ) (ranges : List Change × List Comment) : Type 0 where
  pub agree : Agree ranges text
  pub since : IsSince version ranges.0
  pub long : length text ≤ 2_097_152
  pub bound : version ≤ 2 ^ 62
