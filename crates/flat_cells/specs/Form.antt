-- Which flat rows are well formed.
use Rattle.std.specs.Prelude.{◌≡◌, ℕ, ◌≤◌, ◌<◌, ◌⊎◌, Bool, true, false, List, [], ◌∷◌, length, filter, Some, ◌==◌, ◌||◌, if◌then◌else◌, All}
use Rattle.std.specs.List.{list_any}
use Rattle.ranges_tracker.specs.declared.mark.Mark.{Mark}
use Rattle.ranges_tracker.specs.declared.stamp.Stamp.{Stamp}
use Rattle.ranges_tracker.specs.Cells.{same_mark, bears, mark_at}
use Rattle.flat_cells.specs.Row.{Cell, Live, Gone, Start, End, FlatRow, is_start, is_end, lives_of, before, from_gap, gaps, grouped, until}

-- a thread with one start and one end, the start before the end
pub record IsThread (cells : List Cell) (t : ℕ) : Type 0 where
  pub one_start : length (filter (is_start t) cells) ≡ 1
  pub one_end : length (filter (is_end t) cells) ≡ 1
  pub in_order : list_any (is_start t) (until (is_end t) cells) ≡ true

abbrev pub names : ℕ → List ℕ → Bool
names t ts = list_any (λ (s : ℕ). s == t) ts

-- each once
abbrev pub IsOnceEach : List ℕ → Type 0
IsOnceEach [] = Unit {0}
IsOnceEach (t ∷ ts) = (names t ts ≡ false) × IsOnceEach ts

abbrev pub is_edge : ℕ → Cell → Bool
is_edge t c = is_start t c || is_end t c

-- the cells of a mark
abbrev pub is_live_of : Mark → Cell → Bool
is_live_of m (Live u o) = bears o m
is_live_of m (Gone u n) = false
is_live_of m (Start t) = false
is_live_of m (End t) = false

abbrev pub is_gone_of : Mark → Cell → Bool
is_gone_of m (Live u o) = false
is_gone_of m (Gone u n) = same_mark n m
is_gone_of m (Start t) = false
is_gone_of m (End t) = false

abbrev pub is_of : Mark → Cell → Bool
is_of m c = is_live_of m c || is_gone_of m c

-- what stands behind the gone cells of a mark that come first
abbrev pub past_gone : Mark → List Cell → List Cell
past_gone m [] = []
past_gone m (Live u o ∷ cs) = Live u o ∷ cs
past_gone m (Gone u n ∷ cs) = if same_mark n m then past_gone m cs else Gone u n ∷ cs
past_gone m (Start t ∷ cs) = Start t ∷ cs
past_gone m (End t ∷ cs) = End t ∷ cs

-- gone cells of one mark are neighbours
abbrev pub AreNeighbours : List Cell → Type 0
AreNeighbours [] = Unit {0}
AreNeighbours (Live u o ∷ cs) = AreNeighbours cs
AreNeighbours (Gone u m ∷ cs) = (list_any (is_gone_of m) (past_gone m cs) ≡ false) × AreNeighbours cs
AreNeighbours (Start t ∷ cs) = AreNeighbours cs
AreNeighbours (End t ∷ cs) = AreNeighbours cs

-- A well-formed flat row: each listed thread has its start once and its end once, in this order, and no other thread stands in the row; the gaps are in their three groups; different marks have different ids; between two live cells of one mark each live cell bears it; a mark of gone cells has no live cell, and its cells are neighbours.
pub record IsWellFormedFlat (row : FlatRow) : Type 0 where
  pub threads : All (IsThread row.cells) row.threads
  pub once : IsOnceEach row.threads
  pub no_other : (t : ℕ) → list_any (is_edge t) row.cells ≡ true → names t row.threads ≡ true
  pub groups : (p : ℕ) → grouped (before p row.cells) (gaps 0 (from_gap p row.cells)) ≡ gaps 0 (from_gap p row.cells)
  pub ids : (m n : Mark) → list_any (is_of m) row.cells ≡ true → list_any (is_of n) row.cells ≡ true → m.version ≡ n.version → m.k ≡ n.k → m ≡ n
  pub runs : (m : Mark) (i j k : ℕ) → i ≤ j → j ≤ k → mark_at (lives_of row.cells) i ≡ Some m → mark_at (lives_of row.cells) k ≡ Some m → mark_at (lives_of row.cells) j ≡ Some m
  pub apart : (m : Mark) → list_any (is_gone_of m) row.cells ≡ true → list_any (is_live_of m) row.cells ≡ false
  pub neighbours : AreNeighbours row.cells

-- fresh marks are new: each mark of a row has a lower version than the update, or the same version and a lower number than its next fresh mark
abbrev pub AreOlder : List Cell → Stamp → ℕ → Type 0
AreOlder cells stamp k = (m : Mark) → list_any (is_of m) cells ≡ true → (m.version < stamp.version) ⊎ ((m.version ≡ stamp.version) × (m.k < k))
