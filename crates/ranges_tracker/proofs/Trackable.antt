-- The marks of shown changes are as old as those of the cells.
use Rattle.std.proofs.Common.{◌≡◌, ℕ, ◌+◌, ◌<◌, ◌≤◌, List, [], ◌∷◌, ◌++◌, refl, arith, Option, Some, None, subst, ◌⊎◌, inl, inr}
use Rattle.std.proofs.lemmas.Bool.{cases_lt}
use Rattle.ranges_tracker.specs.Cells.{Mark, Live, Gone, Row}
use Rattle.ranges_tracker.specs.declared.change.Change.{Change}
use Rattle.ranges_tracker.specs.Shown.{mark_of, packed, live_cells, gone_cells, up_to, past, merged, shown_changes}
use Rattle.ranges_tracker.specs.Steady.{OlderMark, OlderLives, OlderGone}
use Rattle.ranges_tracker.specs.WellFormed.{OnLive, OnGone}
use Rattle.ranges_tracker.specs.Trackable.{IsOlder}
use Rattle.ranges_tracker.proofs.Inserting.{Older}
use Rattle.ranges_tracker.proofs.Forms.{Each, each_front, each_back, each_append, each_merged, each_weaker, up_to_past}
use Rattle.ranges_tracker.proofs.Marks.{HasMark, lives_has, gone_has}
use Rattle.ranges_tracker.proofs.Lasting.{older_packed}
use Rattle.ranges_tracker.proofs.Keeping.{gone_packed}

abbrev pub IsOlderMark : ℕ → ℕ → Mark → Type 0
IsOlderMark version k m = (m.version ≤ version) × (m.version ≡ version → m.k < k)

-- what holds of all merged changes holds of the inserts and of the deletes
merged_each : (P : Change → Type 0) (is ds : List Change) → Each P (merged is ds) → Each P is × Each P ds
merged_each P [] ds h = (tt, h)
merged_each P (i ∷ is) ds h =
    let front : Each P (up_to i.at ds) = each_front P (up_to i.at ds) (i ∷ merged is (past i.at ds)) h in
    let back : Each P (i ∷ merged is (past i.at ds)) = each_back P (up_to i.at ds) (i ∷ merged is (past i.at ds)) h in
    let rest = merged_each P is (past i.at ds) back.1 in
    ((back.0, rest.0), subst (λ (x : List Change). Each P x) (up_to_past i.at ds) (each_append P (up_to i.at ds) (past i.at ds) front rest.1))

-- a mark that some change bears
mark_older : (version k : ℕ) (cs : List Change) → Each (IsOlder version k) cs → (m : Mark) → HasMark m cs → IsOlderMark version k m
mark_older version k [] h m on = absurd on
mark_older version k (c ∷ cs) h m (inl e) = subst (λ (x : Mark). IsOlderMark version k x) e h.0
mark_older version k (c ∷ cs) h m (inr on) = mark_older version k cs h.1 m on

cell_older : (version k : ℕ) (o : Option Mark) → ((m : Mark) → o ≡ Some m → IsOlderMark version k m) → OlderMark version k o
cell_older version k None f = tt
cell_older version k (Some m) f = f m refl

lives_older : (version k : ℕ) (ls : List Live) → ((m : Mark) → OnLive m ls → IsOlderMark version k m) → OlderLives version k ls
lives_older version k [] f = tt
lives_older version k (l ∷ ls) f = (cell_older version k l.mark (λ m e. f m (inl e)), lives_older version k ls (λ m on. f m (inr on)))

gone_older : (version k : ℕ) (gs : List Gone) → ((m : Mark) → OnGone m gs → IsOlderMark version k m) → OlderGone version k gs
gone_older version k [] f = tt
gone_older version k (g ∷ gs) f = let o = f g.mark (inl refl) in (o.0, o.1, gone_older version k gs (λ m on. f m (inr on)))

-- cells of older changes
pub cells_older : (row : Row) (version k : ℕ) → Each (IsOlder version k) (shown_changes row) → OlderLives version k row.lives × OlderGone version k row.gone
cells_older row version k h =
    let parts = merged_each (IsOlder version k) (packed (live_cells 0 row.lives)) (packed (gone_cells row.gone)) h in (
      lives_older version k row.lives (λ m on. mark_older version k (packed (live_cells 0 row.lives)) parts.0 m (lives_has m 0 row.lives on)),
      gone_older version k row.gone (λ m on. mark_older version k (packed (gone_cells row.gone)) parts.1 m (gone_has m row.gone on)),
    )

older_each : (version k : ℕ) (cs : List Change) → Older version k cs → Each (IsOlder version k) cs
older_each version k [] h = tt
older_each version k (c ∷ cs) h = (h.0, older_each version k cs h.1)

-- changes of older cells
pub changes_older : (row : Row) (version k : ℕ) → OlderLives version k row.lives → OlderGone version k row.gone → Each (IsOlder version k) (shown_changes row)
changes_older row version k lives gone = each_merged (IsOlder version k) (packed (live_cells 0 row.lives)) (packed (gone_cells row.gone))
    (older_each version k (packed (live_cells 0 row.lives)) (older_packed version k 0 row.lives lives))
    (older_each version k (packed (gone_cells row.gone)) (gone_packed version k row.gone gone))

-- before the first mark of an update are the lower versions
older_below : (version : ℕ) (c : Change) → IsOlder version 0 c → c.version < version
older_below version c h = go (cases_lt c.version version)
  where
    go : (c.version < version) ⊎ (version ≤ c.version) → c.version < version
    go (inl lt) = lt
    go (inr le) = let low = h.0 in let none : c.k < 0 = h.1 (omega (arith, low)) in absurd (omega arith)

below_older : (version k : ℕ) (c : Change) → c.version < version → IsOlder version k c
below_older version k c h = (omega arith, λ e. absurd (omega arith))

pub each_below : (version : ℕ) (cs : List Change) → Each (IsOlder version 0) cs → Each (λ (c : Change). c.version < version) cs
each_below version cs h = each_weaker (IsOlder version 0) (λ (c : Change). c.version < version) cs (older_below version) h

pub each_older : (version k : ℕ) (cs : List Change) → Each (λ (c : Change). c.version < version) cs → Each (IsOlder version k) cs
each_older version k cs h = each_weaker (λ (c : Change). c.version < version) (IsOlder version k) cs (below_older version k) h
