-- Well-formed rows, and that steps keep them.
use Rattle.std.specs.Prelude.{◌≡◌, ◌⊎◌, ℕ, Bool, true, false, List, [], ◌∷◌, length, Some, ◌&&◌, ◌==◌}
use Rattle.ot_op.specs.declared.comp.Comp.{Comp}
use Rattle.ot_op.specs.Apply.{applied}
use Rattle.ranges_tracker.specs.Cells.{Mark, Stamp, Live, Gone, Thread, Row, mark_at, text_of, step}
use Rattle.ranges_tracker.specs.Steady.{RisingGone, GapsWithin, Within, OlderLives, OlderGone, Steady}

-- each thread is listed once
abbrev pub NotListed : ℕ → List Thread → Type 0
NotListed n [] = Unit {0}
NotListed n (t ∷ ts) = ((n == t.thread) ≡ false) × NotListed n ts

abbrev pub ListedOnce : List Thread → Type 0
ListedOnce [] = Unit {0}
ListedOnce (t ∷ ts) = NotListed t.thread ts × ListedOnce ts

-- some cell bears a mark
abbrev pub OnLive : Mark → List Live → Type 0
OnLive m [] = ⊥
OnLive m (l ∷ ls) = (l.mark ≡ Some m) ⊎ OnLive m ls

abbrev pub OnGone : Mark → List Gone → Type 0
OnGone m [] = ⊥
OnGone m (g ∷ gs) = (g.mark ≡ m) ⊎ OnGone m gs

abbrev pub OnRow : Mark → Row → Type 0
OnRow m row = OnLive m row.lives ⊎ OnGone m row.gone

abbrev pub same_id : Mark → Mark → Bool
same_id m n = (m.version == n.version) && (m.k == n.k)

-- the live cells of a mark follow each other: behind one of them the next bears it too, or none does
abbrev pub TogetherLives : List Live → Type 0
TogetherLives [] = Unit {0}
TogetherLives (l ∷ ls) = ((m : Mark) → l.mark ≡ Some m → (mark_at ls 0 ≡ Some m) ⊎ (¬ (OnLive m ls))) × TogetherLives ls

-- the gone cells of a mark are neighbours in one gap
abbrev pub TogetherGone : List Gone → Type 0
TogetherGone [] = Unit {0}
TogetherGone (g ∷ []) = Unit {0}
TogetherGone (g ∷ h ∷ hs) = (((g.gap ≡ h.gap) × (g.mark ≡ h.mark)) ⊎ (¬ (OnGone g.mark (h ∷ hs)))) × TogetherGone (h ∷ hs)

pub record IsWellFormed (row : Row) : Type 0 where
  pub listed : ListedOnce row.threads
  pub threads : Within (length row.lives) row.threads
  pub rises : RisingGone 0 row.gone
  pub gaps : GapsWithin (length row.lives) row.gone
  -- an id has one user and one moment
  pub ids : (m n : Mark) → OnRow m row → OnRow n row → same_id m n ≡ true → m ≡ n
  pub lives : TogetherLives row.lives
  pub gone : TogetherGone row.gone
  pub apart : (m : Mark) → OnGone m row.gone → ¬ (OnLive m row.lives)

-- each mark has a lower version than the update's, or the same with a lower number than its next fresh one
abbrev pub IsBefore : Row → Stamp → ℕ → Type 0
IsBefore row stamp k = OlderLives stamp.version k row.lives × OlderGone stamp.version k row.gone

-- what steps need of a row, a well-formed row has, whose marks are older than the fresh ones
abbrev pub WellFormedIsSteady : Type 0
WellFormedIsSteady = (row : Row) (stamp : Stamp) (k : ℕ) → IsWellFormed row → IsBefore row stamp k → Steady row stamp k

-- a step keeps a row well formed, and its marks older than the fresh ones
abbrev pub StepKeeps : Type 0
StepKeeps = (row : Row) (comp : Comp) (stamp : Stamp) (k : ℕ) (next : List ℕ) → IsWellFormed row → IsBefore row stamp k → applied (text_of row.lives) comp ≡ Some next →
    IsWellFormed (step row comp stamp k).row × IsBefore (step row comp stamp k).row stamp (step row comp stamp k).marks

-- the live cells after a step are the text after the component
abbrev pub StepAppliesToText : Type 0
StepAppliesToText = (row : Row) (comp : Comp) (stamp : Stamp) (k : ℕ) (next : List ℕ) → applied (text_of row.lives) comp ≡ Some next → text_of (step row comp stamp k).row.lives ≡ next
