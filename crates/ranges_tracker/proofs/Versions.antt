-- Cells and ranges of a text from version to version.
use Rattle.std.proofs.Common.{◌≡◌, ℕ, ◌+◌, ◌<◌, List, [], ◌∷◌, refl, ap, sym, ◌∙◌, length, arith, Option, Some, None, subst, inl, inr}
use Rattle.std.specs.List.{All}
use Rattle.std.proofs.lemmas.List.{length-map}
use Rattle.ot_op.specs.Operation.{units_of}
use Rattle.ot_op.specs.Apply.{applied, applied_all}
use Rattle.ot_op.specs.declared.comp.Comp.{Comp}
use Rattle.ranges_tracker.specs.Cells.{Mark, Live, Gone, Stamp, Row, text_of, plain_row, step, steps}
use Rattle.ranges_tracker.specs.declared.change.Change.{Change}
use Rattle.ranges_tracker.specs.declared.comment.Comment.{Comment}
use Rattle.ranges_tracker.specs.Shown.{packed, live_cells, merged, shown, shown_changes}
use Rattle.ranges_tracker.specs.Steady.{OlderMark, OlderLives, OlderGone, Steady, IsStepOf, IsStepsOf}
use Rattle.ranges_tracker.specs.WellFormed.{OnLive, OnRow, TogetherLives, IsWellFormed, IsBefore}
use Rattle.ranges_tracker.specs.Agree.{Agree, IsSince}
use Rattle.ranges_tracker.specs.Trackable.{AreRangesAt, AreRangesIn, IsTracked, IsOlder, IsFitStep, IsFit, StaysInStep, StayWithText}
use Rattle.ranges_tracker.proofs.Forms.{Each, all_each, each_all}
use Rattle.ranges_tracker.proofs.Folding.{text_step}
use Rattle.ranges_tracker.proofs.WellKept.{well_steady, step_keeps_it}
use Rattle.ranges_tracker.proofs.Trackable.{cells_older, changes_older, each_below, each_older}
use Rattle.std.proofs.lemmas.Option.{same_Some}
use Rattle.ot_op.proofs.Applying.{First, first_of_all}

-- ---- a row after an operation that applies to its text
pub record Stepped (row : Row) (cs : List Comp) (stamp : Stamp) (k : ℕ) (next : List ℕ) : Type 0 where
  pub text_is : text_of (steps row cs stamp k).row.lives ≡ next
  pub well : IsWellFormed (steps row cs stamp k).row
  pub before : IsBefore (steps row cs stamp k).row stamp (steps row cs stamp k).marks

pub keep_steps : (cs : List Comp) (row : Row) (stamp : Stamp) (k : ℕ) (next : List ℕ) → IsWellFormed row → IsBefore row stamp k → applied_all (text_of row.lives) cs ≡ Some next → Stepped row cs stamp k next
keep_steps [] row stamp k next w b e = record { text_is = same_Some (text_of row.lives) next e; well = w; before = b }
keep_steps (c ∷ cs) row stamp k next w b e =
    let f : First (text_of row.lives) c cs next = first_of_all (text_of row.lives) c cs next e in
    let text : text_of (step row c stamp k).row.lives ≡ f.mid = text_step row c stamp k f.mid f.here in
    let kept = step_keeps_it row c stamp k f.mid w b f.here in
    let rest : Stepped (step row c stamp k).row cs stamp (step row c stamp k).marks next =
    keep_steps cs (step row c stamp k).row stamp (step row c stamp k).marks next kept.0 kept.1 (ap (λ (t : List ℕ). applied_all t cs) text ∙ f.rest) in
    record { text_is = rest.text_is; well = rest.well; before = rest.before }

-- marks up to a version are older than the first of the next one
mark_next : (v k : ℕ) (l : Live) → OlderMark v k l.mark → OlderMark (v + 1) 0 l.mark
mark_next v k l = elim l.mark as (λ m. OlderMark v k m → OlderMark (v + 1) 0 m)
    [ None ↦ λ o. tt | Some m ↦ λ o. let low = o.0 in (omega (arith, low), λ is. absurd (omega (arith, low, is))) ]

pub lives_next : (v k : ℕ) (ls : List Live) → OlderLives v k ls → OlderLives (v + 1) 0 ls
lives_next v k [] o = tt
lives_next v k (l ∷ ls) o = (mark_next v k l o.0, lives_next v k ls o.1)

pub gone_next : (v k : ℕ) (gs : List Gone) → OlderGone v k gs → OlderGone (v + 1) 0 gs
gone_next v k [] o = tt
gone_next v k (g ∷ gs) o = let low = o.0 in (omega (arith, low), λ is. absurd (omega (arith, low, is)), gone_next v k gs o.2)

pub before_next : (row : Row) (stamp next : Stamp) (k : ℕ) → next.version ≡ stamp.version + 1 → IsBefore row stamp k → IsBefore row next 0
before_next row stamp next k is b = (
  subst (λ v. OlderLives v 0 row.lives) (sym is) (lives_next stamp.version k row.lives b.0),
  subst (λ v. OlderGone v 0 row.gone) (sym is) (gone_next stamp.version k row.gone b.1),
)

-- ---- a text without marks
pub plain_lives : (v k : ℕ) (text : List ℕ) → OlderLives v k (plain_row text).lives
plain_lives v k [] = tt
plain_lives v k (u ∷ us) = (tt, plain_lives v k us)

pub plain_text : (text : List ℕ) → text_of (plain_row text).lives ≡ text
plain_text [] = refl
plain_text (u ∷ us) = ap (λ l. u ∷ l) (plain_text us)

-- no cell of it bears a mark; `g` stands for one that would
plain_unmarked : (text : List ℕ) (g : Gone) → OnLive g.mark (plain_row text).lives → ⊥
plain_unmarked [] g on = on
plain_unmarked (u ∷ us) g (inl is) = cc
plain_unmarked (u ∷ us) g (inr on) = plain_unmarked us g on

plain_row_unmarked : (text : List ℕ) (g : Gone) → OnRow g.mark (plain_row text) → ⊥
plain_row_unmarked text g (inl on) = plain_unmarked text g on
plain_row_unmarked text g (inr on) = on

plain_together : (text : List ℕ) → TogetherLives (plain_row text).lives
plain_together [] = tt
plain_together (u ∷ us) = (λ m is. absurd (cc), plain_together us)

pub plain_well : (text : List ℕ) → IsWellFormed (plain_row text)
plain_well text = record {
  listed = tt;
  threads = tt;
  rises = tt;
  gaps = tt;
  ids = λ m n on other same. absurd (plain_row_unmarked text (record { gap = 0; unit = 0; mark = m }) on);
  lives = plain_together text;
  gone = tt;
  apart = λ m on. absurd on;
}

plain_cells : (at : ℕ) (text : List ℕ) → packed (live_cells at (plain_row text).lives) ≡ []
plain_cells at [] = refl
plain_cells at (u ∷ us) = plain_cells (at + 1) us

pub plain_shown : (text : List ℕ) → shown (plain_row text) ≡ ([], [])
plain_shown text = ap (λ (cs : List Change). (merged cs [], [])) (plain_cells 0 text)

-- ---- cells that show ranges, from version to version
pub plain_tracked : (text : List ℕ) (v : ℕ) → IsTracked (plain_row text) text ([], []) v
plain_tracked text v = record {
  well_formed = plain_well text;
  older_lives = plain_lives v 0 text;
  older_gone = tt;
  text_is = plain_text text;
  ranges_are = plain_shown text;
}

pub steps_tracked : (row : Row) (text next : List ℕ) (ranges : List Change × List Comment) (op : List Comp) (stamp : Stamp) (v : ℕ) → stamp.version ≡ v → IsTracked row text ranges v → applied_all text op ≡ Some next → IsTracked (steps row op stamp 0).row next (shown (steps row op stamp 0).row) (v + 1)
steps_tracked row text next ranges op stamp v is was applies =
    let before : IsBefore row stamp 0 = (subst (λ (n : ℕ). OlderLives n 0 row.lives) (sym is) was.older_lives, subst (λ (n : ℕ). OlderGone n 0 row.gone) (sym is) was.older_gone) in
    let now : Stepped row op stamp 0 next = keep_steps op row stamp 0 next was.well_formed before (ap (λ (t : List ℕ). applied_all t op) was.text_is ∙ applies) in
    record {
      well_formed = now.well;
      older_lives = lives_next v (steps row op stamp 0).marks (steps row op stamp 0).row.lives (subst (λ (n : ℕ). OlderLives n (steps row op stamp 0).marks (steps row op stamp 0).row.lives) is now.before.0);
      older_gone = gone_next v (steps row op stamp 0).marks (steps row op stamp 0).row.gone (subst (λ (n : ℕ). OlderGone n (steps row op stamp 0).marks (steps row op stamp 0).row.gone) is now.before.1);
      text_is = now.text_is;
      ranges_are = refl;
    }

-- cells that show ranges tell what these are, and the other way round
pub tracked_at : (row : Row) (text : List ℕ) (ranges : List Change × List Comment) (v : ℕ) → IsTracked row text ranges v → AreRangesAt ranges text v
tracked_at row text ranges v t = record {
  agree = record { row = row; well_formed = t.well_formed; text_is = t.text_is; is = t.ranges_are };
  since = each_all (λ (c : Change). c.version < v) ranges.0
      (each_below v ranges.0 (subst (λ (r : List Change × List Comment). Each (IsOlder v 0) r.0) t.ranges_are (changes_older row v 0 t.older_lives t.older_gone)));
}

pub at_tracked : (ranges : List Change × List Comment) (text : List ℕ) (v : ℕ) (at : AreRangesAt ranges text v) → IsTracked at.agree.row text ranges v
at_tracked ranges text v at =
    let older = cells_older at.agree.row v 0 (subst (λ (r : List Change × List Comment). Each (IsOlder v 0) r.0) (sym at.agree.is) (each_older v 0 ranges.0 (all_each (λ (c : Change). c.version < v) ranges.0 at.since))) in
    record { well_formed = at.agree.well_formed; older_lives = older.0; older_gone = older.1; text_is = at.agree.text_is; ranges_are = at.agree.is }

pub at_steady : (ranges : List Change × List Comment) (text : List ℕ) (stamp : Stamp) (at : AreRangesAt ranges text stamp.version) → Steady at.agree.row stamp 0
at_steady ranges text stamp at = let t : IsTracked at.agree.row text ranges stamp.version = at_tracked ranges text stamp.version at in well_steady at.agree.row stamp 0 at.agree.well_formed (t.older_lives, t.older_gone)

-- ---- ranges of a text in the midst of an update
pub in_before : (ranges : List Change × List Comment) (text : List ℕ) (stamp : Stamp) (k : ℕ) (mid : AreRangesIn ranges text stamp k) → IsBefore mid.agree.row stamp k
in_before ranges text stamp k mid = cells_older mid.agree.row stamp.version k (subst (λ (r : List Change × List Comment). Each (IsOlder stamp.version k) r.0) (sym mid.agree.is) (all_each (IsOlder stamp.version k) ranges.0 mid.older))

pub in_steady : (ranges : List Change × List Comment) (text : List ℕ) (stamp : Stamp) (k : ℕ) (mid : AreRangesIn ranges text stamp k) → Steady mid.agree.row stamp k
in_steady ranges text stamp k mid = well_steady mid.agree.row stamp k mid.agree.well_formed (in_before ranges text stamp k mid)

pub at_in : (ranges : List Change × List Comment) (text : List ℕ) (stamp : Stamp) → AreRangesAt ranges text stamp.version → AreRangesIn ranges text stamp 0
at_in ranges text stamp at = record { agree = at.agree; older = each_all (IsOlder stamp.version 0) ranges.0 (each_older stamp.version 0 ranges.0 (all_each (λ (c : Change). c.version < stamp.version) ranges.0 at.since)) }

pub stays_in : (ranges : List Change × List Comment) (comp : Comp) (stamp : Stamp) (k : ℕ) (made : List Change × List Comment) (marks : ℕ) → IsStepOf ranges comp stamp k made marks → StaysInStep ranges comp stamp k made marks
stays_in ranges comp stamp k made marks is text next mid e =
    let row : Row = mid.agree.row in
    let here : applied (text_of row.lives) comp ≡ Some next = ap (λ (t : List ℕ). applied t comp) mid.agree.text_is ∙ e in
    let kept = step_keeps_it row comp stamp k next mid.agree.well_formed (in_before ranges text stamp k mid) here in
    let shows = is row next (in_steady ranges text stamp k mid) mid.agree.is here in
    record {
      agree = record { row = (step row comp stamp k).row; well_formed = kept.0; text_is = text_step row comp stamp k next here; is = shows.0 };
      older = each_all (IsOlder stamp.version marks) made.0
          (subst (λ (n : ℕ). Each (IsOlder stamp.version n) made.0) shows.1
          (subst (λ (r : List Change × List Comment). Each (IsOlder stamp.version (step row comp stamp k).marks) r.0) shows.0
          (changes_older (step row comp stamp k).row stamp.version (step row comp stamp k).marks kept.1.0 kept.1.1)));
    }

pub stay_with : (ranges : List Change × List Comment) (op : List Comp) (stamp : Stamp) (made : List Change × List Comment) → IsStepsOf ranges op stamp made → StayWithText ranges op stamp made
stay_with ranges op stamp made is text next at e =
    let row : Row = at.agree.row in
    let t : IsTracked row text ranges stamp.version = at_tracked ranges text stamp.version at in
    let here : applied_all (text_of row.lives) op ≡ Some next = ap (λ (x : List ℕ). applied_all x op) at.agree.text_is ∙ e in
    let shows : shown (steps row op stamp 0).row ≡ made = is row next (at_steady ranges text stamp at) at.agree.is here in
    subst (λ (r : List Change × List Comment). AreRangesAt r next (stamp.version + 1)) shows
    (tracked_at (steps row op stamp 0).row next (shown (steps row op stamp 0).row) (stamp.version + 1) (steps_tracked row text next ranges op stamp stamp.version refl t e))

-- ---- ranges of a text before an update of one component, and after it
pub plain_at : (text : List ℕ) (version : ℕ) → AreRangesAt ([], []) text version
plain_at text version = tracked_at (plain_row text) text ([], []) version (plain_tracked text version)

pub fit_of : (ranges : List Change × List Comment) (text next : List ℕ) (comp : Comp) (stamp : Stamp) → AreRangesAt ranges text stamp.version → applied text comp ≡ Some next → length text + units_of comp < 4294967296 → IsFitStep ranges comp stamp 0
fit_of ranges text next comp stamp at e room = record { text = text; next = next; of = at_in ranges text stamp at; applies = e; room = room; few = omega arith }

pub in_next : (made : List Change × List Comment) (next : List ℕ) (stamp : Stamp) (marks : ℕ) → AreRangesIn made next stamp marks → AreRangesAt made next (stamp.version + 1)
in_next made next stamp marks mid = record { agree = mid.agree; since = each_all (λ (c : Change). c.version < stamp.version + 1) made.0 (go made.0 (all_each (IsOlder stamp.version marks) made.0 mid.older)) }
  where
    go : (cs : List Change) → Each (IsOlder stamp.version marks) cs → Each (λ (c : Change). c.version < stamp.version + 1) cs
    go [] h = tt
    go (c ∷ cs) h = (let low = h.0.0 in omega (arith, low), go cs h.1)
