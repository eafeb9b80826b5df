-- The steps of an operation, as they are shown.
use Rattle.std.proofs.Common.{◌≡◌, ℕ, ◌+◌, List, [], ◌∷◌, refl, ap, ap₂, sym, ◌∙◌, length, Option, Some, None}
use Rattle.std.specs.Prelude.{nat_le}
use Rattle.std.specs.Option.{option_and_then}
use Rattle.ot_units.specs.Text.{put_at, cut_at}
use Rattle.ot_op.specs.Apply.{applied, applied_all, stands}
use Rattle.ot_op.specs.declared.comp.Comp.{Comp}
use Rattle.ot_op.specs.declared.comp.Comp.TheVariants.{Ins, Del, Com}
use Rattle.ranges_tracker.specs.Cells.{Stamp, Row, Stepped, chosen, torn, mark_at, mark_before, text_of, step, steps}
use Rattle.ranges_tracker.specs.declared.change.Change.{Change}
use Rattle.ranges_tracker.specs.declared.comment.Comment.{Comment}
use Rattle.ranges_tracker.specs.Shown.{shown}
use Rattle.ranges_tracker.specs.Ranged.{Ranged, ranges_all}
use Rattle.ranges_tracker.specs.Steady.{Steady, IsStepsOf}
use Rattle.ranges_tracker.proofs.Stepping.{if_some, text_inserted, text_deleted, Same, step_is}
use Rattle.ranges_tracker.proofs.Keeping.{keep_step}
use Rattle.ot_op.proofs.Applying.{First, first_of_all}

-- the live cells after a step are the text after the component
pub text_step : (row : Row) (comp : Comp) (stamp : Stamp) (k : ℕ) (next : List ℕ) → applied (text_of row.lives) comp ≡ Some next → text_of (step row comp stamp k).row.lives ≡ next
text_step row (Ins at part) stamp k next e =
    let by = chosen (mark_before row.lives at) (mark_at row.lives at) stamp k in
    text_inserted row.lives at part by.mark (torn (mark_before row.lives at) (mark_at row.lives at) by.mark) stamp (k + by.fresh) ∙ (if_some (nat_le at (length (text_of row.lives))) (put_at (text_of row.lives) at part) next e).1
text_step row (Del at part) stamp k next e = text_deleted row.lives at (length part) ∙ (if_some (stands (text_of row.lives) at part) (cut_at (text_of row.lives) at (length part)) next e).1
text_step row (Com at part thread) stamp k next e = (if_some (stands (text_of row.lives) at part) (text_of row.lives) next e).1

abbrev pub shown_steps : Stepped → Ranged
shown_steps s = record { ranges = shown s.row; marks = s.marks }

pub steps_are : (cs : List Comp) (row : Row) (stamp : Stamp) (k : ℕ) (next : List ℕ) → Steady row stamp k → applied_all (text_of row.lives) cs ≡ Some next → ranges_all (shown row) cs stamp k ≡ shown_steps (steps row cs stamp k)
steps_are [] row stamp k next s e = refl
steps_are (c ∷ cs) row stamp k next s e =
    let f : First (text_of row.lives) c cs next = first_of_all (text_of row.lives) c cs next e in
    let same : Same row c stamp k = step_is row c stamp k f.mid s f.here in
    let text : text_of (step row c stamp k).row.lives ≡ f.mid = text_step row c stamp k f.mid f.here in
    ap₂ (λ (r : List Change × List Comment) (n : ℕ). ranges_all r cs stamp n) (sym same.ranges) (sym same.marks)
    ∙ steps_are cs (step row c stamp k).row stamp (step row c stamp k).marks next (keep_step row c stamp k f.mid s f.here) (ap (λ (t : List ℕ). applied_all t cs) text ∙ f.rest)

-- the same of ranges that a row shows
pub ranges_steps : (ranges : List Change × List Comment) (cs : List Comp) (stamp : Stamp) → IsStepsOf ranges cs stamp (ranges_all ranges cs stamp 0).ranges
ranges_steps ranges cs stamp row text s is e = sym (ap (λ (r : Ranged). r.ranges) (steps_are cs row stamp 0 text s e)) ∙ ap (λ (r : List Change × List Comment). (ranges_all r cs stamp 0).ranges) is

pub made_steps : (ranges : List Change × List Comment) (cs : List Comp) (stamp : Stamp) (made : List Change × List Comment) → made ≡ (ranges_all ranges cs stamp 0).ranges → IsStepsOf ranges cs stamp made
made_steps ranges cs stamp made m row text s is e = ranges_steps ranges cs stamp row text s is e ∙ sym m
