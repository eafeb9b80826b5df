-- What the tests need: small places leave room, and a first operation fits the empty text.
use Rattle.std.proofs.Common.{length, ◌≡◌, ℕ, ◌<◌, true, List, [], ◌∷◌, refl, arith, sym, subst}
use Rattle.ot_op.specs.declared.comp.Comp.{Comp}
use Rattle.ot_op.specs.declared.comp.Comp.TheVariants.{Ins, Del}
use Rattle.ranges_tracker.specs.declared.stamp.Stamp.{Stamp}
use Rattle.ranges_tracker.specs.declared.change.Change.{Change}
use Rattle.ranges_tracker.specs.declared.comment.Comment.{Comment}
use Rattle.ot_op.specs.Apply.{stands}
use Rattle.ranges_tracker.specs.declared.change.ChangeKind.TheVariants.{Inserted}
use Rattle.ranges_tracker.specs.Trackable.{IsFit}
use Rattle.ranges_tracker.specs.Agree.{IsBehind, IdsDiffer, StandsIn, ThreadsDiffer, IsKeptForm}
use Rattle.ranges_tracker.specs.Kept.{IsKept}
use Rattle.ranges_tracker.proofs.Forms.{each_all, pairs_all}
use Rattle.ranges_tracker.proofs.Rebuilt.{form_agree}
use Rattle.ranges_tracker.proofs.Versions.{plain_at}

pub first_fit : (ranges : List Change × List Comment) (op : List Comp) (stamp : Stamp) → ranges ≡ ([], []) → op ≡ Ins 0 (97 ∷ 98 ∷ []) ∷ Del 0 (97 ∷ []) ∷ [] → IsFit ranges op stamp
first_fit ranges op stamp r o =
    subst (λ (x : List Change × List Comment). IsFit x op stamp) (sym r)
    (subst (λ (x : List Comp). IsFit ([], []) x stamp) (sym o)
    (record { text = []; next = 98 ∷ []; of = plain_at [] stamp.version; applies = refl; room = omega arith; few = omega arith }))

-- one insert and one comment on `a`, a line feed and `b`
abbrev pub marked_changes : List ℕ → List Change
marked_changes user = record { version = 2; k = 0; at = 2; kind = Inserted; text = 98 ∷ []; user = user; ms = 5 } ∷ []

abbrev pub marked_comments : List Comment
marked_comments = record { thread = 7; at = 0; text = 97 ∷ [] } ∷ []

marked_form : (user : List ℕ) → IsKeptForm (marked_changes user, marked_comments) (97 ∷ 10 ∷ 98 ∷ [])
marked_form user = record {
  filled = each_all (λ (c : Change). 0 < length c.text) (marked_changes user) (omega arith, tt);
  ids = pairs_all IdsDiffer (marked_changes user) (tt, tt);
  places = pairs_all IsBehind (marked_changes user) (tt, tt);
  changes = each_all (StandsIn (97 ∷ 10 ∷ 98 ∷ [])) (marked_changes user) (refl, tt);
  threads = pairs_all ThreadsDiffer marked_comments (tt, tt);
  comments = each_all (λ (c : Comment). stands (97 ∷ 10 ∷ 98 ∷ []) c.at c.text ≡ true) marked_comments (refl, tt);
}

pub marked_kept : (ranges : List Change × List Comment) (text user : List ℕ) → ranges ≡ (marked_changes user, marked_comments) → text ≡ 97 ∷ 10 ∷ 98 ∷ [] → IsKept text 3 ranges
marked_kept ranges text user r t =
    subst (λ (x : List Change × List Comment). IsKept text 3 x) (sym r)
    (subst (λ (x : List ℕ). IsKept x 3 (marked_changes user, marked_comments)) (sym t)
    (record { agree = form_agree (marked_changes user, marked_comments) (97 ∷ 10 ∷ 98 ∷ []) (marked_form user); since = each_all (λ (c : Change). c.version < 3) (marked_changes user) (omega arith, tt); long = omega arith; bound = omega arith }))

bare_form : (text : List ℕ) → IsKeptForm ([], []) text
bare_form text = record {
  filled = each_all (λ (c : Change). 0 < length c.text) [] tt;
  ids = pairs_all IdsDiffer [] tt;
  places = pairs_all IsBehind [] tt;
  changes = each_all (StandsIn text) [] tt;
  threads = pairs_all ThreadsDiffer [] tt;
  comments = each_all (λ (c : Comment). stands text c.at c.text ≡ true) [] tt;
}

-- `a` and the empty line, without ranges
pub two_lines_kept : (ranges : List Change × List Comment) (text : List ℕ) → ranges ≡ ([], []) → text ≡ 97 ∷ 10 ∷ [] → IsKept text 1 ranges
two_lines_kept ranges text r t =
    subst (λ (x : List Change × List Comment). IsKept text 1 x) (sym r)
    (subst (λ (x : List ℕ). IsKept x 1 ([], [])) (sym t)
    (record { agree = form_agree ([], []) (97 ∷ 10 ∷ []) (bare_form (97 ∷ 10 ∷ [])); since = each_all (λ (c : Change). c.version < 1) [] tt; long = omega arith; bound = omega arith }))
