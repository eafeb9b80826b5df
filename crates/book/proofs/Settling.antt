-- What a decision asks of a document, and what it makes of it.
use Rattle.std.proofs.Common.{◌≡◌, ℕ, ◌+◌, ◌-◌, ◌≤◌, List, true, length, sym, ap, ap₂, ◌∙◌, subst, arith}
use Rattle.std.specs.Prelude.{Some, None, nat_le, ◌&&◌, if◌then◌else◌}
use Rattle.std.proofs.lemmas.Bool.{and_from, le-leb}
use Rattle.std.proofs.lemmas.List.{length-drop}
use Rattle.std.proofs.lemmas.List.Elements.{All-drop}
use Rattle.ot_op.specs.Apply.{applied_all}
use Rattle.ot_transform.specs.Room.{FitsAll}
use Rattle.ranges_tracker.specs.Trackable.{IsTracked}
use Rattle.ranges_tracker.specs.Cells.{Row, steps}
use Rattle.ranges_tracker.specs.Shown.{shown}
use Rattle.ranges_tracker.specs.Steady.{OlderLives, OlderGone, Steady}
use Rattle.ranges_tracker.proofs.WellKept.{well_steady}
use Rattle.ranges_tracker.proofs.Versions.{tracked_at}
use Rattle.dup_check.specs.declared.past.Past.{Past}
use Rattle.dup_check.specs.declared.snapshot.Snapshot.{Snapshot}
use Rattle.dup_check.specs.declared.snapshot.Decision.{Decision}
use Rattle.dup_check.specs.declared.snapshot.Decision.TheVariants.{Apply, Dup, Refuse}
use Rattle.dup_check.specs.Window.{last_of, pushed, reaches}
use Rattle.dup_check.specs.Snapshot.{Agrees, Applies, InReach, IsReady, IsSmall, numbered, operations, outcome_of, stamp_of}
use Rattle.journal_entries.specs.declared.update.Update.{Update}
use Rattle.journal_entries.specs.declared.update.Outcome.{Outcome}
use Rattle.journal_rules.specs.Deciding.{decided_of, longest}
use Rattle.journal_sizes.specs.Sizes.{IsSized}
use Rattle.book.specs.declared.document.Document.{Document}
use Rattle.book.specs.Passing.{past_or_none}
use Rattle.loading_rules.specs.Passable.{IsPassable}
use Rattle.book.specs.Deciding.{Becomes, stamp_at}
use Rattle.book.specs.Standing.{IsDecidable, decision_on}
use Rattle.book.specs.Looking.{IsLook, TakesDecision}
use Rattle.book.proofs.Rooms.{fits_past, sized_small}

module _ (old : Document) (u : Update) (look : Snapshot) (is : IsLook old u look) where
  -- ---- what is asked

  steady : (row : Row) → IsTracked row old.text old.ranges old.window.version → Steady row (stamp_of look) 0
  steady row tracked = well_steady row (stamp_of look) 0 tracked.well_formed
      (subst (λ (n : ℕ). OlderLives n 0 row.lives) (sym is.version_is) tracked.older_lives, subst (λ (n : ℕ). OlderGone n 0 row.gone) (sym is.version_is) tracked.older_gone)

  pub agrees : IsDecidable old → Agrees look
  agrees can = rw (is.text_is, is.ranges_are, is.version_is) (tracked_at can.row old.text old.ranges old.window.version can.tracked)

  pub short_look : IsDecidable old → length look.text ≤ longest
  short_look can = subst (λ (t : List ℕ). length t ≤ longest) (sym is.text_is) can.short

  pub ready : IsDecidable old → IsSized u.op → InReach look → IsReady look
  ready can sized within = record {
    whole = ap₂ (λ (x : Update) (l : List Past). x.v + length l) is.update_is past_is ∙ (let l = long in let v = version_is in omega (arith, l, v, high));
    small = subst (λ (x : Update). IsSmall x.op) (sym is.update_is) (sized_small u.op sized);
    room = subst (λ (x : Update). FitsAll x.op (operations look.past.items)) (sym is.update_is)
        (subst (λ (l : List Past). FitsAll u.op (operations l)) (sym past_is)
        (fits_past u.op (last_of (old.window.version - u.v) old.window.last) sized (All-drop (λ (x : Past). IsPassable x.op) (length old.window.last - (old.window.version - u.v)) old.window.last can.small) (let l = long in omega (arith, l, young))));
  }
    where
      v_is : look.update.v ≡ u.v
      v_is = ap (λ (x : Update). x.v) is.update_is

      version_is : look.version ≡ old.window.version
      version_is = is.version_is

      low : old.window.base ≤ u.v
      low = let m = within.made in let b = is.base_is in omega (arith, m, b, v_is)

      high : u.v ≤ old.window.version
      high = let m = within.present in let b = is.version_is in omega (arith, m, b, v_is)

      young : old.window.version ≤ u.v + 100
      young = let m = within.young in let b = is.version_is in omega (arith, m, b, v_is)

      reached : reaches old.window.base old.window.version u.v ≡ true
      reached = and_from (nat_le old.window.base u.v) (nat_le u.v old.window.version && nat_le old.window.version (u.v + 100)) (le-leb old.window.base u.v low)
          (and_from (nat_le u.v old.window.version) (nat_le old.window.version (u.v + 100)) (le-leb u.v old.window.version high) (le-leb old.window.version (u.v + 100) young))

      past_is : look.past.items ≡ last_of (old.window.version - u.v) old.window.last
      past_is = is.past_is ∙ ap (λ b. past_or_none (if b then Some (last_of (old.window.version - u.v) old.window.last) else None)) reached

      long : length (last_of (old.window.version - u.v) old.window.last) ≡ old.window.version - u.v
      long =
          let d = length-drop (length old.window.last - (old.window.version - u.v)) old.window.last in
          let w = can.whole in
          omega (arith, d, w, low, high, young)

  -- ---- what is made

  pub outcome_is : (d : Decision) (outcome : Outcome) → outcome ≡ outcome_of look.version d
      → outcome_of look.version d ≡ decided_of look.base look.version (Some look.text) look.update (numbered look.update.v look.past.items) → outcome ≡ decision_on old u
  outcome_is d outcome taken decided =
      taken ∙ decided
      ∙ ap₂ (λ (b n : ℕ). decided_of b n (Some look.text) look.update (numbered look.update.v look.past.items)) is.base_is is.version_is
      ∙ ap₂ (λ (t : List ℕ) (x : Update). decided_of old.window.base old.window.version (Some t) x (numbered x.v look.past.items)) is.text_is is.update_is
      ∙ ap (λ (l : List Past). decided_of old.window.base old.window.version (Some old.text) u (numbered u.v l)) is.past_is

  pub becomes : (d : Decision) (new : Document) → Applies look d → TakesDecision old look d new → Becomes old u new (outcome_of look.version d)
  becomes (Apply op text ranges) new applies has = record {
    version_is = is.version_is;
    text_is = ap (λ t. applied_all t op) (sym is.text_is) ∙ applies.applies ∙ ap (λ t. Some t) (sym has.text_is);
    ranges_are = λ row tracked.
        let at : IsTracked row old.text old.ranges old.window.version = subst (λ (n : ℕ). IsTracked row old.text old.ranges n) is.version_is tracked in
        ap (λ (x : Update). shown (steps row op (stamp_at look.version x) 0).row) (sym is.update_is)
        ∙ applies.tracked row text (steady row at) (at.ranges_are ∙ sym is.ranges_are) (ap (λ t. applied_all t op) (at.text_is ∙ sym is.text_is) ∙ applies.applies)
        ∙ sym has.ranges_are;
    window_is = has.window_is ∙ ap (λ (x : Update). pushed old.window (record { source = x.source; op = op })) is.update_is;
    small = applies.small;
    short = subst (λ (t : List ℕ). length t ≤ longest) (sym has.text_is) applies.short;
  }
  becomes (Dup v) new applies has = has
  becomes (Refuse cause) new applies has = has
