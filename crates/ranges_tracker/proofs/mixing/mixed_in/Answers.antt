use Rattle.std.proofs.Common.{◌∙◌, ◌+◌, ◌++◌, ◌∷◌, [], List, ℕ, sym, ap, ap₂, subst, arith, append_assoc, drop}
use Rattle.std.specs.Prelude.{slice_index, if◌then◌else◌}
use Rattle.ranges_tracker.specs.declared.change.Change.{Change}
use Rattle.ranges_tracker.specs.Ordered.{Rising}
use Rattle.ranges_tracker.specs.Tracked.{mixed_in}
use Rattle.ranges_tracker.proofs.Walking.{rising_from, rising_next, mixed_start, mixed_walk}
use Rattle.ranges_tracker.proofs.mixing.mixed_in.Goals as goal

pub loop-j-init : goal.loop-j-init
loop-j-init c =
    let rest = drop c.first_from-next.result c.args.deletes.now in
    record {
      firsts = omega arith;
      nexts = c.first_from-next.ensures.within;
      rising = subst (λ (n : ℕ). Rising n rest) (omega arith) (subst (λ (x : List Change). Rising c.args.at x) (sym c.first_from-next.ensures.rest) (rising_from 0 c.args.at c.args.deletes.now c.requires.rising));
      made = ap₂ (λ (x : List ℕ) (n : ℕ). x ++ mixed_in n c.args.part.now c.args.inserts.now rest) c.in_ok-text.ensures (omega arith)
          ∙ mixed_start c.args.at c.args.part.now c.args.inserts.now c.args.deletes.now rest c.first_from-next.ensures.rest;
    }

pub loop-j-preserved : goal.loop-j-preserved
loop-j-preserved c =
    let at = c.args.at + c.loop-j.j in
    let part = c.args.part.now in
    let here = drop c.loop-j.next c.args.deletes.now in
    let rest = drop c.in_ok-next.next c.args.deletes.now in
    let ends = drop c.is_over-past.result.0 c.args.inserts.now in
    let unit = if c.is_over-past.result.1 then [] else slice_index part c.loop-j.j ∷ [] in
    let more = mixed_in (c.args.at + (c.loop-j.j + 1)) (drop (c.loop-j.j + 1) part) ends rest in
    record {
      firsts = c.is_over-past.ensures.within;
      nexts = c.in_ok-next.ensures.within;
      rising = subst (λ (n : ℕ). Rising n rest) (omega arith) (subst (λ (x : List Change). Rising (at + 1) x) (sym c.in_ok-next.ensures.rest) (rising_next at at here c.loop-j.invariant.rising));
      made = ap (λ (x : List ℕ). x ++ more) c.in_ok-push_bare.ensures
          ∙ ap (λ (x : List ℕ). (x ++ unit) ++ more) c.in_ok-next.ensures.text
          ∙ ap (λ (x : List ℕ). x ++ more) (append_assoc c.loop-j.text _ unit)
          ∙ append_assoc c.loop-j.text _ more
          ∙ ap (λ (x : List ℕ). c.loop-j.text ++ x) (append_assoc _ unit more ∙ sym (mixed_walk c.args.at c.loop-j.j part (drop c.loop-j.first c.args.inserts.now) ends here rest c.is_over-past.result.1 c.loop-j-test.true c.is_over-past.ensures.over c.is_over-past.ensures.rest c.in_ok-next.ensures.rest))
          ∙ c.loop-j.invariant.made;
    }
