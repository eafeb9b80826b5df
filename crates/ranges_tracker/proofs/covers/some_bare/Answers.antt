use Rattle.std.proofs.Common.{◌≡◌, ◌+◌, true, false, Bool, sym, ◌∙◌, ap, arith, drop}
use Rattle.std.specs.Prelude.{not, ◌||◌}
use Rattle.ranges_tracker.specs.Tracked.{some_bare}
use Rattle.ranges_tracker.proofs.Walking.{bare_walk}
use Rattle.ranges_tracker.proofs.covers.some_bare.Goals as goal

pub returns-then-not-over : goal.returns-then-not-over
returns-then-not-over c =
    let rest = drop c.is_over-next.result.0 c.args.inserts.now in
    let b : c.is_over-next.result.1 ≡ false = grind arith in
    sym (c.loop-j.invariant.rest ∙ bare_walk c.args.at c.loop-j.j c.args.part.now (drop c.loop-j.first c.args.inserts.now) rest c.is_over-next.result.1 c.loop-j-test.true c.is_over-next.ensures.over c.is_over-next.ensures.rest
    ∙ ap (λ (x : Bool). not x || some_bare (c.args.at + (c.loop-j.j + 1)) (drop (c.loop-j.j + 1) c.args.part.now) rest) b)

pub loop-j-preserved : goal.loop-j-preserved
loop-j-preserved c =
    let rest = drop c.is_over-next.result.0 c.args.inserts.now in
    let b : c.is_over-next.result.1 ≡ true = grind arith in
    record {
      within = c.is_over-next.ensures.within;
      rest = c.loop-j.invariant.rest ∙ bare_walk c.args.at c.loop-j.j c.args.part.now (drop c.loop-j.first c.args.inserts.now) rest c.is_over-next.result.1 c.loop-j-test.true c.is_over-next.ensures.over c.is_over-next.ensures.rest
          ∙ ap (λ (x : Bool). not x || some_bare (c.args.at + (c.loop-j.j + 1)) (drop (c.loop-j.j + 1) c.args.part.now) rest) b;
    }
