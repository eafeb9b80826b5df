use Rattle.std.proofs.Common.{◌≡◌, ◌∙◌, true, List, ℕ, ap, sym}
use Rattle.std.specs.Prelude.{◌&&◌}
use Rattle.ranges_tracker.specs.declared.change.Change.{Change}
use Rattle.ranges_tracker.specs.Tracked.{some_bare}
use Rattle.ranges_tracker.proofs.Pushing.{taken, taken_is}
use Rattle.ranges_tracker.proofs.deletes.delete_in.Goals as goal

pub returns-then-is_fresh-clause-changes : goal.returns-then-is_fresh-clause-changes
returns-then-is_fresh-clause-changes c =
    let fresh : (c.args.stamp.now.track && some_bare c.args.at c.args.part.now c.args.inserts.now) ≡ true =
    ap (λ (p : List ℕ). c.args.stamp.now.track && some_bare c.args.at p c.args.inserts.now) (sym c.as_slice.ensures.value) ∙ sym c.is_fresh.ensures ∙ c.if-is_fresh.true in
    c.in_ok-take_over.ensures
    ∙ ap (λ (ds : List Change). taken c.args.inserts.now ds c.args.at c.args.part.now c.args.stamp.now c.args.marks) c.deref.ensures.value
    ∙ taken_is c.args.inserts.now c.args.deletes.items c.args.at c.args.part.now c.args.stamp.now c.args.marks fresh
