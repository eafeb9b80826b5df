use Rattle.std.proofs.Common.{◌≡◌, ◌≤◌, length, arith, List, sym, ◌∙◌, ap, subst}
use Rattle.std.proofs.lemmas.List.{drop_all}
use Rattle.ot_op.specs.declared.comp.Comp.{Comp}
use Rattle.ranges_tracker.specs.declared.change.Change.{Change}
use Rattle.ranges_tracker.specs.declared.comment.Comment.{Comment}
use Rattle.ranges_tracker.specs.Ranged.{Ranged, ranges_all, RoomyAll}
use Rattle.ranges_tracker.proofs.Folding.{made_steps}
use Rattle.ranges_tracker.proofs.Versions.{stay_with}
use Rattle.ranges_tracker.proofs.Fitting.{fit_roomy}
use Rattle.ranges_tracker.proofs.tracking.track_op.Goals as goal

pub loop-comp-init : goal.loop-comp-init
loop-comp-init c = record {
  rest = ap (λ (r : List Change × List Comment). ranges_all r c.args.op.now c.args.stamp.now 0) c.in_ok-made.ensures;
  room = subst (λ (r : List Change × List Comment). RoomyAll r c.args.op.now c.args.stamp.now 0) (sym c.in_ok-made.ensures) (fit_roomy c.args.ranges.now c.args.op.now c.args.stamp.now c.requires);
}

pub returns-clause-steps : goal.returns-clause-steps
returns-clause-steps c = made_steps c.args.ranges.now c.args.op.now c.args.stamp.now c.loop-comp.made
    (let past : length c.args.op.now ≤ c.loop-comp.comp-index = omega (arith, ap length c.comps-comp-items.ensures.value, c.loop-comp-test.false) in
    sym (ap (λ (x : List Comp). (ranges_all c.loop-comp.made x c.args.stamp.now c.loop-comp.marks).ranges) (drop_all c.loop-comp.comp-index c.args.op.now past))
    ∙ ap (λ (r : Ranged). r.ranges) c.loop-comp.invariant.rest)

pub returns-clause-stay : goal.returns-clause-stay
returns-clause-stay c = stay_with c.args.ranges.now c.args.op.now c.args.stamp.now c.loop-comp.made (made_steps c.args.ranges.now c.args.op.now c.args.stamp.now c.loop-comp.made
    (let past : length c.args.op.now ≤ c.loop-comp.comp-index = omega (arith, ap length c.comps-comp-items.ensures.value, c.loop-comp-test.false) in
    sym (ap (λ (x : List Comp). (ranges_all c.loop-comp.made x c.args.stamp.now c.loop-comp.marks).ranges) (drop_all c.loop-comp.comp-index c.args.op.now past))
    ∙ ap (λ (r : Ranged). r.ranges) c.loop-comp.invariant.rest))
