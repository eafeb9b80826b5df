use Rattle.std.proofs.Common.{sym, ◌∙◌}
use Rattle.ranges_tracker.proofs.Stepping.{ranges_step}
use Rattle.ranges_tracker.proofs.Versions.{stays_in}
use Rattle.ranges_tracker.proofs.Fitting.{fit_one}
use Rattle.ranges_tracker.proofs.tracking.track.Goals as goal

pub returns-in-Ok-clause-step : goal.returns-in-Ok-clause-step
returns-in-Ok-clause-step c row text h is e =
    let s = ranges_step c.args.ranges c.args.comp.now c.args.stamp.now c.args.marks.now row text h is e in
    (s.0 ∙ sym c.in-Ok.ensures.value, s.1 ∙ sym c.in-Ok.ensures.marks)

pub returns-in-Ok-clause-stays : goal.returns-in-Ok-clause-stays
returns-in-Ok-clause-stays c = stays_in c.args.ranges c.args.comp.now c.args.stamp.now c.args.marks.now _ _ (λ row text h is e.
    let s = ranges_step c.args.ranges c.args.comp.now c.args.stamp.now c.args.marks.now row text h is e in
    (s.0 ∙ sym c.in-Ok.ensures.value, s.1 ∙ sym c.in-Ok.ensures.marks))

pub ranges_after-requires : goal.ranges_after-requires
ranges_after-requires c = fit_one c.args.ranges c.args.comp.now c.args.stamp.now c.args.marks.now c.requires
