use Rattle.std.proofs.Common.{◌≡◌, sym, ◌∙◌, Some, None}
use Rattle.ot_transform.specs.Crossing.{crossed}
use Rattle.ot_transform.proofs.Following.{through_stops, through_goes_on, past_turn, fits_all_first, fits_all_next}
use Rattle.ot_transform.proofs.through_ops.fold_through.Goals as goal

pub cross-requires : goal.cross-requires
cross-requires c =
    let turn = past_turn c.args.past.now c.loop-other.other-index c.other-item.result c.loop-other-test.true c.other-item.is in
    fits_all_first _ c.other-item.result _ (rw turn at c.loop-other.invariant.fits)

pub returns-in_default : goal.returns-in_default
returns-in_default c =
    let none : crossed c.loop-other.current c.other-item.result ≡ None = sym c.in_ok-next.ensures.value ∙ c.in_default.is in
    sym (through_stops _ _ _ _ _ c.loop-other.invariant.same c.loop-other-test.true c.other-item.is none)

pub loop-other-preserved : goal.loop-other-preserved
loop-other-preserved c =
    let turn = past_turn c.args.past.now c.loop-other.other-index c.other-item.result c.loop-other-test.true c.other-item.is in
    let given : crossed c.loop-other.current c.other-item.result ≡ Some (c.in-Some.next, c.in-Some.field-0-1) = sym c.in_ok-next.ensures.value ∙ c.in-Some.is in
    record {
      fits = fits_all_next _ c.other-item.result _ (c.in-Some.next, c.in-Some.field-0-1) (rw turn at c.loop-other.invariant.fits) given;
      same = through_goes_on _ _ _ _ _ _ _ c.loop-other.invariant.same c.loop-other-test.true c.other-item.is given;
    }
