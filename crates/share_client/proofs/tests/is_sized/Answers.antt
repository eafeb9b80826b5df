use Rattle.std.proofs.Common.{◌≡◌, ◌-◌, ◌^◌, length, List, ap, sym, ◌∙◌, arith, min}
use Rattle.std.specs.Prelude.{sum_by}
use Rattle.ot_op.specs.declared.comp.Comp.{Comp}
use Rattle.ot_op.specs.Operation.{units_of}
use Rattle.share_client.proofs.Sizing.{sized_few}
use Rattle.share_client.proofs.tests.is_sized.Goals as goal

pub returns : goal.returns
returns c = λ fits.
    let long = ap length c.comps.ensures.value in
    let count : c.units-count.result ≡ min (sum_by units_of c.args.op.now) (2 ^ 64 - 1) = c.units-count.ensures ∙ ap (λ (l : List Comp). min (sum_by units_of l) (2 ^ 64 - 1)) c.comps-2.ensures.value in
    sized_few c.args.op.now c.units-count.result count (omega (arith, c.if-count-gt1000.false)) (omega (arith, long, c.if-comps-gt1000.false)) (sym c.do_places_fit.ensures ∙ fits)
