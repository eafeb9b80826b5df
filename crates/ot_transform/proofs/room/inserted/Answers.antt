use Rattle.std.proofs.Common.{arith}
use Rattle.ot_transform.proofs.FitsTests.{inserted_more}
use Rattle.ot_transform.proofs.room.inserted.Goals as goal

pub loop-comp-preserved : goal.loop-comp-preserved
loop-comp-preserved c =
    let more = inserted_more c.args.comps.now c.loop-comp.comp-index c.comp-item.result c.loop-comp-test.true c.comp-item.is in
    omega (arith, more, c.saturating_add-units.ensures, c.inserted_by.ensures, c.loop-comp.invariant)
