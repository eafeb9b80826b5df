use Rattle.std.proofs.Common.{refl}
use Rattle.dup_check.proofs.Low.{low_more, low_all}
use Rattle.dup_check.proofs.tests.deciding.are_low.Goals as goal

pub loop-before-preserved : goal.loop-before-preserved
loop-before-preserved c = low_more c.args.past.now c.loop-before.before-index c.before-item.result c.loop-before-test.true c.before-item.is c.loop-before.invariant (c.if-not-is_low.ensures.few refl, c.if-not-is_low.ensures.low refl)

pub returns : goal.returns
returns c = λ _. low_all c.args.past.now c.loop-before.before-index c.loop-before-test.false c.loop-before.invariant
