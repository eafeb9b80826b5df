use Rattle.std.proofs.Common.{arith}
use Rattle.keeper.proofs.Plain.{plain_kept}
use Rattle.keeper.proofs.tests.plain.Goals as goal

pub make-requires-clause-kept : goal.make-requires-clause-kept
make-requires-clause-kept c =
    plain_kept _ _ _ c.none-ranges.ensures
    (grind (arith, c.as_slice.ensures.value, c.len.ensures.value, c.if-len-gt2097152.false))
    (omega (arith, c.from-2.ensures, c.ranges.version.fits))
