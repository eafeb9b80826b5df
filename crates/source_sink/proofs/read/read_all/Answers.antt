use Rattle.std.proofs.Common.{take, arith}
use Rattle.source_sink.proofs.Taking.{took_in_vain, took_too_long}
use Rattle.source_sink.proofs.read.read_all.Goals as goal

pub returns-then-len-count-clause-took : goal.returns-then-len-count-clause-took
returns-then-len-count-clause-took g c =
    took_too_long _ _ _ _ c.reading.bytes.items (take c.in-Ok.count c.read.new.into) c.reading.invariant.consumed c.in-Ok.ensures.bytes.0
    (omega (arith, c.in-Ok.ensures.bound.0, c.in-Ok.ensures.bound.1))

pub returns-then-is_err-clause-took : goal.returns-then-is_err-clause-took
returns-then-is_err-clause-took g c =
    took_in_vain _ _ _ _ c.reading.bytes.items (take c.in-Ok.count c.read.new.into) c.reading.invariant.consumed c.in-Ok.ensures.bytes.0
    (omega (arith, c.in-Ok.ensures.bound.0, c.in-Ok.ensures.bound.1))
