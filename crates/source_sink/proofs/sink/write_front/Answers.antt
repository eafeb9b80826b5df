use Rattle.std.proofs.Common.{arith}
use Rattle.std.proofs.lemmas.List.{length-take, length-drop}
use Rattle.source_sink.proofs.Writing.{writes_more}
use Rattle.source_sink.proofs.sink.write_front.Goals as goal

pub writing-preserved : goal.writing-preserved
writing-preserved g c = record {
  written = writes_more _ _ _ c.args.bytes.now c.writing.done c.in-Ok.count c.writing.invariant.written c.in-Ok.ensures.bytes;
  within = grind (arith, c.in-Ok.ensures.bound, c.writing.invariant.within, length-drop, length-take);
  later = omega (arith, c.writing.invariant.later, c.in-Ok.ensures.cause.later);
}
