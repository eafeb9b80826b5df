use Rattle.std.proofs.Common.{length, ◌-◌}
use Rattle.source_sink.proofs.Writing.{WrittenSoFar}
use Rattle.source_sink.proofs.sink.write_front.Given as goal

abbrev pub invariant-writing : goal.invariant-writing
invariant-writing g l =
    WrittenSoFar (g.W.Sink.written l.initial.out) (g.W.Sink.written l.out) (g.W.Sink.count l.initial.out) (g.W.Sink.count l.out) l.bytes l.done

abbrev pub decreases-writing : goal.decreases-writing
decreases-writing g l = length l.bytes - l.done
