use Rattle.std.proofs.Common.{◌-◌, length}
use Rattle.source_sink.proofs.Taking.{TakenSoFar}
use Rattle.source_sink.proofs.read.read_all.Given as goal

abbrev pub invariant-reading : goal.invariant-reading
invariant-reading g l =
    TakenSoFar (g.S.Source.left l.initial.input) (g.S.Source.left l.input) (g.S.Source.count l.initial.input) (g.S.Source.count l.input) l.bytes.items

abbrev pub decreases-reading : goal.decreases-reading
decreases-reading g l = 16777216 - length l.bytes.items
