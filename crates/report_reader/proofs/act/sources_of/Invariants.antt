use Rattle.std.proofs.Common.{◌≡◌, take}
use Rattle.report_reader.proofs.act.sources_of.Given as goal

abbrev pub invariant-loop-source : goal.invariant-loop-source
invariant-loop-source l = l.sources ≡ take l.source-index l.numbers
