use Rattle.std.proofs.Common.{arith, ◌<◌, ◌==◌}
use Rattle.std.proofs.lemmas.List.Splits.{length-slice_split, join_with_byte-slice_split}
use Rattle.ot_text.specs.Lists.{joined}
use Rattle.ot_text.proofs.lines.lines_within.Goals as goal

pub returns-clause-joined : goal.returns-clause-joined
returns-clause-joined c = join_with_byte-slice_split 10 (joined (joined c.args.blocks.now))

pub returns-clause-at_least_one : goal.returns-clause-at_least_one
returns-clause-at_least_one c = rw (length-slice_split (λ unit. unit == 10) (joined (joined c.args.blocks.now))) (omega arith)
