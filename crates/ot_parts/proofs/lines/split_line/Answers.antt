use Rattle.std.proofs.Common.{sym, ◌==◌}
use Rattle.std.proofs.lemmas.List.{take_rest}
use Rattle.ot_parts.proofs.LinesLemmas.{slice_split-position_none, slice_split-position_some}
use Rattle.ot_parts.proofs.lines.split_line.Goals as goal

pub returns-in-Some : goal.returns-in-Some
returns-in-Some c = rw take_rest (slice_split-position_some (λ unit. unit == 10) c.args.text.now c.in-Some.at (sym c.in-Some.ensures))

pub returns-in-None : goal.returns-in-None
returns-in-None c = slice_split-position_none (λ unit. unit == 10) c.args.text.now (sym c.in-None.ensures)
