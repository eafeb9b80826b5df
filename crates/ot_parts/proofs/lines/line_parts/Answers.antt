use Rattle.std.proofs.Common.{arith, ◌≡◌, ◌≢◌, false, ◌==◌, ℕ}
use Rattle.std.proofs.lemmas.List.Elements.{All-weaker}
use Rattle.std.proofs.lemmas.List.Splits.{length-slice_split, join_with_byte-slice_split}
use Rattle.std.specs.List.{All}
use Rattle.ot_parts.specs.Lines.{lines_of, IsLine}
use Rattle.ot_parts.proofs.LinesLemmas.{All-slice_split}
use Rattle.ot_parts.proofs.lines.line_parts.Goals as goal

-- a unit that the test does not pass is no line feed
differs : (unit : ℕ) → (unit == 10) ≡ false → unit ≢ 10
differs unit different = grind arith

pub returns-clause-joined : goal.returns-clause-joined
returns-clause-joined c = join_with_byte-slice_split 10 c.args.text.now

pub returns-clause-split : goal.returns-clause-split
returns-clause-split c =
    All-weaker (All (λ unit. (unit == 10) ≡ false)) IsLine (λ line. All-weaker (λ unit. (unit == 10) ≡ false) (λ unit. unit ≢ 10) differs line)
    (lines_of c.args.text.now) (All-slice_split (λ unit. unit == 10) c.args.text.now)

pub returns-clause-at_least_one : goal.returns-clause-at_least_one
returns-clause-at_least_one c = rw (length-slice_split (λ unit. unit == 10) c.args.text.now) (omega arith)
