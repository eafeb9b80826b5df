use Rattle.std.proofs.Common.{arith}
use Rattle.json_lines.proofs.ValueOf.{text_reads}
use Rattle.json_lines.proofs.object.Object.line.Goals as goal

pub returns-clause-reads : goal.returns-clause-reads
returns-clause-reads c = λ shallow.
    text_reads _ _ _ (c.in_ok-bytes.ensures.text c.value.ensures.plain) c.value.ensures.data
    c.in_ok-bytes.ensures.utf8 c.in_ok-bytes.ensures.reads_back (omega (arith, shallow))
