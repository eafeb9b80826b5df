use Rattle.std.proofs.Common.{◌≡◌, ◌+◌, ◌≤◌, length}
use Rattle.json_lines.specs.Lines.{lines_of}
use Rattle.report_reader.specs.Drafts.{drafted}
use Rattle.report_reader.specs.Reports.{if_whole, report_of, then_lines, with_lines}
use Rattle.report_reader.proofs.read.read_lines.Given as goal

-- what is left of the lines makes the report of what is read so far; the lines' numbers stay small
abbrev pub invariant-lines : goal.invariant-lines
invariant-lines l = record {
  rest : report_of l.bytes ≡ then_lines (if_whole l.bytes) (with_lines (l.done + 1) (lines_of l.rest) (drafted l.draft));
  count : l.done + length (lines_of l.rest) ≡ length (lines_of l.bytes);
  small : l.done + length l.rest ≤ length l.bytes;
}

abbrev pub decreases-lines : goal.decreases-lines
decreases-lines l = length l.rest
