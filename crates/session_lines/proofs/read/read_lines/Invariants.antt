use Rattle.std.proofs.Common.{◌≡◌, ◌+◌, ◌≤◌, length}
use Rattle.json_lines.specs.Lines.{lines_of}
use Rattle.session_lines.specs.Script.{script, script_of, with_lines}
use Rattle.session_lines.proofs.read.read_lines.Given as goal

-- what is left of the lines makes the script of what is read so far; the lines' numbers stay small
abbrev pub invariant-lines : goal.invariant-lines
invariant-lines l = record {
  rest : script_of l.bytes ≡ with_lines l.n (lines_of l.rest) (script l.earlier l.names);
  few : length l.names ≤ 256;
  small : l.n + length l.rest ≤ 1 + length l.bytes;
}

abbrev pub decreases-lines : goal.decreases-lines
decreases-lines l = length l.rest
