use Rattle.std.proofs.Common.{◌<◌, length, rules, sym}
use Rattle.session_lines.proofs.Edits.{no_number}
use Rattle.session_lines.proofs.object.no_numbers.Goals as goal

pub returns-else-is_empty : goal.returns-else-is_empty
returns-else-is_empty c =
    let some : 0 < length c.args.edits.now = search rules in
    sym (no_number c.args.edits.now some)
