use Rattle.std.proofs.Common.{ap, sym, ◌∙◌}
use Rattle.serde_json.proofs.Views.{members_len-members_view}
use Rattle.json_lines.specs.Reading.{count_keys}
use Rattle.json_lines.proofs.reading.count_keys.Goals as goal

pub returns-in-Some : goal.returns-in-Some
returns-in-Some c = c.len.ensures.len ∙ sym (members_len-members_view _) ∙ ap count_keys c.in-Some.ensures
