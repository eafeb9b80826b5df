use Rattle.std.proofs.Common.{◌≡◌, option_map, take}
use Rattle.serde_json.specs.Data.{no_members}
use Rattle.serde_json.specs.Find.{get_member}
use Rattle.line_reader.specs.Fields.{all_put, content_data}
use Rattle.line_reader.proofs.field.find.Given as goal

abbrev pub invariant-loop-field : goal.invariant-loop-field
invariant-loop-field l = option_map (λ value. content_data value.now) l.found ≡ get_member l.key (all_put (take l.field-index l.fields) no_members)
