-- The value that a line is, as the code has it: a tree, or the fields of a flat object.
use Rattle.std.specs.Prelude.{⊤}
use Rattle.serde_json.specs.Data.{Data, no_members, object}
use Rattle.serde_json.specs.View.{view}
use Rattle.line_reader.specs.Fields.{AreDifferent, all_put}
use Rattle.session_lines.specs.declared.object.LineObject.{LineObject}
use Rattle.session_lines.specs.declared.object.LineObject.TheVariants.{Tree, Flat}

abbrev pub object_data : LineObject → Data
object_data (Tree v) = view v
object_data (Flat fs) = object (all_put fs.items no_members)

-- each key stands once
abbrev pub IsWhole : LineObject → Type 0
IsWhole (Tree v) = ⊤
IsWhole (Flat fs) = AreDifferent fs.items
