-- The line that is written of a project at the end.
use Rattle.std.specs.Prelude.{codes}
use Rattle.serde_json.specs.Data.{Members, no_members}
use Rattle.json_lines.specs.Object.{with_number, with_text}
use Rattle.report_text.specs.declared.project_end.ProjectEnd.{ProjectEnd}

-- the members of a project's line
abbrev pub project_members : ProjectEnd → Members
project_members end =
    with_text (codes "project") end.project (with_number (codes "left") end.left (with_number (codes "handed") end.handed
    (with_text (codes "e") (codes "project") (with_number (codes "b") end.b no_members))))
