-- A project at the end, by the fields of its line.
use Rattle.std.specs.Prelude.{Option, option_map, codes}
use Rattle.serde_json.specs.Data.{Data}
use Rattle.json_lines.specs.Reading.{number_at}
use Rattle.report_text.specs.declared.project_end.ProjectEnd.{ProjectEnd}
use Rattle.report_reader.specs.Fields.{and_then, name_at, u32_at}

abbrev pub project_of : Data → Option ProjectEnd
project_of d =
    and_then (u32_at (codes "b") d) (λ b. and_then (number_at (codes "handed") d) (λ handed. and_then (number_at (codes "left") d) (λ left.
    option_map (λ project. record { b = b; handed = handed; left = left; project = project }) (name_at (codes "project") d))))
