use Rattle.std.proofs.Common.{◌≡◌, ◌∙◌, ℕ, List, length, sym, ap, ap₂}
use Rattle.std.specs.Prelude.{slice_get, sum, Some}
use Rattle.std.proofs.lemmas.Result.{IfOk-weaker}
use Rattle.json_lines.specs.Object.{line_of}
use Rattle.journal_rules.specs.History.{handed, history}
use Rattle.project_histories.specs.Handing.{projects_of}
use Rattle.project_histories.proofs.Lists.{same_item}
use Rattle.report_text.specs.Projects.{project_members}
use Rattle.report_text.specs.declared.project_end.ProjectEnd.{ProjectEnd}
use Rattle.run_rules.specs.Report.{project_line}
use Rattle.session_runner.proofs.report.line_of_project.Goals as goal

pub returns : goal.returns
returns g c =
    let j = c.args.book.now.journal in
    IfOk-weaker c.project_line.result _ (λ made. (p : List ℕ) → slice_get (projects_of j) c.args.place ≡ Some p → made.items ≡ project_line p j)
    (λ made is p at. is ∙ ap (λ (end : ProjectEnd). line_of (project_members end)) (
    ap₂ (λ out left. record { b = 0; handed = out; left = left; project = c.in_ok-copy.field-0 }) (c.history_handed.ensures p at) (c.history_left.ensures p at)
    ∙ ap (λ name. record { b = 0; handed = sum (handed p j); left = length (history p j); project = name }) (c.in_ok-copy.ensures ∙ same_item c.project.result.now p (sym c.project.ensures ∙ at))
    ))
    c.project_line.ensures
