use Rattle.std.proofs.Common.{rules, ◌≡◌, ◌+◌, ◌++◌, ◌∙◌, length, take, drop, Ok, Err, List, ℕ, sym, ap, subst, arith}
use Rattle.std.proofs.lemmas.List.{take_all}
use Rattle.std.proofs.lemmas.Result.{IfOk-weaker}
use Rattle.project_histories.specs.Handing.{projects_of}
use Rattle.project_histories.proofs.Lists.{at_within}
use Rattle.run_rules.specs.Report.{project_line, project_lines, project_lines_of}
use Rattle.session_runner.specs.Writing.{Pushed}
use Rattle.session_runner.proofs.Writing.{longer, projects_cut, projects_more, regrouped, regrouped_prefix}
use Rattle.session_runner.proofs.report.write_projects.Goals as goal

pub line_of_project-requires : goal.line_of_project-requires
line_of_project-requires g c =
    let lt = c.loop-place-test.true in
    let count = c.projects-projects.ensures in
    omega (arith, lt, count)

pub returns-in_err-write_line-clause-pushed : goal.returns-in_err-write_line-clause-pushed
returns-in_err-write_line-clause-pushed g c = λ start text given.
    let j = c.args.book.now.journal in
    let ps = projects_of j in
    let place = c.loop-place.place in
    let lt = c.loop-place-test.true in
    let count = c.projects-projects.ensures in
    let p = at_within ps place (omega (arith, lt, count)) in
    let line = project_line p.0 j in
    let made = IfOk-weaker c.line_of_project.result _ (λ made. made.items ≡ line) (λ made told. told p.0 p.1) c.line_of_project.ensures in
    let pushed = c.in_err-write_line.ensures.pushed start (text ++ project_lines_of (take place ps) j) line made (c.loop-place.invariant.1 start text given) in
    let prefix = longer start _ _ text (project_lines_of (take (place + 1) ps) j) (project_lines_of (drop (place + 1) ps) j) (project_lines j) (projects_cut ps j (place + 1))
    (regrouped_prefix start _ _ text (project_lines_of (take place ps) j) line (project_lines_of (take (place + 1) ps) j) (projects_more ps j place p.0 p.1) pushed) in
    let is : c.from_residual.result ≡ Err c.in_err-write_line.field-0.0 = search rules in
    subst (λ r. Pushed start (g.W.Sink.written c.write_line.new.out) c.write_line.new.buffer (text ++ project_lines j) r) (sym is) prefix

pub loop-place-preserved : goal.loop-place-preserved
loop-place-preserved g c =
    let j = c.args.book.now.journal in
    let ps = projects_of j in
    let place = c.loop-place.place in
    let lt = c.loop-place-test.true in
    let count = c.projects-projects.ensures in
    let p = at_within ps place (omega (arith, lt, count)) in
    let line = project_line p.0 j in
    let made = IfOk-weaker c.line_of_project.result _ (λ made. made.items ≡ line) (λ made told. told p.0 p.1) c.line_of_project.ensures in
    let before = c.loop-place.invariant.0 in
    let later = c.in_ok-write_line.ensures.cause.later in (
      omega (arith, before, later),
      λ start text given. regrouped start _ _ text (project_lines_of (take place ps) j) line (project_lines_of (take (place + 1) ps) j) (projects_more ps j place p.0 p.1) (c.in_ok-write_line.ensures.pushed start (text ++ project_lines_of (take place ps) j) line made (c.loop-place.invariant.1 start text given)),
    )

pub returns-clause-pushed : goal.returns-clause-pushed
returns-clause-pushed g c = λ start text given.
    let j = c.args.book.now.journal in
    let ps = projects_of j in
    let end = c.loop-place-test.false in
    let count = c.projects-projects.ensures in
    subst (λ l. Pushed start (g.W.Sink.written c.loop-place.out) c.loop-place.buffer (text ++ project_lines_of l j) (Ok (tt {0}))) (take_all c.loop-place.place ps (omega (arith, end, count))) (c.loop-place.invariant.1 start text given)
