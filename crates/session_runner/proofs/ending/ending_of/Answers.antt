use Rattle.std.proofs.Common.{◌∙◌, ◌≤◌, ◌*◌, ◌+◌, List, [], length, sym, ap, subst, arith}
use Rattle.session_lines.specs.Standing.{AreBySessions, AreSlow}
use Rattle.session_lines.specs.declared.line.Line.{Line}
use Rattle.script_driver.specs.Fitting.{AreBuilt, AreFit}
use Rattle.book.proofs.Lists.{none_of}
use Rattle.session_runner.proofs.Fitting.{fits, none_unbuilt, slower}
use Rattle.session_runner.proofs.ending.ending_of.Goals as goal

pub run_lines-requires-clause-fit : goal.run_lines-requires-clause-fit
run_lines-requires-clause-fit g c = subst (λ (ls : List Line). AreFit [] ls) (sym c.into_vec.ensures) (fits c.in-Ok.script.lines c.in-Ok.ensures.standing)

pub run_lines-requires-clause-built : goal.run_lines-requires-clause-built
run_lines-requires-clause-built g c =
    let none = none_of c.first_unbuilt.result c.in_default.not-Some in
    let built = none_unbuilt c.as_slice.result.now (sym c.first_unbuilt.ensures ∙ none) in
    subst (λ (ls : List Line). AreBuilt ls) (c.as_slice.ensures ∙ sym c.into_vec.ensures) built

pub run_lines-requires-clause-few : goal.run_lines-requires-clause-few
run_lines-requires-clause-few g c = let short = c.in-Ok.ensures.short in let limit = c.requires in let same = ap length c.into_vec.ensures in omega (arith, short, limit, same)

pub run_lines-requires-clause-numbered : goal.run_lines-requires-clause-numbered
run_lines-requires-clause-numbered g c = subst (λ (ls : List Line). AreBySessions c.in-Ok.script.sessions ls) (sym c.into_vec.ensures) c.in-Ok.ensures.numbered

pub run_lines-requires-clause-slow : goal.run_lines-requires-clause-slow
run_lines-requires-clause-slow g c = subst (λ (ls : List Line). AreSlow 16777216 ls) (sym c.into_vec.ensures) (slower (length c.args.bytes.now) 16777216 c.in-Ok.script.lines c.requires c.in-Ok.ensures.slow)
