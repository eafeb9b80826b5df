use Rattle.std.proofs.Common.{List, ◌<◌, ◌-◌, ◌^◌, length, subst}
use Rattle.session_lines.specs.declared.line.Line.{Line}
use Rattle.drivers_tests.specs.Scripts.{IsOfOneDocument}
use Rattle.drivers_tests.proofs.Fitting.{one_built, one_fits}
use Rattle.drivers_tests.proofs.tests.read.Goals as goal

pub returns : goal.returns
returns c =
    let lines = c.in-Ok.script.lines in
    let checked = c.is_of_one_document.ensures in
    let one = subst IsOfOneDocument c.as_slice.ensures (checked.one c.if-not-is_of_one_document.false) in
    record {
      fit = one_fits lines c.in-Ok.ensures.standing one;
      built = one_built lines one;
      numbered = c.in-Ok.ensures.numbered;
      few = subst (λ (ls : List Line). length ls < 2 ^ 32 - 1) c.as_slice.ensures (checked.few c.if-not-is_of_one_document.false);
    }
