use Rattle.std.proofs.Common.{rules, ◌≡◌, ◌∷◌, ◌∙◌, sym, subst}
use Rattle.drivers_tests.specs.Scripts.{IsOfOneDocument}
use Rattle.drivers_tests.proofs.Fitting.{made_built}
use Rattle.drivers_tests.proofs.tests.is_of_one_document.Goals as goal

pub returns-then-makes_document-clause-one : goal.returns-then-makes_document-clause-one
returns-then-makes_document-clause-one c = λ all.
    let whole : c.args.lines.now ≡ c.in-Some.first.now ∷ c.in-Some.rest.now = search rules in
    subst IsOfOneDocument (sym whole) (made_built c.in-Some.first.now (sym c.makes_document.ensures ∙ c.if-makes_document.true), sym c.are_done.ensures ∙ all)
