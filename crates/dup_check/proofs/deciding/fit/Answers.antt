use Rattle.std.proofs.Common.{◌≡◌, ◌≤◌, List, ℕ, ap, arith, length, rules, sym, ◌∙◌}
use Rattle.std.specs.Prelude.{Some}
use Rattle.ot_op.specs.Apply.{applied_all}
use Rattle.dup_check.proofs.deciding.fit.Goals as goal

pub returns-clause-applies : goal.returns-clause-applies
returns-clause-applies c =
    let look = c.args.look.now in
    let applies : applied_all look.text c.args.op ≡ Some c.in-Some.text = sym c.in_ok-text.ensures ∙ c.in-Some.is in
    record {
      applies = applies;
      short = search rules;
      tracked = c.in_ok-ranges.ensures.steps;
      agree = c.in_ok-ranges.ensures.stay look.text c.in-Some.text c.requires.agrees applies;
      small = c.requires.small;
    }
