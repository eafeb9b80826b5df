use Rattle.std.proofs.Common.{rules, tests}
use Rattle.std.proofs.lemmas.Iterator.{YieldsList-from_slice}
use Rattle.std.proofs.lemmas.Iterator.Search.{all_from_yields_List}
use Rattle.drivers_tests.specs.Scripts.{is_of_a_session}
use Rattle.drivers_tests.proofs.tests.are_done.Goals as goal

pub returns : goal.returns
returns c = all_from_yields_List is_of_a_session _ _ _ c.all.ensures.ran (YieldsList-from_slice c.args.lines.now cc) (λ x b q k. search (rules, tests))
