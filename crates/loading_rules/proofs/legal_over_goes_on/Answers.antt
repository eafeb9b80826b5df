use Rattle.loading_rules.proofs.Sure.{over_push}
use Rattle.loading_rules.proofs.legal_over_goes_on.Goals as goal

pub returns : goal.returns
returns c = over_push
