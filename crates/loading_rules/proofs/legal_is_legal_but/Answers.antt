use Rattle.loading_rules.proofs.Weakening.{legal_but}
use Rattle.loading_rules.proofs.legal_is_legal_but.Goals as goal

pub returns : goal.returns
returns c = legal_but
