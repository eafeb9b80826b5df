use Rattle.journal_rules.proofs.Legality.{legal_push}
use Rattle.journal_rules.proofs.legal_goes_on.Goals as goal

pub returns : goal.returns
returns c = legal_push
