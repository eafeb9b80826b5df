use Rattle.journal_sizes.proofs.Updates.{update_sized}
use Rattle.journal_sizes.proofs.updates_are_sized.Goals as goal

pub returns : goal.returns
returns c = λ journal legal ticket u at. update_sized ticket u journal legal at
