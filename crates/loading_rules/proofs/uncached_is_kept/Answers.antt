use Rattle.loading_rules.proofs.Kept.{uncached_kept}
use Rattle.loading_rules.proofs.uncached_is_kept.Goals as goal

pub returns : goal.returns
returns c = uncached_kept
