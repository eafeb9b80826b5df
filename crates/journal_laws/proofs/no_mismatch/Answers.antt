use Rattle.journal_laws.proofs.Mismatches.{never_mismatch}
use Rattle.journal_laws.proofs.no_mismatch.Goals as goal

pub returns : goal.returns
returns c = never_mismatch
