use Rattle.std.proofs.Common.{rules, tests}
use Rattle.std.proofs.lemmas.Iterator.{YieldsList-from_map, YieldsList-from_slice, items_from_collect}
use Rattle.journal_rules.specs.Legal.{brief_of}
use Rattle.plain_journal.proofs.mail.briefs_of.Goals as goal

pub returns : goal.returns
returns c = items_from_collect _ c.collect.ensures.ran (YieldsList-from_map _ brief_of (YieldsList-from_slice c.args.mail.now cc) (cc) (λ x r q k. search (rules, tests)))
