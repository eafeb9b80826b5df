use Rattle.std.proofs.Common.{arith, subst}
use Rattle.journal_entries.specs.declared.act.Act.{Act}
use Rattle.journal_rules.specs.Legal.{IsAllowed}
use Rattle.plain_journal.proofs.documents.makings_in.Goals as goal

pub returns-in-Made-clause-numbered : goal.returns-in-Made-clause-numbered
returns-in-Made-clause-numbered c = λ before seat may one.
    let making = subst (λ (a : Act). IsAllowed before seat a) c.in-Made.is may in
    let next = making.next in
    omega (arith, next)
