use Rattle.std.proofs.Common.{arith, ap}
use Rattle.journal_rules.specs.Client as clients
use Rattle.journal_sizes.proofs.Counts.{number_low}
use Rattle.plain_journal.proofs.allowed_clients.is_sent_by.Goals as goal

pub is_sent-requires : goal.is_sent-requires
is_sent-requires c =
    let low = number_low c.args.client c.args.before.now in
    let same = ap (λ (t : clients.Client). t.number) c.in_ok-now.ensures in
    omega (arith, low, same)
