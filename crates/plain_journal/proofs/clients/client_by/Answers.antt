use Rattle.std.proofs.Common.{arith, ap, sym, ◌∙◌}
use Rattle.journal_rules.specs.Client as rules
use Rattle.journal_sizes.proofs.Counts.{number_low}
use Rattle.journal_sizes.proofs.Mail.{mail_sized}
use Rattle.plain_journal.proofs.Ease.{at_ease, version_within}
use Rattle.plain_journal.proofs.clients.client_by.Goals as goal

pub joined_by-requires-clause-ease : goal.joined_by-requires-clause-ease
joined_by-requires-clause-ease c = at_ease c.args.client c.args.before.now c.requires.legal c.args.now c.requires.is

pub sent_by-requires : goal.sent_by-requires
sent_by-requires c =
    let low = number_low c.args.client c.args.before.now in
    let same = ap (λ (t : rules.Client). t.number) c.requires.is in
    omega (arith, low, same)

pub got_by-requires-clause-low : goal.got_by-requires-clause-low
got_by-requires-clause-low c = λ lives.
    let low = version_within c.args.client c.args.before.now c.requires.legal c.args.now c.requires.is lives in
    omega (arith, low)

pub got_by-requires-clause-ease : goal.got_by-requires-clause-ease
got_by-requires-clause-ease c = at_ease c.args.client c.args.before.now c.requires.legal c.args.now c.requires.is

pub got_by-requires-clause-first : goal.got_by-requires-clause-first
got_by-requires-clause-first c = λ msg rest is lives.
    mail_sized c.args.client c.args.before.now msg rest c.requires.legal (omega arith) (ap (λ (t : rules.Client). rules.is_alive t.state) (sym c.requires.is) ∙ lives)
    (sym c.in_ok-mail-in-Got.ensures ∙ sym c.as_slice.ensures.value ∙ is)
