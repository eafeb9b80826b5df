use Rattle.std.proofs.Common.{sym, subst}
use Rattle.std.specs.Prelude.{◌↔◌, IsTrue, IfOk}
use Rattle.journal_entries.specs.declared.act.Act.{Act}
use Rattle.journal_rules.specs.Legal.{IsAllowed}
use Rattle.plain_journal.proofs.legal.is_allowed.Goals as goal

pub returns-in-Sent : goal.returns-in-Sent
returns-in-Sent c = subst (λ (a : Act). IfOk c.is_sending.result (λ b. IsTrue b ↔ IsAllowed c.args.before.now c.args.seat a)) (sym c.in-Sent.is) c.is_sending.ensures

pub returns-in-Got : goal.returns-in-Got
returns-in-Got c = subst (λ (a : Act). IfOk c.is_getting.result (λ b. IsTrue b ↔ IsAllowed c.args.before.now c.args.seat a)) (sym c.in-Got.is) c.is_getting.ensures

pub returns-in-LoadDiffers : goal.returns-in-LoadDiffers
returns-in-LoadDiffers c = subst (λ (a : Act). IfOk c.is_differing_load.result (λ b. IsTrue b ↔ IsAllowed c.args.before.now c.args.seat a)) (sym c.in-LoadDiffers.is) c.is_differing_load.ensures

pub returns-in-Committed : goal.returns-in-Committed
returns-in-Committed c = subst (λ (a : Act). IfOk c.is_committing.result (λ b. IsTrue b ↔ IsAllowed c.args.before.now c.args.seat a)) (sym c.in-Committed.is) c.is_committing.ensures
