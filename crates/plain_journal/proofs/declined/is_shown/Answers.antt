use Rattle.std.proofs.Common.{sym, subst}
use Rattle.std.specs.Prelude.{◌↔◌, IsTrue, IfOk}
use Rattle.journal_entries.specs.declared.why.Why.{Why}
use Rattle.plain_journal.specs.Whys.{IsShown}
use Rattle.plain_journal.proofs.declined.is_shown.Goals as goal

pub returns-in-Waiting : goal.returns-in-Waiting
returns-in-Waiting c = subst (λ (w : Why). IfOk c.is_awaited.result (λ b. IsTrue b ↔ IsShown c.args.before.now c.args.doc w)) (sym c.in-Waiting.is) c.is_awaited.ensures
