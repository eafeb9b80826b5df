use Rattle.std.proofs.Common.{sym, subst}
use Rattle.journal_entries.specs.declared.why.Why.TheVariants.{NotJoined}
use Rattle.book.specs.Roomed.{IsClientOf}
use Rattle.book.specs.Shown.{Shown}
use Rattle.client_lines.proofs.Declining.{declined_client, on_ok}
use Rattle.client_lines.proofs.leaving.leave.Goals as goal

pub returns-in-Err-NotJoined-clause-client : goal.returns-in-Err-NotJoined-clause-client
returns-in-Err-NotJoined-clause-client g c =
    let kept = c.in-Err-NotJoined.ensures.kept in
    let own = subst (λ (v : Shown). IsClientOf v.journal c.args.client.now) (sym kept.0) c.requires.client in
    on_ok c.decline.result (λ is. declined_client c.leave.new.self c.decline.new.self c.args.by.seat c.args.by.line c.client.result NotJoined c.args.client.now c.leave.new.client own kept.1 is) c.decline.ensures.ok
