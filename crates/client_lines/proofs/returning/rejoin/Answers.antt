use Rattle.std.proofs.Common.{sym, subst}
use Rattle.journal_entries.specs.declared.why.Why.TheVariants.{NotLeft, TooOld}
use Rattle.book.specs.Roomed.{IsClientOf}
use Rattle.book.specs.Shown.{Shown}
use Rattle.client_lines.proofs.Declining.{declined_client, on_ok}
use Rattle.client_lines.proofs.returning.rejoin.Goals as goal

pub returns-in-Err-NotLeft-clause-client : goal.returns-in-Err-NotLeft-clause-client
returns-in-Err-NotLeft-clause-client g c =
    let kept = c.in-Err-NotLeft.ensures.kept in
    let own = subst (λ (v : Shown). IsClientOf v.journal c.args.client.now) (sym kept.0) c.requires.client in
    on_ok c.decline.result (λ is. declined_client c.rejoin.new.self c.decline.new.self c.args.by.seat c.args.by.line c.client.result NotLeft c.args.client.now c.rejoin.new.client own kept.1 is) c.decline.ensures.ok

pub returns-in-Err-TooOld-clause-client : goal.returns-in-Err-TooOld-clause-client
returns-in-Err-TooOld-clause-client g c =
    let kept = c.in-Err-TooOld.ensures.kept in
    let own = subst (λ (v : Shown). IsClientOf v.journal c.args.client.now) (sym kept.0) c.requires.client in
    on_ok c.decline-in-Err-TooOld.result (λ is. declined_client c.rejoin.new.self c.decline-in-Err-TooOld.new.self c.args.by.seat c.args.by.line c.client-in-Err-TooOld.result (TooOld c.in-Err-TooOld.have) c.args.client.now c.rejoin.new.client own kept.1 is) c.decline-in-Err-TooOld.ensures.ok
