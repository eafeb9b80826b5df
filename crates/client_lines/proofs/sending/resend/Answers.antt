use Rattle.std.proofs.Common.{sym, subst}
use Rattle.book.specs.Roomed.{IsClientOf}
use Rattle.book.specs.Shown.{Shown}
use Rattle.client_lines.proofs.Declining.{declined_client, on_ok}
use Rattle.client_lines.proofs.sending.resend.Goals as goal

pub returns-in-Some-clause-client : goal.returns-in-Some-clause-client
returns-in-Some-clause-client g c =
    let kept = c.in-Err.ensures.kept in
    let own = subst (λ (v : Shown). IsClientOf v.journal c.args.client.now) (sym kept.0) c.requires.client in
    on_ok c.decline.result (λ is. declined_client c.resend.new.self c.decline.new.self c.args.by.seat c.args.by.line c.client.result c.in-Some.why c.args.client.now c.resend.new.client own kept.1 is) c.decline.ensures.ok
