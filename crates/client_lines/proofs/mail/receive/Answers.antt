use Rattle.std.proofs.Common.{◌≡◌, ◌∙◌, [], inr, sym, ap, subst}
use Rattle.journal_rules.specs.Mail.{mail}
use Rattle.share_client.specs.Clients.{Numbered}
use Rattle.book.specs.Roomed.{IsClientOf}
use Rattle.book.specs.Shown.{Shown}
use Rattle.client_lines.proofs.Declining.{declined_client, got_none, on_ok}
use Rattle.client_lines.proofs.mail.receive.Goals as goal

pub decline-requires : goal.decline-requires
decline-requires g c =
    let none = c.in_ok-_message.ensures.none c.in_default.is in
    let empty = got_none (mail c.args.client.now.client c.args.book.now.journal) (sym c.in_default.is ∙ c.in_ok-_message.ensures.first) in
    inr (subst (λ (v : Shown). mail c.client.result v.journal ≡ []) (sym none.0) (ap (λ n. mail n c.args.book.now.journal) (c.client.ensures ∙ ap (λ (x : Numbered). x.client) none.1) ∙ empty))

pub returns-in_default-clause-client : goal.returns-in_default-clause-client
returns-in_default-clause-client g c =
    let none = c.in_ok-_message.ensures.none c.in_default.is in
    let own = subst (λ (v : Shown). IsClientOf v.journal c.args.client.now) (sym none.0) c.requires.client in
    on_ok c.decline.result (λ is. declined_client c.receive.new.self c.decline.new.self c.args.by.seat c.args.by.line c.client.result _ c.args.client.now c.receive.new.client own none.1 is) c.decline.ensures.ok
