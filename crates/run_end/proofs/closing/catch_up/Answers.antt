use Rattle.std.proofs.Common.{◌∙◌, ◌++◌, sym, ap, subst, refl}
use Rattle.std.specs.Prelude.{map}
use Rattle.std.proofs.lemmas.Result.{on_ok_weaker}
use Rattle.journal_rules.specs.Client.{Client}
use Rattle.turn_rules.specs.Clients.{is_joined}
use Rattle.turn_rules.specs.Owning.{MayWriteFor}
use Rattle.turn_rules.proofs.Owning.{may_write_later}
use Rattle.run_rules.specs.Ending.{at_end, sending_acts}
use Rattle.book.specs.Going.{with_journal}
use Rattle.book.specs.Shown.{Shown}
use Rattle.run_end.proofs.Catching.{catches_up, quiet_sent, stays_behind}
use Rattle.script_driver.proofs.Quiet.{quiet_none, quiet_on}
use Rattle.run_end.proofs.closing.catch_up.Goals as goal

pub returns-then-not-is_joined : goal.returns-then-not-is_joined
returns-then-not-is_joined g c =
    let n = c.args.client.now.client in let j = c.args.book.now.journal in
    record {
      catches = stays_behind n j j (ap (λ (s : Client). is_joined s.state) (sym c.requires.client) ∙ sym c.is_joined.ensures ∙ c.if-not-is_joined.true) refl;
      client = record { client_is = refl; stands = c.requires.client };
      quiet = quiet_none n j j refl;
      rest = refl;
    }

pub returns : goal.returns
returns g c =
    let got = c.in_ok-receive_all.ensures in let n = c.args.client.now.client in let j = c.args.book.now.journal in let mid = c.receive_all.new.book.journal in let last = c.send_own.new.book.journal in
    let joined = ap (λ (s : Client). is_joined s.state) (sym c.requires.client) ∙ sym c.is_joined.ensures ∙ c.if-not-is_joined.false in
    record {
      catches = on_ok_weaker c.send_own.result (λ sent. catches_up n j mid last joined got.gets (sent ∙ ap (λ k. mid ++ map at_end (sending_acts k mid)) got.client.client_is)) c.send_own.ensures.sends;
      client = on_ok_weaker c.send_own.result (λ sent. record { client_is = c.send_own.ensures.client.client_is ∙ got.client.client_is; stands = c.send_own.ensures.client.stands }) c.send_own.ensures.sends;
      quiet = on_ok_weaker c.send_own.result (λ sent. quiet_on n j mid last got.quiet (quiet_sent n mid last (sent ∙ ap (λ k. mid ++ map at_end (sending_acts k mid)) got.client.client_is))) c.send_own.ensures.sends;
      rest = on_ok_weaker c.send_own.result (λ rest. rest ∙ ap (λ b. with_journal b last) got.rest) c.send_own.ensures.rest;
    }

pub send_own-requires-clause-owner : goal.send_own-requires-clause-owner
send_own-requires-clause-owner g c =
    let old = c.args.book.now in let new = c.receive_all.new.book in let got = c.in_ok-receive_all.ensures in
    may_write_later old.drivers new.drivers old.journal new.journal got.quiet.more 0 c.receive_all.new.client.client (ap (λ (b : Shown). b.drivers) got.rest) got.quiet.last_is
    (subst (λ n. MayWriteFor old.drivers old.journal 0 n) (sym got.client.client_is) c.requires.owner)
