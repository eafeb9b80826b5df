use Rattle.std.proofs.Common.{◌≡◌, ◌∙◌, refl, sym, ap, subst}
use Rattle.std.proofs.lemmas.Result.{on_ok_weaker}
use Rattle.journal_rules.specs.Locks.{next_token}
use Rattle.turn_rules.proofs.Owning.{may_write_later}
use Rattle.book.specs.Shown.{Shown}
use Rattle.client_lines.proofs.Declining.{declined_client}
use Rattle.script_driver.proofs.Apart.{same_clients}
use Rattle.script_driver.proofs.Failing.{failed_kept, failed_later}
use Rattle.script_driver.proofs.syncing.sync_client.Goals as goal

pub returns-then-not-is_present-clause-client : goal.returns-then-not-is_present-clause-client
returns-then-not-is_present-clause-client g c = on_ok_weaker c.decline.result (λ is. declined_client c.args.book.now c.decline.new.self c.args.by.seat c.args.by.line c.client.result _ c.args.client.now c.args.client.now c.requires.client refl is) c.decline.ensures.ok

pub receive_all-requires-clause-client : goal.receive_all-requires-clause-client
receive_all-requires-clause-client g c =
    let old = c.args.book.now.journal in
    c.requires.client ∙ sym (same_clients (next_token old) old c.drain_waiting.new.book.journal c.in_ok-drain_waiting.ensures.apart c.args.client.now.client)

pub receive_all-requires-clause-owner : goal.receive_all-requires-clause-owner
receive_all-requires-clause-owner g c =
    let old = c.args.book.now in let new = c.drain_waiting.new.book in let drained = c.in_ok-drain_waiting.ensures in
    may_write_later old.drivers new.drivers old.journal new.journal drained.apart.more c.args.by.seat c.args.client.now.client (ap (λ (b : Shown). b.drivers) drained.rest) drained.apart.last_is c.requires.owner

pub returns-then-not-is_present-clause-failed : goal.returns-then-not-is_present-clause-failed
returns-then-not-is_present-clause-failed g c = failed_kept c.args.by.seat c.decline.result c.args.book.now c.decline.new.self c.decline.ensures.kept

pub returns-clause-failed : goal.returns-clause-failed
returns-clause-failed g c = failed_later c.args.by.seat c.receive_all.result c.args.book.now c.drain_waiting.new.book c.receive_all.new.book c.in_ok-drain_waiting.ensures.own c.receive_all.ensures.failed
