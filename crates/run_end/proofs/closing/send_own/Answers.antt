use Rattle.std.proofs.Common.{◌∙◌, ◌+◌, [], sym}
use Rattle.std.specs.Prelude.{None, unwrap_or}
use Rattle.std.proofs.lemmas.Result.{on_ok_weaker}
use Rattle.journal_entries.specs.declared.act.Act.TheVariants.{Sent}
use Rattle.journal_rules.specs.Client.{update_from}
use Rattle.journal_rules.specs.Locks.{clock}
use Rattle.share_client.specs.Clients.{again_fault, send_fault}
use Rattle.book.proofs.Serving.{resending_now, sending_now}
use Rattle.run_end.proofs.Catching.{flies, sends_its, unsent, unsent_again}
use Rattle.script_driver.proofs.Resting.{rest_either}
use Rattle.run_end.proofs.closing.send_own.Goals as goal

pub returns-then-is_some : goal.returns-then-is_some
returns-then-is_some g c =
    let s = c.args.client.now in let j = c.args.book.now.journal in let by = c.resend.ensures in
    let flight = sym (flies c.flight.result s.now.flight c.flight.ensures) ∙ sym c.is_some.ensures ∙ c.if-is_some.true in
    record {
      sends = on_ok_weaker c.unless_memory.result
          (λ told. sends_its s.client s.now c.args.book.now c.resend.new.self c.requires.client (again_fault s.now) (update_from s.client s.now (clock j) s.now.number (unwrap_or s.now.flight []) s.now.sources) (resending_now s.client s.now (clock j))
          (λ f at. unsent_again s.client s.now (clock j) f flight at) _ c.resend.result told by.ok by.refused by.kept) c.unless_memory.ensures;
      client = by.client;
      rest = on_ok_weaker c.unless_memory.result (λ told. rest_either _ _ c.resend.result c.args.book.now c.resend.new.self 0 None (Sent (update_from s.client s.now (clock j) s.now.number (unwrap_or s.now.flight []) s.now.sources)) by.ok by.kept) c.unless_memory.ensures;
    }

pub returns : goal.returns
returns g c =
    let s = c.args.client.now in let j = c.args.book.now.journal in let by = c.send.ensures in
    let flight = sym (flies c.flight.result s.now.flight c.flight.ensures) ∙ sym c.is_some.ensures ∙ c.if-is_some.false in
    record {
      sends = on_ok_weaker c.unless_memory-2.result
          (λ told. sends_its s.client s.now c.args.book.now c.send.new.self c.requires.client (send_fault s.now) (update_from s.client s.now (clock j) (s.now.number + 1) s.now.pending []) (sending_now s.client s.now (clock j))
          (λ f at. unsent s.client s.now (clock j) f flight at) _ c.send.result told by.ok by.refused by.kept) c.unless_memory-2.ensures;
      client = by.client;
      rest = on_ok_weaker c.unless_memory-2.result (λ told. rest_either _ _ c.send.result c.args.book.now c.send.new.self 0 None (Sent (update_from s.client s.now (clock j) (s.now.number + 1) s.now.pending [])) by.ok by.kept) c.unless_memory-2.ensures;
    }
