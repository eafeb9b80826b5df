use Rattle.std.proofs.Common.{◌≡◌, ◌∙◌, List, refl, sym, ap, subst, arith, get_or}
use Rattle.std.specs.Prelude.{slice_get, Some}
use Rattle.std.proofs.lemmas.List.{length-set}
use Rattle.std.proofs.lemmas.Option.{slice_get-get_or}
use Rattle.run_rules.specs.Ending.{CatchesUp}
use Rattle.share_client.specs.Clients.{Numbered}
use Rattle.turn_rules.proofs.Owning.{may_write_later}
use Rattle.book.specs.Going.{with_journal}
use Rattle.book.specs.Shown.{Shown}
use Rattle.script_driver.specs.Clients.{AreClientsOf, StayOthers}
use Rattle.script_driver.proofs.Clients.{one_moves}
use Rattle.script_driver.proofs.Quiet.{quiet_others}
use Rattle.run_end.proofs.Rounding.{in_order_on, quiet_free}
use Rattle.run_end.proofs.closing.catch_up_all.Goals as goal

pub loop-client-init : goal.loop-client-init
loop-client-init g c = record {
  catches = refl;
  rest = refl;
  free = c.requires.free;
  ends = c.requires.ends;
  clients = subst (λ (l : List Numbered). AreClientsOf l c.args.book.now.journal) (sym c.deref_mut-client-items.ensures.value) c.requires.clients;
  sessions = refl;
}

pub catch_up-requires-clause-owner : goal.catch_up-requires-clause-owner
catch_up-requires-clause-owner g c = c.loop-client.invariant.ends _

pub catch_up-requires-clause-client : goal.catch_up-requires-clause-client
catch_up-requires-clause-client g c =
    let items = c.loop-client.client-items in let at = c.loop-client.client-index in
    let was = c.loop-client.invariant in let low = c.loop-client-test.true in let many = was.sessions in
    let item = get_or items at c.client-item.result in
    (was.clients.each at item (slice_get-get_or items at c.client-item.result (omega (arith, low, many)))).1

pub loop-client-preserved : goal.loop-client-preserved
loop-client-preserved g c =
    let j = c.loop-client.book.journal in let k = c.catch_up.new.book.journal in
    let items = c.loop-client.client-items in let at = c.loop-client.client-index in
    let was = c.loop-client.invariant in let low = c.loop-client-test.true in let many = was.sessions in
    let item = get_or items at c.client-item.result in
    let there : slice_get items at ≡ Some item = slice_get-get_or items at c.client-item.result (omega (arith, low, many)) in
    let own = (was.clients.each at item there).0 in
    let done = c.in_ok-catch_up.ensures in
    record {
      catches = in_order_on CatchesUp at c.args.book.now.journal j k was.catches (subst (λ n. CatchesUp n j k) own done.catches);
      rest = done.rest ∙ ap (λ b. with_journal b k) was.rest;
      free = λ d. quiet_free item.client j k done.quiet d (was.free d);
      ends = λ n. may_write_later c.loop-client.book.drivers c.catch_up.new.book.drivers j k done.quiet.more 0 n (ap (λ (b : Shown). b.drivers) done.rest) done.quiet.last_is (was.ends n);
      clients = one_moves items at item c.catch_up.new.client j k there done.client (subst (λ n. StayOthers n j k) own (quiet_others item.client j k done.quiet)) was.clients;
      sessions = length-set items at c.catch_up.new.client ∙ was.sessions;
    }
