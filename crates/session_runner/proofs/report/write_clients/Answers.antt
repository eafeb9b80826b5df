use Rattle.std.proofs.Common.{rules, ◌≡◌, ◌<◌, ◌+◌, ◌++◌, ◌∙◌, ℕ, List, [], length, take, drop, get_or, Err, sym, ap, subst, arith}
use Rattle.std.specs.Prelude.{slice_get, Some}
use Rattle.std.proofs.lemmas.Result.{IfOk-weaker}
use Rattle.share_client.specs.Clients.{Numbered}
use Rattle.journal_rules.specs.Client.{Client, client}
use Rattle.run_rules.specs.Report.{client_line, client_line_of, client_lines, end_state}
use Rattle.session_runner.specs.Writing.{Pushed}
use Rattle.script_driver.proofs.Owning.{get_there}
use Rattle.session_runner.proofs.Writing.{clients_cut, clients_more, longer, regrouped, regrouped_prefix}
use Rattle.session_runner.proofs.report.write_clients.Goals as goal

pub overflow_cast-n : goal.overflow_cast-n
overflow_cast-n g c =
    let lt = c.loop-n-test.true in
    let few = c.requires.few in
    let same = ap length c.as_slice-name-items.ensures in
    omega (arith, lt, few, same)

pub unreachable-requires : goal.unreachable-requires
unreachable-requires g c =
    let high = c.in_default.ensures.lookup.3 in
    let lt = c.loop-n-test.true in
    let many = c.requires.many in
    let same = ap length c.as_slice-name-items.ensures in
    let deref = ap length c.deref.ensures.value in
    absurd (omega (arith, high, lt, many, same, deref))

pub returns-in_err-write_line-clause-pushed : goal.returns-in_err-write_line-clause-pushed
returns-in_err-write_line-clause-pushed g c = λ start text given.
    let j = c.args.run.now.book.journal in
    let names = c.args.run.now.names in
    let n = c.loop-n.n in
    let name = c.name-item.result in
    let so_far = client_lines 0 (take n names) j in
    let line = client_line n name j in
    let items = c.as_slice-name-items.ensures in
    let s = c.in-Some.client.now in
    let deref = c.deref.ensures.value in
    let there = c.in-Some.ensures.lookup in
    let at : slice_get c.args.run.now.clients.items n ≡ Some s = get_there c.args.run.now.clients.items n s (subst (λ (l : List Numbered). n < length l) deref there.3.0) (there.1 ∙ ap (λ (l : List Numbered). get_or l n s) deref) in
    let own = c.requires.clients.each n s at in
    let same : s.now ≡ client n j = own.1 ∙ ap (λ k. client k j) own.0 in
    let written = IfOk-weaker c.line_of_client.result _ (λ made. made.items ≡ line) (λ made is. is ∙ ap (λ (x : Client). client_line_of n name x (end_state x.state)) same) c.line_of_client.ensures in
    let lt = subst (λ (l : List (List ℕ)). n < length l) items c.loop-n-test.true in
    let more = clients_more names j n name lt (c.name-item.is ∙ ap (λ l. get_or l n name) items) in
    let pushed = c.in_err-write_line.ensures.pushed start (text ++ so_far) line written (c.loop-n.invariant.1 start text given) in
    let prefix = longer start _ _ text (client_lines 0 (take (n + 1) names) j) (client_lines (0 + length (take (n + 1) names)) (drop (n + 1) names) j) (client_lines 0 names j) (clients_cut names j (n + 1))
    (regrouped_prefix start _ _ text so_far line (client_lines 0 (take (n + 1) names) j) more pushed) in
    let is : c.from_residual.result ≡ Err c.in_err-write_line.field-0.0 = search rules in
    subst (λ r. Pushed start (g.W.Sink.written c.write_line.new.out) c.write_line.new.buffer (text ++ client_lines 0 names j) r) (sym is) prefix

pub loop-n-preserved : goal.loop-n-preserved
loop-n-preserved g c =
    let j = c.args.run.now.book.journal in
    let names = c.args.run.now.names in
    let n = c.loop-n.n in
    let name = c.name-item.result in
    let so_far = client_lines 0 (take n names) j in
    let line = client_line n name j in
    let items = c.as_slice-name-items.ensures in
    let s = c.in-Some.client.now in
    let deref = c.deref.ensures.value in
    let there = c.in-Some.ensures.lookup in
    let at : slice_get c.args.run.now.clients.items n ≡ Some s = get_there c.args.run.now.clients.items n s (subst (λ (l : List Numbered). n < length l) deref there.3.0) (there.1 ∙ ap (λ (l : List Numbered). get_or l n s) deref) in
    let own = c.requires.clients.each n s at in
    let same : s.now ≡ client n j = own.1 ∙ ap (λ k. client k j) own.0 in
    let written = IfOk-weaker c.line_of_client.result _ (λ made. made.items ≡ line) (λ made is. is ∙ ap (λ (x : Client). client_line_of n name x (end_state x.state)) same) c.line_of_client.ensures in
    let lt = subst (λ (l : List (List ℕ)). n < length l) items c.loop-n-test.true in
    let more = clients_more names j n name lt (c.name-item.is ∙ ap (λ l. get_or l n name) items) in
    let before = c.loop-n.invariant.0 in
    let later = c.in_ok-write_line.ensures.cause.later in (
      omega (arith, before, later),
      λ start text given. regrouped start _ _ text so_far line (client_lines 0 (take (n + 1) names) j) more (c.in_ok-write_line.ensures.pushed start (text ++ so_far) line written (c.loop-n.invariant.1 start text given)),
    )
