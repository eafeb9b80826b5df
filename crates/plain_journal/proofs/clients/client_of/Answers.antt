use Rattle.std.proofs.Common.{ap, sym, ◌∙◌, refl, take, length}
use Rattle.std.proofs.lemmas.List.{take_all}
use Rattle.std.proofs.lemmas.Option.{slice_get_read}
use Rattle.journal_rules.specs.Client.{client, client_by}
use Rattle.journal_rules.proofs.Pushing.{client-none, client-push}
use Rattle.plain_journal.proofs.Prefixes.{take_next, legal_take}
use Rattle.plain_journal.proofs.clients.client_of.Goals as goal

pub client_by-requires-clause-legal : goal.client_by-requires-clause-legal
client_by-requires-clause-legal c = legal_take c.args.journal.now c.loop-n.n c.requires

pub client_by-requires-clause-allowed : goal.client_by-requires-clause-allowed
client_by-requires-clause-allowed c =
    let j = c.args.journal.now in
    c.requires c.loop-n.n c.index-journal-n.result (slice_get_read j (length j) c.loop-n.n c.index-journal-n.result refl c.loop-n-test.true c.index-journal-n.is)

pub loop-n-init : goal.loop-n-init
loop-n-init c = c.in_ok-now.ensures ∙ sym (client-none c.args.client)

pub loop-n-preserved : goal.loop-n-preserved
loop-n-preserved c =
    let j = c.args.journal.now in
    let i = c.loop-n.n in
    let e = c.index-journal-n.result in
    c.in_ok-now-2.ensures ∙ ap (client_by c.args.client (take i j) e.act) c.loop-n.invariant
    ∙ sym (client-push c.args.client (take i j) e) ∙ ap (client c.args.client) (sym (take_next j i e c.loop-n-test.true c.index-journal-n.is))

pub returns : goal.returns
returns c = c.loop-n.invariant ∙ ap (client c.args.client) (take_all c.loop-n.n c.args.journal.now c.loop-n-test.false)
