use Rattle.std.proofs.Common.{◌≡◌, ◌<◌, inl, ◌∙◌, refl, sym, ap, subst}
use Rattle.std.specs.Prelude.{slice_get, Some}
use Rattle.std.specs.Vec.{with_item}
use Rattle.std.proofs.lemmas.Result.{on_ok_weaker}
use Rattle.journal_rules.specs.Locks.{next_token}
use Rattle.run_rules.specs.Lines.{Syncs}
use Rattle.turn_rules.specs.Turns.{Alone, entry_by}
use Rattle.book.specs.Shown.{Shown}
use Rattle.script_driver.specs.Syncing.{GoesApartThenQuietly}
use Rattle.script_driver.proofs.Lines.{both_ok}
use Rattle.script_driver.proofs.Owning.{get_there, synced_driver}
use Rattle.turn_rules.specs.Owning.{client_owner}
use Rattle.std.specs.Prelude.{OnErr}
use Rattle.script_driver.specs.Failing.{GoesByOwn}
use Rattle.script_driver.proofs.driver.Driver.sync.Goals as goal

pub returns-clause-syncs : goal.returns-clause-syncs
returns-clause-syncs g c =
    let was = c.in-Some.client.now in
    let j = c.args.self.now.book.journal in
    let at : slice_get c.args.self.now.clients.items c.args.session ≡ Some was = get_there c.args.self.now.clients.items c.args.session was (subst (λ n. c.args.session < n) (sym c.requires.driver.many) c.requires.session) c.in-Some.ensures.value in
    let number = (c.requires.driver.clients.each c.args.session was at).0 in
    on_ok_weaker c.sync_client.result (λ g. subst (λ s. Syncs (entry_by s c.args.by.line) Alone c.args.session j c.sync_client.new.book.journal) c.requires.seat (subst (λ n. Syncs (entry_by c.args.by.seat c.args.by.line) Alone n j c.sync_client.new.book.journal) number g)) c.sync_client.ensures.syncs

pub returns-clause-driver : goal.returns-clause-driver
returns-clause-driver g c =
    let was = c.in-Some.client.now in
    let j = c.args.self.now.book.journal in
    let at : slice_get c.args.self.now.clients.items c.args.session ≡ Some was = get_there c.args.self.now.clients.items c.args.session was (subst (λ n. c.args.session < n) (sym c.requires.driver.many) c.requires.session) c.in-Some.ensures.value in
    let number = (c.requires.driver.clients.each c.args.session was at).0 in
    on_ok_weaker c.sync_client.result (λ g. synced_driver c.args.self.now (record c.args.self.now { book = c.sync_client.new.book; clients = with_item c.args.self.now.clients c.args.session c.sync_client.new.client }) c.args.session was c.sync_client.new.client c.requires.driver at refl refl refl refl (ap (λ (b : Shown). b.drivers) g.0)
    (subst (λ n. GoesApartThenQuietly (next_token j) n j c.sync_client.new.book.journal) number g.1.0) g.1.1)
    (both_ok _ _ c.sync_client.result c.sync_client.ensures.rest (both_ok _ _ c.sync_client.result c.sync_client.ensures.goes c.sync_client.ensures.client))

pub returns-clause-goes : goal.returns-clause-goes
returns-clause-goes g c =
    let was = c.in-Some.client.now in
    let j = c.args.self.now.book.journal in
    let at : slice_get c.args.self.now.clients.items c.args.session ≡ Some was = get_there c.args.self.now.clients.items c.args.session was (subst (λ n. c.args.session < n) (sym c.requires.driver.many) c.requires.session) c.in-Some.ensures.value in
    let number = (c.requires.driver.clients.each c.args.session was at).0 in
    on_ok_weaker c.sync_client.result (λ g. subst (λ n. GoesApartThenQuietly (next_token j) n j c.sync_client.new.book.journal) number g) c.sync_client.ensures.goes

pub sync_client-requires-clause-owner : goal.sync_client-requires-clause-owner
sync_client-requires-clause-owner g c = inl (c.requires.seat ∙ sym (c.requires.owned) ∙ ap (λ n. client_owner c.args.self.now.book.drivers n) (sym ((c.requires.driver.clients.each c.args.session c.in-Some.client.now (get_there c.args.self.now.clients.items c.args.session c.in-Some.client.now (subst (λ n. c.args.session < n) (sym c.requires.driver.many) c.requires.session) c.in-Some.ensures.value)).0)))

pub sync_client-requires-clause-client : goal.sync_client-requires-clause-client
sync_client-requires-clause-client g c =
    let was = c.in-Some.client.now in
    let at : slice_get c.args.self.now.clients.items c.args.session ≡ Some was = get_there c.args.self.now.clients.items c.args.session was (subst (λ n. c.args.session < n) (sym c.requires.driver.many) c.requires.session) c.in-Some.ensures.value in
    (c.requires.driver.clients.each c.args.session was at).1 c.requires.owned

pub returns-clause-failed : goal.returns-clause-failed
returns-clause-failed g c = subst (λ s. OnErr c.sync_client.result (GoesByOwn s c.args.self.now.book c.sync_client.new.book)) c.requires.seat c.sync_client.ensures.failed
