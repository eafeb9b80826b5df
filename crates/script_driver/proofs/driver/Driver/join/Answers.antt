use Rattle.std.proofs.Common.{◌≡◌, ◌<◌, inl, ◌∙◌, refl, sym, ap, subst}
use Rattle.std.specs.Prelude.{slice_get, Some}
use Rattle.std.specs.Vec.{with_item}
use Rattle.std.proofs.lemmas.Result.{on_ok_weaker}
use Rattle.book.specs.Shown.{Shown}
use Rattle.journal_rules.specs.Documents.{number_of}
use Rattle.turn_rules.specs.Turns.{entry_by}
use Rattle.client_lines.specs.Joining.{join_act}
use Rattle.script_driver.proofs.Lines.{both_ok}
use Rattle.script_driver.proofs.Owning.{get_there, joins_cached, own_act, own_driver, own_goes, own_join}
use Rattle.turn_rules.specs.Owning.{client_owner}
use Rattle.script_driver.proofs.Failing.{failed_both}
use Rattle.script_driver.proofs.driver.Driver.join.Goals as goal

pub returns-clause-joins : goal.returns-clause-joins
returns-clause-joins g c =
    let was = c.in-Some.client.now in
    let j = c.args.self.now.book.journal in
    let at : slice_get c.args.self.now.clients.items c.args.session ≡ Some was = get_there c.args.self.now.clients.items c.args.session was (subst (λ n. c.args.session < n) (sym c.requires.driver.many) c.requires.session) c.in-Some.ensures.value in
    let number = (c.requires.driver.clients.each c.args.session was at).0 in
    on_ok_weaker c.join_named.result (λ g. (j, _, refl, joins_cached (entry_by c.args.self.now.seat c.args.by.line) c.args.session (number_of c.args.doc.now j) c.args.user.now c.args.track j _ refl g.1, ap (λ (b : Shown). b.journal) (own_act c.args.self.now.book c.join_named.new.book c.args.self.now.seat c.args.by.seat was.client c.args.session c.args.by.line (λ n. join_act n (number_of c.args.doc.now j) c.args.user.now c.args.track j) c.requires.seat number g.0)))
    (both_ok _ _ c.join_named.result c.join_named.ensures.joins c.join_named.ensures.cached)

pub returns-clause-driver : goal.returns-clause-driver
returns-clause-driver g c =
    let was = c.in-Some.client.now in
    let j = c.args.self.now.book.journal in
    let at : slice_get c.args.self.now.clients.items c.args.session ≡ Some was = get_there c.args.self.now.clients.items c.args.session was (subst (λ n. c.args.session < n) (sym c.requires.driver.many) c.requires.session) c.in-Some.ensures.value in
    let number = (c.requires.driver.clients.each c.args.session was at).0 in
    on_ok_weaker c.join_named.result (λ g. let is = (own_act c.args.self.now.book c.join_named.new.book c.args.self.now.seat c.args.by.seat was.client c.args.session c.args.by.line (λ n. join_act n (number_of c.args.doc.now j) c.args.user.now c.args.track j) c.requires.seat number g.0) in own_driver c.args.self.now (record c.args.self.now { book = c.join_named.new.book; clients = with_item c.args.self.now.clients c.args.session c.join_named.new.client }) c.args.session was c.join_named.new.client c.requires.driver at refl refl refl refl (ap (λ (b : Shown). b.drivers) is) (own_goes c.args.self.now.seat c.args.session c.args.self.now.book c.join_named.new.book c.args.by.line _ is (own_join c.args.session _ _ _ j)) g.1)
    (both_ok _ _ c.join_named.result c.join_named.ensures.joins c.join_named.ensures.client)

pub returns-clause-quiet : goal.returns-clause-quiet
returns-clause-quiet g c =
    let was = c.in-Some.client.now in
    let j = c.args.self.now.book.journal in
    let at : slice_get c.args.self.now.clients.items c.args.session ≡ Some was = get_there c.args.self.now.clients.items c.args.session was (subst (λ n. c.args.session < n) (sym c.requires.driver.many) c.requires.session) c.in-Some.ensures.value in
    let number = (c.requires.driver.clients.each c.args.session was at).0 in
    on_ok_weaker c.join_named.result (λ g. own_goes c.args.self.now.seat c.args.session c.args.self.now.book c.join_named.new.book c.args.by.line _ (own_act c.args.self.now.book c.join_named.new.book c.args.self.now.seat c.args.by.seat was.client c.args.session c.args.by.line (λ n. join_act n (number_of c.args.doc.now j) c.args.user.now c.args.track j) c.requires.seat number g) (own_join c.args.session _ _ _ j)) c.join_named.ensures.joins

pub join_named-requires-clause-owner : goal.join_named-requires-clause-owner
join_named-requires-clause-owner g c = inl (c.requires.seat ∙ sym (c.requires.owned) ∙ ap (λ n. client_owner c.args.self.now.book.drivers n) (sym ((c.requires.driver.clients.each c.args.session c.in-Some.client.now (get_there c.args.self.now.clients.items c.args.session c.in-Some.client.now (subst (λ n. c.args.session < n) (sym c.requires.driver.many) c.requires.session) c.in-Some.ensures.value)).0)))

pub join_named-requires-clause-client : goal.join_named-requires-clause-client
join_named-requires-clause-client g c =
    let was = c.in-Some.client.now in
    let at : slice_get c.args.self.now.clients.items c.args.session ≡ Some was = get_there c.args.self.now.clients.items c.args.session was (subst (λ n. c.args.session < n) (sym c.requires.driver.many) c.requires.session) c.in-Some.ensures.value in
    (c.requires.driver.clients.each c.args.session was at).1 c.requires.owned

pub returns-clause-failed : goal.returns-clause-failed
returns-clause-failed g c = failed_both c.args.self.now.seat _ c.join_named.result c.args.self.now.book c.join_named.new.book c.join_named.ensures.kept
