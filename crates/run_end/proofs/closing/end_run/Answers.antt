use Rattle.std.proofs.Common.{◌≡◌, ◌∙◌, ◌∷◌, ◌++◌, List, [], length, refl, sym, ap, subst}
use Rattle.std.specs.Prelude.{None}
use Rattle.std.proofs.lemmas.Result.{on_ok_weaker}
use Rattle.journal_entries.specs.declared.act.Act.TheVariants.{Closed}
use Rattle.journal_entries.specs.declared.act.Entry.{Entry}
use Rattle.journal_rules.specs.Documents.{is_in}
use Rattle.turn_rules.specs.Owning.{driver_owner}
use Rattle.turn_rules.specs.Turns.{entry_by}
use Rattle.turn_rules.proofs.Owning.{one_thread_writes}
use Rattle.run_rules.specs.Ending.{Ends}
use Rattle.book.specs.Shown.{Shown}
use Rattle.book.proofs.Going.{goes_further}
use Rattle.script_driver.specs.Clients.{AreClientsOf}
use Rattle.script_driver.proofs.Clients.{all_stay, one_stays}
use Rattle.script_driver.proofs.Resting.{goes_one}
use Rattle.run_end.proofs.closing.end_run.Goals as goal

pub close_driver-requires-clause-once : goal.close_driver-requires-clause-once
close_driver-requires-clause-once g c = ap (is_in 0) c.requires.closed

pub close_driver-requires-clause-owner : goal.close_driver-requires-clause-owner
close_driver-requires-clause-owner g c = sym (ap (λ n. driver_owner n 0) c.requires.drivers)

pub end_closed-requires-clause-ends : goal.end_closed-requires-clause-ends
end_closed-requires-clause-ends g c =
    let now = c.close_driver.new.self in
    λ n. one_thread_writes now.drivers now.journal 0 n (ap (λ (b : Shown). b.drivers) c.close_driver.ensures ∙ c.requires.drivers) refl

pub end_closed-requires-clause-clients : goal.end_closed-requires-clause-clients
end_closed-requires-clause-clients g c =
    let items = c.args.clients.now.items in let was = c.args.book.now.journal in let last = was ++ entry_by 0 None (Closed 0) ∷ [] in
    let is : c.close_driver.new.self.journal ≡ last = ap (λ (b : Shown). b.journal) c.close_driver.ensures in
    subst (AreClientsOf items) (sym is) (all_stay items was last (one_stays was (entry_by 0 None (Closed 0)) refl) c.requires.clients)

pub returns-clause-ends : goal.returns-clause-ends
returns-clause-ends g c =
    let is : c.close_driver.new.self.journal ≡ c.args.book.now.journal ++ entry_by 0 None (Closed 0) ∷ [] = ap (λ (b : Shown). b.journal) c.close_driver.ensures in
    on_ok_weaker c.end_closed.result (λ ends. subst (λ (j : List Entry). Ends (length c.args.clients.now.items) j c.end_closed.new.book.journal) is ends) c.end_closed.ensures.ends

pub returns-clause-goes_on : goal.returns-clause-goes_on
returns-clause-goes_on g c =
    let old = c.args.book.now in
    on_ok_weaker c.end_closed.result (λ more. goes_further old c.close_driver.new.self c.end_closed.new.book (goes_one old c.close_driver.new.self 0 None (Closed 0) c.close_driver.ensures) more) c.end_closed.ensures.goes_on
