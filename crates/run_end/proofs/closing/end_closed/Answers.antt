use Rattle.std.proofs.Common.{◌≡◌, ◌∙◌, ◌∷◌, ◌++◌, List, [], length, refl, sym, ap, subst}
use Rattle.std.specs.Prelude.{None}
use Rattle.std.proofs.lemmas.Result.{on_ok_weaker}
use Rattle.expiring_lock.specs.declared.lock.TheConstants.{LOCK_LIFE}
use Rattle.journal_entries.specs.declared.act.Act.TheVariants.{Ticked}
use Rattle.journal_entries.specs.declared.act.Entry.{Entry}
use Rattle.journal_rules.specs.Legal.{IsLegal}
use Rattle.turn_rules.specs.Locking.{busy}
use Rattle.turn_rules.proofs.Owning.{may_write_later}
use Rattle.run_rules.specs.Ending.{Rounds, at_end}
use Rattle.run_rules.proofs.Free.{expired}
use Rattle.run_rules.proofs.OneJournal.{rounds_on}
use Rattle.book.specs.Shown.{Shown}
use Rattle.book.proofs.Going.{goes_further, goes_rest}
use Rattle.script_driver.specs.Clients.{AreClientsOf}
use Rattle.script_driver.proofs.Clients.{all_stay, one_stays}
use Rattle.script_driver.proofs.Resting.{goes_one}
use Rattle.run_end.proofs.closing.end_closed.Goals as goal

pub go_rounds-requires-clause-ends : goal.go_rounds-requires-clause-ends
go_rounds-requires-clause-ends g c =
    let old = c.args.book.now in let now = c.tick.new.book in
    λ n. may_write_later old.drivers now.drivers old.journal now.journal (at_end (Ticked LOCK_LIFE) ∷ []) 0 n
    (ap (λ (b : Shown). b.drivers) c.in_ok-tick.ensures.ok) (ap (λ (b : Shown). b.journal) c.in_ok-tick.ensures.ok) (c.requires.ends n)

pub go_rounds-requires-clause-free : goal.go_rounds-requires-clause-free
go_rounds-requires-clause-free g c =
    let was = c.args.book.now.journal in
    let is : c.tick.new.book.journal ≡ was ++ at_end (Ticked LOCK_LIFE) ∷ [] = ap (λ (b : Shown). b.journal) c.in_ok-tick.ensures.ok in
    λ d. ap (busy d) is ∙ expired was (subst IsLegal is c.legal.ensures) d

pub go_rounds-requires-clause-clients : goal.go_rounds-requires-clause-clients
go_rounds-requires-clause-clients g c =
    let items = c.args.clients.now.items in let was = c.args.book.now.journal in
    let is : c.tick.new.book.journal ≡ was ++ at_end (Ticked LOCK_LIFE) ∷ [] = ap (λ (b : Shown). b.journal) c.in_ok-tick.ensures.ok in
    subst (AreClientsOf items) (sym is) (all_stay items was (was ++ at_end (Ticked LOCK_LIFE) ∷ []) (one_stays was (at_end (Ticked LOCK_LIFE)) refl) c.requires.clients)

pub returns : goal.returns
returns g c =
    let old = c.args.book.now in
    let mid = c.go_rounds.new.book in let last = c.flush_needed.new.book in
    let is : c.tick.new.book.journal ≡ old.journal ++ at_end (Ticked LOCK_LIFE) ∷ [] = ap (λ (b : Shown). b.journal) c.in_ok-tick.ensures.ok in
    let done = c.in_ok-go_rounds.ensures in
    let rounds = subst (λ (j : List Entry). Rounds (length c.args.clients.now.items) 3 j mid.journal) is done.rounds in
    let on = rounds_on (length c.args.clients.now.items) 3 c.tick.new.book.journal mid.journal done.rounds in
    let began = goes_one old c.tick.new.book 0 None (Ticked LOCK_LIFE) c.in_ok-tick.ensures.ok in
    let went = goes_further old c.tick.new.book mid began (goes_rest c.tick.new.book mid on.0 done.rest on.1) in
    record {
      ends = on_ok_weaker c.flush_needed.result (λ flushes. (mid.journal, rounds, flushes)) c.flush_needed.ensures.flushes;
      clients = on_ok_weaker c.flush_needed.result (λ stay. all_stay c.go_rounds.new.clients.items mid.journal last.journal stay done.clients) c.flush_needed.ensures.stay;
      sessions = on_ok_weaker c.flush_needed.result (λ stay. done.sessions) c.flush_needed.ensures.stay;
      goes_on = on_ok_weaker c.flush_needed.result (λ more. goes_further old mid last went more) c.flush_needed.ensures.goes_on;
    }
