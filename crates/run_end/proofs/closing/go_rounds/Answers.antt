use Rattle.std.proofs.Common.{◌≡◌, ◌∙◌, ℕ, true, length, refl, sym, ap, subst}
use Rattle.ending_rules.specs.Rounds.{needs_round}
use Rattle.journal_rules.specs.Documents.{makings}
use Rattle.turn_rules.proofs.Owning.{may_write_later}
use Rattle.run_rules.specs.Ending.{CatchesUp, InOrder, IsRound}
use Rattle.run_rules.proofs.OneJournal.{drains_all_on, round_on}
use Rattle.book.specs.Going.{with_journal}
use Rattle.book.specs.Shown.{Shown}
use Rattle.script_driver.proofs.Clients.{all_stay}
use Rattle.run_end.proofs.Rounding.{ends_rounds, no_rounds, one_round}
use Rattle.run_end.proofs.closing.go_rounds.Goals as goal

pub rounds-init : goal.rounds-init
rounds-init g c = record { rest = refl; free = c.requires.free; ends = c.requires.ends; clients = c.requires.clients; sessions = refl; goes = λ last rest. rest }

pub catch_up_all-requires-clause-clients : goal.catch_up_all-requires-clause-clients
catch_up_all-requires-clause-clients g c = all_stay c.rounds.clients.items c.rounds.book.journal c.drain_all.new.book.journal c.in_ok-drain_all.ensures.stay c.rounds.invariant.clients

pub catch_up_all-requires-clause-ends : goal.catch_up_all-requires-clause-ends
catch_up_all-requires-clause-ends g c =
    let old = c.rounds.book in let mid = c.drain_all.new.book in let done = c.in_ok-drain_all.ensures in
    let more = drains_all_on (length (makings old.journal)) old.journal mid.journal done.drains in
    λ n. may_write_later old.drivers mid.drivers old.journal mid.journal more.0 0 n (ap (λ (b : Shown). b.drivers) done.rest) more.1 (c.rounds.invariant.ends n)

pub rounds-preserved : goal.rounds-preserved
rounds-preserved g c =
    let j = c.rounds.book.journal in let mid = c.drain_all.new.book.journal in let k = c.catch_up_all.new.book.journal in
    let was = c.rounds.invariant in let done = c.in_ok-catch_up_all.ensures in
    let sessions = length c.args.clients.now.items in
    let round : IsRound sessions j k = (mid, c.in_ok-drain_all.ensures.drains, subst (λ (n : ℕ). InOrder CatchesUp n mid k) was.sessions done.catches) in
    let more = round_on sessions j k round in
    let rest = done.rest ∙ ap (λ b. with_journal b k) c.in_ok-drain_all.ensures.rest in
    let needed : needs_round sessions j ≡ true = ap (λ n. needs_round n j) (sym was.sessions) ∙ sym c.needs_round.ensures ∙ c.if-not-needs_round.false in
    record {
      rest = done.rest ∙ ap (λ b. with_journal b k) (c.in_ok-drain_all.ensures.rest ∙ ap (λ b. with_journal b mid) was.rest);
      free = done.free;
      ends = λ n. may_write_later c.rounds.book.drivers c.catch_up_all.new.book.drivers j k more.0 0 n (ap (λ (b : Shown). b.drivers) rest) more.1 (was.ends n);
      clients = done.clients;
      sessions = done.sessions ∙ was.sessions;
      goes = λ last tail. was.goes last (one_round sessions c.rounds.left j k last c.rounds-test.true needed round tail);
    }

pub returns-clause-rounds : goal.returns-clause-rounds
returns-clause-rounds g c = c.rounds.invariant.goes c.rounds.book.journal (no_rounds (length c.args.clients.now.items) c.rounds.left c.rounds.book.journal c.rounds-test.false)

pub returns-then-not-needs_round-clause-rounds : goal.returns-then-not-needs_round-clause-rounds
returns-then-not-needs_round-clause-rounds g c =
    let j = c.rounds.book.journal in let was = c.rounds.invariant in
    was.goes j (ends_rounds (length c.args.clients.now.items) c.rounds.left j (ap (λ n. needs_round n j) (sym was.sessions) ∙ sym c.needs_round.ensures ∙ c.if-not-needs_round.true))
