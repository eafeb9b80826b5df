use Rattle.std.proofs.Common.{ℕ, ◌<◌, ◌∷◌, [], refl, sym, ap, ◌∙◌, subst, arith}
use Rattle.std.specs.Prelude.{None}
use Rattle.journal_entries.specs.declared.act.Act.TheVariants.{Closed}
use Rattle.turn_rules.specs.Owning.{driver_count, driver_owner}
use Rattle.book.specs.Shown.{Shown}
use Rattle.seat_turns.proofs.Turning.{longer_at, longer_by_acts}
use Rattle.drivers.proofs.Follows.{each_closed}
use Rattle.drivers.proofs.Keeps.{open_at}
use Rattle.drivers.proofs.stepping.close.Goals as goal

pub close_driver-requires-clause-one : goal.close_driver-requires-clause-one
close_driver-requires-clause-one g c =
    let l = c.look-book.ensures in
    subst (λ (d : ℕ). 0 < driver_count d) (sym (l.turn.3 ∙ l.same.1 ∙ c.requires.first.1)) (omega arith)

pub close_driver-requires-clause-once : goal.close_driver-requires-clause-once
close_driver-requires-clause-once g c = open_at c.args.seat.now.view.seen c.look-book.result.journal c.requires.unclosed c.look-book.ensures.looks

pub close_driver-requires-clause-owner : goal.close_driver-requires-clause-owner
close_driver-requires-clause-owner g c =
    let l = c.look-book.ensures in
    sym (ap (λ (d : ℕ). driver_owner d 0) (l.turn.3 ∙ l.same.1 ∙ c.requires.first.1))

pub give-requires-clause-turn : goal.give-requires-clause-turn
give-requires-clause-turn g c =
    let t = c.look-book.ensures.turn in
    (t.0, t.1, refl, ap (λ (b : Shown). b.drivers) c.close_driver.ensures ∙ t.3, ap (λ (b : Shown). b.start) c.close_driver.ensures ∙ t.4)

pub give-requires-clause-own : goal.give-requires-clause-own
give-requires-clause-own g c =
    let l = c.look-book.ensures in
    longer_at _ _ _ _ _ (sym (l.same.0 ∙ c.requires.first.0)) (sym l.turn.2)
    (longer_by_acts 1 None (Closed 0 ∷ []) c.look-book.result.journal c.close_driver.new.self.journal (ap (λ (b : Shown). b.journal) c.close_driver.ensures))

pub returns-clause-closes : goal.returns-clause-closes
returns-clause-closes g c = (c.look-book.result.journal, c.look-book.ensures.looks, c.give.ensures.seen ∙ ap (λ (b : Shown). b.journal) c.close_driver.ensures)

pub returns-clause-closed : goal.returns-clause-closed
returns-clause-closed g c = each_closed c.look-book.result.journal c.give.new.seat.view.seen (c.give.ensures.seen ∙ ap (λ (b : Shown). b.journal) c.close_driver.ensures)
