use Rattle.std.proofs.Common.{ℕ, [], refl, sym, ap, ◌∙◌}
use Rattle.std.proofs.lemmas.Result.{on_ok_weaker}
use Rattle.journal_rules.specs.Documents.{is_in, makings}
use Rattle.journal_rules.specs.Legal.{closed}
use Rattle.turn_rules.specs.Owning.{client_owner}
use Rattle.turn_rules.specs.Turns.{is_by}
use Rattle.script_driver.specs.Holding.{kept_in}
use Rattle.seat_turns.proofs.Turning.{longer_at}
use Rattle.drivers.proofs.Does.{does_own, does_widely, fit_anywhere}
use Rattle.drivers.proofs.Keeps.{driver_at, kept_behind, left_own, open_at, open_here, open_kept}
use Rattle.drivers.proofs.Others.{owner_one}
use Rattle.drivers.proofs.stepping.do_turn.Goals as goal

pub do_line-done-requires-clause-driver : goal.do_line-done-requires-clause-driver
do_line-done-requires-clause-driver g c =
    let l = c.look-book.ensures in
    driver_at _ c.args.kept c.args.seat.now.view.seen c.look-book.result.journal refl (l.turn.3 ∙ l.same.1 ∙ c.requires.first.1) refl refl refl refl c.requires.kept l.looks

pub do_line-done-requires-clause-fit : goal.do_line-done-requires-clause-fit
do_line-done-requires-clause-fit g c = fit_anywhere [] (makings c.look-book.result.journal) c.args.line c.requires.session.0 c.requires.session.1 c.requires.fit

pub do_line-done-requires-clause-owned : goal.do_line-done-requires-clause-owned
do_line-done-requires-clause-owned g c =
    let l = c.look-book.ensures in
    λ s is. ap (λ (d : ℕ). client_owner d s) (l.turn.3 ∙ l.same.1 ∙ c.requires.first.1) ∙ owner_one s

pub give-requires-clause-turn : goal.give-requires-clause-turn
give-requires-clause-turn g c =
    let t = c.look-book.ensures.turn in
    let d = c.do_line-done in
    let old = c.look-book.result in let new = d.new.self.book in
    let own = left_own _ d.result old new (on_ok_weaker d.result (does_own 1 c.args.number c.args.line (kept_in c.args.kept.holds.items) old.journal new.journal (kept_in d.new.self.holds.items)) d.ensures.does)
    (on_ok_weaker d.result (λ behind. behind.closed_is) d.ensures.behind) d.ensures.goes_on d.ensures.failed in
    (t.0, t.1, refl, own.drivers_are ∙ t.3, own.start_is ∙ t.4)

pub give-requires-clause-own : goal.give-requires-clause-own
give-requires-clause-own g c =
    let l = c.look-book.ensures in
    let d = c.do_line-done in
    let old = c.look-book.result in let new = d.new.self.book in
    let own = left_own _ d.result old new (on_ok_weaker d.result (does_own 1 c.args.number c.args.line (kept_in c.args.kept.holds.items) old.journal new.journal (kept_in d.new.self.holds.items)) d.ensures.does)
    (on_ok_weaker d.result (λ behind. behind.closed_is) d.ensures.behind) d.ensures.goes_on d.ensures.failed in
    longer_at _ _ _ _ _ (sym (l.same.0 ∙ c.requires.first.0)) (sym l.turn.2) (own.own, own.journal_is, own.all)

pub returns-in-Ok-clause-unclosed : goal.returns-in-Ok-clause-unclosed
returns-in-Ok-clause-unclosed g c =
    let looked = open_at c.args.seat.now.view.seen c.look-book.result.journal (open_kept c.args.kept c.args.seat.now.view.seen c.requires.kept) c.look-book.ensures.looks in
    open_here c.give.new.seat.view.seen (ap (λ j. is_in 0 (closed j)) c.give.ensures.seen ∙ ap (is_in 0) c.in-Ok.ensures.behind.closed_is ∙ looked)

pub returns-in-Err-clause-unclosed : goal.returns-in-Err-clause-unclosed
returns-in-Err-clause-unclosed g c =
    let looked = open_at c.args.seat.now.view.seen c.look-book.result.journal (open_kept c.args.kept c.args.seat.now.view.seen c.requires.kept) c.look-book.ensures.looks in
    open_here c.give.new.seat.view.seen (ap (λ j. is_in 0 (closed j)) c.give.ensures.seen ∙ ap (is_in 0) c.in-Err.ensures.failed.closed_is ∙ looked)

pub returns-in-Ok-clause-kept : goal.returns-in-Ok-clause-kept
returns-in-Ok-clause-kept g c =
    let l = c.look-book.ensures in
    let done = c.in-Ok.ensures in
    let looked = open_at c.args.seat.now.view.seen c.look-book.result.journal (open_kept c.args.kept c.args.seat.now.view.seen c.requires.kept) l.looks in
    kept_behind c.do_line-done.new.self _ c.give.new.seat.view.seen done.seat (done.goes_on.drivers_are ∙ l.turn.3 ∙ l.same.1 ∙ c.requires.first.1) c.give.ensures.seen refl refl refl
    (ap (is_in 0) done.behind.closed_is ∙ looked) done.driver

pub returns-in-Ok-clause-does : goal.returns-in-Ok-clause-does
returns-in-Ok-clause-does g c =
    let done = c.in-Ok.ensures in
    let k = kept_in c.args.kept.holds.items in let after = kept_in c.do_line-done.new.self.holds.items in
    rw c.give.ensures.seen
    (does_widely (is_by 1) 1 c.args.number k c.args.seat.now.view.seen c.look-book.result.journal c.do_line-done.new.self.book.journal after c.look-book.ensures.looks.among c.args.line done.does)
