use Rattle.std.proofs.Common.{◌≡◌, arith, ap, ◌∙◌}
use Rattle.board.specs.declared.view.View.{View}
use Rattle.crew.proofs.Sights.{taken_back}
use Rattle.crew.proofs.seating.seat_crew.Goals as goal

pub returns-in-None-clause-none : goal.returns-in-None-clause-none
returns-in-None-clause-none g c =
    let places = c.seat_workers-all.new.places in
    let made = c.split.ensures.kept in
    let none : c.split.new.seat.view.joined ≡ c.args.seat.now.view.joined = ap (λ (v : View). v.joined) c.in-Ok.ensures.kept.1 in
    let before = c.seat_last.ensures.same.0 ∙ (c.seat_workers-all.ensures.same.0 ∙ (none ∙ c.requires.new.1)) in
    let many = taken_back places.items (c.in-Ok.driver.view.number, c.in-Ok.driver.view.seen) c.seat_last.new.seat.view.joined c.take_in.new.seat.view.joined c.join.new.seat.view.joined before c.take_in.ensures.joined (ap (λ (v : View). v.joined) c.join.ensures.1) in
    let last : c.join.new.seat.view.count ≡ c.take_in.new.seat.view.count = ap (λ (v : View). v.count) c.join.ensures.1 in
    let next : c.take_in.new.seat.view.count ≡ c.seat_last.new.seat.view.count = c.take_in.ensures.count in
    let here : c.seat_last.new.seat.view.count ≡ c.seat_workers-all.new.seat.view.count = c.in-None.ensures.none in
    let count = c.seat_workers-all.ensures.count in
    let size = places.ok.0 in
    omega (arith, many, last, next, here, count, size)
