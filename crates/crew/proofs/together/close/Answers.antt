use Rattle.std.proofs.Common.{◌≡◌, ℕ, List, All, arith, ap, subst}
use Rattle.journal_entries.specs.declared.act.Entry.{Entry}
use Rattle.board.specs.declared.view.View.{View}
use Rattle.board.specs.Views.{SawAll}
use Rattle.crew.proofs.Sights.{joined_all}
use Rattle.crew.proofs.together.close.Goals as goal

pub close-book-requires-clause-all : goal.close-book-requires-clause-all
close-book-requires-clause-all g c =
    let driver : ℕ × List Entry = (c.args.driver.view.number, c.args.driver.view.seen) in
    let flusher : ℕ × List Entry = (c.args.flusher.view.number, c.args.flusher.view.seen) in
    let joined = joined_all c.args.places.items driver flusher c.args.seat.view.joined c.join.new.seat.view.joined c.take_in-worked.new.seat.view.joined c.join-2.new.seat.view.joined
    c.requires.new.0 (ap (λ (v : View). v.joined) c.join.ensures.1) c.take_in-worked.ensures.joined (ap (λ (v : View). v.joined) c.join-2.ensures.1) in
    let first : c.join.new.seat.view.count ≡ c.args.seat.view.count = ap (λ (v : View). v.count) c.join.ensures.1 in
    let next : c.take_in-worked.new.seat.view.count ≡ c.join.new.seat.view.count = c.take_in-worked.ensures.count in
    let last : c.join-2.new.seat.view.count ≡ c.take_in-worked.new.seat.view.count = ap (λ (v : View). v.count) c.join-2.ensures.1 in
    let many = joined.1 in
    let count = c.requires.new.1 in
    let size = c.args.places.ok.0 in
    omega (arith, many, first, next, last, count, size)

pub returns-clause-saw : goal.returns-clause-saw
returns-clause-saw g c =
    let driver : ℕ × List Entry = (c.args.driver.view.number, c.args.driver.view.seen) in
    let flusher : ℕ × List Entry = (c.args.flusher.view.number, c.args.flusher.view.seen) in
    let joined = joined_all c.args.places.items driver flusher c.args.seat.view.joined c.join.new.seat.view.joined c.take_in-worked.new.seat.view.joined c.join-2.new.seat.view.joined
    c.requires.new.0 (ap (λ (v : View). v.joined) c.join.ensures.1) c.take_in-worked.ensures.joined (ap (λ (v : View). v.joined) c.join-2.ensures.1) in
    subst (λ (xs : List (ℕ × List Entry)). All (SawAll c.close-book.result.journal) xs) joined.0 c.close-book.ensures.joined_is
