use Rattle.std.proofs.Common.{arith, sym, ap, ◌∙◌, subst, ◌≡◌, ◌≢◌, ℕ, ◌+◌, All, List}
use Rattle.journal_entries.specs.declared.act.Entry.{Entry}
use Rattle.board.specs.declared.view.View.{View}
use Rattle.seat_turns.specs.Seats.{HoldsNoLock}
use Rattle.crew.specs.Places.{IsReady, start_of}
use Rattle.crew.specs.declared.place.Place.TheVariants.{Waiting}
use Rattle.crew.proofs.Free.{none_held}
use Rattle.crew.proofs.Lasting.{pushed}
use Rattle.crew.proofs.seating.seat_workers.Goals as goal

pub loop-preserved : goal.loop-preserved
loop-preserved g c =
    let was = c.loop.invariant in
    let made = c.in-Ok-split.ensures in
    let old = made.kept.1 in
    let view = made.new.1 in
    let other = c.in-Ok-split.other in
    let place = Waiting other c.in-Ok.other_pass in
    let seen = ap (λ (v : View). v.seen) view ∙ was.same.1 in
    let number : other.view.number ≡ c.loop.places.len + 2 = ap (λ (v : View). v.number) view ∙ was.count in
    let some : c.loop.places.len + 2 ≢ 0 = λ z. omega (arith, z) in
    let free : HoldsNoLock (c.loop.places.len + 2) other.view.seen =
    none_held (c.loop.places.len + 2) other.view.seen (subst (λ (j : List Entry). All (λ (e : Entry). e.seat ≡ 0) j) (sym seen) c.requires.made) some in
    let h = c.push_reserved.ensures in
    let now = c.push_reserved.new.self in
    record {
      first = ((made.kept.0 ∙ was.first.0.0, ap (λ (v : View). v.holds) old ∙ was.first.0.1, ap (λ (v : View). v.number) old ∙ was.first.0.2), (ap (λ (v : View). v.made) old ∙ was.first.1.0, ap (λ (v : View). v.drivers) old ∙ was.first.1.1, ap (λ (v : View). v.start) old ∙ was.first.1.2));
      pass = ap (λ p. p.queue) c.in-Ok.ensures.same ∙ was.pass;
      same = (ap (λ (v : View). v.joined) old ∙ was.same.0, ap (λ (v : View). v.seen) old ∙ was.same.1);
      count = (let n = ap (λ (v : View). v.count) old in let m = h.len in let k = was.count in omega (arith, n, m, k));
      many = h.len ∙ ap (λ (n : ℕ). n + 1) was.many;
      room = h.capacity ∙ was.room;
      ready = pushed (λ w x. IsReady c.args.board.now c.args.wakes.now (w + 2) x) c.loop.places.items now.items place c.loop.places.len now.len c.loop.places.ok.0 now.ok.0 h.items was.ready
          ((made.new.0 ∙ was.first.0.0, ap (λ (v : View). v.holds) view), number, ap (λ (v : View). v.drivers) view ∙ (was.first.1.1 ∙ c.requires.new.1), free, ap (λ p. p.queue) c.in-Ok.ensures.new);
      starts = pushed (λ w x. start_of x ≡ c.args.seat.now.view.seen) c.loop.places.items now.items place c.loop.places.len now.len c.loop.places.ok.0 now.ok.0 h.items was.starts seen;
    }
