use Rattle.std.proofs.Common.{◌≡◌, ◌<◌, ◌+◌, ◌*◌, [], ◌∷◌, arith, sym, ap, ◌∙◌, Some, None, false}
use Rattle.std.proofs.lemmas.List.Elements.{All-tail}
use Rattle.ot_op.specs.Operation.{is_void}
use Rattle.ot_transform.specs.Moved.{walk_lists}
use Rattle.ot_transform.specs.Room.{Fits}
use Rattle.ot_transform.specs.Crossing.{met, walked, crossed, inserts}
use Rattle.ot_transform.proofs.Turns.{crossed_stops, crossed_goes_on, crossed_ends, walked_few, walk_goes_on, fewer_left, drop_turn, Walked}
use Rattle.ot_transform.proofs.Rooms.{fits_first, fits_next, fits_tail}
use Rattle.ot_transform.proofs.cross_ops.+cross.Goals as goal

pub cross_lists-walk-requires : goal.cross_lists-walk-requires
cross_lists-walk-requires t c =
    let is = c.in_ok-first.ensures in
    let d = drop_turn c.args.right.now c.loop-comp.comp-index c.comp-item.result c.loop-comp-test.true c.comp-item.is in
    let f : Fits c.loop-comp.current (c.comp-item.result ∷ []) = fits_first _ _ c.comp-item.result (rw d at c.loop-comp.invariant.fits) in
    let m : 3 * inserts c.comps.result.now + 1 < t = omega (arith, c.loop-comp.invariant.few, ap inserts c.comps.ensures.value) in
    let g : Fits c.comps.result.now (c.in_ok-first.first ∷ []) = rw (c.comps.ensures.value, is) f in
    (m, (c.comps.ensures.solid, g))

pub cross_lists-returns-in_default : goal.cross_lists-returns-in_default
cross_lists-returns-in_default t c =
    let is = c.in_ok-first.ensures in
    let w : walked crossed [] c.comp-item.result c.loop-comp.current ≡ None = rw (← is, ← c.comps.ensures.value) (sym c.in_ok-next.ensures ∙ ap walk_lists c.in_default.is) in
    sym (crossed_stops _ _ _ _ _ _ c.loop-comp.invariant.same c.loop-comp-test.true c.comp-item.is w)

pub cross_lists-loop-comp-preserved : goal.cross_lists-loop-comp-preserved
cross_lists-loop-comp-preserved t c =
    let is = c.in_ok-first.ensures in
    let w : walked crossed [] c.comp-item.result c.loop-comp.current ≡ Some (c.in-Some.next, c.in-Some.hand.items) = rw (← is, ← c.comps.ensures.value) (sym c.in_ok-next.ensures ∙ ap walk_lists c.in-Some.is) in
    let few = walked_few c.comp-item.result c.loop-comp.current c.in-Some.next c.in-Some.hand.items w in
    let turn = drop_turn c.args.right.now c.loop-comp.comp-index c.comp-item.result c.loop-comp-test.true c.comp-item.is in
    record {
      few = omega (arith, few, c.loop-comp.invariant.few);
      fits = fits_next _ _ _ c.in-Some.hand.items c.comp-item.result (rw turn at c.loop-comp.invariant.fits) w;
      same = rw c.in_ok-append_all.ensures (crossed_goes_on _ _ _ _ _ _ _ _ c.loop-comp.invariant.same c.loop-comp-test.true c.comp-item.is w);
    }

pub cross_lists-returns : goal.cross_lists-returns
cross_lists-returns t c = sym (crossed_ends _ _ _ _ _ c.loop-comp.invariant.same c.loop-comp-test.false)

pub walk-turns-preserved : goal.walk-turns-preserved
walk-turns-preserved t c =
    let cut = c.in-Some.ensures.cases in
    let given = rw c.in-Some-2.is at c.in_ok-moved.ensures in
    let m : met c.turns.next c.turns.hand c.in-Some.other.now ≡ Some (c.meet.new.next, c.in-One.comp ∷ []) = rw c.in-One.is at given in
    let far : Walked c.args.first c.args.left.now c.turns.next c.turns.hand (c.in-Some.other.now ∷ c.in-Some.tail.now) = rw cut.0 at c.turns.invariant.far in
    let fits : Fits (c.in-Some.other.now ∷ c.in-Some.tail.now) (c.turns.hand ∷ []) = rw cut.0 at c.turns.invariant.fits in
    record {
      far = walk_goes_on c.args.first c.args.left.now c.turns.next c.in-Some.tail.now c.meet.new.next c.turns.hand c.in-Some.other.now c.in-One.comp far m;
      solid = All-tail (λ x. is_void x ≡ false) c.in-Some.other.now c.in-Some.tail.now (rw cut.0 at c.turns.invariant.solid);
      fits = fits_tail _ _ _ _ c.turns.hand c.in-Some.other.now fits m;
    }

pub walk-cross_rest-requires : goal.walk-cross_rest-requires
walk-cross_rest-requires t c =
    let cut = c.in-Some.ensures.cases in
    let given = rw c.in-Some-2.is at c.in_ok-moved.ensures in
    let m : met c.turns.next c.turns.hand c.in-Some.other.now ≡ Some (c.meet.new.next, c.in-Two.one ∷ c.in-Two.two ∷ []) = rw c.in-Two.is at given in
    let far : Walked c.args.first c.args.left.now c.turns.next c.turns.hand (c.in-Some.other.now ∷ c.in-Some.tail.now) = rw cut.0 at c.turns.invariant.far in
    let fits : Fits (c.in-Some.other.now ∷ c.in-Some.tail.now) (c.turns.hand ∷ []) = rw cut.0 at c.turns.invariant.fits in
    let fewer : inserts c.in-Some.tail.now < inserts (c.in-Some.other.now ∷ c.in-Some.tail.now) = fewer_left c.turns.next (c.in-Two.one ∷ c.in-Two.two ∷ []) c.meet.new.next c.in-Some.tail.now c.turns.hand c.in-Some.other.now m (omega arith) in
    let falls : 3 * inserts c.in-Some.tail.now + 3 < t = omega (arith, fewer, far.0) in
    (falls, (All-tail (λ x. is_void x ≡ false) c.in-Some.other.now c.in-Some.tail.now (rw cut.0 at c.turns.invariant.solid), fits_tail _ _ _ _ c.turns.hand c.in-Some.other.now fits m))
