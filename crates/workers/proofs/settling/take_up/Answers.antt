use Rattle.std.proofs.Common.{sym, ◌∙◌}
use Rattle.workers.proofs.Taking.{longer_by_taking, taken_at, takes_at}
use Rattle.seat_turns.proofs.Turning.{longer_at}
use Rattle.workers.proofs.settling.take_up.Goals as goal

pub give-requires-clause-own : goal.give-requires-clause-own
give-requires-clause-own g c =
    let a = c.acquire-taken.ensures in
    longer_at _ _ _ _ _ (c.number.ensures ∙ sym c.take-book.ensures.same.0) (sym c.take-book.ensures.turn.2)
    (longer_by_taking c.number.result c.args.doc _ _ c.acquire-taken.result (record { acquired_is = a.acquired; looks = a.looks; free = a.free; cached_is = a.cached; refused = a.refused; kept = a.kept }))

pub returns-clause-takes : goal.returns-clause-takes
returns-clause-takes g c =
    let a = c.acquire-taken.ensures in
    takes_at c.number.result c.args.seat.now.view.number c.args.doc _ _ _ _ c.number.ensures c.take-book.ensures.among c.give.ensures.seen c.acquire-taken.result
    (record { acquired_is = a.acquired; looks = a.looks; free = a.free; cached_is = a.cached; refused = a.refused; kept = a.kept })

pub returns-clause-taken : goal.returns-clause-taken
returns-clause-taken g c =
    let a = c.acquire-taken.ensures in
    taken_at c.number.result c.args.seat.now.view.number c.args.doc _ _ _ _ c.number.ensures c.take-book.ensures.among c.give.ensures.seen c.acquire-taken.result
    (record { acquired_is = a.acquired; looks = a.looks; free = a.free; cached_is = a.cached; refused = a.refused; kept = a.kept }) c.legal.ensures
