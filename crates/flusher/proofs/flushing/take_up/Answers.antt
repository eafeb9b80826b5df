use Rattle.std.proofs.Common.{sym, ◌∙◌}
use Rattle.seat_turns.proofs.Growing.{made_on}
use Rattle.seat_turns.proofs.Turning.{longer_at}
use Rattle.flusher.proofs.Taking.{acquires_at, longer_by_acquiring}
use Rattle.flusher.proofs.flushing.take_up.Goals as goal

pub acquire_if_needed-taken-requires : goal.acquire_if_needed-taken-requires
acquire_if_needed-taken-requires g c =
    let among = c.take-book.ensures.among in
    made_on c.args.doc c.args.seat.now.view.seen c.take-book.result.journal (among.0, among.1) c.requires.made

pub give-requires-clause-own : goal.give-requires-clause-own
give-requires-clause-own g c =
    longer_at _ _ _ _ _ (c.number.ensures ∙ sym c.take-book.ensures.same.0) (sym c.take-book.ensures.turn.2)
    (longer_by_acquiring c.number.result c.args.doc _ _ c.acquire_if_needed-taken.result c.acquire_if_needed-taken.ensures.takes)

pub returns-clause-takes : goal.returns-clause-takes
returns-clause-takes g c =
    acquires_at _ _ c.args.doc c.number.ensures _ _ _ c.acquire_if_needed-taken.result c.acquire_if_needed-taken.ensures.takes _ c.take-book.ensures.among c.give.ensures.seen
